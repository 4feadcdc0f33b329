use Rattle.std.proofs.Common.{◌≡◌, ℕ, List, Option, length}
use Rattle.swan_top.specs.Headline.{WereRead}
use Rattle.swan_top.proofs.inputs.read_inputs.Given as goal

-- The inputs so far were read of the first names; contents and counts stayed.
pub record Keeps (before content : List ℕ → Option (List ℕ)) (names inputs : List (List ℕ)) (index faults_before faults long_before long : ℕ) : Type 0 where
  pub count : length inputs ≡ index
  pub read : WereRead before names inputs
  pub contents : (other : List ℕ) → content other ≡ before other
  pub no_fault : faults ≡ faults_before
  pub no_long_read : long ≡ long_before

abbrev pub invariant-loop-name : goal.invariant-loop-name
invariant-loop-name g l = let F = g.F.Files in
    Keeps (F.content l.fn.files) (F.content l.files) l.names l.inputs.items l.name-index
    (F.faults l.fn.files) (F.faults l.files) (F.long_reads l.fn.files) (F.long_reads l.files)
