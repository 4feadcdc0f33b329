use Rattle.std.proofs.Common.{◌≡◌, ◌++◌, length, map}
use Rattle.swan_model.specs.declared.value.Value.TheVariants as value
use Rattle.swan_model.specs.Lines.{lines, refusal_from, refusal_of}
use Rattle.swan_model.proofs.lines.lines_of.Given as goal

-- the lines so far and those of the rest are all, and the rest is refused as the whole is
pub record Keeps (text rest : _) (values : _) : Type 0 where
  pub all : map value.Bytes (lines text) ≡ values ++ map value.Bytes (lines rest)
  pub refused : refusal_of text ≡ refusal_from (length values) (lines rest)

abbrev pub invariant-loop-values : goal.invariant-loop-values
invariant-loop-values l = Keeps l.text l.rest l.values

abbrev pub decreases-loop-values : goal.decreases-loop-values
decreases-loop-values l = length l.rest
