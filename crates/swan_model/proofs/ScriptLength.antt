-- A script has no more entries than the elision may take steps.
use Rattle.std.proofs.Common.{ℕ, zero, suc, ◌+◌, ◌≤◌, List, [], ◌∷◌, length, Option, Some, None, arith, length-append}
use Rattle.swan_model.specs.declared.body.Body.{Ghosts}
use Rattle.swan_model.specs.declared.plan.Plan.{Plan}
use Rattle.swan_model.specs.declared.script.Entry.{Entry}
use Rattle.swan_model.specs.Elision.{serial, most_steps}
use Rattle.swan_model.specs.Script.{next_entry, with_entry, entries, script}

le-with_entry : (es : List Entry) (more : Option Entry) → length (with_entry es more) ≤ length es + 1
le-with_entry es None = omega arith
le-with_entry es (Some entry) = omega (arith, length-append es (entry ∷ []))

module _ {B L : Type 0} (G : Ghosts B L) where
  pub le-entries : (plan : Plan B L) (n : ℕ) → length (entries G plan n) ≤ n
  le-entries plan zero = omega arith
  le-entries plan (suc n) =
      omega (arith, le-entries plan n, le-with_entry (entries G plan n) (next_entry G plan.body (serial G plan n)))

  pub le_script : (plan : Plan B L) → length (script G plan).entries ≤ most_steps plan
  le_script plan = le-entries plan (most_steps plan)
