-- What a pipeline of a text begins with: its lines to pop, and an empty queue to push to.
use Rattle.std.specs.Prelude.{ℕ, List, [], ◌∷◌, map, codes}
use Rattle.swan_model.specs.declared.outcome.Names.{Names}
use Rattle.swan_model.specs.declared.outcome.Shown.TheVariants.{Left, Out}
use Rattle.swan_model.specs.declared.rights.Mode.TheVariants.{Push, Pop}
use Rattle.swan_model.specs.declared.value.Value.{Value}
use Rattle.swan_model.specs.declared.value.Value.TheVariants.{Bytes}
use Rattle.swan_model.specs.Lines.{lines}
use Rattle.swan_model.specs.Roots.{RootLists}

abbrev pub line_roots : List Value → RootLists
line_roots lines = record {
  queues = (record { mode = Pop; items = lines }) ∷ (record { mode = Push; items = [] }) ∷ [];
  objects = [];
}

abbrev pub text_roots : List ℕ → RootLists
text_roots text = line_roots (map Bytes (lines text))

-- how many lines are left is reported, and the other queue is the output
abbrev pub text_names : Names
text_names = record {
  queues = (record { name = codes "input"; shown = Left }) ∷ (record { name = codes "output"; shown = Out }) ∷ [];
  objects = [];
}
