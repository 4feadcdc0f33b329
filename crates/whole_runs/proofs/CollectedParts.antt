-- The queues of a plan whose block tasks push parts that a collector reads: the input, the output, and the parts, for which the root
-- makes a queue.
use Rattle.std.proofs.Common.{List, [], ◌∷◌}
use Rattle.swan_model.specs.declared.rights.Mode.TheVariants.{Push, Pop, PushPop}
use Rattle.swan_model.specs.declared.value.Value.{Value}
use Rattle.swan_model.specs.SerialState.{Holding}
use Rattle.whole_runs.specs.Whole.{Contents}

-- while the input is read there is no output
abbrev pub input_and_parts : List Value → List Value → Contents
input_and_parts xs parts = record { objects = []; queues = xs ∷ [] ∷ parts ∷ [] }

-- while the parts are read no input is left
abbrev pub parts_and_output : List Value → List Value → Contents
parts_and_output parts out = record { objects = []; queues = [] ∷ out ∷ parts ∷ [] }

-- what the root holds
abbrev pub held_by_root : List Holding
held_by_root = (record { mode = Pop; number = 0 }) ∷ (record { mode = Push; number = 1 }) ∷ (record { mode = PushPop; number = 2 }) ∷ []
