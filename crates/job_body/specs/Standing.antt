-- Where an activation of a job stands, the values of its variables, and what its last sync told it.
use Rattle.std.specs.Prelude.{ℕ, List}
use Rattle.swan_model.specs.declared.value.Value.{Value}

pub record Standing : Type 0 where
  -- the index of the line of its last step, which counts from 0; before its first step, of its `task` line
  pub before : ℕ
  -- the index of the line of its next step
  pub at : ℕ
  -- the values of its variables, by the order in which its task names them
  pub values : List Value
  -- how many children failed that its last `sync` waited for; 0 before the first one
  pub caught : ℕ
