-- What contracts see of hyperqueues in plain form.
use Rattle.std.specs.Prelude.{Option}
use Rattle.swan_model.specs.declared.script.Script.{Script}
use Rattle.swan_model.specs.QueueState.{QueueState}

-- the script of the run's name, and the state
pub record BookView : Type 0 where
  pub name : Option Script
  pub state : QueueState
