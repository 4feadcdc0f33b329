-- The serial state: a stack of activations, a cell for each object, the items of each queue, and the
-- faults so far. An activation is a task of the serial elision.
use Rattle.std.specs.Prelude.{ℕ, List}
use Rattle.swan_model.specs.declared.body.Answer.{Answer}
use Rattle.swan_model.specs.declared.fault.Fault.{Fault}
use Rattle.swan_model.specs.declared.origin.Origin.{Origin}
use Rattle.swan_model.specs.declared.rights.Mode.{Mode}
use Rattle.swan_model.specs.declared.value.Kind.{Kind}
use Rattle.swan_model.specs.declared.value.Value.{Value}

-- What an activation holds at one of its places: the cell or the queue of this number, by this mode.
-- The modes of objects name cells, and the modes of queues name queues.
pub record Holding : Type 0 where
  pub mode : Mode
  pub number : ℕ

pub record Activation (L : Type 0) : Type 0 where
  pub path : List ℕ
  pub local : L
  -- what its next step is told
  pub answer : Answer
  pub fuel : ℕ
  -- by place
  pub holdings : List Holding
  -- how many children it has spawned
  pub children : ℕ
  -- how many of them ended by a fault since its last Sync, or since its start
  pub failed : ℕ

-- An object. Its zero is that of the kind of its first value, whatever is written later.
pub record Cell : Type 0 where
  pub origin : Origin
  pub kind : Kind
  pub value : Value

-- a queue, its first item first
pub record Queue : Type 0 where
  pub origin : Origin
  pub items : List Value

-- The objects and the queues of a run, in the order of their making. They stay when their maker ends.
pub record Store : Type 0 where
  pub cells : List Cell
  pub queues : List Queue

pub record State (L : Type 0) : Type 0 where
  -- how many steps were taken
  pub steps : ℕ
  -- the top activation first, then its parent, and so on down to the root
  pub stack : List (Activation L)
  pub store : Store
  -- in the order in which they came
  pub faults : List Fault
