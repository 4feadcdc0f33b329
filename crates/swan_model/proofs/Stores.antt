-- Stores that have grown: no step takes an object or a queue from one.
use Rattle.std.proofs.Common.{ℕ, ◌≤◌, List, length, arith, length-set}
use Rattle.swan_model.specs.declared.value.Value.{Value}
use Rattle.swan_model.specs.SerialState.{Cell, Queue, Store}
use Rattle.swan_model.specs.SerialStep.{with_items, with_value}

-- a store has all objects and queues of an earlier one
pub record HasGrown (before after : Store) : Type 0 where
  pub cells : length before.cells ≤ length after.cells
  pub queues : length before.queues ≤ length after.queues

pub grown-same : (store : Store) → HasGrown store store
grown-same store = record { cells = omega arith; queues = omega arith }

-- with another value of an object, or other items of a queue
pub grown-value : (store : Store) (number : ℕ) (cell : Cell) (value : Value) → HasGrown store (with_value store number cell value)
grown-value store number cell value =
    record { cells = omega (arith, length-set store.cells number (record cell { value = value })); queues = omega arith }

pub grown-items : (store : Store) (number : ℕ) (queue : Queue) (items : List Value) → HasGrown store (with_items store number queue items)
grown-items store number queue items =
    record { cells = omega arith; queues = omega (arith, length-set store.queues number (record queue { items = items })) }
