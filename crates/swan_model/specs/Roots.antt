-- What a plan begins with: its root queues and its root objects.
use Rattle.std.specs.Prelude.{◌+◌, ◌≤◌, List, length, All, IsTrue}
use Rattle.swan_model.specs.Rights.{is_queue_mode}
use Rattle.swan_model.specs.declared.plan.TheConstants.{ROOTS_MOST, FIRST_ITEMS_MOST}
use Rattle.swan_model.specs.declared.plan.RootQueue.{RootQueue}
use Rattle.swan_model.specs.declared.value.Value.{Value}

-- the queues, and the first values of the objects, in the order of the root's places
pub record RootLists : Type 0 where
  pub queues : List RootQueue
  pub objects : List Value

-- a root queue is held by a mode of queues and begins with no more items than a queue may
pub record IsRootQueue (queue : RootQueue) : Type 0 where
  pub mode : IsTrue (is_queue_mode queue.mode)
  pub items : length queue.items ≤ FIRST_ITEMS_MOST

-- there are no more queues and objects than a plan may have, and each queue is a root queue
pub record IsWithinBounds (queues : List RootQueue) (objects : List Value) : Type 0 where
  pub roots : length queues + length objects ≤ ROOTS_MOST
  pub each : All IsRootQueue queues
