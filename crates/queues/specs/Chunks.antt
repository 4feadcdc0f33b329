-- A queue in plain form: its chunks in order. The items stand in them in serial order. Each active frame that has the
-- queue owns one, which is where it pushes: all that stands before is earlier than its point, and all that stands after
-- is later.
use Rattle.std.specs.Prelude.{◌≡◌, ℕ, ◌-◌, ◌<◌, ◌≤◌, ◌==◌, Bool, true, false, Option, Some, None, List, [], ◌∷◌, ◌++◌, length, take, drop, if◌then◌else◌, slice_get}
use Rattle.std.specs.Option.{option_map_or, option_and_then}
use Rattle.swan_model.specs.declared.origin.Origin.{Origin}
use Rattle.swan_model.specs.declared.rights.Mode.TheVariants.{Pop}
use Rattle.swan_model.specs.declared.script.Script.{Script}
use Rattle.swan_model.specs.declared.value.Value.{Value}
use Rattle.swan_model.specs.PathOrder.{comes_before}
use Rattle.swan_model.specs.QueueFollows.{count_at, taken_at}
use Rattle.swan_model.specs.QueueState.{ActiveFrame, QueueState, active, holds_queue}
use Rattle.swan_model.specs.Readings.{end_time}
use Rattle.swan_model.specs.Told.{count, pushes, taken}
use Rattle.queues.specs.Tree.{IsTree, has_queue}

pub record Chunk : Type 0 where
  -- the active frame that pushes to it now
  pub owner : Option ℕ
  pub items : List Value

abbrev pub Chunks : Type 0
Chunks = List Chunk

-- a chunk that this frame pushes to
abbrev pub own : ℕ → List Value → Chunk
own frame items = record { owner = Some frame; items = items }

abbrev pub is_owned : ℕ → Chunk → Bool
is_owned frame chunk = option_map_or (λ owner. owner == frame) chunk.owner false

-- A spawn: the child goes on in its parent's chunk, and the parent gets a new one behind it.
abbrev pub after_hand_on : (parent child : ℕ) → Chunks → Chunks
after_hand_on parent child [] = []
after_hand_on parent child (chunk ∷ chunks) =
    if is_owned parent chunk then own child chunk.items ∷ own parent [] ∷ chunks
    else chunk ∷ after_hand_on parent child chunks

-- a push by a frame, to its own chunk
abbrev pub with_item : ℕ → Value → Chunks → Chunks
with_item frame item [] = []
with_item frame item (chunk ∷ chunks) =
    if is_owned frame chunk then record chunk { items = chunk.items ++ item ∷ [] } ∷ chunks
    else chunk ∷ with_item frame item chunks

-- the end of a frame: nobody pushes to its chunk any more
abbrev pub after_close : ℕ → Chunks → Chunks
after_close frame [] = []
after_close frame (chunk ∷ chunks) =
    if is_owned frame chunk then record chunk { owner = None } ∷ chunks
    else chunk ∷ after_close frame chunks

-- whether nobody pushes to a chunk any more, and it has no items
abbrev pub is_spent : Chunk → Bool
is_spent chunk = spent chunk.owner chunk.items where
  spent : Option ℕ → List Value → Bool
  spent None [] = true
  spent owner items = false

-- without the spent chunks at the front
abbrev pub without_spent : Chunks → Chunks
without_spent [] = []
without_spent (chunk ∷ chunks) = if is_spent chunk then without_spent chunks else chunk ∷ chunks

-- without the first item of the first chunk
abbrev pub without_first : Chunks → Chunks
without_first [] = []
without_first (chunk ∷ chunks) = record chunk { items = drop 1 chunk.items } ∷ chunks

-- all items in order
abbrev pub items_in : Chunks → List Value
items_in [] = []
items_in (chunk ∷ chunks) = chunk.items ++ items_in chunks

-- ---- whose chunks they are

-- this chunk is owned by the active frame
pub record IsOwner (state : QueueState) (chunks : Chunks) (index number : ℕ) : Type 0 where
  pub chunk : Chunk
  pub stands : slice_get chunks index ≡ Some chunk
  pub owns : chunk.owner ≡ Some number

-- The chunks are owned by exactly the active frames that have the queue, in serial order.
pub record HasOwners (state : QueueState) (queue : ℕ) (chunks : Chunks) : Type 0 where
  pub owners : (index number : ℕ) → IsOwner state chunks index number → (frame : ActiveFrame) × (active state number ≡ Some frame) × (has_queue frame queue ≡ true)
  pub all : (number : ℕ) (frame : ActiveFrame) → active state number ≡ Some frame → has_queue frame queue ≡ true → (index : ℕ) × IsOwner state chunks index number
  pub order : (index later number other : ℕ) (a b : ActiveFrame) → index < later → IsOwner state chunks index number → IsOwner state chunks later other
      → active state number ≡ Some a → active state other ≡ Some b → comes_before a.path b.path ≡ true

-- ---- what stands in them, by the script

abbrev pub owner_of : QueueState → Chunk → Option ActiveFrame
owner_of state chunk = option_and_then (active state) chunk.owner

-- A chunk's items end at its owner's point. After it come the items that are pushed once the owner has ended.
abbrev pub ends_at : Script → Origin → Option ActiveFrame → ℕ → Type 0
ends_at s queue None upto = Unit {0}
ends_at s queue (Some frame) upto = upto ≡ count_at s frame queue

abbrev pub goes_on_at : Script → Origin → Option ActiveFrame → ℕ → ℕ
goes_on_at s queue None upto = upto
goes_on_at s queue (Some frame) upto = count s queue (end_time s frame.path)

-- The chunks have, from this index on, the items that the script pushes: each the ones up to its owner's point. The last
-- ends where the maker of the queue has ended.
pub data HasItems (s : Script) (state : QueueState) (queue : Origin) (end : ℕ) : Chunks → ℕ → Type 0 where
  over : (at : ℕ) → at ≡ count s queue end → HasItems s state queue end [] at
  chunk : (first : Chunk) (chunks : Chunks) (at upto : ℕ) → at ≤ upto → upto ≤ length (pushes s queue)
      → first.items ≡ take (upto - at) (drop at (pushes s queue)) → ends_at s queue (owner_of state first) upto
      → HasItems s state queue end chunks (goes_on_at s queue (owner_of state first) upto) → HasItems s state queue end (first ∷ chunks) at

-- So many items had left the queue before the point of each frame that may pop it, in the order of the chunks, and
-- when it has ended.
abbrev pub pops_at : Script → ℕ → Origin → Option ActiveFrame → ℕ → Type 0
pops_at s number queue None at = Unit {0}
pops_at s number queue (Some frame) at = holds_queue frame number Pop ≡ true → at ≡ taken_at s frame queue

abbrev pub goes_on_popping : Script → ℕ → Origin → Option ActiveFrame → ℕ → ℕ
goes_on_popping s number queue None at = at
goes_on_popping s number queue (Some frame) at = if holds_queue frame number Pop then taken s queue (end_time s frame.path) else at

pub data HasTaken (s : Script) (state : QueueState) (number : ℕ) (queue : Origin) (end : ℕ) : Chunks → ℕ → Type 0 where
  over : (at : ℕ) → at ≡ taken s queue end → HasTaken s state number queue end [] at
  chunk : (first : Chunk) (chunks : Chunks) (at : ℕ) → pops_at s number queue (owner_of state first) at
      → HasTaken s state number queue end chunks (goes_on_popping s number queue (owner_of state first) at) → HasTaken s state number queue end (first ∷ chunks) at

-- The chunks of a queue match the script, where `end` is the time after the last entry of the queue's maker.
pub record Matches (s : Script) (state : QueueState) (number : ℕ) (queue : Origin) (end : ℕ) (chunks : Chunks) : Type 0 where
  -- how many items have left the queue
  pub left : ℕ
  pub items : HasItems s state queue end chunks left
  pub taken : HasTaken s state number queue end chunks left

-- ---- what the laws of chunks say

-- The frame owns the chunk at this index and may pop the queue, and no owner of a chunk before it may.
pub record IsFirstPopper (state : QueueState) (queue : ℕ) (chunks : Chunks) (index number : ℕ) (frame : ActiveFrame) : Type 0 where
  pub owns : IsOwner state chunks index number
  pub pops : holds_queue frame queue Pop ≡ true
  pub first : (before other : ℕ) (earlier : ActiveFrame) → before < index → IsOwner state chunks before other → active state other ≡ Some earlier
      → holds_queue earlier queue Pop ≡ false

-- what holds of the chunks of a queue, whose owners are exactly those that have it
abbrev pub OnOwners : (QueueState → ℕ → Chunks → Type 0) → Type 0
OnOwners Holds = (state : QueueState) (queue : ℕ) (chunks : Chunks) → IsTree state → HasOwners state queue chunks → Holds state queue chunks

-- what holds of them where so many items have left the queue
abbrev pub OnTaken : (Script → QueueState → (number : ℕ) → (queue : Origin) → (end : ℕ) → Chunks → (at : ℕ) → Type 0) → Type 0
OnTaken Holds =
    (s : Script) (state : QueueState) (number : ℕ) (queue : Origin) (end : ℕ) (chunks : Chunks) (at : ℕ)
    → HasTaken s state number queue end chunks at → Holds s state number queue end chunks at

-- and of an active frame
abbrev pub OnTakenBy : (Script → QueueState → (number : ℕ) → (queue : Origin) → (end : ℕ) → Chunks → (at n : ℕ) → ActiveFrame → Type 0) → Type 0
OnTakenBy Holds =
    OnTaken (λ s state number queue end chunks at. (n : ℕ) (frame : ActiveFrame) → active state n ≡ Some frame
    → Holds s state number queue end chunks at n frame)
