-- What the frames of a state keep of each other, whether or not there is a script.
use Rattle.std.specs.Prelude.{◌≡◌, ◌≢◌, ℕ, ◌<◌, ◌≤◌, ◌==◌, Bool, true, Option, Some, None, List, [], ◌∷◌, ◌++◌, length, slice_get, ◌⊎◌}
use Rattle.std.specs.List.{list_any}
use Rattle.swan_model.specs.declared.rights.Mode.{Mode}
use Rattle.swan_model.specs.Rights.{is_queue_mode}
use Rattle.swan_model.specs.declared.origin.Origin.{Origin}
use Rattle.swan_model.specs.declared.script.Script.{Script}
use Rattle.swan_model.specs.Lawful.{IsLawful}
use Rattle.swan_model.specs.QueueFollows.{IsChildOf, NextSpawnGivesQueues, QueuesFollow, queue_origin}
use Rattle.swan_model.specs.QueueState.{ActiveFrame, QueueMaker, planned, made_by, QueueState, active, holds_queue, HasTurn, IsOfRoot, MayGive, QueueRight, child_of}
use Rattle.pop_order.specs.OneChange.{IsOnlyChange}

-- the path of the frame that made a queue
abbrev pub maker_path : QueueMaker → List ℕ
maker_path (planned index) = []
maker_path (made_by path deeds) = path

-- whether a frame has a queue, by any mode
abbrev pub has_queue : ActiveFrame → ℕ → Bool
has_queue frame queue = list_any (λ right. right.queue == queue) frame.rights

-- a frame has a queue since it made it, or since its parent gave it, who may use it so too
pub data IsHeld (state : QueueState) (frame : ActiveFrame) (queue : ℕ) : Type 0 where
  made : (maker : QueueMaker) → slice_get state.makers queue ≡ Some maker → frame.path ≡ maker_path maker → IsHeld state frame queue
  given : (parent : ℕ) (above : ActiveFrame) → frame.parent ≡ Some parent → active state parent ≡ Some above
      → has_queue above queue ≡ true → ((mode : Mode) → holds_queue frame queue mode ≡ true → holds_queue above queue mode ≡ true)
      → ((maker : QueueMaker) → slice_get state.makers queue ≡ Some maker → frame.path ≢ maker_path maker) → IsHeld state frame queue

pub record IsTree (state : QueueState) : Type 0 where
  -- each frame of the list is the one of its number
  pub known : (index : ℕ) (frame : ActiveFrame) → slice_get state.frames index ≡ Some frame → active state frame.number ≡ Some frame
  pub latest : (number : ℕ) (frame : ActiveFrame) → active state number ≡ Some frame → number ≤ state.latest
  pub root : (frame : ActiveFrame) → active state 0 ≡ Some frame → (frame.path ≡ []) × (frame.parent ≡ None)
  pub others : (number : ℕ) (frame : ActiveFrame) → active state number ≡ Some frame → number ≢ 0 → (parent : ℕ) × (frame.parent ≡ Some parent)
  pub spawned : (number parent : ℕ) (frame : ActiveFrame) → active state number ≡ Some frame → frame.parent ≡ Some parent → IsChildOf state frame parent
  -- a parent has a lesser number than its children
  pub older : (number parent : ℕ) (frame : ActiveFrame) → active state number ≡ Some frame → frame.parent ≡ Some parent → parent < frame.number
  -- siblings have rising numbers
  pub siblings : (number other i j : ℕ) (a b : ActiveFrame) (path : List ℕ) → active state number ≡ Some a → active state other ≡ Some b
      → a.path ≡ path ++ i ∷ [] → b.path ≡ path ++ j ∷ [] → number < other → i < j
  pub different : (number other : ℕ) (a b : ActiveFrame) → active state number ≡ Some a → active state other ≡ Some b → a.path ≡ b.path → number ≡ other
  -- rights come from the maker, from parent to child
  pub held : (number queue : ℕ) (frame : ActiveFrame) → active state number ≡ Some frame → has_queue frame queue ≡ true → (queue < length state.makers) × IsHeld state frame queue
  pub modes : (number queue : ℕ) (frame : ActiveFrame) (mode : Mode) → active state number ≡ Some frame → holds_queue frame queue mode ≡ true → is_queue_mode mode ≡ true

-- Each active frame that has spawned has its turn to pop. It is so where each spawn is done by a frame that has its turn.
pub record SpawnersHaveTurns (state : QueueState) : Type 0 where
  pub turns : (number : ℕ) (frame : ActiveFrame) → active state number ≡ Some frame → 0 < frame.children → HasTurn state frame

-- what holds of a state whose frames are a tree
abbrev pub OnTree : (QueueState → Type 0) → Type 0
OnTree Holds = (state : QueueState) → IsTree state → Holds state

-- and where those that have spawned have their turns
abbrev pub OnTurnedTree : (QueueState → Type 0) → Type 0
OnTurnedTree Holds = OnTree (λ state. SpawnersHaveTurns state → Holds state)

-- Each active frame that has its turn before a call has it after the call too, where it is active then.
abbrev pub TurnsGoOn : (before after : QueueState) → Type 0
TurnsGoOn before after = (number : ℕ) (frame now : ActiveFrame) → active before number ≡ Some frame → active after number ≡ Some now → HasTurn before frame → HasTurn after now

-- what holds of an active frame of a state, by its number
abbrev pub OnFrames : (QueueState → ℕ → ActiveFrame → Type 0) → Type 0
OnFrames Holds = (state : QueueState) (number : ℕ) (frame : ActiveFrame) → active state number ≡ Some frame → Holds state number frame

-- the active frame of this number is that one then, or none, and all others are as before
abbrev pub IsOnlyFrame : (before after : QueueState) → (number : ℕ) → Option ActiveFrame → Type 0
IsOnlyFrame before after number now = IsOnlyChange (active before) (active after) number now

-- what holds of an active frame, and the child that it spawns by a number of which none is active
abbrev pub OnSpawnOf : (QueueState → ℕ → ActiveFrame → (child : ℕ) → List QueueRight → Type 0) → Type 0
OnSpawnOf Holds = OnFrames (λ state number frame. (child : ℕ) (gives : List QueueRight) → active state child ≡ None → Holds state number frame child gives)

-- an active frame has the queue, or the root made it, so that its rest is left
abbrev pub IsInUse : QueueState → ℕ → QueueMaker → Type 0
IsInUse state queue maker = IsOfRoot (Some maker) ⊎ ((number : ℕ) × (frame : ActiveFrame) × (active state number ≡ Some frame) × (has_queue frame queue ≡ true))

-- What holds of a frame, the child that it spawns as the script's next deed, and a queue by its number and its origin.
abbrev pub OnQueueSpawn : Script → QueueState → (ActiveFrame → ActiveFrame → ℕ → Origin → Type 0) → Type 0
OnQueueSpawn s state Holds =
    IsLawful s → QueuesFollow s state → IsTree state
    → (n child : ℕ) (frame : ActiveFrame) (gives : List QueueRight) → active state n ≡ Some frame → active state child ≡ None → MayGive frame gives → NextSpawnGivesQueues s state frame gives
    → (number : ℕ) (queue : Origin) → queue_origin s state number ≡ Some queue → Holds frame (child_of frame child gives) number queue
