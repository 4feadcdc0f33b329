-- What the turns of poppers say of a state.
use Rattle.std.specs.Prelude.{◌≡◌, ◌≢◌, ℕ, ◌<◌, ◌≤◌, true, Some, None, [], ◌∷◌, slice_get, ◌==◌, Bool, false, Option, List, map}
use Rattle.std.specs.List.{list_any}
use Rattle.swan_model.specs.declared.rights.Mode.{Mode}
use Rattle.swan_model.specs.QueueState.{ActiveFrame, QueueMaker, QueueState, active, holds_queue, QueueRight, IsEarlierPusher, IsPoppingChild}
use Rattle.swan_model.specs.SerialState.{Holding}
use Rattle.pop_order.specs.Frames.{TurnFrame, Frames, frame_at, lets_use}
use Rattle.pop_order.specs.OneChange.{IsOnlyChange}
use Rattle.pop_order.specs.declared.certain.Certain.{Certain}
use Rattle.pop_order.specs.declared.certain.Certain.TheVariants.{Yes, EarlierPusher, PoppingChild}
use Rattle.queues.specs.Tells.{IsFirstPusher}
use Rattle.queues.specs.Tree.{IsTree, maker_path}

-- no number stands twice
abbrev pub AreApart : Frames → Type 0
AreApart [] = Unit {0}
AreApart (entry ∷ entries) = (frame_at entries entry.0 ≡ None) × AreApart entries

-- The frames whose turns are kept are active, with this parent, and may use what they were given; and an active frame that
-- didn't make a queue which it has was given it.
pub record AreTurns (state : QueueState) (turns : Frames) : Type 0 where
  pub apart : AreApart turns
  pub known : (number : ℕ) (turn : TurnFrame) → frame_at turns number ≡ Some turn
      → (frame : ActiveFrame) × (active state number ≡ Some frame) × (frame.parent ≡ Some turn.parent)
      × ((queue : ℕ) (mode : Mode) → lets_use turn.holdings queue mode ≡ true → holds_queue frame queue mode ≡ true)
  pub all : (number parent queue : ℕ) (mode : Mode) (frame : ActiveFrame) → active state number ≡ Some frame → frame.parent ≡ Some parent
      → holds_queue frame queue mode ≡ true → ((maker : QueueMaker) → slice_get state.makers queue ≡ Some maker → frame.path ≢ maker_path maker)
      → (turn : TurnFrame) × (frame_at turns number ≡ Some turn) × (turn.parent ≡ parent) × (lets_use turn.holdings queue mode ≡ true)

-- whether a queue is among what a child is given
abbrev pub gives_queue : List QueueRight → ℕ → Bool
gives_queue gives queue = list_any (λ right. right.queue == queue) gives

abbrev pub holding_of : QueueRight → Holding
holding_of right = record { mode = right.mode; number = right.queue }

-- the turn of a child that was given these
abbrev pub turn_of : ℕ → List QueueRight → Option TurnFrame
turn_of parent [] = None
turn_of parent (give ∷ gives) = Some (record { parent = parent; holdings = map holding_of (give ∷ gives); lent = false })

-- The turns once a child was given these queues, where all other turns are as before.
pub record AreGivenTurns (before now : Frames) (parent child : ℕ) (gives : List QueueRight) : Type 0 where
  pub one : IsOnlyChange (frame_at before) (frame_at now) child (turn_of parent gives)
  pub apart : AreApart before → AreApart now

-- What an answer of the turns says of the frames: the frame's oldest popping child; or where there is none, its first earlier
-- pusher; or that there is none of these either.
abbrev pub IsToldBy : QueueState → ActiveFrame → ℕ → Certain → Type 0
IsToldBy state frame queue (PoppingChild n) =
    IsPoppingChild state frame.number queue n × ((other : ℕ) → IsPoppingChild state frame.number queue other → n ≤ other)
IsToldBy state frame queue (EarlierPusher n) =
    ((other : ℕ) → ¬ IsPoppingChild state frame.number queue other) × IsFirstPusher state frame queue n
IsToldBy state frame queue Yes =
    ((other : ℕ) → ¬ IsPoppingChild state frame.number queue other) × ((other : ℕ) → ¬ IsEarlierPusher state frame queue other)

-- ---- what the laws of turns say

-- what holds of turns that are those of a state
abbrev pub OnTurns : (QueueState → Frames → Type 0) → Type 0
OnTurns Holds = (state : QueueState) (turns : Frames) → AreTurns state turns → Holds state turns

-- and where its frames are a tree
abbrev pub OnTreeTurns : (QueueState → Frames → Type 0) → Type 0
OnTreeTurns Holds = (state : QueueState) (turns : Frames) → IsTree state → AreTurns state turns → Holds state turns

-- each frame that has a turn is older than this number
abbrev pub AreOlder : Frames → ℕ → Type 0
AreOlder turns child = (number : ℕ) (turn : TurnFrame) → frame_at turns number ≡ Some turn → number < child
