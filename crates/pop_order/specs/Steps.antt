-- How the frames differ after a child was given a queue, and after it was given back.
use Rattle.std.specs.Prelude.{◌≡◌, ℕ, Bool, true, None, Some, List, ◌==◌, ◌⊎◌}
use Rattle.std.specs.List.{list_any}
use Rattle.swan_model.specs.Rights.{allows}
use Rattle.swan_model.specs.SerialState.{Holding}
use Rattle.swan_model.specs.declared.rights.Mode.{Mode}
use Rattle.swan_model.specs.declared.rights.Mode.TheVariants.{Push}
use Rattle.pop_order.specs.Frames.{TurnFrame, Frames, frame_at, lets_use}
use Rattle.pop_order.specs.OneChange.{IsOnlyChange}
use Rattle.pop_order.specs.Order.{IsChild}
use Rattle.pop_order.specs.Turns.{IsHolder}
use Rattle.pop_order.specs.NumberPairs.{NumberPair, IsWithPair}

-- A child without children was given one more queue, and all other frames are as they were.
pub record IsGrown (before after : Frames) (parent child : ℕ) (holding : Holding) : Type 0 where
  pub frame : TurnFrame
  pub one : IsOnlyChange (frame_at before) (frame_at after) child (Some frame)
  pub of : frame.parent ≡ parent
  pub was_of : (other : ℕ) → IsChild before other child → other ≡ parent
  pub held : (queue : ℕ) (mode : Mode) → lets_use frame.holdings queue mode ≡ true
      → IsHolder before queue mode child ⊎ ((holding.number ≡ queue) × (allows holding.mode mode ≡ true))
  pub still : (queue : ℕ) (mode : Mode) → IsHolder before queue mode child → lets_use frame.holdings queue mode ≡ true
  pub new : (mode : Mode) → allows holding.mode mode ≡ true → lets_use frame.holdings holding.number mode ≡ true
  pub childless : (number : ℕ) → ¬ IsChild before child number

-- A child without children is gone, and all other frames are as they were.
pub record IsShrunk (before after : Frames) (parent child : ℕ) : Type 0 where
  pub one : IsOnlyChange (frame_at before) (frame_at after) child None
  pub was : IsChild before parent child
  pub childless : (number : ℕ) → ¬ IsChild before child number

-- whether a queue is among the holdings
abbrev pub is_given : List Holding → ℕ → Bool
is_given holdings queue = list_any (λ h. h.number == queue) holdings

-- a frame holds no queue that isn't among these holdings
abbrev pub HoldsNoOther : Frames → ℕ → List Holding → Type 0
HoldsNoOther frames number holdings = (queue : ℕ) (mode : Mode) → IsHolder frames queue mode number → is_given holdings queue ≡ true

-- The givers after a child was given a queue: its parent comes in where the child may push and the parent may not.
pub data IsGiverNoted (frames : Frames) (parent : ℕ) (holding : Holding) (before after : List NumberPair) : Type 0 where
  needless : (allows holding.mode Push ≡ true → IsHolder frames holding.number Push parent) → after ≡ before
      → IsGiverNoted frames parent holding before after
  noted : allows holding.mode Push ≡ true → ¬ IsHolder frames holding.number Push parent → IsWithPair before holding.number parent after
      → IsGiverNoted frames parent holding before after
