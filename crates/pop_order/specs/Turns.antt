-- Who may pop, and whether an earlier frame can still push.
use Rattle.std.specs.Prelude.{◌≡◌, ◌≢◌, ℕ, ◌<◌, ◌≤◌, true, Some}
use Rattle.swan_model.specs.declared.rights.Mode.{Mode}
use Rattle.swan_model.specs.declared.rights.Mode.TheVariants.{Push, Pop}
use Rattle.pop_order.specs.Frames.{TurnFrame, Frames, frame_at, lets_use}
use Rattle.pop_order.specs.Order.{IsChild, ComesBefore}
use Rattle.pop_order.specs.declared.certain.Certain.{Certain}
use Rattle.pop_order.specs.declared.certain.Certain.TheVariants.{Yes, EarlierPusher, PoppingChild}

-- an active frame that may use a queue by a mode
pub record IsHolder (frames : Frames) (queue : ℕ) (mode : Mode) (number : ℕ) : Type 0 where
  pub frame : TurnFrame
  pub active : frame_at frames number ≡ Some frame
  pub held : lets_use frame.holdings queue mode ≡ true

-- an older sibling of a child, active too, that pops a queue which the child pops
pub record Blocks (frames : Frames) (child number : ℕ) : Type 0 where
  pub parent : ℕ
  pub younger : IsChild frames parent child
  pub older : IsChild frames parent number
  pub before : number < child
  pub queue : ℕ
  pub both : IsHolder frames queue Pop child
  pub pops : IsHolder frames queue Pop number

-- an active child of a frame that pops a queue
abbrev pub IsPoppingChild : Frames → ℕ → ℕ → ℕ → Type 0
IsPoppingChild frames frame queue number = IsChild frames frame number × IsHolder frames queue Pop number

-- an active frame that may push to a queue, and comes before a frame's next step in serial order
abbrev pub IsEarlierPusher : Frames → ℕ → ℕ → ℕ → Type 0
IsEarlierPusher frames frame queue number = IsHolder frames queue Push number × ComesBefore frames number frame

-- Which answer is right for a frame and a queue: its oldest popping child; or where there is none, the
-- earlier pusher that is the first in serial order; or where there is none of those either, yes.
abbrev pub IsAnswer : Frames → ℕ → ℕ → Certain → Type 0
IsAnswer frames frame queue (PoppingChild number) =
    IsPoppingChild frames frame queue number
    × ((other : ℕ) → IsPoppingChild frames frame queue other → number ≤ other)
IsAnswer frames frame queue (EarlierPusher number) =
    ((other : ℕ) → ¬ IsPoppingChild frames frame queue other)
    × IsEarlierPusher frames frame queue number
    × ((other : ℕ) → other ≢ number → IsEarlierPusher frames frame queue other → ComesBefore frames number other)
IsAnswer frames frame queue Yes =
    ((other : ℕ) → ¬ IsPoppingChild frames frame queue other)
    × ((other : ℕ) → ¬ IsEarlierPusher frames frame queue other)
