-- What stands at the front of a queue for a frame that pops it.
use Rattle.std.specs.Prelude.{◌≡◌, ◌==◌, ℕ, ◌≤◌, Option, Some, None, List, [], ◌∷◌, ◌⊎◌, if◌then◌else◌}
use Rattle.slab.specs.Slab.{Slab}
use Rattle.pop_order.specs.Frames.{Frames}
use Rattle.pop_order.specs.Turns.{IsPoppingChild}
use Rattle.queues.specs.Chunks.{Chunks, without_spent}
use Rattle.queue_book.specs.Chains.{Link, AreChained, in_line, IsFront}
use Rattle.queues.specs.declared.answers.Tested.{Tested}
use Rattle.queues.specs.declared.answers.Tested.TheVariants as tested
use Rattle.queues.specs.declared.answers.WaitFor.TheVariants.{Child, Version, PopTurn, Pusher}
use Rattle.queue_book.specs.Live.{is_pusher}
use Rattle.queue_book.specs.declared.chains.Front.TheVariants as front
use Rattle.queue_book.specs.declared.fronts.Met.{Met}
use Rattle.queue_book.specs.declared.fronts.Met.TheVariants as met
use Rattle.queue_book.specs.declared.live_frames.LiveFrames.{LiveFrames}

-- the oldest child that pops the queue, or none does
abbrev pub IsTurnTold : Frames → (frame queue : ℕ) → Tested → Type 0
IsTurnTold turns frame queue (tested.NotYet (PopTurn number)) =
    IsPoppingChild turns frame queue number × ((other : ℕ) → IsPoppingChild turns frame queue other → number ≤ other)
IsTurnTold turns frame queue (tested.NotYet (Pusher number)) = (other : ℕ) → ¬ IsPoppingChild turns frame queue other
IsTurnTold turns frame queue tested.Holds = (other : ℕ) → ¬ IsPoppingChild turns frame queue other
IsTurnTold turns frame queue tested.Empty = (other : ℕ) → ¬ IsPoppingChild turns frame queue other
IsTurnTold turns frame queue (tested.NotYet (Child number)) = ⊥
IsTurnTold turns frame queue (tested.NotYet (Version number)) = ⊥

-- Whom a walk along the chunks of a queue meets first, up to the frame's own chunk: an owner that may push to the queue.
abbrev pub open_or : LiveFrames → (frame queue : ℕ) → Option ℕ → Option ℕ → Option ℕ
open_or frames frame queue None rest = rest
open_or frames frame queue (Some owner) rest = if owner == frame then None else (if is_pusher frames owner queue then Some owner else rest)

abbrev pub first_open : LiveFrames → (frame queue : ℕ) → Chunks → Option ℕ
first_open frames frame queue [] = None
first_open frames frame queue (chunk ∷ chunks) = open_or frames frame queue chunk.owner (first_open frames frame queue chunks)

-- what one of the chunks says of it
abbrev pub met_or : Met → Option ℕ → Option ℕ
met_or met.Own rest = None
met_or (met.Pusher owner) rest = Some owner
met_or met.Nobody rest = rest

-- no item stands at the front
abbrev pub IsBare : Chunks → Type 0
IsBare chunks = ((owner : ℕ) × IsFront chunks (front.Open owner)) ⊎ IsFront chunks front.Over

-- What is in the chains after the look, and what it found: an item at the front; or none, and the first owner before the
-- frame's own chunk that may push, or none of that kind.
abbrev pub IsFrontTold : LiveFrames → (ℕ → ℕ → Option ℕ) → List (Option ℕ) → Slab Link → (ℕ → Chunks) → (frame queue : ℕ) → Tested → Type 0
IsFrontTold frames at heads nodes lines frame queue (tested.NotYet (PopTurn number)) = AreChained at heads nodes lines
IsFrontTold frames at heads nodes lines frame queue (tested.NotYet (Pusher number)) =
    AreChained at heads nodes (in_line queue without_spent lines) × IsBare (without_spent (lines queue)) × (first_open frames frame queue (without_spent (lines queue)) ≡ Some number)
IsFrontTold frames at heads nodes lines frame queue tested.Holds =
    AreChained at heads nodes (in_line queue without_spent lines) × IsFront (without_spent (lines queue)) front.Item
IsFrontTold frames at heads nodes lines frame queue tested.Empty =
    AreChained at heads nodes (in_line queue without_spent lines) × IsBare (without_spent (lines queue)) × (first_open frames frame queue (without_spent (lines queue)) ≡ None)
IsFrontTold frames at heads nodes lines frame queue (tested.NotYet (Child number)) = ⊥
IsFrontTold frames at heads nodes lines frame queue (tested.NotYet (Version number)) = ⊥
