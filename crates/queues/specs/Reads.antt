-- Hyperqueues that follow a script, and their active frames as a full reading has them.
use Rattle.std.specs.Prelude.{◌≡◌, ℕ, ◌+◌, ◌<◌, true, List, Some, None, filter, length, slice_get, take}
use Rattle.swan_model.specs.declared.script.Deed.{Deed}
use Rattle.swan_model.specs.declared.script.Script.{Script}
use Rattle.swan_model.specs.Lawful.{IsLawful}
use Rattle.swan_model.specs.QueueFollows.{Fits, FitsFrame, QueuesFollow}
use Rattle.swan_model.specs.QueueState.{ActiveFrame, QueueState, active}
use Rattle.swan_model.specs.Readings.{next_deed}
use Rattle.swan_model.specs.SerialTime.{Progress, Reading, frame_of, is_queue_deed, time, times}
use Rattle.swan_model.specs.Told.{deed_at}

-- ---- which ones

-- what holds where hyperqueues follow a lawful script
abbrev pub OnFollowed : (Script → QueueState → Type 0) → Type 0
OnFollowed Holds = (s : Script) (state : QueueState) → IsLawful s → QueuesFollow s state → Holds s state

-- and of each active frame
abbrev pub OnFollowedBy : (Script → QueueState → (number : ℕ) → ActiveFrame → Type 0) → Type 0
OnFollowedBy Holds = OnFollowed (λ s state. (number : ℕ) (frame : ActiveFrame) → active state number ≡ Some frame → Holds s state number frame)

-- what holds where a reading fits them
abbrev pub OnFitting : (Script → QueueState → Reading → Type 0) → Type 0
OnFitting Holds = (s : Script) (state : QueueState) (r : Reading) → IsLawful s → QueuesFollow s state → Fits s state r → Holds s state r

-- and of each active frame and its progress there
abbrev pub OnRead : (Script → QueueState → Reading → ActiveFrame → Progress → Type 0) → Type 0
OnRead Holds =
    OnFitting (λ s state r. (number : ℕ) (frame : ActiveFrame) (progress : Progress) → active state number ≡ Some frame → frame_of r number ≡ Some progress
    → Holds s state r frame progress)

-- and of each two
abbrev pub OnTwoRead : (Script → QueueState → Reading → ActiveFrame → Progress → ActiveFrame → Progress → Type 0) → Type 0
OnTwoRead Holds =
    OnRead (λ s state r frame progress.
    (number : ℕ) (other : ActiveFrame) (also : Progress) → active state number ≡ Some other → frame_of r number ≡ Some also → Holds s state r frame progress other also)

-- what holds where a frame of the reading, of this number, has this deed as its next entry
abbrev pub OnEntry : (Script → QueueState → Reading → ℕ → Progress → Deed → Type 0) → Type 0
OnEntry Holds =
    OnFitting (λ s state r. (number : ℕ) (progress : Progress) (does : Deed) → frame_of r number ≡ Some progress → next_deed s progress ≡ Some does
    → Holds s state r number progress does)

-- and is active, as this
abbrev pub OnActiveEntry : (Script → QueueState → Reading → ℕ → Progress → Deed → ActiveFrame → Type 0) → Type 0
OnActiveEntry Holds = OnEntry (λ s state r number progress does. (frame : ActiveFrame) → active state number ≡ Some frame → Holds s state r number progress does frame)

-- ---- entries and readings

-- how many queue deeds are among a task's first steps
abbrev pub deeds_among : Script → List ℕ → ℕ → ℕ
deeds_among s path k = length (filter (λ t. is_queue_deed (deed_at s t)) (take k (times s path)))

-- what holds of a task and its step after so many others, where that step is a queue deed
abbrev pub OnQueueStep : (Script → List ℕ → ℕ → Deed → Type 0) → Type 0
OnQueueStep Holds =
    (s : Script) (path : List ℕ) (k : ℕ) (does : Deed) → k < length (times s path) → deed_at s (time s path k) ≡ does → is_queue_deed does ≡ true
    → Holds s path k does

-- a frame has an entry left after its next one
abbrev pub HasMore : Script → Progress → Type 0
HasMore s progress = progress.done + 1 < length (times s progress.path)

-- its next entry is its last one
abbrev pub IsAtLast : Script → Progress → Type 0
IsAtLast s progress = progress.done + 1 ≡ length (times s progress.path)

-- Another reading differs from this one only in what queues aren't told of: in the origins of objects, and in how many
-- entries that are no queue deeds an active frame has done after its last queue deed that is done and before its next one. So
-- an active frame fits in the other one too, and one that has ended is the same.
pub record DiffersIdly (s : Script) (state : QueueState) (r other : Reading) : Type 0 where
  pub queues : other.queues ≡ r.queues
  pub many : length other.frames ≡ length r.frames
  pub frames : (index : ℕ) (a b : Progress) → slice_get r.frames index ≡ Some a → slice_get other.frames index ≡ Some b
      → (b.number ≡ a.number) × (b.path ≡ a.path)
      × ((frame : ActiveFrame) → active state a.number ≡ Some frame → FitsFrame s frame b)
      × (active state a.number ≡ None → b.done ≡ a.done)
