-- Hyperqueues that follow a script. What they keep of a run's frames counts the deeds of queues alone, so a frame's point
-- among queues is the time of its next queue deed. By the law of readings (`points_of_queues_agree`) that says of the
-- queues what each full reading says: the entries between are the frame's own, and no queue hears of them.
use Rattle.std.specs.Prelude.{◌≡◌, ◌≢◌, ℕ, ◌-◌, ◌<◌, ◌≤◌, ◌&&◌, ◌||◌, ◌==◌, nat_lt, not, Bool, true, false, Option, Some, None, List, [], ◌∷◌, ◌++◌, length, map, filter, take, if◌then◌else◌, slice_get, slice_index}
use Rattle.std.specs.List.{list_all}
use Rattle.std.specs.Option.{option_map, option_map_or}
use Rattle.swan_model.specs.declared.origin.Origin.{Origin}
use Rattle.swan_model.specs.declared.origin.Origin.TheVariants.{Root, Step}
use Rattle.swan_model.specs.declared.rights.Mode.{Mode}
use Rattle.swan_model.specs.declared.rights.Mode.TheVariants.{Push}
use Rattle.swan_model.specs.declared.script.Deed.{Deed}
use Rattle.swan_model.specs.declared.script.Deed.TheVariants as deed
use Rattle.swan_model.specs.declared.script.OriginGive.{OriginGive}
use Rattle.swan_model.specs.declared.script.Script.{Script}
use Rattle.swan_model.specs.declared.value.Value.{Value}
use Rattle.swan_model.specs.Granted.{holds, is_spawn, may_use}
use Rattle.swan_model.specs.Nested.{HasTasks, spawn_time}
use Rattle.swan_model.specs.PathOrder.{is_under}
use Rattle.swan_model.specs.QueueState.{ActiveFrame, QueueRight, QueueState, QueueMaker, planned, made_by, active, holds_queue}
use Rattle.swan_model.specs.Rights.{is_queue_mode}
use Rattle.swan_model.specs.Ripe.{push_time}
use Rattle.swan_model.specs.SerialTime.{Progress, Reading, is_of, is_queue_deed, frame_of, is_done, places_from, time, times}
use Rattle.swan_model.specs.Told.{count, deed_at, first_items, pushes, taken}

-- the times of a task's queue deeds, in order
abbrev pub queue_times : Script → List ℕ → List ℕ
queue_times s path = places_from (λ entry. is_of path entry && is_queue_deed entry.deed) 0 s.entries

-- the time of the queue deed of a task that has k earlier ones
abbrev pub queue_time : Script → List ℕ → ℕ → ℕ
queue_time s path k = slice_index (queue_times s path) k

-- whether a task has a queue deed left after so many
abbrev pub has_deed_left : Script → List ℕ → ℕ → Bool
has_deed_left s path deeds = nat_lt deeds (length (queue_times s path))

-- a task's point among queues: the time of its next queue deed, or of its last entry where none is left
abbrev pub queue_point : Script → List ℕ → (deeds : ℕ) → ℕ
queue_point s path deeds =
    if has_deed_left s path deeds then queue_time s path deeds
    else time s path (length (times s path) - 1)

-- what a task does next to queues, and none where it has no queue deed left
abbrev pub next_queue_deed : Script → List ℕ → (deeds : ℕ) → Option Deed
next_queue_deed s path deeds = if has_deed_left s path deeds then Some (deed_at s (queue_time s path deeds)) else None

-- what made a queue, in the words of a script
abbrev pub origin_in : Script → QueueMaker → Origin
origin_in s (planned index) = Root index
origin_in s (made_by path deeds) = Step (queue_time s path deeds)

-- the queue of this number
abbrev pub queue_origin : Script → QueueState → ℕ → Option Origin
queue_origin s state queue = option_map (origin_in s) (slice_get state.makers queue)

-- a give of a queue, named by what made it
abbrev pub queue_give : Script → QueueState → QueueRight → Option OriginGive
queue_give s state give = option_map (λ origin. record { origin = origin; mode = give.mode }) (queue_origin s state give.queue)

-- ---- which call is the script's next

-- the next queue deed of a frame is about this queue
abbrev pub IsNextAbout : (Origin → Deed) → Script → QueueState → ActiveFrame → ℕ → Type 0
IsNextAbout does s state frame queue = next_queue_deed s frame.path frame.deeds ≡ option_map does (queue_origin s state queue)

-- A frame's next queue deed is a spawn that gives these queues. It may give objects too.
pub record NextSpawnGivesQueues (s : Script) (state : QueueState) (parent : ActiveFrame) (gives : List QueueRight) : Type 0 where
  pub all : List OriginGive
  pub next : next_queue_deed s parent.path parent.deeds ≡ Some (deed.Spawn all)
  pub queues : map (queue_give s state) gives ≡ map Some (filter (λ give. is_queue_mode give.mode) all)

-- a deed that lent ends can do
abbrev pub is_by_end : Deed → Bool
is_by_end (deed.Push queue value) = true
is_by_end (deed.Pop queue) = true
is_by_end (deed.Test queue) = true
is_by_end _ = false

-- A task's queue deeds, from one number up to another, are all pushes, pops and tests.
pub record AreByEnds (s : Script) (path : List ℕ) (from to : ℕ) : Type 0 where
  pub order : from ≤ to
  pub each : (k : ℕ) → from ≤ k → k < to → (d : Deed) × (next_queue_deed s path k ≡ Some d) × (is_by_end d ≡ true)

-- ---- what is done

-- Whether the entry of this time is done, where these frames are active: none of them that is its task, or above it, has
-- still to come to it. (A task that isn't active any more has done all.)
abbrev pub is_reached : Script → ℕ → List ℕ → ActiveFrame → Bool
is_reached s t path frame = not (is_under frame.path path) || nat_lt t (queue_point s frame.path frame.deeds)

abbrev pub is_done_among : Script → QueueState → ℕ → Bool
is_done_among s state t = option_map_or (λ entry. list_all (is_reached s t entry.path) state.frames) (slice_get s.entries t) false

-- ---- following

-- an active frame is a task of the script, which has come so far
pub record IsTask (s : Script) (state : QueueState) (frame : ActiveFrame) : Type 0 where
  pub some : 0 < length (times s frame.path)
  pub deeds : frame.deeds ≤ length (queue_times s frame.path)
  -- it has spawned as many children as the script tells of its queue deeds so far
  pub children : frame.children ≡ length (filter (λ t. is_spawn (deed_at s t)) (take frame.deeds (queue_times s frame.path)))
  -- it may use a queue as the script tells
  pub rights : (queue : ℕ) (mode : Mode) (origin : Origin) → is_queue_mode mode ≡ true → queue_origin s state queue ≡ Some origin
      → holds_queue frame queue mode ≡ may_use (holds s frame.path (queue_point s frame.path frame.deeds)) mode origin
  -- and no queue that isn't made yet
  pub made : (queue : ℕ) (mode : Mode) → is_queue_mode mode ≡ true → holds_queue frame queue mode ≡ true → queue < length state.makers

-- the frame was spawned by its parent, which is active too
pub record IsChildOf (state : QueueState) (frame : ActiveFrame) (parent : ℕ) : Type 0 where
  pub above : ActiveFrame
  pub live : active state parent ≡ Some above
  pub index : ℕ
  pub path : frame.path ≡ above.path ++ index ∷ []
  pub spawned : index < above.children

-- what made a queue stands in the script, and is done
abbrev pub IsMade : Script → QueueState → ℕ → QueueMaker → Type 0
IsMade s state queue (planned index) = (queue ≡ index) × (index < length s.queues)
IsMade s state queue (made_by path deeds) =
    (deed_at s (queue_time s path deeds) ≡ deed.MakeQueue) × (deeds < length (queue_times s path))
    × (is_done_among s state (queue_time s path deeds) ≡ true)

-- The hyperqueues follow a script.
pub record QueuesFollow (s : Script) (state : QueueState) : Type 0 where
  -- each frame of the list is the one of its number
  pub known : (index : ℕ) (frame : ActiveFrame) → slice_get state.frames index ≡ Some frame → active state frame.number ≡ Some frame
  pub root : (frame : ActiveFrame) → active state 0 ≡ Some frame → (frame.path ≡ []) × (frame.parent ≡ None)
  pub others : (number : ℕ) (frame : ActiveFrame) → active state number ≡ Some frame → number ≢ 0 → (parent : ℕ) × (frame.parent ≡ Some parent)
  pub tasks : (number : ℕ) (frame : ActiveFrame) → active state number ≡ Some frame → IsTask s state frame
  pub children : (number parent : ℕ) (frame : ActiveFrame) → active state number ≡ Some frame → frame.parent ≡ Some parent → IsChildOf state frame parent
  pub different : (number other : ℕ) (a b : ActiveFrame) → active state number ≡ Some a → active state other ≡ Some b → a.path ≡ b.path → number ≡ other
  pub queues : (queue : ℕ) (maker : QueueMaker) → slice_get state.makers queue ≡ Some maker → IsMade s state queue maker
  -- no two queues are made by the same
  pub once : (queue other : ℕ) (origin : Origin) → queue_origin s state queue ≡ Some origin → queue_origin s state other ≡ Some origin → queue ≡ other

-- ---- what is ripe

-- whether an active frame is another one than this, and may push to the queue
abbrev pub active_may_push_too : ActiveFrame → ℕ → ActiveFrame → Bool
active_may_push_too frame queue other = not (other.number == frame.number) && holds_queue other queue Push

-- Whether the next item of a queue is ripe for an active frame: it is one of the queue's first items, or it is pushed
-- already, and at a time before the points of all other active frames that may push to the queue.
abbrev pub is_ripe_among : Script → QueueState → ActiveFrame → (queue : ℕ) → Origin → Bool
is_ripe_among s state frame queue origin =
    let index = taken s origin (queue_point s frame.path frame.deeds) in
    let others = filter (active_may_push_too frame queue) state.frames in
    nat_lt index (length (first_items s origin))
    || option_map_or (λ t. is_done_among s state t && list_all (λ other. nat_lt t (queue_point s other.path other.deeds)) others) (push_time s origin index) false

-- ---- readings that fit

-- A frame of a full reading is this active frame: the entries that are done have as many queue deeds, and one is left.
pub record FitsFrame (s : Script) (frame : ActiveFrame) (progress : Progress) : Type 0 where
  pub path : progress.path ≡ frame.path
  pub left : progress.done < length (times s frame.path)
  pub deeds : length (filter (λ t. is_queue_deed (deed_at s t)) (take progress.done (times s frame.path))) ≡ frame.deeds

-- A full reading fits: it has each active frame, with an entry left, and as many queue deeds of it done. Its other frames have
-- done all their entries, and it has each task whose spawn is done.
pub record Fits (s : Script) (state : QueueState) (r : Reading) : Type 0 where
  pub tasks : HasTasks s r
  pub frames : (number : ℕ) (frame : ActiveFrame) → active state number ≡ Some frame
      → (progress : Progress) × (frame_of r number ≡ Some progress) × FitsFrame s frame progress
  pub ended : (index : ℕ) (progress : Progress) → slice_get r.frames index ≡ Some progress → active state progress.number ≡ None
      → progress.done ≡ length (times s progress.path)
  pub numbers : (index : ℕ) (progress : Progress) → slice_get r.frames index ≡ Some progress → frame_of r progress.number ≡ Some progress
  pub all : (path : List ℕ) (child spawn : ℕ) → spawn_time s path child ≡ Some spawn → is_done s r spawn ≡ true
      → (index : ℕ) × (progress : Progress) × (slice_get r.frames index ≡ Some progress) × (progress.path ≡ path ++ child ∷ [])
  pub root : (index : ℕ) × (progress : Progress) × (slice_get r.frames index ≡ Some progress) × (progress.path ≡ [])
  pub queues : (queue : ℕ) → slice_get r.queues queue ≡ queue_origin s state queue

-- these are the frames of a reading that are active
pub record AreActive (state : QueueState) (r : Reading) (actives : List Progress) : Type 0 where
  pub all : (number : ℕ) (frame : ActiveFrame) (progress : Progress) → active state number ≡ Some frame → frame_of r number ≡ Some progress
      → (index : ℕ) × (slice_get actives index ≡ Some progress)
  pub only : (index : ℕ) (progress : Progress) → slice_get actives index ≡ Some progress
      → (frame : ActiveFrame) × (active state progress.number ≡ Some frame) × (frame_of r progress.number ≡ Some progress)

-- ---- what is told

-- how many items left a queue before the frame's point, and how many had come into it
abbrev pub taken_at : Script → ActiveFrame → Origin → ℕ
taken_at s frame queue = taken s queue (queue_point s frame.path frame.deeds)

abbrev pub count_at : Script → ActiveFrame → Origin → ℕ
count_at s frame queue = count s queue (queue_point s frame.path frame.deeds)

-- the item of a queue that the frame finds next
abbrev pub next_item : Script → ActiveFrame → Origin → Option Value
next_item s frame queue = slice_get (pushes s queue) (taken_at s frame queue)
