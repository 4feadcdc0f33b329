-- Segments of hyperqueues, as a script tells of them. A segment passes on a run of the items that ever stand in its
-- queue. Where the run begins, and where it ends at the latest, follows from what made the segment, which is its tag.
use Rattle.std.specs.Prelude.{◌≡◌, ℕ, ◌+◌, ◌<◌, ◌&&◌, ◌==◌, nat_le, Bool, false, Option, Some, None, List, [], length, drop, find}
use Rattle.std.specs.Option.{option_map_or}
use Rattle.swan_model.specs.declared.origin.Origin.{Origin}
use Rattle.swan_model.specs.declared.script.Deed.{Deed}
use Rattle.swan_model.specs.declared.script.Deed.TheVariants as deed
use Rattle.swan_model.specs.declared.script.Script.{Script}
use Rattle.swan_model.specs.declared.value.Value.{Value}
use Rattle.swan_model.specs.QueueFollows.{next_queue_deed, queue_time, origin_in}
use Rattle.swan_model.specs.QueueState.{SegmentTag, first_of, pushed_by, planned, made_by}
use Rattle.swan_model.specs.SerialTime.{places_from}
use Rattle.swan_model.specs.Told.{count, is_same, pushes, taken}

-- the queue to which a deed pushes
abbrev pub pushed_to : Option Deed → Option Origin
pushed_to (Some (deed.Push queue value)) = Some queue
pushed_to _ = None

-- the queue of a segment
abbrev pub segment_queue : Script → SegmentTag → Option Origin
segment_queue s (first_of maker) = Some (origin_in s maker)
segment_queue s (pushed_by path deeds) = pushed_to (next_queue_deed s path deeds)

-- what a tag names stands in the script: a root queue, an entry that makes a queue, or a push
abbrev pub IsSegmentOf : Script → SegmentTag → Type 0
IsSegmentOf s (first_of (planned index)) = index < length s.queues
IsSegmentOf s (first_of (made_by path deeds)) = next_queue_deed s path deeds ≡ Some deed.MakeQueue
IsSegmentOf s (pushed_by path deeds) =
    (queue : Origin) × (value : Value) × (next_queue_deed s path deeds ≡ Some (deed.Push queue value))

-- ---- what a segment owes

-- How many of its queue's items come before those of a segment: none where it is the first one, or else the queue's first
-- items and those that were pushed before the push that made it.
abbrev pub base : Script → SegmentTag → ℕ
base s (first_of maker) = 0
base s (pushed_by path deeds) =
    option_map_or (λ queue. count s queue (queue_time s path deeds)) (segment_queue s (pushed_by path deeds)) 0

-- The list that a segment owes: all that ever stands in its queue, from its base on.
abbrev pub owed : Script → SegmentTag → List Value
owed s tag = option_map_or (λ queue. drop (base s tag) (pushes s queue)) (segment_queue s tag) []

-- The index of an end of a segment, a producer that has pushed so many items or a consumer that has popped so many, among
-- all that ever stands in the queue.
abbrev pub index_of_end : Script → SegmentTag → (moved : ℕ) → ℕ
index_of_end s tag moved = base s tag + moved

-- ---- where a segment ends

abbrev pub is_look_at : Origin → Deed → Bool
is_look_at queue (deed.Pop origin) = is_same origin queue
is_look_at queue (deed.Test origin) = is_same origin queue
is_look_at queue _ = false

-- the times at which a queue is looked at, by a pop or a test
abbrev pub look_times : Script → Origin → List ℕ
look_times s queue = places_from (λ entry. is_look_at queue entry.deed) 0 s.entries

-- whether a queue is empty at a time
abbrev pub is_empty_at : Script → Origin → ℕ → Bool
is_empty_at s queue t = taken s queue t == count s queue t

-- the time of the first empty look at a queue from a time on, where there is one
abbrev pub empty_look : Script → Origin → (from : ℕ) → Option ℕ
empty_look s queue from = find (λ t. nat_le from t && is_empty_at s queue t) (look_times s queue)

-- from which time on an empty look ends a segment: after the entry that its tag names, or from the start where the plan
-- made its queue
abbrev pub looks_from : Script → SegmentTag → ℕ
looks_from s (first_of (planned index)) = 0
looks_from s (first_of (made_by path deeds)) = queue_time s path deeds + 1
looks_from s (pushed_by path deeds) = queue_time s path deeds + 1

-- how many items have stood in a queue by the first empty look at it from a time on: all, where there is no such look
abbrev pub count_until_empty : Script → Origin → (from : ℕ) → ℕ
count_until_empty s queue from = option_map_or (count s queue) (empty_look s queue from) (length (pushes s queue))

-- The end of a segment, as an index among all that ever stands in its queue. No item of the segment stands at or past it:
-- what is pushed after an empty look goes to another segment.
abbrev pub segment_end : Script → SegmentTag → ℕ
segment_end s tag = option_map_or (λ queue. count_until_empty s queue (looks_from s tag)) (segment_queue s tag) 0

-- an end that has moved so many items stands before the segment's end
abbrev pub IsBeforeEnd : Script → SegmentTag → (moved : ℕ) → Type 0
IsBeforeEnd s tag moved = index_of_end s tag moved < segment_end s tag
