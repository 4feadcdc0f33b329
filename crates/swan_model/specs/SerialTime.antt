-- Serial time, and readings. The time of a step is its place in the script. A run out of order numbers its
-- tasks, queues and objects as it makes them, which need not be the serial order. A reading says which task,
-- queue or object of the script each number is, and how far each task has come. So of any moment of such a
-- run it says where in the serial order each task stands. A task of the run is called a frame.
use Rattle.std.specs.Prelude.{ℕ, ◌+◌, ◌-◌, ◌&&◌, ◌==◌, nat_eq, nat_lt, Bool, true, false, Option, List, [], ◌∷◌, length, find, if◌then◌else◌, slice_get, slice_index}
use Rattle.std.specs.Cmp.Lexicographic.{pointwise}
use Rattle.std.specs.List.{list_any}
use Rattle.std.specs.Option.{option_and_then, option_map_or}
use Rattle.swan_model.specs.declared.origin.Origin.{Origin}
use Rattle.swan_model.specs.declared.script.Deed.{Deed}
use Rattle.swan_model.specs.declared.script.Deed.TheVariants as deed
use Rattle.swan_model.specs.declared.script.Entry.{Entry}
use Rattle.swan_model.specs.declared.script.Script.{Script}
use Rattle.swan_model.specs.declared.value.Value.{Value}
use Rattle.swan_model.specs.Told.{cell}

-- the places, from n on, of the entries that pass a test
abbrev pub places_from : (Entry → Bool) → ℕ → List Entry → List ℕ
places_from test n [] = []
places_from test n (entry ∷ entries) =
    if test entry then n ∷ places_from test (n + 1) entries else places_from test (n + 1) entries

-- whether an entry is a step of the task with this path
abbrev pub is_of : List ℕ → Entry → Bool
is_of path entry = pointwise nat_eq entry.path path

-- the times of a task's entries, in order
abbrev pub times : Script → List ℕ → List ℕ
times s path = places_from (is_of path) 0 s.entries

-- the time of the entry of a task that has k earlier ones. (Where there is none, no contract speaks of it.)
abbrev pub time : Script → List ℕ → ℕ → ℕ
time s path k = slice_index (times s path) k

-- how far a frame has come
pub record Progress : Type 0 where
  -- its number in the run
  pub number : ℕ
  -- which task it is
  pub path : List ℕ
  -- how many of its entries are done
  pub done : ℕ

-- which task, queue and object of the script each number of a run is
pub record Reading : Type 0 where
  -- the frames, those that have ended too
  pub frames : List Progress
  -- the queues and the objects by their numbers
  pub queues : List Origin
  pub objects : List Origin

-- the frame of a number
abbrev pub frame_of : Reading → ℕ → Option Progress
frame_of r number = find (λ frame. frame.number == number) r.frames

-- a frame's point: the time of its next entry, or the time after its last one where it has none left
abbrev pub point : Script → Progress → ℕ
point s frame =
    if nat_lt frame.done (length (times s frame.path)) then time s frame.path frame.done
    else time s frame.path (length (times s frame.path) - 1) + 1

-- whether the point of the first frame comes before that of the second one
abbrev pub is_earlier : Script → Progress → Progress → Bool
is_earlier s frame other = nat_lt (point s frame) (point s other)

-- whether a deed is one of those that queues are told of
abbrev pub is_queue_deed : Deed → Bool
is_queue_deed deed.MakeQueue = true
is_queue_deed (deed.Spawn gives) = true
is_queue_deed (deed.Push queue value) = true
is_queue_deed (deed.Pop queue) = true
is_queue_deed (deed.Test queue) = true
is_queue_deed _ = false

-- whether a frame has come past this time, at which its task has an entry
abbrev pub is_past : Script → ℕ → Entry → Progress → Bool
is_past s t entry frame = is_of frame.path entry && nat_lt t (point s frame)

-- whether the entry of this time is done
abbrev pub is_done : Script → Reading → ℕ → Bool
is_done s r t = option_map_or (λ entry. list_any (is_past s t entry) r.frames) (slice_get s.entries t) false

-- the value of the present version of an object at a frame: what the object has at the frame's point
abbrev pub version : Script → Reading → ℕ → Progress → Option Value
version s r object frame = option_and_then (λ origin. cell s origin (point s frame)) (slice_get r.objects object)
