-- How a reading moves as a run goes on, and what comes next for a frame in it.
use Rattle.std.specs.Prelude.{ℕ, ◌+◌, ◌-◌, ◌==◌, nat_lt, Option, Some, None, List, [], ◌∷◌, ◌++◌, length, map, if◌then◌else◌}
use Rattle.swan_model.specs.declared.origin.Origin.{Origin}
use Rattle.swan_model.specs.declared.script.Deed.{Deed}
use Rattle.swan_model.specs.declared.script.Script.{Script}
use Rattle.swan_model.specs.Granted.{child_path}
use Rattle.swan_model.specs.SerialTime.{Progress, Reading, point, time, times}
use Rattle.swan_model.specs.Told.{deed_at}

-- what a frame's task does next, and none where it has no entry left
abbrev pub next_deed : Script → Progress → Option Deed
next_deed s frame = if nat_lt frame.done (length (times s frame.path)) then Some (deed_at s (point s frame)) else None

-- the time after a task's last entry
abbrev pub end_time : Script → List ℕ → ℕ
end_time s path = time s path (length (times s path) - 1) + 1

-- a run before its first step: the root, with nothing done
abbrev pub at_start : List Origin → List Origin → Reading
at_start queues objects = record { frames = (record { number = 0; path = []; done = 0 }) ∷ []; queues = queues; objects = objects }

-- what a frame is once the one of this number has done so many more entries
abbrev pub more_by : (number many : ℕ) → Progress → Progress
more_by number many frame = if frame.number == number then record frame { done = frame.done + many } else frame

-- the reading once the frame of this number has done so many more entries
abbrev pub gone_on_by : Reading → (number many : ℕ) → Reading
gone_on_by r number many = record r { frames = map (more_by number many) r.frames }

-- and once it has done one more
abbrev pub one_more : ℕ → Progress → Progress
one_more number = more_by number 1

abbrev pub gone_on : Reading → ℕ → Reading
gone_on r number = gone_on_by r number 1

-- the reading once a frame has done a spawn, whose child has this number
abbrev pub reading_after_spawn : Script → Reading → Progress → ℕ → Reading
reading_after_spawn s r parent child =
    let path = child_path s parent.path (point s parent) in
    record r { frames = map (one_more parent.number) r.frames ++ (record { number = child; path = path; done = 0 }) ∷ [] }

-- the reading with one queue more
abbrev pub with_queue : Reading → Origin → Reading
with_queue r origin = record r { queues = r.queues ++ origin ∷ [] }

-- the reading with one object more
abbrev pub with_object : Reading → Origin → Reading
with_object r origin = record r { objects = r.objects ++ origin ∷ [] }
