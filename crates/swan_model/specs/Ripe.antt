-- When the next item of a queue is ripe: when nothing that is still to be done can come before it.
use Rattle.std.specs.Prelude.{ℕ, ◌-◌, ◌&&◌, ◌||◌, ◌==◌, not, nat_lt, Bool, false, Option, List, length, filter, slice_get}
use Rattle.std.specs.List.{list_all}
use Rattle.std.specs.Option.{option_map_or}
use Rattle.swan_model.specs.declared.origin.Origin.{Origin}
use Rattle.swan_model.specs.declared.rights.Mode.TheVariants.{Push}
use Rattle.swan_model.specs.declared.script.Deed.{Deed}
use Rattle.swan_model.specs.declared.script.Deed.TheVariants as deed
use Rattle.swan_model.specs.declared.script.Script.{Script}
use Rattle.swan_model.specs.Granted.{holds, may_use}
use Rattle.swan_model.specs.SerialTime.{Progress, Reading, places_from, point, is_done}
use Rattle.swan_model.specs.Told.{is_same, first_items, taken}

abbrev pub is_push_to : Origin → Deed → Bool
is_push_to queue (deed.Push origin value) = is_same origin queue
is_push_to queue _ = false

-- The time of the push of the item that has this index among all that ever stand in a queue. (For the index of a first item it
-- is the time of the first push, where there is one; no contract speaks of it there.)
abbrev pub push_time : Script → Origin → ℕ → Option ℕ
push_time s queue index =
    slice_get (places_from (λ entry. is_push_to queue entry.deed) 0 s.entries) (index - length (first_items s queue))

-- whether a frame is another one than this, and holds push on the queue
abbrev pub may_push_too : Script → Progress → Origin → Progress → Bool
may_push_too s frame queue other =
    not (other.number == frame.number) && may_use (holds s other.path (point s other)) Push queue

-- Whether the next item of a queue is ripe for a frame that is to pop or to test it, where these frames are
-- active. It is one of the queue's first items; or it is pushed already, and at a time before the points of
-- all others that hold push on the queue.
abbrev pub is_ripe : Script → Reading → (active : List Progress) → Progress → Origin → Bool
is_ripe s r active frame queue =
    let index = taken s queue (point s frame) in
    let others = filter (may_push_too s frame queue) active in
    nat_lt index (length (first_items s queue))
    || option_map_or (λ t. is_done s r t && list_all (λ other. nat_lt t (point s other)) others) (push_time s queue index) false
