use Rattle.std.proofs.Common.{◌≡◌, ◌+◌, ◌-◌, ◌^◌, ◌≤◌, false, All, length, min, vec_len}
use Rattle.std.specs.Arc.{arc_value}
use Rattle.named_lock.specs.Seats.{IsNewSeatOf}
use Rattle.task_frames.specs.Resumes.{ends_of}
use Rattle.swan_runtime.specs.Workers.{AreNumbered, IsWorkerOf, has_met}
use Rattle.swan_runtime.proofs.opening.workers_at.Given as goal

abbrev pub invariant-loop-seat : goal.invariant-loop-seat
invariant-loop-seat g l =
    (vec_len l.workers + vec_len l.seats ≡ vec_len l.fn.seats)
    × All (IsNewSeatOf (arc_value l.lock)) l.seats.items
    × All (IsWorkerOf (ends_of g.Q.Ends.LocalEnds) (arc_value l.lock)) l.workers.items
    × All (λ worker. has_met worker ≡ false) l.workers.items
    × (l.number ≡ min (length l.workers.items) (2 ^ 32 - 1))
    × (vec_len l.fn.seats ≤ 2 ^ 32 → AreNumbered l.workers.items)
    × (l.lock ≡ l.fn.lock) × (l.body ≡ l.fn.body)

abbrev pub decreases-loop-seat : goal.decreases-loop-seat
decreases-loop-seat g l = vec_len l.seats
