use Rattle.std.proofs.Common.{◌≡◌, ◌+◌, false, All, vec_len}
use Rattle.std.specs.Arc.{arc_value}
use Rattle.named_lock.specs.Seats.{IsSeatOf, any_saw_done}
use Rattle.task_frames.specs.Resumes.{ends_of}
use Rattle.swan_runtime.specs.Workers.{IsWorkerOf, saw_done, saw_stopped}
use Rattle.swan_runtime.proofs.opening.seats_of.Given as goal

abbrev pub invariant-loop-worker : goal.invariant-loop-worker
invariant-loop-worker g l =
    (vec_len l.seats + vec_len l.workers ≡ vec_len l.fn.workers)
    × All (IsSeatOf (arc_value l.lock) false) l.seats.items
    × All (IsWorkerOf (ends_of g.Q.Ends.LocalEnds) (arc_value l.lock)) l.workers.items
    × (All (λ worker. saw_stopped worker ≡ false) l.workers.items → All (λ worker. saw_stopped worker ≡ false) l.fn.workers.items)
    × (any_saw_done l.seats.items ≡ false → All (λ worker. saw_done worker ≡ false) l.workers.items → All (λ worker. saw_done worker ≡ false) l.fn.workers.items)
    × (l.lock ≡ l.fn.lock)

abbrev pub decreases-loop-worker : goal.decreases-loop-worker
decreases-loop-worker g l = vec_len l.workers
