use Rattle.std.proofs.Common.{rules, vec_len}
use Rattle.std.specs.Arc.{arc_value}
use Rattle.task_frames.specs.Resumes.{ends_of}
use Rattle.swan_runtime.proofs.Crews.{opened_workers}
use Rattle.swan_runtime.proofs.opening.workers_of.Goals as goal

pub returns-clause-workers : goal.returns-clause-workers
returns-clause-workers g c =
    opened_workers (ends_of g.Q.Ends.LocalEnds) (λ w. w.items) (arc_value c.in_ok-lock-2.lock) (vec_len c.in_ok-lock.seats) c.workers_at.result c.workers_at.ensures.count c.workers_at.ensures.workers
    (search rules) (search rules)
