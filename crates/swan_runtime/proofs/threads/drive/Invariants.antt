use Rattle.task_frames.specs.Resumes.{ends_of}
use Rattle.swan_runtime.specs.Workers.{IsSameWorker, IsWorker}
use Rattle.swan_runtime.proofs.threads.drive.Given as goal

abbrev pub invariant-loop : goal.invariant-loop
invariant-loop g l =
    (goal.iterator-loop g).can_next l.iterator' × (goal.iterator-loop g).is_finite l.iterator' × IsWorker (ends_of g.Q.Ends.LocalEnds) l.worker × IsSameWorker l.fn.worker l.worker
