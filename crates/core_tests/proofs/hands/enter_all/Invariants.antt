use Rattle.task_frames.specs.Resumes.{ends_of}
use Rattle.swan_runtime.specs.Workers.{AreWorkers}
use Rattle.core_tests.proofs.hands.enter_all.Given as goal

abbrev pub invariant-loop-index : goal.invariant-loop-index
invariant-loop-index g l = AreWorkers (ends_of g.Q.Ends.LocalEnds) l.workers.items
