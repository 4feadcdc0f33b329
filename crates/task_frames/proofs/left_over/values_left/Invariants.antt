use Rattle.swan_model.specs.Elision.{outcome}
use Rattle.task_frames.proofs.Leaving.{AreFirst}
use Rattle.task_frames.proofs.left_over.values_left.Given as goal

abbrev pub invariant-loop-index : goal.invariant-loop-index
invariant-loop-index g l = AreFirst l.values l.index (outcome g.B.Body l.plan.means).objects
