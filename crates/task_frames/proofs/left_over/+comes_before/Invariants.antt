use Rattle.std.proofs.Common.{length}
use Rattle.task_frames.proofs.left_over.+comes_before.Given as goal

abbrev pub decreases-comes_before : goal.decreases-comes_before
decreases-comes_before l = length l.path.now
