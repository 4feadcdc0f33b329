use Rattle.std.proofs.Common.{[], refl}
use Rattle.task_frames.specs.Resumes.{ends_of}
use Rattle.swan_runtime.proofs.Bedding.{none_woke}
use Rattle.swan_runtime.proofs.Waking.{still_kept}
use Rattle.swan_runtime.proofs.asleep.Asleep.wake_at.Goals as goal

pub returns-else-allows-clause-kept : goal.returns-else-allows-clause-kept
returns-else-allows-clause-kept g c = still_kept (ends_of g.Q.Ends.LocalEnds) [] _ _

pub returns-else-allows-clause-sleepers : goal.returns-else-allows-clause-sleepers
returns-else-allows-clause-sleepers g c = none_woke c.args.number _ _ refl
