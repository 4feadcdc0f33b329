use Rattle.std.proofs.Common.{[], refl}
use Rattle.task_frames.specs.Resumes.{ends_of}
use Rattle.swan_runtime.proofs.Bedding.{none_woke}
use Rattle.swan_runtime.proofs.Waking.{still_kept}
use Rattle.swan_runtime.proofs.asleep.Asleep.wake_asked.Goals as goal

pub returns-in-None-clause-kept : goal.returns-in-None-clause-kept
returns-in-None-clause-kept g c = still_kept (ends_of g.Q.Ends.LocalEnds) [] _ _

pub returns-in-None-clause-sleepers : goal.returns-in-None-clause-sleepers
returns-in-None-clause-sleepers g c = none_woke c.args.number _ _ refl
