use Rattle.std.proofs.Common.{rules}
use Rattle.task_frames.proofs.Lives.{none-live}
use Rattle.task_frames.proofs.live_record.LiveRecord.enter.Goals as goal

pub invariant_of-self-in-Err : goal.invariant_of-self-in-Err
invariant_of-self-in-Err c = none-live _ _ (search rules) (search rules)
