use Rattle.task_frames.proofs.Lives.{none-live}
use Rattle.task_frames.proofs.live_record.LiveRecord.new.Goals as goal

pub invariant_of-result : goal.invariant_of-result
invariant_of-result c = none-live _ _ c.new.ensures c.new-2.ensures
