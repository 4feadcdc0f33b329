use Rattle.task_frames.proofs.Lives.{found-oldest, found-none}
use Rattle.task_frames.proofs.live_record.LiveRecord.oldest_child.Goals as goal

pub returns-clause-oldest : goal.returns-clause-oldest
returns-clause-oldest c = found-oldest _ _ _ _ _ c.self.view_is c.self.invariant c.next.ensures.next

pub returns-clause-none : goal.returns-clause-none
returns-clause-none c = found-none _ _ _ _ _ c.self.view_is c.self.invariant c.next.ensures.none
