use Rattle.std.proofs.Common.{true, false}
use Rattle.task_frames.proofs.Same.{needs-marked}
use Rattle.task_frames.proofs.frame.Frame.run_local.Goals as goal

pub returns-in-AtCore-clause-cause : goal.returns-in-AtCore-clause-cause
returns-in-AtCore-clause-cause g c =
    needs-marked g.Q.Ends.LocalEnds.ends g.Q.Ends.LocalEnds.counts _ _ _ _ false true c.self.view_is c.self-2.view_is c.in-AtCore.ensures.cause
