use Rattle.std.proofs.Common.{subst}
use Rattle.task_frames.specs.Frames.{FrameView, IsAnyFrame}
use Rattle.task_frames.proofs.frame.Frame.number.Goals as goal

pub returns-clause-frame : goal.returns-clause-frame
returns-clause-frame g c =
    subst (λ (v : FrameView g.row.B.Denot g.row.B-Local.Denot g.row.Q-Ends.Denot). IsAnyFrame g.B.Body g.Q.Ends.LocalEnds.name g.Q.Ends.LocalEnds.ends v) c.self.view_is c.self.invariant.0
