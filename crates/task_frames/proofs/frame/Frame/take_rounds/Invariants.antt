use Rattle.std.proofs.Common.{◌≡◌}
use Rattle.task_frames.proofs.Rounds.{IsUnderWay}
use Rattle.task_frames.proofs.frame.Frame.take_rounds.Given as goal

abbrev pub invariant-loop-left : goal.invariant-loop-left
invariant-loop-left g l =
    record {
      boxed : l.staged ≡ l.initial.staged;
      way : IsUnderWay g.B.Body g.Q.Ends.LocalEnds.name g.Q.Ends.LocalEnds.run g.Q.Ends.LocalEnds.ends g.Q.Ends.LocalEnds.counts l.fn.self l.fn.most l.left l.fuel l.local l.answer l.self-inside.1.1.1.1.0;
    }

abbrev pub decreases-loop-left : goal.decreases-loop-left
decreases-loop-left g l = l.left
