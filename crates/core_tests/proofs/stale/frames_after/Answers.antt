use Rattle.std.proofs.Common.{sym}
use Rattle.core_tests.proofs.Coming.{answered-still-come}
use Rattle.core_tests.proofs.stale.frames_after.Goals as goal

pub returns : goal.returns
returns g c =
    let said = c.frames_from-frames.ensures in
    record { frames = answered-still-come g.Q.Ends.LocalEnds.run c.frames_from-frames.new.core c.args.opened.core (sym said.plan) (sym said.run) (λ frames. frames.items) _ said.frames }
