use Rattle.std.proofs.Common.{◌<◌, length, subst}
use Rattle.core_tests.proofs.Coming.{others-come, taken-comes}
use Rattle.core_tests.proofs.turns.first_of.Goals as goal

pub returns-in-Some-clause-frame : goal.returns-in-Some-clause-frame
returns-in-Some-clause-frame g c =
    let less : c.in-Some.at < length c.args.frames.now.items = subst (λ l. c.in-Some.at < length l) c.deref.ensures.value c.in-Some.ensures in
    taken-comes g.Q.Ends.LocalEnds.run c.args.core.now c.args.frames.now.items c.in-Some.at c.remove.result c.requires.frames less c.remove.ensures.value

pub returns-in-Some-clause-frames : goal.returns-in-Some-clause-frames
returns-in-Some-clause-frames g c =
    others-come g.Q.Ends.LocalEnds.run c.args.core.now c.args.frames.now.items c.remove.new.self.items c.in-Some.at c.requires.frames c.remove.ensures.by_index.2
