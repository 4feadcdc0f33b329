use Rattle.task_frames.proofs.Answered.{child-stays, runs-answered, spawned-answered}
use Rattle.task_frames.proofs.kept.Kept.answer.Goals as goal

pub give-spawned-requires-clause-has : goal.give-spawned-requires-clause-has
give-spawned-requires-clause-has g c κs within =
    child-stays g.B.Body c.args.self.now c.give-frame.new.self c.args.plan.now.means c.args.step c.in-Spawned.parent c.in-Spawned.child c.in-Spawned.is c.requires.come c.requires.plan
    c.give-frame.ensures.core c.give-frame.ensures.lent

pub returns-in-Runs-clause-answered : goal.returns-in-Runs-clause-answered
returns-in-Runs-clause-answered g c =
    runs-answered _ _ c.args.self.now c.give.new.self c.args.step c.in-Runs.next c.give.result c.of.result c.in-Runs.is c.of.ensures c.give.ensures.given c.give.ensures.lent

pub returns-in-Spawned-clause-answered : goal.returns-in-Spawned-clause-answered
returns-in-Spawned-clause-answered g c =
    spawned-answered g.B.Body c.args.self.now c.give-frame.new.self c.args.plan.now.means c.args.step c.in-Spawned.parent c.in-Spawned.child c.in-Spawned.is c.requires.come c.requires.plan
    c.give-frame.ensures.core c.give-frame.ensures.lent _ _ c.give-spawned.new.self c.give-frame.result c.give-spawned.result c.of-in-Spawned.result c.of-in-Spawned.ensures
    c.give-frame.ensures.given c.give-spawned.ensures.given c.give-spawned.ensures.lent
