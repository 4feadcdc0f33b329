use Rattle.core_tests.proofs.Coming.{one-comes}
use Rattle.core_tests.proofs.runs.frames_from.Goals as goal

pub take_turns-came-requires-clause-frames : goal.take_turns-came-requires-clause-frames
take_turns-came-requires-clause-frames g c κs within = one-comes g.Q.Ends.LocalEnds.run c.args.core.now c.args.root _ c.requires.root c.in_ok-frames.ensures
