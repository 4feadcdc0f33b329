use Rattle.core_tests.proofs.Coming.{one-comes}
use Rattle.core_tests.proofs.stale.take_from.Goals as goal

pub take_all-requires-clause-own : goal.take_all-requires-clause-own
take_all-requires-clause-own g c κs within = one-comes g.Q.Ends.LocalEnds.run c.args.core.now c.args.root _ c.requires.root c.in_ok-own.ensures
