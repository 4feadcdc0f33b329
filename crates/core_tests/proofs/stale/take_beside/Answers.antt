use Rattle.core_tests.proofs.Coming.{all-still-come}
use Rattle.core_tests.proofs.stale.take_beside.Goals as goal

pub returns-clause-others : goal.returns-clause-others
returns-clause-others g c =
    let said = c.take_turns.ensures in
    all-still-come g.Q.Ends.LocalEnds.run c.args.core.now c.take_turns.new.core said.plan said.run _ c.requires.others
