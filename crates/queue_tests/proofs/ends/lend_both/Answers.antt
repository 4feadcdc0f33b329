use Rattle.queue_tests.proofs.Allowing.{lent_by_test}
use Rattle.queue_tests.proofs.Lending.{lent_beside}
use Rattle.queue_tests.proofs.ends.lend_both.Goals as goal

pub lend-of_two-requires : goal.lend-of_two-requires
lend-of_two-requires g c =
    let state = g.Q.Queues.state c.args.queues.now in
    let found = lent_by_test state c.args.one c.requires.one in
    record {
      may = lent_beside state (g.Q.Queues.state c.lend-of_one.new.self) c.args.one c.args.two found.0 _ found.1 c.requires.apart c.requires.two
          (c.lend-of_one.ensures.after found.0 found.1);
    }
