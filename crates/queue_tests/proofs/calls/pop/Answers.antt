use Rattle.swan_model.specs.declared.rights.Mode.TheVariants.{Pop}
use Rattle.queue_tests.proofs.Allowing.{used_by_test}
use Rattle.queue_tests.proofs.calls.pop.Goals as goal

pub pop-requires-clause-may : goal.pop-requires-clause-may
pop-requires-clause-may g c = used_by_test (g.Q.Queues.state c.args.queues.now) c.args.frame c.args.queue Pop c.requires.may
