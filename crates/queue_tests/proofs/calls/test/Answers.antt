use Rattle.swan_model.specs.declared.rights.Mode.TheVariants.{Pop}
use Rattle.queue_tests.proofs.Allowing.{used_by_test}
use Rattle.queue_tests.proofs.calls.test.Goals as goal

pub test-requires-clause-may : goal.test-requires-clause-may
test-requires-clause-may g c = used_by_test (g.Q.Queues.state c.args.queues.now) c.args.frame c.args.queue Pop c.requires.may
