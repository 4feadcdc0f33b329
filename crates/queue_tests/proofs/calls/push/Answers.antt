use Rattle.swan_model.specs.declared.rights.Mode.TheVariants.{Push}
use Rattle.queue_tests.proofs.Allowing.{used_by_test}
use Rattle.queue_tests.proofs.calls.push.Goals as goal

pub push-requires-clause-may : goal.push-requires-clause-may
push-requires-clause-may g c = used_by_test (g.Q.Queues.state c.args.queues.now) c.args.frame c.args.queue Push c.requires.may
