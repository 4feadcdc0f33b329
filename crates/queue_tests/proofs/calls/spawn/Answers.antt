use Rattle.std.specs.Prelude.{◌∷◌, []}
use Rattle.queue_tests.proofs.Allowing.{spawned_by_test}
use Rattle.queue_tests.proofs.calls.spawn.Goals as goal

pub spawn-requires-clause-may : goal.spawn-requires-clause-may
spawn-requires-clause-may g c =
    spawned_by_test (g.Q.Queues.state c.args.queues.now) c.args.parent c.args.child ((record { queue = c.args.queue; mode = c.args.mode }) ∷ []) c.requires.may
