use Rattle.std.proofs.Common.{◌≡◌, true, None, drop}
use Rattle.swan_model.specs.QueueState.{new_state}
use Rattle.queue_tests.specs.Steps.{after_steps, allows_steps}
use Rattle.queue_tests.proofs.harness.run.Given as goal

abbrev pub invariant-loop-index : goal.invariant-loop-index
invariant-loop-index g l = record {
  name : g.Q.Queues.name l.queues ≡ None;
  may : allows_steps (g.Q.Queues.state l.queues) (drop l.index l.steps) ≡ true;
  after : after_steps (g.Q.Queues.state l.queues) (drop l.index l.steps) ≡ after_steps new_state l.steps;
}
