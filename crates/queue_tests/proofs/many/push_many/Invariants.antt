use Rattle.std.proofs.Common.{◌≡◌, ◌+◌, None}
use Rattle.queue_tests.proofs.Pushing.{IsPushing}
use Rattle.queue_tests.proofs.many.push_many.Given as goal

abbrev pub invariant-loop-turn : goal.invariant-loop-turn
invariant-loop-turn g l = record {
  name : g.Q.Queues.name l.queues ≡ None;
  pushing : IsPushing (g.Q.Queues.state l.queues) (l._turn + 1);
}
