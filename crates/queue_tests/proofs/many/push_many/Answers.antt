use Rattle.std.proofs.Common.{◌+◌, ◌<◌, arith}
use Rattle.swan_model.specs.Values.{COUNT_MOST}
use Rattle.queue_tests.proofs.Pushing.{may_push}
use Rattle.queue_tests.proofs.many.push_many.Goals as goal

pub push-requires-clause-may : goal.push-requires-clause-may
push-requires-clause-may g c =
    let before = c.loop-turn-test.true in
    let fits = c.ranges.count in
    let room : c.loop-turn._turn + 1 < COUNT_MOST = omega arith in
    may_push (g.Q.Queues.state c.loop-turn.queues) (c.loop-turn._turn + 1) c.loop-turn.invariant.pushing room
