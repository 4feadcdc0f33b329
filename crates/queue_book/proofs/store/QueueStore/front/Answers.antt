use Rattle.queues.specs.Chunks.{without_spent}
use Rattle.queue_book.specs.Chains.{in_line}
use Rattle.queue_book.proofs.store.QueueStore.front.Goals as goal

pub first_pusher-requires-clause-kept : goal.first_pusher-requires-clause-kept
first_pusher-requires-clause-kept c =
    let kept = c.requires.kept in
    (kept.0, in_line c.args.queue without_spent kept.1, (c.trim.ensures.trimmed kept.0 kept.1 kept.2).0)
