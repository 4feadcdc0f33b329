use Rattle.queue_book.proofs.chains.Chains.give_up.Goals as goal

pub drop_first-requires-clause-kept : goal.drop_first-requires-clause-kept
drop_first-requires-clause-kept c =
    let unowned = c.requires.unowned in
    let left = c.loop-node.invariant.kept unowned.0 unowned.1 unowned.2 unowned.3 in
    (unowned.0, left.now, left.kept)
