use Rattle.pop_order.proofs.Walks.{one_more, at_end}
use Rattle.pop_order.proofs.walk.first_earlier.Goals as goal

pub loop-giver-preserved : goal.loop-giver-preserved
loop-giver-preserved c =
    one_more c.args.frames.now.entries c.args.queue c.args.pushers.now c.args.givers.now c.requires.rising c.requires.pushes c.requires.gives
    c.args.frame c.loop-giver.from c.in-Some.giver c.first_under-pusher.result c.in-Some.ensures.next
    (c.first_under-pusher.ensures.first c.args.frames.now.entries c.requires.rising c.requires.pushes)
    c.loop-giver.found c.sooner-found.result c.sooner-found.ensures c.loop-giver.invariant

pub returns : goal.returns
returns c =
    at_end c.args.frames.now.entries c.args.queue c.args.pushers.now c.args.givers.now c.requires.rising c.requires.pushes c.requires.gives
    c.args.frame c.loop-giver.from c.loop-giver.found c.in_default.ensures.none c.loop-giver.invariant
