use Rattle.std.proofs.Common.{arith}
use Rattle.pop_order.proofs.Walks.{down_start, down, at_last}
use Rattle.pop_order.proofs.walk.first_under.Goals as goal

pub loop-oldest-init : goal.loop-oldest-init
loop-oldest-init c = record {
  at_least = omega arith;
  down = λ frames rising pushes. down_start frames c.args.queue c.args.pushers.now rising pushes c.args.giver;
}

pub loop-oldest-preserved : goal.loop-oldest-preserved
loop-oldest-preserved c = record {
  at_least = omega (arith, c.loop-oldest.invariant.at_least, c.requires.rising _ _ c.in-Some.ensures.oldest.known);
  down = λ frames rising pushes.
      down frames c.args.queue c.args.pushers.now rising pushes c.args.giver c.loop-oldest.node c.in-Some.oldest c.in-Some.ensures.oldest
      (c.loop-oldest.invariant.down frames rising pushes);
}

pub returns-clause-first : goal.returns-clause-first
returns-clause-first c = λ frames rising pushes.
    at_last frames c.args.queue c.args.pushers.now rising pushes c.args.giver c.loop-oldest.node c.requires.gave.0 c.requires.gave.1 c.in_default.ensures.none
    (c.loop-oldest.invariant.down frames rising pushes)
