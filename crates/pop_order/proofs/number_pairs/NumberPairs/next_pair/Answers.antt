use Rattle.pop_order.specs.NumberPairs.{has_pair, IsPairNotAfter}
use Rattle.pop_order.proofs.PairOrder.{from_number}
use Rattle.pop_order.proofs.number_pairs.NumberPairs.next_pair.Goals as goal

pub returns-in-Some-clause-least : goal.returns-in-Some-clause-least
unfolding has_pair IsPairNotAfter
returns-in-Some-clause-least c = rw (← c.self.view_is) (λ number le h.
    let first = (c.range.ensures.in_range tt).2 (c.args.first, number) (from_number c.args.first c.args.from number le, tt) h in
    rw c.in-Some.ensures.steps at first)

pub returns-in-None-clause-none : goal.returns-in-None-clause-none
unfolding has_pair
returns-in-None-clause-none c = rw (← c.self.view_is) (λ number le.
    (c.range.ensures.in_range tt).5 c.in-None.ensures.steps.0 (c.args.first, number) (from_number c.args.first c.args.from number le, tt))
