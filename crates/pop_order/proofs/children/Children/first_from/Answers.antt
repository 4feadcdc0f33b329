use Rattle.pop_order.specs.Children.{has, IsNotAfter}
use Rattle.pop_order.proofs.Entries.{from_zero}
use Rattle.pop_order.proofs.children.Children.first_from.Goals as goal

pub returns-in-Some-clause-first : goal.returns-in-Some-clause-first
unfolding has IsNotAfter
returns-in-Some-clause-first c = rw (← c.self.view_is) (λ child h.
    let first = (c.range.ensures.in_range tt).2 (c.args.parent, c.args.queue, child) (from_zero c.args.parent c.args.queue child, tt) h in
    rw c.in-Some.ensures.steps at first)

pub returns-in-None-clause-none : goal.returns-in-None-clause-none
unfolding has
returns-in-None-clause-none c = rw (← c.self.view_is) (λ child.
    (c.range.ensures.in_range tt).5 c.in-None.ensures.steps.0 (c.args.parent, c.args.queue, child) (from_zero c.args.parent c.args.queue child, tt))
