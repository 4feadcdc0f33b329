use Rattle.pop_order.proofs.Holders.{found_pops, found_oldest, not_found}
use Rattle.pop_order.proofs.turns.PopTurns.popping_child.Goals as goal

pub returns-clause-pops : goal.returns-clause-pops
returns-clause-pops c = rw (← c.self.view_is)
    (found_pops c.self.inside.frames.entries c.args.queue c.self.inside.sets.poppers (c.self.invariant.sets c.args.queue).pops c.args.frame c.oldest.result c.oldest.ensures.oldest)

pub returns-clause-oldest : goal.returns-clause-oldest
returns-clause-oldest c = rw (← c.self.view_is)
    (found_oldest c.self.inside.frames.entries c.args.queue c.self.inside.sets.poppers (c.self.invariant.sets c.args.queue).pops c.args.frame c.oldest.result c.oldest.ensures.oldest)

pub returns-clause-none : goal.returns-clause-none
returns-clause-none c = rw (← c.self.view_is)
    (not_found c.self.inside.frames.entries c.args.queue c.self.inside.sets.poppers (c.self.invariant.sets c.args.queue).pops c.args.frame c.oldest.result c.oldest.ensures.none)
