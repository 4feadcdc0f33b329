use Rattle.pop_order.specs.Children.{has}
use Rattle.pop_order.proofs.Entries.{removed}
use Rattle.pop_order.proofs.children.Children.remove.Goals as goal

pub returns : goal.returns
unfolding has
returns c = rw (← c.self.view_is) (λ p q k. removed c.args.parent c.args.queue c.args.child p q k _ _ (c.remove.ensures.updates.0 (p, q, k)))
