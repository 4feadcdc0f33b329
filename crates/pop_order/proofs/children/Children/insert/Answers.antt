use Rattle.pop_order.specs.Children.{has}
use Rattle.pop_order.proofs.Entries.{inserted}
use Rattle.pop_order.proofs.children.Children.insert.Goals as goal

pub returns : goal.returns
unfolding has
returns c = rw (← c.self.view_is) (λ p q k. inserted c.args.parent c.args.queue c.args.child p q k _ _ (c.in_ok-_is_new.ensures.updates.0 (p, q, k)))
