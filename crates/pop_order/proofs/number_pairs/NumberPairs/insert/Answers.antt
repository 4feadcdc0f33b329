use Rattle.pop_order.specs.NumberPairs.{has_pair}
use Rattle.pop_order.proofs.PairOrder.{inserted}
use Rattle.pop_order.proofs.number_pairs.NumberPairs.insert.Goals as goal

pub returns-clause-with : goal.returns-clause-with
unfolding has_pair
returns-clause-with c = rw (← c.self.view_is) (λ f s. inserted c.args.first c.args.second f s _ _ (c.in_ok-_is_new.ensures.updates.0 (f, s)))
