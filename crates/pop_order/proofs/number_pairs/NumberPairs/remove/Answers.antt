use Rattle.pop_order.specs.NumberPairs.{has_pair}
use Rattle.pop_order.proofs.PairOrder.{removed}
use Rattle.pop_order.proofs.number_pairs.NumberPairs.remove.Goals as goal

pub returns : goal.returns
unfolding has_pair
returns c = rw (← c.self.view_is) (λ f s. removed c.args.first c.args.second f s _ _ (c.remove.ensures.updates.0 (f, s)))
