use Rattle.pop_order.proofs.Empty.{empty_kept}
use Rattle.pop_order.proofs.turns.PopTurns.new.Goals as goal

pub invariant_of-result : goal.invariant_of-result
invariant_of-result c =
    empty_kept c.new.result.entries c.new-2.result.poppers c.new-2.result.pushers c.new-2.result.givers c.new.ensures.ordered c.new.ensures.empty c.new-2.ensures.poppers c.new-2.ensures.pushers c.new-2.ensures.givers
