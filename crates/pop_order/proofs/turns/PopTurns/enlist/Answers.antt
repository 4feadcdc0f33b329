use Rattle.pop_order.proofs.Empty.{empty_kept}
use Rattle.pop_order.proofs.turns.PopTurns.enlist.Goals as goal

pub invariant_of-self-in-Err : goal.invariant_of-self-in-Err
invariant_of-self-in-Err c =
    let sets = c.clear-in-Err.new.self in
    empty_kept c.clear.new.self.entries sets.poppers sets.pushers sets.givers c.clear.ensures.ordered c.clear.ensures.empty
    c.clear-in-Err.ensures.poppers c.clear-in-Err.ensures.pushers c.clear-in-Err.ensures.givers
