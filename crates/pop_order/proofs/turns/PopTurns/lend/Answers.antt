use Rattle.std.proofs.Common.{sym, subst}
use Rattle.std.specs.List.Sorted.{IsStrictlySortedBy}
use Rattle.std.specs.Map.{keys_of}
use Rattle.std.specs.Ordering.{nat_cmp}
use Rattle.pop_order.specs.Frames.{Frames}
use Rattle.pop_order.specs.Kept.{IsKept}
use Rattle.pop_order.proofs.Enlisting.{kept_lent}
use Rattle.pop_order.proofs.turns.PopTurns.lend.Goals as goal

pub invariant_of-self : goal.invariant_of-self
invariant_of-self c =
    let sets = c.self.inside.sets in
    let P : Frames → Type 0 = λ fs. IsKept fs sets.poppers sets.pushers sets.givers in
    let Q : Frames → Type 0 = λ fs. IsStrictlySortedBy nat_cmp (keys_of fs) in
    subst P (sym c.lend.ensures.lent)
    (kept_lent c.self.inside.frames.entries c.args.child sets.poppers sets.pushers sets.givers (subst Q c.lend.ensures.lent c.lend.ensures.sorted) c.self.invariant)
