use Rattle.object_versions.proofs.Order.{from_zero, no_later, owner_from, is_none}
use Rattle.object_versions.proofs.places.first_place.Goals as goal

pub returns-in-Some-clause-least : goal.returns-in-Some-clause-least
returns-in-Some-clause-least c = λ place h.
    let first = (c.range.ensures.in_range tt).2 (c.args.frame, place) (from_zero c.args.frame place, tt) h in
    no_later c.args.frame _ _ place c.if-owner-frame.true (rw c.in-Some.ensures.steps at first)

pub returns-in_default-clause-none : goal.returns-in_default-clause-none
returns-in_default-clause-none c = λ place. is_none _ (λ h.
    let inside = (c.range.ensures.in_range tt).1 in
    let first = (c.range.ensures.in_range tt).2 (c.args.frame, place) (from_zero c.args.frame place, tt) h in
    let from = rw c.in-Some.ensures.steps at inside in
    c.if-owner-frame.false (owner_from c.args.frame _ _ place from.0.0 (rw c.in-Some.ensures.steps at first)))

pub returns-in_default-2-clause-none : goal.returns-in_default-2-clause-none
returns-in_default-2-clause-none c = λ place.
    let steps = rw c.in_default.is at c.next.ensures.steps in
    (c.range.ensures.in_range tt).5 steps.0 (c.args.frame, place) (from_zero c.args.frame place, tt)
