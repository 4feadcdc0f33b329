use Rattle.std.proofs.Common.{sym, subst, ◌∙◌}
use Rattle.object_versions.specs.Store.{PlaceEntries}
use Rattle.object_versions.specs.Ending.{IsPaid}
use Rattle.object_versions.proofs.Walk.{IsWalk, begins, goes_on, ends_at, done_before}
use Rattle.object_versions.proofs.ending.next_debt.Goals as goal

pub loop-owner-init : goal.loop-owner-init
loop-owner-init c =
    let entries = c.args.places.now.entries in
    let P : PlaceEntries → Type 0 = λ left. IsWalk entries left c.args.frame IsPaid in (
      tt,
      tt,
      subst P (sym (c.into_iter-owner-iterator.ensures.into_iter_gives ∙ c.range-owner-items.ensures.between tt))
          (begins entries c.args.frame c.args.from IsPaid c.range-owner-items.ensures.ordered c.requires.below),
    )

pub returns-then-owner-frame-clause-none : goal.returns-then-owner-frame-clause-none
returns-then-owner-frame-clause-none c =
    let walk = rw c.in-Some.ensures.steps at c.loop-owner.invariant.2 in
    ends_at _ _ _ _ _ walk c.if-owner-frame.true

pub returns-in-Some-owes-clause-below : goal.returns-in-Some-owes-clause-below
returns-in-Some-owes-clause-below c = λ place has less is.
    let walk = rw c.in-Some.ensures.steps at c.loop-owner.invariant.2 in
    done_before _ _ _ _ _ walk c.if-owner-frame.false place has less is

pub loop-owner-preserved : goal.loop-owner-preserved
loop-owner-preserved c =
    let walk = rw c.in-Some.ensures.steps at c.loop-owner.invariant.2 in
    (tt, tt, goes_on _ _ _ _ _ walk IsPaid (λ place has stood paid. paid) c.in_default.is)
