use Rattle.std.proofs.Common.{sym, subst, ◌∙◌, arith}
use Rattle.object_versions.specs.Store.{PlaceEntries}
use Rattle.object_versions.proofs.Awaited.{NoneOwes, awaits_here, awaits_none}
use Rattle.object_versions.proofs.Walk.{IsWalk, begins, stands, least, goes_on, ends_at, ends}
use Rattle.object_versions.proofs.Referred.{given_there}
use Rattle.object_versions.proofs.waiting.first_awaited.Goals as goal

pub loop-owner-init : goal.loop-owner-init
loop-owner-init c =
    let entries = c.args.places.now.entries in
    let P : PlaceEntries → Type 0 = λ left. IsWalk entries left c.args.frame (NoneOwes c.args.nodes.now) in (
      tt,
      tt,
      subst P (sym (c.into_iter-owner-iterator.ensures.into_iter_gives ∙ c.range-owner-items.ensures.between tt))
          (begins entries c.args.frame 0 (NoneOwes c.args.nodes.now) c.range-owner-items.ensures.ordered (λ place has less stands. absurd (omega (arith, less)))),
    )

pub returns-then-owner-frame-clause-none : goal.returns-then-owner-frame-clause-none
returns-then-owner-frame-clause-none c = λ place owing waits.
    let walk = rw c.in-Some.ensures.steps at c.loop-owner.invariant.2 in
    awaits_none _ _ _ _ _ waits (ends_at _ _ _ _ _ walk c.if-owner-frame.true place waits.has waits.stands)

pub returns-in-Some-owing_of-clause-owes : goal.returns-in-Some-owing_of-clause-owes
returns-in-Some-owing_of-clause-owes c =
    let walk = rw c.in-Some.ensures.steps at c.loop-owner.invariant.2 in
    awaits_here _ _ _ _ _ c.in-Some.object.now (stands _ _ _ _ _ walk c.if-owner-frame.false) (sym c.in-Some-owing_of.ensures)

pub returns-in-Some-owing_of-clause-first : goal.returns-in-Some-owing_of-clause-first
returns-in-Some-owing_of-clause-first c = λ other n waits.
    let walk = rw c.in-Some.ensures.steps at c.loop-owner.invariant.2 in
    least _ _ _ _ _ walk c.if-owner-frame.false other waits.has waits.stands (awaits_none _ _ _ _ _ waits)

pub loop-owner-preserved : goal.loop-owner-preserved
loop-owner-preserved c =
    let walk = rw c.in-Some.ensures.steps at c.loop-owner.invariant.2 in
    (tt, tt, goes_on _ _ _ _ _ walk (NoneOwes c.args.nodes.now) (λ place has is none. none) (sym c.in_default.ensures))

pub returns-clause-none : goal.returns-clause-none
returns-clause-none c = λ place owing waits.
    let walk = rw c.in-None.ensures.steps.0 at c.loop-owner.invariant.2 in
    awaits_none _ _ _ _ _ waits (ends _ _ _ walk place waits.has waits.stands)

pub owing_of-requires : goal.owing_of-requires
owing_of-requires c =
    let walk = rw c.in-Some.ensures.steps at c.loop-owner.invariant.2 in
    given_there c.args.places.now.entries c.args.nodes.now c.requires.whole.0 c.args.frame _ c.in-Some.object.now c.requires.whole.1 (stands _ _ _ _ _ walk c.if-owner-frame.false)
