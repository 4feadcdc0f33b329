use Rattle.std.proofs.Common.{ℕ, refl, sym, subst, ◌∙◌}
use Rattle.pop_order.specs.Order.{ComesBefore}
use Rattle.pop_order.specs.Walk.{late, second, taken}
use Rattle.std.proofs.lemmas.Option.{same_Some}
use Rattle.pop_order.proofs.walk.sooner.Goals as goal

pub returns-then-not-comes_before : goal.returns-then-not-comes_before
returns-then-not-comes_before c = late (c.if-not-comes_before.ensures.not_before refl) refl

pub returns-in_default : goal.returns-in_default
returns-in_default c = taken (c.if-not-comes_before.ensures.before refl) (λ first is. absurd (c.in_default.not-Some first is)) refl

pub returns-then-comes_before : goal.returns-then-comes_before
returns-then-comes_before c = second c.in-Some.first (c.if-not-comes_before.ensures.before refl) c.in-Some.is (c.if-comes_before.ensures.before refl) (sym c.in-Some.is)

pub returns-else-comes_before : goal.returns-else-comes_before
returns-else-comes_before c = taken (c.if-not-comes_before.ensures.before refl)
    (λ first is.
    let P : ℕ → Type 0 = λ k. ComesBefore c.args.frames.now.entries k c.args.pusher in
    λ sooner. c.if-comes_before.ensures.not_before refl (subst P (same_Some first c.in-Some.first (sym is ∙ c.in-Some.is)) sooner))
    refl
