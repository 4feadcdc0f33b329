use Rattle.std.proofs.Common.{ap, sym, ◌∙◌, arith, inl, inr}
use Rattle.pop_order.specs.Frames.{TurnFrame}
use Rattle.pop_order.proofs.Blocking.{blocks_found, found_blocks}
use Rattle.pop_order.proofs.turns.PopTurns.may_start.Goals as goal

pub returns-then-oldest-child-clause-blocks : goal.returns-then-oldest-child-clause-blocks
returns-then-oldest-child-clause-blocks c = rw (← c.self.view_is)
    (elim c.oldest_popper-oldest.ensures.found [
      | inl same ↦ absurd (omega arith)
      | inr among ↦ blocks_found c.self.inside.frames.entries c.self.inside.sets.poppers (λ q. (c.self.invariant.sets q).pops) c.args.child
          c.in-Some.frame.now (sym c.in-Some.ensures.value) c.frame.inside.parent (ap (λ (f : TurnFrame). f.parent) (sym c.frame.view_is))
          c.deref.result.now (ap (λ (f : TurnFrame). f.holdings) (sym c.frame.view_is) ∙ sym c.deref.ensures.value)
          c.oldest_popper-oldest.result c.if-oldest-child.true among
    ])

pub returns-then-oldest-child-clause-oldest : goal.returns-then-oldest-child-clause-oldest
returns-then-oldest-child-clause-oldest c = rw (← c.self.view_is) (λ other blocks.
    c.oldest_popper-oldest.ensures.least other (found_blocks c.self.inside.frames.entries c.self.inside.sets.poppers (λ q. (c.self.invariant.sets q).pops) c.args.child
    c.in-Some.frame.now (sym c.in-Some.ensures.value) c.frame.inside.parent (ap (λ (f : TurnFrame). f.parent) (sym c.frame.view_is))
    c.deref.result.now (ap (λ (f : TurnFrame). f.holdings) (sym c.frame.view_is) ∙ sym c.deref.ensures.value)
    other blocks))

pub returns-else-oldest-child-clause-ok : goal.returns-else-oldest-child-clause-ok
returns-else-oldest-child-clause-ok c = rw (← c.self.view_is) (λ number blocks.
    let least = c.oldest_popper-oldest.ensures.least number (found_blocks c.self.inside.frames.entries c.self.inside.sets.poppers (λ q. (c.self.invariant.sets q).pops) c.args.child
    c.in-Some.frame.now (sym c.in-Some.ensures.value) c.frame.inside.parent (ap (λ (f : TurnFrame). f.parent) (sym c.frame.view_is))
    c.deref.result.now (ap (λ (f : TurnFrame). f.holdings) (sym c.frame.view_is) ∙ sym c.deref.ensures.value)
    number blocks) in
    let before = blocks.before in
    omega arith)
