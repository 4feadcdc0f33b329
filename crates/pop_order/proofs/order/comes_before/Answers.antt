use Rattle.std.proofs.Common.{ℕ, ap, sym, subst, ◌∙◌, arith}
use Rattle.pop_order.specs.Frames.{TurnFrame}
use Rattle.pop_order.proofs.Meeting.{IsMeeting, child_at, left_up, right_up, left_ends, right_ends, met, not_met}
use Rattle.pop_order.proofs.order.comes_before.Goals as goal

pub loop-left-smaller-then-left-right : goal.loop-left-smaller-then-left-right
loop-left-smaller-then-left-right c =
    let child = child_at {frames = c.args.frames.now.entries} {n = c.loop-left.left} c.in-Some.frame.now c.frame.inside.parent c.in-Some.ensures.value (ap (λ (f : TurnFrame). f.parent) (sym c.frame.view_is)) in
    omega (arith, c.requires _ _ child)

pub loop-left-preserved-then-left-right : goal.loop-left-preserved-then-left-right
loop-left-preserved-then-left-right c =
    let child = child_at {frames = c.args.frames.now.entries} {n = c.loop-left.left} c.in-Some.frame.now c.frame.inside.parent c.in-Some.ensures.value (ap (λ (f : TurnFrame). f.parent) (sym c.frame.view_is)) in
    left_up c.args.frames.now.entries c.requires c.args.number c.args.other c.loop-left.left c.loop-left.right c.loop-left.left_child c.loop-left.right_child
    c.loop-left.invariant c.frame.inside.parent child c.if-left-right.true

pub loop-left-smaller : goal.loop-left-smaller
loop-left-smaller c =
    let child = child_at {frames = c.args.frames.now.entries} {n = c.loop-left.right} c.in-Some-get.frame.now c.frame-else-left-right.inside.parent c.in-Some-get.ensures.value (ap (λ (f : TurnFrame). f.parent) (sym c.frame-else-left-right.view_is)) in
    omega (arith, c.requires _ _ child)

pub loop-left-preserved : goal.loop-left-preserved
loop-left-preserved c =
    let child = child_at {frames = c.args.frames.now.entries} {n = c.loop-left.right} c.in-Some-get.frame.now c.frame-else-left-right.inside.parent c.in-Some-get.ensures.value (ap (λ (f : TurnFrame). f.parent) (sym c.frame-else-left-right.view_is)) in
    right_up c.args.frames.now.entries c.requires c.args.number c.args.other c.loop-left.left c.loop-left.right c.loop-left.left_child c.loop-left.right_child
    c.loop-left.invariant c.frame-else-left-right.inside.parent child (omega arith)

pub returns-in_default-clause-not_before : goal.returns-in_default-clause-not_before
returns-in_default-clause-not_before c = λ _.
    left_ends c.args.frames.now.entries c.requires c.args.number c.args.other c.loop-left.left c.loop-left.right c.loop-left.left_child c.loop-left.right_child
    c.loop-left.invariant (sym c.in_default.ensures.value) c.if-left-right.true

pub returns-in_default-get-clause-not_before : goal.returns-in_default-get-clause-not_before
returns-in_default-get-clause-not_before c = λ _.
    right_ends c.args.frames.now.entries c.requires c.args.number c.args.other c.loop-left.left c.loop-left.right c.loop-left.left_child c.loop-left.right_child
    c.loop-left.invariant (sym c.in_default-get.ensures.value) (omega arith)

pub returns-clause-before : goal.returns-clause-before
returns-clause-before c = λ older.
    let P : ℕ → Type 0 = λ k. IsMeeting c.args.frames.now.entries c.args.number c.args.other c.loop-left.left k c.loop-left.left_child c.loop-left.right_child in
    met c.args.frames.now.entries c.requires c.args.number c.args.other c.loop-left.left c.loop-left.left_child c.loop-left.right_child
    (subst P (sym c.loop-left-test.false) c.loop-left.invariant) (sym c.comes_first.ensures ∙ older)

pub returns-clause-not_before : goal.returns-clause-not_before
returns-clause-not_before c = λ not_older.
    let P : ℕ → Type 0 = λ k. IsMeeting c.args.frames.now.entries c.args.number c.args.other c.loop-left.left k c.loop-left.left_child c.loop-left.right_child in
    not_met c.args.frames.now.entries c.requires c.args.number c.args.other c.loop-left.left c.loop-left.left_child c.loop-left.right_child
    (subst P (sym c.loop-left-test.false) c.loop-left.invariant) (sym c.comes_first.ensures ∙ not_older)
