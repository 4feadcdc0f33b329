use Rattle.std.proofs.Common.{◌+◌, sym, ap, ◌∙◌, subst, arith}
use Rattle.swan_model.specs.Versions.{placed_at}
use Rattle.task_frames.specs.Giving.{AreMade}
use Rattle.task_frames.proofs.ChildGiven.{next-alone, next-free, next-holds, next-object, next-queue}
use Rattle.task_frames.proofs.child_gives.give_objects.Goals.{then-not-is_of_queues+in_ok-access, else-not-is_of_queues}
use Rattle.task_frames.proofs.child_gives.give_objects.Goals as goal

pub access-requires-clause-held : goal.access-requires-clause-held
access-requires-clause-held c =
    next-holds c.args.versions.now c.loop-give.versions c.args.parent c.args.child c.args.gives.now c.as_slice-give-items.result.now c.as_slice-give-items.ensures c.requires.may c.loop-give.give-index
    (c.loop-give.invariant.0 c.requires.may) _ c.loop-give-test.true (sym c.is_of_queues.ensures ∙ c.if-not-is_of_queues.true)

pub access-requires-clause-free : goal.access-requires-clause-free
access-requires-clause-free c =
    ap (placed_at c.loop-give.versions c.args.child) c.loop-give.invariant.1
    ∙ next-free c.args.versions.now c.loop-give.versions c.args.parent c.args.child c.args.gives.now c.as_slice-give-items.result.now c.as_slice-give-items.ensures c.requires.may c.loop-give.give-index
    (c.loop-give.invariant.0 c.requires.may) _ c.loop-give-test.true (sym c.is_of_queues.ensures ∙ c.if-not-is_of_queues.true)

pub access-requires-clause-alone : goal.access-requires-clause-alone
access-requires-clause-alone c =
    next-alone c.args.versions.now c.loop-give.versions c.args.parent c.args.child c.args.gives.now c.as_slice-give-items.result.now c.as_slice-give-items.ensures c.requires.may c.loop-give.give-index
    (c.loop-give.invariant.0 c.requires.may) _ c.loop-give-test.true (sym c.is_of_queues.ensures ∙ c.if-not-is_of_queues.true)

pub loop-give-preserved : goal.loop-give-preserved
loop-give-preserved c = (
  λ may. elim c.if-not-is_of_queues.branch [
    | then-not-is_of_queues+in_ok-access w ↦
        next-object c.args.versions.now c.loop-give.versions c.args.parent c.args.child c.args.gives.now c.as_slice-give-items.result.now c.as_slice-give-items.ensures may c.loop-give.give-index
        (c.loop-give.invariant.0 may) _ c.loop-give-test.true (sym c.is_of_queues.ensures ∙ w.if-not-is_of_queues.true) c.if-not-is_of_queues.versions
        c.loop-give.place c.loop-give.invariant.1 (w.versions-is ∙ w.in_ok-access.ensures.ok)
    | else-not-is_of_queues w ↦
        subst (λ v. AreMade may.s may.r c.args.versions.now v may.giver c.args.child c.args.gives.now (c.loop-give.give-index + 1)) (sym w.versions-is)
        (next-queue c.args.versions.now c.loop-give.versions c.args.parent c.args.child c.args.gives.now c.as_slice-give-items.result.now c.as_slice-give-items.ensures may c.loop-give.give-index
        (c.loop-give.invariant.0 may) _ c.loop-give-test.true (sym c.is_of_queues.ensures ∙ w.if-not-is_of_queues.false))
  ],
  omega (arith, c.loop-give.invariant.1),
)
