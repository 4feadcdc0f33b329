use Rattle.std.proofs.Common.{rules, arith, ap, subst, sym, ◌∙◌}
use Rattle.task_frames.specs.Resumes.{ends_of}
use Rattle.swan_runtime.specs.Shared.{AreOfRun}
use Rattle.swan_runtime.proofs.Bedding.{none_left_more}
use Rattle.swan_runtime.proofs.Waking.{popper_taken, poppers_left, pushed}
use Rattle.swan_runtime.proofs.sleepers.Sleepers.wakes.Goals as goal

pub loop-place-preserved-in-Continue-1 : goal.loop-place-preserved-in-Continue-1
loop-place-preserved-in-Continue-1 g c =
    let of = ends_of g.Q.Ends.LocalEnds in (
      search rules,
      λ plan run sleepers. let was = c.loop-place.invariant.1 plan run sleepers in record {
        at_end = was.at_end;
        at_push = poppers_left of plan run _ _ c.loop-place.place _ (search rules) c.swap_remove-popper.ensures.value c.swap_remove-popper.ensures.items was.at_push;
      },
      λ plan run sleepers ready. let was = c.loop-place.invariant.1 plan run sleepers in
          subst (AreOfRun of plan run) (sym c.in_ok-push.ensures.items) (pushed of plan run _ _ (c.loop-place.invariant.2 plan run sleepers ready)
          (popper_taken of plan run _ c.loop-place.place _ (search rules) c.swap_remove-popper.ensures.value was.at_push)),
      λ other none. record {
        each = none_left_more other _ _ c.loop-place.place _ (search rules) c.swap_remove-popper.ensures.value c.swap_remove-popper.ensures.items (c.loop-place.invariant.3 other none).each;
      },
      search rules,
      λ k d below. λ same. c.loop-place.invariant.5 k d below (sym (ap (λ popper. popper.queue) (c.swap_remove-popper.ensures.by_index.1 k d (search arith) (search arith))) ∙ same),
      search rules,
      search rules,
      search rules,
    )

pub returns-in_err-push-clause-own : goal.returns-in_err-push-clause-own
returns-in_err-push-clause-own g c = λ plan run sleepers. let was = c.loop-place.invariant.1 plan run sleepers in record {
  at_end = was.at_end;
  at_push = poppers_left (ends_of g.Q.Ends.LocalEnds) plan run _ _ c.loop-place.place _ (search rules) c.swap_remove-popper.ensures.value c.swap_remove-popper.ensures.items was.at_push;
}

pub returns-in_err-push-clause-ready : goal.returns-in_err-push-clause-ready
returns-in_err-push-clause-ready g c = λ plan run sleepers ready.
    subst (AreOfRun (ends_of g.Q.Ends.LocalEnds) plan run) (sym c.in_err-push.ensures.items) (c.loop-place.invariant.2 plan run sleepers ready)

pub returns-in_err-push-clause-none_more : goal.returns-in_err-push-clause-none_more
returns-in_err-push-clause-none_more g c = λ other none. record {
  each = none_left_more other _ _ c.loop-place.place _ (search rules) c.swap_remove-popper.ensures.value c.swap_remove-popper.ensures.items (c.loop-place.invariant.3 other none).each;
}
