use Rattle.std.proofs.Common.{rules, ◌≢◌, Some, subst, sym}
use Rattle.std.proofs.lemmas.List.Elements.{All-pop}
use Rattle.task_frames.specs.Resumes.{ends_of}
use Rattle.swan_runtime.specs.Shared.{AreOfRun}
use Rattle.swan_runtime.proofs.Waking.{popper_popped, pushed}
use Rattle.swan_runtime.proofs.sleepers.Sleepers.wakes_poppers.Goals as goal

pub loop-popper-preserved : goal.loop-popper-preserved
loop-popper-preserved g c =
    let of = ends_of g.Q.Ends.LocalEnds in (
      λ plan run sleepers. let was = c.loop-popper.invariant.0 plan run sleepers in record {
        at_end = was.at_end;
        at_push = (popper_popped of plan run _ _ _ c.in-Some.ensures.items was.at_push).0;
      },
      λ plan run sleepers ready. subst (AreOfRun of plan run) (sym c.in_ok-push.ensures.items)
          (pushed of plan run _ _ (c.loop-popper.invariant.1 plan run sleepers ready) (popper_popped of plan run _ _ _ c.in-Some.ensures.items (c.loop-popper.invariant.0 plan run sleepers).at_push).1),
      λ other none. record {
        each = (All-pop (λ popper. popper.queue ≢ other) _ _ (Some c.in-Some.popper) c.in-Some.ensures.items (c.loop-popper.invariant.2 other none).each).0;
      },
      search rules,
      search rules,
      search rules,
    )

pub returns-in_err-push-clause-own : goal.returns-in_err-push-clause-own
returns-in_err-push-clause-own g c = λ plan run sleepers. let was = c.loop-popper.invariant.0 plan run sleepers in record {
  at_end = was.at_end;
  at_push = (popper_popped (ends_of g.Q.Ends.LocalEnds) plan run _ _ _ c.in-Some.ensures.items was.at_push).0;
}

pub returns-in_err-push-clause-ready : goal.returns-in_err-push-clause-ready
returns-in_err-push-clause-ready g c = λ plan run sleepers ready.
    subst (AreOfRun (ends_of g.Q.Ends.LocalEnds) plan run) (sym c.in_err-push.ensures.items) (c.loop-popper.invariant.1 plan run sleepers ready)

pub returns-in_err-push-clause-none_more : goal.returns-in_err-push-clause-none_more
returns-in_err-push-clause-none_more g c = λ other none. record {
  each = (All-pop (λ popper. popper.queue ≢ other) _ _ (Some c.in-Some.popper) c.in-Some.ensures.items (c.loop-popper.invariant.2 other none).each).0;
}
