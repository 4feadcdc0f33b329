use Rattle.std.proofs.Common.{subst, sym}
use Rattle.task_frames.specs.Resumes.{ends_of}
use Rattle.swan_runtime.specs.Shared.{AreOfRun}
use Rattle.swan_runtime.proofs.Waking.{none, pushed, that_one}
use Rattle.swan_runtime.proofs.trying.has_spawned.Goals as goal

pub returns-in_err-enter-clause-kept : goal.returns-in_err-enter-clause-kept
returns-in_err-enter-clause-kept g c =
    let of = ends_of g.Q.Ends.LocalEnds in
    record {
      asleep = λ plan run new are. c.enter.ensures.kept.asleep plan run (none of plan run) are;
      ready = λ plan run new are ready. c.enter.ensures.kept.ready plan run (none of plan run) are ready;
    }

pub returns-in_err-push-clause-kept : goal.returns-in_err-push-clause-kept
returns-in_err-push-clause-kept g c =
    let of = ends_of g.Q.Ends.LocalEnds in
    record {
      asleep = λ plan run new are. c.enter.ensures.kept.asleep plan run (none of plan run) are;
      ready = λ plan run new are ready. subst (AreOfRun of plan run) (sym c.in_err-push.ensures.items) (c.enter.ensures.kept.ready plan run (none of plan run) are ready);
    }

pub returns-clause-kept : goal.returns-clause-kept
returns-clause-kept g c =
    let of = ends_of g.Q.Ends.LocalEnds in
    record {
      asleep = λ plan run new are. c.enter.ensures.kept.asleep plan run (none of plan run) are;
      ready = λ plan run new are ready.
          subst (AreOfRun of plan run) (sym c.in_ok-push.ensures.items)
          (pushed of plan run c.enter.new.ready.items c.args.parent (c.enter.ensures.kept.ready plan run (none of plan run) are ready) (that_one of plan run c.args.parent new));
    }
