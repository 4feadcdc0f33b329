use Rattle.std.proofs.Common.{subst, sym}
use Rattle.task_frames.specs.Resumes.{ends_of}
use Rattle.swan_runtime.specs.Shared.{AreOfRun}
use Rattle.swan_runtime.proofs.Waking.{appended}
use Rattle.swan_runtime.proofs.sleepers.Sleepers.wakes_all.Goals as goal

pub returns-in_err-append-clause-ready : goal.returns-in_err-append-clause-ready
returns-in_err-append-clause-ready g c = λ plan run sleepers ready.
    subst (AreOfRun (ends_of g.Q.Ends.LocalEnds) plan run) (sym c.in_err-append.ensures.items) (c.wakes_poppers.ensures.ready plan run sleepers ready)

pub returns-clause-ready : goal.returns-clause-ready
returns-clause-ready g c = λ plan run sleepers ready.
    let of = ends_of g.Q.Ends.LocalEnds in
    subst (AreOfRun of plan run) (sym c.in_ok-append.ensures.items)
    (appended of plan run _ _ (c.wakes_poppers.ensures.ready plan run sleepers ready) (c.wakes_poppers.ensures.own plan run sleepers).at_end)
