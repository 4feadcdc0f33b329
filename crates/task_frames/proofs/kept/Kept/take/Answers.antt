use Rattle.std.proofs.Common.{sym, subst}
use Rattle.swan_model.specs.declared.fault.FaultKind.TheVariants as kind
use Rattle.serial_elision.proofs.AskSteps.{fails}
use Rattle.task_frames.specs.Cores.{FrameAtCoreView, HasIt, asking}
use Rattle.std.specs.Prelude.{IfOk}
use Rattle.task_frames.specs.Resumes.{EndsTaskByFault, IsStep}
use Rattle.task_frames.proofs.Asked.{ends-by}
use Rattle.task_frames.proofs.Goings.{is-asking}
use Rattle.task_frames.proofs.kept.Kept.take.Goals as goal

pub fault-requires-clause-faults : goal.fault-requires-clause-faults
fault-requires-clause-faults g c κs within =
    let has = subst (λ a. HasIt g.B.Body c.args.self.now (asking c.args.mid a)) c.in-Fail.is c.requires.has in
    subst (λ (f : FrameAtCoreView g.row.B.Denot g.row.B-Local.Denot). EndsTaskByFault g.B.Body f.task c.at-at.result (kind.Trouble c.in-Fail.trouble)) (sym c.asks.ensures)
    (subst (λ n. EndsTaskByFault g.B.Body c.args.mid.task n (kind.Trouble c.in-Fail.trouble)) (sym c.at-at.ensures)
    (ends-by g.B.Body _ _ _ has (kind.Trouble c.in-Fail.trouble)
    (fails g.B.Body c.args.mid.task.plan c.args.mid.task.path c.args.mid.task.done has.is.alone.top c.args.mid.local c.in-Fail.trouble (is-asking g.B.Body _ _ _ has c.requires.begun))))

pub returns-in-Fail-clause-step : goal.returns-in-Fail-clause-step
returns-in-Fail-clause-step g c =
    subst (λ (f : FrameAtCoreView g.row.B.Denot g.row.B-Local.Denot). IfOk c.fault.result (IsStep g.B.Body c.args.self.now c.fault.new.self f.task)) c.asks.ensures c.fault.ensures.step
