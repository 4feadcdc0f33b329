use Rattle.std.proofs.Common.{sym, subst}
use Rattle.swan_model.specs.declared.fault.FaultKind.TheVariants as kind
use Rattle.task_frames.specs.Cores.{FrameAtCoreView}
use Rattle.std.specs.Prelude.{IfOk}
use Rattle.task_frames.specs.Resumes.{EndsTaskByFault, IsStep}
use Rattle.task_frames.proofs.Asked.{refused-so}
use Rattle.task_frames.proofs.kept.Kept.refuse.Goals as goal

pub fault-requires-clause-faults : goal.fault-requires-clause-faults
fault-requires-clause-faults g c κs within =
    subst (λ (f : FrameAtCoreView g.row.B.Denot g.row.B-Local.Denot). EndsTaskByFault g.B.Body f.task c.at-at.result kind.Privilege) (sym c.asks.ensures)
    (subst (λ n. EndsTaskByFault g.B.Body c.args.mid.task n kind.Privilege) (sym c.at-at.ensures) (refused-so g.B.Body _ _ _ c.requires.has c.requires.refused))

pub returns-clause-step : goal.returns-clause-step
returns-clause-step g c =
    subst (λ (f : FrameAtCoreView g.row.B.Denot g.row.B-Local.Denot). IfOk c.fault.result (IsStep g.B.Body c.args.self.now c.fault.new.self f.task)) c.asks.ensures c.fault.ensures.step
