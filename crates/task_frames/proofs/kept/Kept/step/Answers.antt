use Rattle.std.proofs.Common.{sym, subst, ap, ◌∙◌}
use Rattle.task_frames.specs.Cores.{FrameAtCoreView, HasIt}
use Rattle.std.specs.Prelude.{IfOk}
use Rattle.task_frames.specs.Resumes.{IsStep}
use Rattle.task_frames.proofs.kept.Kept.step.Goals as goal

pub ask-requires-clause-has : goal.ask-requires-clause-has
ask-requires-clause-has g c κs within =
    let frame = subst (HasIt g.B.Body c.args.self.now) c.apart-staged.ensures c.requires.has in
    subst (λ s. HasIt g.B.Body c.args.self.now (record { task = c.apart-staged.result.0.value.task; stage = s })) c.in-Ready.is frame

pub ask-requires-clause-body : goal.ask-requires-clause-body
ask-requires-clause-body g c κs within = c.requires.body ∙ ap (λ (f : FrameAtCoreView g.row.B.Denot g.row.B-Local.Denot). f.task.plan.body) c.apart-staged.ensures

pub returns-in-Asking-clause-step : goal.returns-in-Asking-clause-step
returns-in-Asking-clause-step g c =
    subst (λ (f : FrameAtCoreView g.row.B.Denot g.row.B-Local.Denot). IfOk c.take.result (IsStep g.B.Body c.args.self.now c.take.new.self f.task)) (sym c.apart-staged.ensures) c.take.ensures.step

pub returns-in-Ready-clause-step : goal.returns-in-Ready-clause-step
returns-in-Ready-clause-step g c =
    subst (λ (f : FrameAtCoreView g.row.B.Denot g.row.B-Local.Denot). IfOk c.ask.result (IsStep g.B.Body c.args.self.now c.ask.new.self f.task)) (sym c.apart-staged.ensures) c.ask.ensures.step
