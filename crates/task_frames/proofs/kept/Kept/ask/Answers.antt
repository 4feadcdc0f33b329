use Rattle.std.proofs.Common.{rules, sym, subst, ap, ◌∙◌, ◌-◌, arith}
use Rattle.task_frames.specs.Cores.{FrameAtCoreView, HasIt, asking}
use Rattle.task_frames.specs.declared.at_core.StagedTask.{StagedTask}
use Rattle.task_frames.specs.Frames.{TaskView}
use Rattle.std.proofs.lemmas.Result.{IfOk-weaker}
use Rattle.std.specs.Prelude.{IfOk}
use Rattle.swan_model.specs.declared.fault.FaultKind.TheVariants as kind
use Rattle.task_frames.specs.Resumes.{EndsTaskByFault, IsStep}
use Rattle.task_frames.proofs.Tried.{dry-ends, has-asked, paid-step}
use Rattle.task_frames.proofs.kept.Kept.ask.Goals as goal

pub fault-requires-clause-faults : goal.fault-requires-clause-faults
fault-requires-clause-faults g c κs within =
    let fuel = c.fuel-fuel.ensures ∙ ap (λ (st : StagedTask g.row.B.Denot g.row.B-Local.Denot). st.task.fuel) c.deref.ensures in
    subst (λ (f : FrameAtCoreView g.row.B.Denot g.row.B-Local.Denot). EndsTaskByFault g.B.Body f.task c.place-at.result kind.Fuel) (sym c.of.ensures)
    (dry-ends g.B.Body c.args.self.now c.args.staged.value.task c.args.local c.args.answer c.requires.has c.place-at.result
    (sym fuel ∙ c.if-fuel-eq0.true)
    (c.place-at.ensures ∙ ap (λ b. g.B.Body.place_of b c.args.local) c.requires.body))

pub take-requires-clause-has : goal.take-requires-clause-has
take-requires-clause-has g c κs within =
    let paid = c.pays-left.ensures.paid ∙ ap (λ (st : StagedTask g.row.B.Denot g.row.B-Local.Denot). record st.task { fuel = st.task.fuel - 1 }) c.deref_mut.ensures.value in
    let left = c.pays-left.ensures.fuel ∙ ap (λ (st : StagedTask g.row.B.Denot g.row.B-Local.Denot). st.task.fuel - 1) c.deref_mut.ensures.value in
    let asked = has-asked g.B.Body c.args.self.now c.args.staged.value.task c.args.local c.args.answer c.requires.has c.place-at.result c.in_ok-local.local c.in_ok-local.ask (search (rules, arith))
    (c.place-at.ensures ∙ ap (λ b. g.B.Body.place_of b c.args.local) c.requires.body)
    (c.in_ok-local.ensures ∙ ap (λ b. g.B.Body.next b c.args.local c.args.answer c.pays-left.result) c.requires.body
    ∙ ap (g.B.Body.next c.args.staged.value.task.plan.body c.args.local c.args.answer) left) in
    subst (λ t. HasIt g.B.Body c.args.self.now (asking (record { task = t; local = c.in_ok-local.local; at = c.place-at.result }) c.in_ok-local.ask)) (sym paid) asked

pub returns-then-fuel-eq0-clause-step : goal.returns-then-fuel-eq0-clause-step
returns-then-fuel-eq0-clause-step g c =
    subst (λ (t : TaskView g.row.B.Denot g.row.B-Local.Denot). IfOk c.fault.result (IsStep g.B.Body c.args.self.now c.fault.new.self t)) (ap (λ (f : FrameAtCoreView g.row.B.Denot g.row.B-Local.Denot). f.task) c.of.ensures) c.fault.ensures.step

pub returns-clause-step : goal.returns-clause-step
returns-clause-step g c =
    let t = c.args.staged.value.task in
    let paid = c.pays-left.ensures.paid ∙ ap (λ (st : StagedTask g.row.B.Denot g.row.B-Local.Denot). record st.task { fuel = st.task.fuel - 1 }) c.deref_mut.ensures.value in
    IfOk-weaker c.take.result _ _
    (λ its so. paid-step g.B.Body c.args.self.now c.take.new.self t (t.fuel - 1) its (subst (λ u. IsStep g.B.Body c.args.self.now c.take.new.self u its) paid so)) c.take.ensures.step
