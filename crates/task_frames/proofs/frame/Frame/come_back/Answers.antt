use Rattle.std.proofs.Common.{◌≡◌, Some, sym, subst, ap, ◌∙◌}
use Rattle.swan_model.specs.Lawful.{IsLawful}
use Rattle.swan_model.specs.QueueFollows.{AreByEnds}
use Rattle.swan_model.specs.QueueState.{active}
use Rattle.queues.specs.Asks.{OnNext}
use Rattle.task_frames.specs.Frames.{FrameView, IsFrame, TaskView}
use Rattle.std.specs.Option.{unwrap_or}
use Rattle.swan_model.specs.declared.body.Answer.TheVariants.{Start}
use Rattle.task_frames.specs.declared.stage.Stage.TheVariants.{Ready}
use Rattle.task_frames.specs.declared.at_core.StagedTask.{StagedTask}
use Rattle.swan_model.proofs.Elements.{some_of}
use Rattle.task_frames.proofs.frame.Frame.come_back.Goals as goal

pub back-requires-clause-path : goal.back-requires-clause-path
back-requires-clause-path g c = λ s named own live.
    let View : Type 0 = FrameView g.row.B.Denot g.row.B-Local.Denot g.row.Q-Ends.Denot in
    let whole = some_of c.self.inside.staged.value.stage (c.self.invariant.1 (ap (λ (f : View). f.mark) c.self.view_is ∙ c.requires.mark)) in
    let path = subst (λ (f : View). OnNext (g.Q.Queues.name c.args.queues.now) (g.Q.Queues.state c.args.queues.now) f.task.number (λ z x. f.task.path ≡ x.path)) (sym c.self.view_is) c.requires.path in
    let number = c.number-number.ensures.number ∙ ap (λ (st : StagedTask g.row.B.Denot g.row.B-Local.Denot). st.task.number) c.deref.ensures in
    (c.self.invariant.0 whole.0 whole.1).lent.path ∙ path s named own (subst (λ n. active (g.Q.Queues.state c.args.queues.now) n ≡ Some own) number live)

pub invariant_of-result-in-Err : goal.invariant_of-result-in-Err
invariant_of-result-in-Err g c =
    let task : TaskView g.row.B.Denot g.row.B-Local.Denot = record c.self.inside.staged.value.task { since = c.self.inside.since } in (
      (λ x is. subst (λ e. IsFrame g.B.Body task (g.Q.Ends.LocalEnds.name e) (g.Q.Ends.LocalEnds.ends e) x) (sym c.in-Err.ensures.handed_back) (c.self.invariant.0 x is)),
      c.self.invariant.1,
    )

pub invariant_of-result : goal.invariant_of-result
invariant_of-result g c = c.self.invariant.1 (ap (λ (f : FrameView g.row.B.Denot g.row.B-Local.Denot g.row.Q-Ends.Denot). f.mark) c.self.view_is ∙ c.requires.mark)

pub returns-in-Ok-clause-is : goal.returns-in-Ok-clause-is
returns-in-Ok-clause-is g c =
    let View : Type 0 = FrameView g.row.B.Denot g.row.B-Local.Denot g.row.Q-Ends.Denot in
    let whole = some_of c.self.inside.staged.value.stage (c.self.invariant.1 (ap (λ (f : View). f.mark) c.self.view_is ∙ c.requires.mark)) in
    let first = Ready c.self.inside.staged.value.task.plan.root_local Start in
    let stage = ap (λ o. unwrap_or o first) whole.1 in
    subst (λ (f : View). IsFrame g.B.Body f.task (g.Q.Ends.LocalEnds.name f.ends) (g.Q.Ends.LocalEnds.ends f.ends) (unwrap_or c.self.inside.staged.value.stage first))
    c.self.view_is
    (subst (λ x. IsFrame g.B.Body (record c.self.inside.staged.value.task { since = c.self.inside.since }) (g.Q.Ends.LocalEnds.name c.self.inside.ends) (g.Q.Ends.LocalEnds.ends c.self.inside.ends) x) (sym stage)
    (c.self.invariant.0 whole.0 whole.1))

pub returns-in-Ok-clause-by_ends : goal.returns-in-Ok-clause-by_ends
returns-in-Ok-clause-by_ends g c =
    let View : Type 0 = FrameView g.row.B.Denot g.row.B-Local.Denot g.row.Q-Ends.Denot in
    subst (λ (f : View). OnNext (g.Q.Queues.name c.args.queues.now) (g.Q.Queues.state c.args.queues.now) f.task.number (λ s x. IsLawful s → AreByEnds s x.path x.deeds (g.Q.Ends.LocalEnds.ends f.ends).deeds))
    c.self.view_is
    (subst (λ n. OnNext (g.Q.Queues.name c.args.queues.now) (g.Q.Queues.state c.args.queues.now) n (λ s x. IsLawful s → AreByEnds s x.path x.deeds (g.Q.Ends.LocalEnds.ends c.self.inside.ends).deeds))
    (c.number-number.ensures.number ∙ ap (λ (st : StagedTask g.row.B.Denot g.row.B-Local.Denot). st.task.number) c.deref.ensures) c.in-Ok.ensures.by_ends)

pub returns-in-Ok-clause-task : goal.returns-in-Ok-clause-task
returns-in-Ok-clause-task g c =
    let View : Type 0 = FrameView g.row.B.Denot g.row.B-Local.Denot g.row.Q-Ends.Denot in
    let since = subst (λ (st : StagedTask g.row.B.Denot g.row.B-Local.Denot). st.task.since ≡ st.task.done) c.deref.ensures c.number-number.ensures.since in
    ap (λ n. record c.self.inside.staged.value.task { since = n }) since ∙ ap (λ (f : View). record f.task { since = f.task.done }) c.self.view_is
