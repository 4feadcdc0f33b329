use Rattle.std.proofs.Common.{◌<◌, Some, sym, ap, subst, ◌∙◌, arith}
use Rattle.task_frames.specs.declared.at_core.StagedTask.{StagedTask}
use Rattle.task_frames.specs.declared.stage.Stage.TheVariants.{Asking, Ready}
use Rattle.task_frames.specs.Frames.{FrameView, IsFrame, TaskView}
use Rattle.task_frames.specs.Going.{IsNextDeed, IsServedAnswer}
use Rattle.task_frames.proofs.Amid.{at-stage, few}
use Rattle.task_frames.proofs.Same.{at-core-later, at-core-still}
use Rattle.task_frames.proofs.Served.{next-ask, room, same-ends, served}
use Rattle.task_frames.proofs.frame.Frame.run_on.Goals as goal

pub take_rounds-requires-clause-frame : goal.take_rounds-requires-clause-frame
take_rounds-requires-clause-frame g c κs within =
    let is = c.deref_mut-staged.ensures.value in
    let was = sym c.take.ensures.value ∙ c.in-Some-Ready.is ∙ ap Some c.in-Some-Ready.field-0-is in
    let at = sym (ap (λ (st : StagedTask g.row.B.Denot g.row.B-Local.Denot). st.stage) is) ∙ was in
    let own = subst (λ (st : StagedTask g.row.B.Denot g.row.B-Local.Denot). IsFrame g.B.Body (record st.task { since = c.self.inside.since }) (g.Q.Ends.LocalEnds.name c.self.inside.ends) (g.Q.Ends.LocalEnds.ends c.self.inside.ends)
    (Ready c.in-Some-Ready.local c.in-Some-Ready.answer)) (sym is) (c.self.invariant.0 _ at) in
    own

pub serve-requires-clause-room : goal.serve-requires-clause-room
serve-requires-clause-room g c κs within =
    let is = c.deref_mut-staged.ensures.value in
    let was = sym c.take.ensures.value ∙ c.in-Some-Asking.is ∙ ap Some c.in-Some-Asking.field-0-is in
    let at = sym (ap (λ (st : StagedTask g.row.B.Denot g.row.B-Local.Denot). st.stage) is) ∙ was in
    room g.B.Body _ _ _ c.in-Some-Asking.local c.in-Some-Asking.ask c.in-Some-Asking.place (c.self.invariant.0 _ at)

pub serve-requires-clause-next : goal.serve-requires-clause-next
serve-requires-clause-next g c κs within =
    let is = c.deref_mut-staged.ensures.value in
    let was = sym c.take.ensures.value ∙ c.in-Some-Asking.is ∙ ap Some c.in-Some-Asking.field-0-is in
    let at = sym (ap (λ (st : StagedTask g.row.B.Denot g.row.B-Local.Denot). st.stage) is) ∙ was in
    let held = c.holdings.ensures ∙ ap (λ (st : StagedTask g.row.B.Denot g.row.B-Local.Denot). st.task.holdings) is in
    subst (λ hs. IsNextDeed (g.Q.Ends.LocalEnds.name c.self.inside.ends) hs (g.Q.Ends.LocalEnds.ends c.self.inside.ends) c.in-Some-Asking.ask) (sym held)
    (next-ask g.B.Body _ _ _ c.in-Some-Asking.local c.in-Some-Asking.ask c.in-Some-Asking.place (c.self.invariant.0 _ at))

pub takes_step-requires-clause-few : goal.takes_step-requires-clause-few
takes_step-requires-clause-few g c κs within =
    let is = c.deref_mut-staged.ensures.value in
    let was = sym c.take.ensures.value ∙ c.in-Some-Asking.is ∙ ap Some c.in-Some-Asking.field-0-is in
    let at = sym (ap (λ (st : StagedTask g.row.B.Denot g.row.B-Local.Denot). st.stage) is) ∙ was in
    let less = few g.B.Body _ _ _ _ (c.self.invariant.0 _ at) in
    let same = ap (λ (st : StagedTask g.row.B.Denot g.row.B-Local.Denot). st.task.done) is in
    omega (arith, less, same)

pub take_rounds-requires-in-Some-clause-frame : goal.take_rounds-requires-in-Some-clause-frame
take_rounds-requires-in-Some-clause-frame g c κs within =
    let View : Type 0 = FrameView g.row.B.Denot g.row.B-Local.Denot g.row.Q-Ends.Denot in
    let is = c.deref_mut-staged.ensures.value in
    let was = sym c.take.ensures.value ∙ c.in-Some-Asking.is ∙ ap Some c.in-Some-Asking.field-0-is in
    let at = sym (ap (λ (st : StagedTask g.row.B.Denot g.row.B-Local.Denot). st.stage) is) ∙ was in
    let own = subst (λ (st : StagedTask g.row.B.Denot g.row.B-Local.Denot). IsFrame g.B.Body (record st.task { since = c.self.inside.since }) (g.Q.Ends.LocalEnds.name c.self.inside.ends) (g.Q.Ends.LocalEnds.ends c.self.inside.ends)
    (Asking c.in-Some-Asking.local c.in-Some-Asking.ask c.in-Some-Asking.place)) (sym is) (c.self.invariant.0 _ at) in
    let begun = subst (λ (st : StagedTask g.row.B.Denot g.row.B-Local.Denot). 0 < st.task.done) (sym is) (subst (λ (v : View). 0 < v.task.done) (sym c.self.view_is) c.requires.begun) in
    let says = subst (λ hs. IsServedAnswer (g.Q.Ends.LocalEnds.name c.self.inside.ends) hs (g.Q.Ends.LocalEnds.ends c.self.inside.ends) c.in-Some-Asking.ask c.in-Some.said) c.holdings.ensures c.in-Some.ensures.answer in
    let then = served g.B.Body _ _ _ c.in-Some-Asking.local c.in-Some-Asking.ask c.in-Some-Asking.place c.in-Some.said _ _ own begun says c.in-Some.ensures.same.0 c.in-Some.ensures.some in
    subst (λ (t : TaskView g.row.B.Denot g.row.B-Local.Denot). IsFrame g.B.Body (record t { since = c.self.inside.since }) (g.Q.Ends.LocalEnds.name c.serve.new.ends) (g.Q.Ends.LocalEnds.ends c.serve.new.ends)
    (Ready c.in-Some-Asking.local c.in-Some.said)) (sym c.takes_step.ensures) then

pub invariant_of-self-in-None-serve : goal.invariant_of-self-in-None-serve
invariant_of-self-in-None-serve g c =
    let is = c.deref_mut-staged.ensures.value in
    let was = sym c.take.ensures.value ∙ c.in-Some-Asking.is ∙ ap Some c.in-Some-Asking.field-0-is in
    let at = sym (ap (λ (st : StagedTask g.row.B.Denot g.row.B-Local.Denot). st.stage) is) ∙ was in
    let own = subst (λ (st : StagedTask g.row.B.Denot g.row.B-Local.Denot). IsFrame g.B.Body (record st.task { since = c.self.inside.since }) (g.Q.Ends.LocalEnds.name c.self.inside.ends) (g.Q.Ends.LocalEnds.ends c.self.inside.ends)
    (Asking c.in-Some-Asking.local c.in-Some-Asking.ask c.in-Some-Asking.place)) (sym is) (c.self.invariant.0 _ at) in
    at-stage g.B.Body c.stands.ensures
    (same-ends g.B.Body _ _ _ c.in-Some-Asking.local c.in-Some-Asking.ask c.in-Some-Asking.place c.serve.new.ask _ _ own c.in-None-serve.ensures.as_it_was c.in-None-serve.ensures.same.0 c.in-None-serve.ensures.none)

pub returns-in-Some-Ready-clause-cause : goal.returns-in-Some-Ready-clause-cause
returns-in-Some-Ready-clause-cause g c =
    at-core-still g.Q.Ends.LocalEnds.name g.Q.Ends.LocalEnds.run g.Q.Ends.LocalEnds.ends g.Q.Ends.LocalEnds.counts c.take_rounds.result c.args.self.now _ c.take_rounds.new.self
    (ap (λ (v : FrameView g.row.B.Denot g.row.B-Local.Denot g.row.Q-Ends.Denot). v.ends) c.self.view_is) c.take_rounds.ensures.same c.take_rounds.ensures.cause

pub returns-in-Some-clause-cause : goal.returns-in-Some-clause-cause
returns-in-Some-clause-cause g c =
    at-core-later g.Q.Ends.LocalEnds.name g.Q.Ends.LocalEnds.run g.Q.Ends.LocalEnds.ends g.Q.Ends.LocalEnds.counts c.take_rounds-in-Some.result c.args.self.now _ c.take_rounds-in-Some.new.self c.self.inside.ends _
    (ap (λ (v : FrameView g.row.B.Denot g.row.B-Local.Denot g.row.Q-Ends.Denot). v.ends) c.self.view_is) c.in-Some.ensures.some c.in-Some.ensures.later c.take_rounds-in-Some.ensures.same c.take_rounds-in-Some.ensures.cause
