use Rattle.std.proofs.Common.{◌+◌, ◌-◌, refl, sym, ap, subst, ◌∙◌, arith}
use Rattle.task_frames.specs.declared.at_core.StagedTask.{StagedTask}
use Rattle.task_frames.specs.Frames.{FrameView}
use Rattle.task_frames.specs.Going.{IsNextDeed, IsNotServed, IsServedAnswer}
use Rattle.task_frames.proofs.Amid.{at-stage}
use Rattle.task_frames.proofs.Rounds.{begins, done-so, few-amid, few-ready, fuel-so, held-so, needs-amid, none-of, nothing-owed, rests, same-amid, same-ready, serves, some-of, stays, task-so, task-still, task-then, works-on, works-to}
use Rattle.task_frames.proofs.Served.{next-ask, room}
use Rattle.task_frames.proofs.frame.Frame.take_rounds.Goals as goal

pub loop-left-init : goal.loop-left-init
loop-left-init g c =
    let is = ap (λ (v : FrameView g.row.B.Denot g.row.B-Local.Denot g.row.Q-Ends.Denot). v.task) c.self.view_is in
    let at = ap (λ (st : StagedTask g.row.B.Denot g.row.B-Local.Denot). st.task) c.deref_mut-staged.ensures.value in
    record {
      boxed = refl;
      way = begins g.B.Body g.Q.Ends.LocalEnds.name g.Q.Ends.LocalEnds.run g.Q.Ends.LocalEnds.ends g.Q.Ends.LocalEnds.counts c.args.self.now c.args.most c.fuel-fuel.result c.args.local c.args.answer c.self.inside.ends (c.fuel-fuel.ensures ∙ fuel-so c.self.inside.staged.value.task c.self.inside.since c.args.self.now.task c.deref_mut-staged.result.now is at)
          (ap (λ (v : FrameView g.row.B.Denot g.row.B-Local.Denot g.row.Q-Ends.Denot). v.ends) c.self.view_is) c.requires.frame;
    }

pub invariant_of-self : goal.invariant_of-self
invariant_of-self g c =
    nothing-owed _ _ _ (ap (λ (st : StagedTask g.row.B.Denot g.row.B-Local.Denot). st.stage) (c.loop-left.invariant.boxed ∙ c.deref_mut-staged.ensures.value) ∙ ap (λ (v : FrameView g.row.B.Denot g.row.B-Local.Denot g.row.Q-Ends.Denot). v.stage) c.self.view_is ∙ c.requires.out) (ap (λ (v : FrameView g.row.B.Denot g.row.B-Local.Denot g.row.Q-Ends.Denot). v.mark) c.self.view_is ∙ c.requires.unmarked)

pub returns-in-Err-clause-same : goal.returns-in-Err-clause-same
returns-in-Err-clause-same g c =
    let is = ap (λ (v : FrameView g.row.B.Denot g.row.B-Local.Denot g.row.Q-Ends.Denot). v.task) c.self.view_is in
    let at = ap (λ (st : StagedTask g.row.B.Denot g.row.B-Local.Denot). st.task) (c.loop-left.invariant.boxed ∙ c.deref_mut-staged.ensures.value) in
    same-ready g.B.Body g.Q.Ends.LocalEnds.name g.Q.Ends.LocalEnds.run g.Q.Ends.LocalEnds.ends g.Q.Ends.LocalEnds.counts c.args.self.now c.args.most c.loop-left.left c.loop-left.fuel c.loop-left.local c.loop-left.answer c.loop-left.self-inside.1.1.1.1.0 c.loop-left.invariant.way c.args.self.now.task.done c.args.self.now.task.fuel _ refl (task-still c.self.inside.staged.value.task c.self.inside.since c.args.self.now.task c.loop-left.staged is at)

pub returns-in-Err-clause-torn : goal.returns-in-Err-clause-torn
returns-in-Err-clause-torn g c =
    (ap (λ (st : StagedTask g.row.B.Denot g.row.B-Local.Denot). st.stage) (c.loop-left.invariant.boxed ∙ c.deref_mut-staged.ensures.value) ∙ ap (λ (v : FrameView g.row.B.Denot g.row.B-Local.Denot g.row.Q-Ends.Denot). v.stage) c.self.view_is ∙ c.requires.out)

pub loop-left-preserved-in-None : goal.loop-left-preserved-in-None
loop-left-preserved-in-None g c =
    record {
      boxed = c.loop-left.invariant.boxed;
      way = works-on g.B.Body g.Q.Ends.LocalEnds.name g.Q.Ends.LocalEnds.run g.Q.Ends.LocalEnds.ends g.Q.Ends.LocalEnds.counts c.args.self.now c.args.body.now c.requires.body c.requires.begun c.args.most c.loop-left.left c.loop-left.fuel c.loop-left.local c.loop-left.answer c.loop-left.self-inside.1.1.1.1.0
          c.loop-left.invariant.way c.in-Ok.row.local c.in-Ok.row.works c.loop-left-test.true c.if-fuel-gt0.true c.in-Ok.ensures.works
          (none-of _ _ c.in-None.is c.in-Ok.ensures.all) (none-of _ _ c.in-None.is c.in-Ok.ensures.last);
    }

pub serve-requires-clause-room : goal.serve-requires-clause-room
serve-requires-clause-room g c κs within =
    let amid = works-to g.B.Body g.Q.Ends.LocalEnds.name g.Q.Ends.LocalEnds.run g.Q.Ends.LocalEnds.ends g.Q.Ends.LocalEnds.counts c.args.self.now c.args.body.now c.requires.body c.requires.begun c.args.most c.loop-left.left c.loop-left.fuel c.loop-left.local c.loop-left.answer c.loop-left.self-inside.1.1.1.1.0
    c.loop-left.invariant.way c.in-Ok.row.local c.in-Some.field-0.ask c.in-Ok.row.works c.in-Some.field-0.place c.in-Ok.ensures.works
    (some-of _ c.in-Some.field-0 _ c.in-Some.is c.in-Ok.ensures.stopped) (some-of _ c.in-Some.field-0 _ c.in-Some.is c.in-Ok.ensures.moved)
    (some-of _ c.in-Some.field-0 _ c.in-Some.is c.in-Ok.ensures.ask) (some-of _ c.in-Some.field-0 _ c.in-Some.is c.in-Ok.ensures.place) in
    room g.B.Body _ _ _ _ _ _ amid.is

pub serve-requires-clause-next : goal.serve-requires-clause-next
serve-requires-clause-next g c κs within =
    let is = ap (λ (v : FrameView g.row.B.Denot g.row.B-Local.Denot g.row.Q-Ends.Denot). v.task) c.self.view_is in
    let at = ap (λ (st : StagedTask g.row.B.Denot g.row.B-Local.Denot). st.task) (c.loop-left.invariant.boxed ∙ c.deref_mut-staged.ensures.value) in
    let amid = works-to g.B.Body g.Q.Ends.LocalEnds.name g.Q.Ends.LocalEnds.run g.Q.Ends.LocalEnds.ends g.Q.Ends.LocalEnds.counts c.args.self.now c.args.body.now c.requires.body c.requires.begun c.args.most c.loop-left.left c.loop-left.fuel c.loop-left.local c.loop-left.answer c.loop-left.self-inside.1.1.1.1.0
    c.loop-left.invariant.way c.in-Ok.row.local c.in-Some.field-0.ask c.in-Ok.row.works c.in-Some.field-0.place c.in-Ok.ensures.works
    (some-of _ c.in-Some.field-0 _ c.in-Some.is c.in-Ok.ensures.stopped) (some-of _ c.in-Some.field-0 _ c.in-Some.is c.in-Ok.ensures.moved)
    (some-of _ c.in-Some.field-0 _ c.in-Some.is c.in-Ok.ensures.ask) (some-of _ c.in-Some.field-0 _ c.in-Some.is c.in-Ok.ensures.place) in
    let held = c.holdings.ensures ∙ held-so c.self.inside.staged.value.task c.self.inside.since c.args.self.now.task c.loop-left.staged is at in
    subst (λ hs. IsNextDeed (g.Q.Ends.LocalEnds.name c.loop-left.self-inside.1.1.1.1.0) hs (g.Q.Ends.LocalEnds.ends c.loop-left.self-inside.1.1.1.1.0) c.in-Some.field-0.ask) (sym held)
    (next-ask g.B.Body _ _ _ _ _ _ amid.is)

pub overflow_sub-most : goal.overflow_sub-most
overflow_sub-most g c =
    let amid = works-to g.B.Body g.Q.Ends.LocalEnds.name g.Q.Ends.LocalEnds.run g.Q.Ends.LocalEnds.ends g.Q.Ends.LocalEnds.counts c.args.self.now c.args.body.now c.requires.body c.requires.begun c.args.most c.loop-left.left c.loop-left.fuel c.loop-left.local c.loop-left.answer c.loop-left.self-inside.1.1.1.1.0
    c.loop-left.invariant.way c.in-Ok.row.local c.in-Some.field-0.ask c.in-Ok.row.works c.in-Some.field-0.place c.in-Ok.ensures.works
    (some-of _ c.in-Some.field-0 _ c.in-Some.is c.in-Ok.ensures.stopped) (some-of _ c.in-Some.field-0 _ c.in-Some.is c.in-Ok.ensures.moved)
    (some-of _ c.in-Some.field-0 _ c.in-Some.is c.in-Ok.ensures.ask) (some-of _ c.in-Some.field-0 _ c.in-Some.is c.in-Ok.ensures.place) in
    amid.few

pub comes_to-requires-clause-few : goal.comes_to-requires-clause-few
comes_to-requires-clause-few g c κs within =
    let is = ap (λ (v : FrameView g.row.B.Denot g.row.B-Local.Denot g.row.Q-Ends.Denot). v.task) c.self.view_is in
    let at = ap (λ (st : StagedTask g.row.B.Denot g.row.B-Local.Denot). st.task) (c.loop-left.invariant.boxed ∙ c.deref_mut-staged.ensures.value) in
    let amid = works-to g.B.Body g.Q.Ends.LocalEnds.name g.Q.Ends.LocalEnds.run g.Q.Ends.LocalEnds.ends g.Q.Ends.LocalEnds.counts c.args.self.now c.args.body.now c.requires.body c.requires.begun c.args.most c.loop-left.left c.loop-left.fuel c.loop-left.local c.loop-left.answer c.loop-left.self-inside.1.1.1.1.0
    c.loop-left.invariant.way c.in-Ok.row.local c.in-Some.field-0.ask c.in-Ok.row.works c.in-Some.field-0.place c.in-Ok.ensures.works
    (some-of _ c.in-Some.field-0 _ c.in-Some.is c.in-Ok.ensures.stopped) (some-of _ c.in-Some.field-0 _ c.in-Some.is c.in-Ok.ensures.moved)
    (some-of _ c.in-Some.field-0 _ c.in-Some.is c.in-Ok.ensures.ask) (some-of _ c.in-Some.field-0 _ c.in-Some.is c.in-Ok.ensures.place) in
    let few = few-amid g.B.Body g.Q.Ends.LocalEnds.name g.Q.Ends.LocalEnds.run g.Q.Ends.LocalEnds.ends g.Q.Ends.LocalEnds.counts c.args.self.now c.args.most (c.loop-left.left - c.in-Ok.row.works) (c.loop-left.fuel - c.in-Ok.row.works - 1) c.in-Ok.row.local c.in-Some.field-0.ask c.in-Some.field-0.place c.loop-left.self-inside.1.1.1.1.0 amid in
    let done = done-so c.self.inside.staged.value.task c.self.inside.since c.args.self.now.task c.loop-left.staged is at in
    omega (arith, few, done)

pub overflow_sub-budget : goal.overflow_sub-budget
overflow_sub-budget g c =
    let amid = works-to g.B.Body g.Q.Ends.LocalEnds.name g.Q.Ends.LocalEnds.run g.Q.Ends.LocalEnds.ends g.Q.Ends.LocalEnds.counts c.args.self.now c.args.body.now c.requires.body c.requires.begun c.args.most c.loop-left.left c.loop-left.fuel c.loop-left.local c.loop-left.answer c.loop-left.self-inside.1.1.1.1.0
    c.loop-left.invariant.way c.in-Ok.row.local c.in-Some.field-0.ask c.in-Ok.row.works c.in-Some.field-0.place c.in-Ok.ensures.works
    (some-of _ c.in-Some.field-0 _ c.in-Some.is c.in-Ok.ensures.stopped) (some-of _ c.in-Some.field-0 _ c.in-Some.is c.in-Ok.ensures.moved)
    (some-of _ c.in-Some.field-0 _ c.in-Some.is c.in-Ok.ensures.ask) (some-of _ c.in-Some.field-0 _ c.in-Some.is c.in-Ok.ensures.place) in
    let few = amid.few in
    let most = c.requires.most in
    omega (arith, few, most)

pub invariant_of-self-in-None-serve : goal.invariant_of-self-in-None-serve
invariant_of-self-in-None-serve g c =
    let is = ap (λ (v : FrameView g.row.B.Denot g.row.B-Local.Denot g.row.Q-Ends.Denot). v.task) c.self.view_is in
    let at = ap (λ (st : StagedTask g.row.B.Denot g.row.B-Local.Denot). st.task) (c.loop-left.invariant.boxed ∙ c.deref_mut-staged.ensures.value) in
    let amid = works-to g.B.Body g.Q.Ends.LocalEnds.name g.Q.Ends.LocalEnds.run g.Q.Ends.LocalEnds.ends g.Q.Ends.LocalEnds.counts c.args.self.now c.args.body.now c.requires.body c.requires.begun c.args.most c.loop-left.left c.loop-left.fuel c.loop-left.local c.loop-left.answer c.loop-left.self-inside.1.1.1.1.0
    c.loop-left.invariant.way c.in-Ok.row.local c.in-Some.field-0.ask c.in-Ok.row.works c.in-Some.field-0.place c.in-Ok.ensures.works
    (some-of _ c.in-Some.field-0 _ c.in-Some.is c.in-Ok.ensures.stopped) (some-of _ c.in-Some.field-0 _ c.in-Some.is c.in-Ok.ensures.moved)
    (some-of _ c.in-Some.field-0 _ c.in-Some.is c.in-Ok.ensures.ask) (some-of _ c.in-Some.field-0 _ c.in-Some.is c.in-Ok.ensures.place) in
    at-stage g.B.Body c.comes_to.ensures (stays g.B.Body g.Q.Ends.LocalEnds.name g.Q.Ends.LocalEnds.run g.Q.Ends.LocalEnds.ends g.Q.Ends.LocalEnds.counts c.args.self.now c.args.most (c.loop-left.left - c.in-Ok.row.works) (c.loop-left.fuel - c.in-Ok.row.works - 1) c.in-Ok.row.local c.in-Some.field-0.ask c.in-Some.field-0.place c.loop-left.self-inside.1.1.1.1.0 amid c.serve.new.ask c.serve.new.ends c.in-None-serve.ensures.as_it_was c.in-None-serve.ensures.same.0 c.in-None-serve.ensures.same.1 c.in-None-serve.ensures.none _ (task-so c.self.inside.staged.value.task c.self.inside.since c.args.self.now.task c.loop-left.staged is at (c.args.most - (c.loop-left.left - c.in-Ok.row.works)) (c.loop-left.fuel - c.in-Ok.row.works - 1)))

pub returns-in-None-serve-clause-same : goal.returns-in-None-serve-clause-same
returns-in-None-serve-clause-same g c =
    let is = ap (λ (v : FrameView g.row.B.Denot g.row.B-Local.Denot g.row.Q-Ends.Denot). v.task) c.self.view_is in
    let at = ap (λ (st : StagedTask g.row.B.Denot g.row.B-Local.Denot). st.task) (c.loop-left.invariant.boxed ∙ c.deref_mut-staged.ensures.value) in
    let amid = works-to g.B.Body g.Q.Ends.LocalEnds.name g.Q.Ends.LocalEnds.run g.Q.Ends.LocalEnds.ends g.Q.Ends.LocalEnds.counts c.args.self.now c.args.body.now c.requires.body c.requires.begun c.args.most c.loop-left.left c.loop-left.fuel c.loop-left.local c.loop-left.answer c.loop-left.self-inside.1.1.1.1.0
    c.loop-left.invariant.way c.in-Ok.row.local c.in-Some.field-0.ask c.in-Ok.row.works c.in-Some.field-0.place c.in-Ok.ensures.works
    (some-of _ c.in-Some.field-0 _ c.in-Some.is c.in-Ok.ensures.stopped) (some-of _ c.in-Some.field-0 _ c.in-Some.is c.in-Ok.ensures.moved)
    (some-of _ c.in-Some.field-0 _ c.in-Some.is c.in-Ok.ensures.ask) (some-of _ c.in-Some.field-0 _ c.in-Some.is c.in-Ok.ensures.place) in
    same-amid g.B.Body g.Q.Ends.LocalEnds.name g.Q.Ends.LocalEnds.run g.Q.Ends.LocalEnds.ends g.Q.Ends.LocalEnds.counts c.args.self.now c.args.most (c.loop-left.left - c.in-Ok.row.works) (c.loop-left.fuel - c.in-Ok.row.works - 1) c.in-Ok.row.local c.in-Some.field-0.ask c.in-Some.field-0.place c.loop-left.self-inside.1.1.1.1.0 amid c.serve.new.ask c.serve.new.ends c.in-None-serve.ensures.as_it_was c.in-None-serve.ensures.same.0 c.in-None-serve.ensures.same.1 c.in-None-serve.ensures.none (c.args.self.now.task.done + (c.args.most - (c.loop-left.left - c.in-Ok.row.works))) (c.loop-left.fuel - c.in-Ok.row.works - 1) _ c.in-None-serve.ensures.later refl (task-then c.self.inside.staged.value.task c.self.inside.since c.args.self.now.task c.loop-left.staged is at (c.args.most - (c.loop-left.left - c.in-Ok.row.works)) (c.loop-left.fuel - c.in-Ok.row.works - 1) _ c.comes_to.new.staged c.comes_to.ensures)

pub returns-in-None-serve-clause-done : goal.returns-in-None-serve-clause-done
returns-in-None-serve-clause-done g c =
    let is = ap (λ (v : FrameView g.row.B.Denot g.row.B-Local.Denot g.row.Q-Ends.Denot). v.task) c.self.view_is in
    let at = ap (λ (st : StagedTask g.row.B.Denot g.row.B-Local.Denot). st.task) (c.loop-left.invariant.boxed ∙ c.deref_mut-staged.ensures.value) in
    let amid = works-to g.B.Body g.Q.Ends.LocalEnds.name g.Q.Ends.LocalEnds.run g.Q.Ends.LocalEnds.ends g.Q.Ends.LocalEnds.counts c.args.self.now c.args.body.now c.requires.body c.requires.begun c.args.most c.loop-left.left c.loop-left.fuel c.loop-left.local c.loop-left.answer c.loop-left.self-inside.1.1.1.1.0
    c.loop-left.invariant.way c.in-Ok.row.local c.in-Some.field-0.ask c.in-Ok.row.works c.in-Some.field-0.place c.in-Ok.ensures.works
    (some-of _ c.in-Some.field-0 _ c.in-Some.is c.in-Ok.ensures.stopped) (some-of _ c.in-Some.field-0 _ c.in-Some.is c.in-Ok.ensures.moved)
    (some-of _ c.in-Some.field-0 _ c.in-Some.is c.in-Ok.ensures.ask) (some-of _ c.in-Some.field-0 _ c.in-Some.is c.in-Ok.ensures.place) in
    let done = ap (λ (st : StagedTask g.row.B.Denot g.row.B-Local.Denot). st.task.done) c.comes_to.ensures in
    let was = done-so c.self.inside.staged.value.task c.self.inside.since c.args.self.now.task c.loop-left.staged is at in
    let few = amid.few in
    let most = c.requires.most in
    let count = c.of.ensures in
    omega (arith, done, was, few, most, count)

pub returns-in-None-serve-clause-at_core : goal.returns-in-None-serve-clause-at_core
returns-in-None-serve-clause-at_core g c =
    let amid = works-to g.B.Body g.Q.Ends.LocalEnds.name g.Q.Ends.LocalEnds.run g.Q.Ends.LocalEnds.ends g.Q.Ends.LocalEnds.counts c.args.self.now c.args.body.now c.requires.body c.requires.begun c.args.most c.loop-left.left c.loop-left.fuel c.loop-left.local c.loop-left.answer c.loop-left.self-inside.1.1.1.1.0
    c.loop-left.invariant.way c.in-Ok.row.local c.in-Some.field-0.ask c.in-Ok.row.works c.in-Some.field-0.place c.in-Ok.ensures.works
    (some-of _ c.in-Some.field-0 _ c.in-Some.is c.in-Ok.ensures.stopped) (some-of _ c.in-Some.field-0 _ c.in-Some.is c.in-Ok.ensures.moved)
    (some-of _ c.in-Some.field-0 _ c.in-Some.is c.in-Ok.ensures.ask) (some-of _ c.in-Some.field-0 _ c.in-Some.is c.in-Ok.ensures.place) in
    let few = amid.few in
    let some = amid.some in
    let most = c.requires.most in
    let count = c.of.ensures in
    omega (arith, few, some, most, count)

pub returns-in-None-serve-clause-cause : goal.returns-in-None-serve-clause-cause
returns-in-None-serve-clause-cause g c =
    let is = ap (λ (v : FrameView g.row.B.Denot g.row.B-Local.Denot g.row.Q-Ends.Denot). v.task) c.self.view_is in
    let at = ap (λ (st : StagedTask g.row.B.Denot g.row.B-Local.Denot). st.task) (c.loop-left.invariant.boxed ∙ c.deref_mut-staged.ensures.value) in
    let amid = works-to g.B.Body g.Q.Ends.LocalEnds.name g.Q.Ends.LocalEnds.run g.Q.Ends.LocalEnds.ends g.Q.Ends.LocalEnds.counts c.args.self.now c.args.body.now c.requires.body c.requires.begun c.args.most c.loop-left.left c.loop-left.fuel c.loop-left.local c.loop-left.answer c.loop-left.self-inside.1.1.1.1.0
    c.loop-left.invariant.way c.in-Ok.row.local c.in-Some.field-0.ask c.in-Ok.row.works c.in-Some.field-0.place c.in-Ok.ensures.works
    (some-of _ c.in-Some.field-0 _ c.in-Some.is c.in-Ok.ensures.stopped) (some-of _ c.in-Some.field-0 _ c.in-Some.is c.in-Ok.ensures.moved)
    (some-of _ c.in-Some.field-0 _ c.in-Some.is c.in-Ok.ensures.ask) (some-of _ c.in-Some.field-0 _ c.in-Some.is c.in-Ok.ensures.place) in
    let held = c.holdings.ensures ∙ held-so c.self.inside.staged.value.task c.self.inside.since c.args.self.now.task c.loop-left.staged is at in
    needs-amid g.B.Body g.Q.Ends.LocalEnds.name g.Q.Ends.LocalEnds.run g.Q.Ends.LocalEnds.ends g.Q.Ends.LocalEnds.counts c.args.self.now c.args.most (c.loop-left.left - c.in-Ok.row.works) (c.loop-left.fuel - c.in-Ok.row.works - 1) c.in-Ok.row.local c.in-Some.field-0.ask c.in-Some.field-0.place c.loop-left.self-inside.1.1.1.1.0 amid c.serve.new.ask c.serve.new.ends c.in-None-serve.ensures.as_it_was c.in-None-serve.ensures.same.0 c.in-None-serve.ensures.same.1 c.in-None-serve.ensures.none (c.args.self.now.task.done + (c.args.most - (c.loop-left.left - c.in-Ok.row.works))) (c.loop-left.fuel - c.in-Ok.row.works - 1) _ c.in-None-serve.ensures.later refl
    (task-then c.self.inside.staged.value.task c.self.inside.since c.args.self.now.task c.loop-left.staged is at (c.args.most - (c.loop-left.left - c.in-Ok.row.works)) (c.loop-left.fuel - c.in-Ok.row.works - 1) _ c.comes_to.new.staged c.comes_to.ensures) (ap (λ (st : StagedTask g.row.B.Denot g.row.B-Local.Denot). st.stage) c.comes_to.ensures)
    (subst (λ hs. IsNotServed hs (g.Q.Ends.LocalEnds.ends c.loop-left.self-inside.1.1.1.1.0) (g.Q.Ends.LocalEnds.counts c.loop-left.self-inside.1.1.1.1.0) (g.Q.Ends.LocalEnds.counts c.serve.new.ends) c.in-Some.field-0.ask) held c.in-None-serve.ensures.cause)

pub loop-left-preserved : goal.loop-left-preserved
loop-left-preserved g c =
    let is = ap (λ (v : FrameView g.row.B.Denot g.row.B-Local.Denot g.row.Q-Ends.Denot). v.task) c.self.view_is in
    let at = ap (λ (st : StagedTask g.row.B.Denot g.row.B-Local.Denot). st.task) (c.loop-left.invariant.boxed ∙ c.deref_mut-staged.ensures.value) in
    let amid = works-to g.B.Body g.Q.Ends.LocalEnds.name g.Q.Ends.LocalEnds.run g.Q.Ends.LocalEnds.ends g.Q.Ends.LocalEnds.counts c.args.self.now c.args.body.now c.requires.body c.requires.begun c.args.most c.loop-left.left c.loop-left.fuel c.loop-left.local c.loop-left.answer c.loop-left.self-inside.1.1.1.1.0
    c.loop-left.invariant.way c.in-Ok.row.local c.in-Some.field-0.ask c.in-Ok.row.works c.in-Some.field-0.place c.in-Ok.ensures.works
    (some-of _ c.in-Some.field-0 _ c.in-Some.is c.in-Ok.ensures.stopped) (some-of _ c.in-Some.field-0 _ c.in-Some.is c.in-Ok.ensures.moved)
    (some-of _ c.in-Some.field-0 _ c.in-Some.is c.in-Ok.ensures.ask) (some-of _ c.in-Some.field-0 _ c.in-Some.is c.in-Ok.ensures.place) in
    let held = c.holdings.ensures ∙ held-so c.self.inside.staged.value.task c.self.inside.since c.args.self.now.task c.loop-left.staged is at in
    record {
      boxed = c.loop-left.invariant.boxed;
      way = serves g.B.Body g.Q.Ends.LocalEnds.name g.Q.Ends.LocalEnds.run g.Q.Ends.LocalEnds.ends g.Q.Ends.LocalEnds.counts c.args.self.now c.requires.begun c.args.most (c.loop-left.left - c.in-Ok.row.works) (c.loop-left.fuel - c.in-Ok.row.works - 1) c.in-Ok.row.local c.in-Some.field-0.ask c.in-Some.field-0.place c.loop-left.self-inside.1.1.1.1.0 amid c.in-Some-serve.said c.serve.new.ends
          (subst (λ hs. IsServedAnswer (g.Q.Ends.LocalEnds.name c.loop-left.self-inside.1.1.1.1.0) hs (g.Q.Ends.LocalEnds.ends c.loop-left.self-inside.1.1.1.1.0) c.in-Some.field-0.ask c.in-Some-serve.said) held c.in-Some-serve.ensures.answer)
          c.in-Some-serve.ensures.same.0 c.in-Some-serve.ensures.same.1 c.in-Some-serve.ensures.some c.in-Some-serve.ensures.later;
    }

pub overflow_sub-most-2 : goal.overflow_sub-most-2
overflow_sub-most-2 g c =
    c.loop-left.invariant.way.few

pub comes_to-requires-2-clause-few : goal.comes_to-requires-2-clause-few
comes_to-requires-2-clause-few g c κs within =
    let is = ap (λ (v : FrameView g.row.B.Denot g.row.B-Local.Denot g.row.Q-Ends.Denot). v.task) c.self.view_is in
    let at = ap (λ (st : StagedTask g.row.B.Denot g.row.B-Local.Denot). st.task) (c.loop-left.invariant.boxed ∙ c.deref_mut-staged.ensures.value) in
    let few = few-ready g.B.Body g.Q.Ends.LocalEnds.name g.Q.Ends.LocalEnds.run g.Q.Ends.LocalEnds.ends g.Q.Ends.LocalEnds.counts c.args.self.now c.args.most c.loop-left.left c.loop-left.fuel c.loop-left.local c.loop-left.answer c.loop-left.self-inside.1.1.1.1.0 c.loop-left.invariant.way in
    let done = done-so c.self.inside.staged.value.task c.self.inside.since c.args.self.now.task c.loop-left.staged is at in
    omega (arith, few, done)

pub invariant_of-self-2 : goal.invariant_of-self-2
invariant_of-self-2 g c =
    let is = ap (λ (v : FrameView g.row.B.Denot g.row.B-Local.Denot g.row.Q-Ends.Denot). v.task) c.self.view_is in
    let at = ap (λ (st : StagedTask g.row.B.Denot g.row.B-Local.Denot). st.task) (c.loop-left.invariant.boxed ∙ c.deref_mut-staged.ensures.value) in
    at-stage g.B.Body c.comes_to-2.ensures (rests g.B.Body g.Q.Ends.LocalEnds.name g.Q.Ends.LocalEnds.run g.Q.Ends.LocalEnds.ends g.Q.Ends.LocalEnds.counts c.args.self.now c.args.most c.loop-left.left c.loop-left.fuel c.loop-left.local c.loop-left.answer c.loop-left.self-inside.1.1.1.1.0 c.loop-left.invariant.way _ (task-so c.self.inside.staged.value.task c.self.inside.since c.args.self.now.task c.loop-left.staged is at (c.args.most - c.loop-left.left) c.loop-left.fuel))

pub overflow_sub-budget-else-left-eq0 : goal.overflow_sub-budget-else-left-eq0
overflow_sub-budget-else-left-eq0 g c =
    let few = c.loop-left.invariant.way.few in
    let most = c.requires.most in
    omega (arith, few, most)

pub returns-then-left-eq0-clause-same : goal.returns-then-left-eq0-clause-same
returns-then-left-eq0-clause-same g c =
    let is = ap (λ (v : FrameView g.row.B.Denot g.row.B-Local.Denot g.row.Q-Ends.Denot). v.task) c.self.view_is in
    let at = ap (λ (st : StagedTask g.row.B.Denot g.row.B-Local.Denot). st.task) (c.loop-left.invariant.boxed ∙ c.deref_mut-staged.ensures.value) in
    same-ready g.B.Body g.Q.Ends.LocalEnds.name g.Q.Ends.LocalEnds.run g.Q.Ends.LocalEnds.ends g.Q.Ends.LocalEnds.counts c.args.self.now c.args.most c.loop-left.left c.loop-left.fuel c.loop-left.local c.loop-left.answer c.loop-left.self-inside.1.1.1.1.0 c.loop-left.invariant.way (c.args.self.now.task.done + (c.args.most - c.loop-left.left)) c.loop-left.fuel _ refl (task-then c.self.inside.staged.value.task c.self.inside.since c.args.self.now.task c.loop-left.staged is at (c.args.most - c.loop-left.left) c.loop-left.fuel _ c.comes_to-2.new.staged c.comes_to-2.ensures)

pub returns-then-left-eq0-clause-done : goal.returns-then-left-eq0-clause-done
returns-then-left-eq0-clause-done g c =
    let is = ap (λ (v : FrameView g.row.B.Denot g.row.B-Local.Denot g.row.Q-Ends.Denot). v.task) c.self.view_is in
    let at = ap (λ (st : StagedTask g.row.B.Denot g.row.B-Local.Denot). st.task) (c.loop-left.invariant.boxed ∙ c.deref_mut-staged.ensures.value) in
    let done = ap (λ (st : StagedTask g.row.B.Denot g.row.B-Local.Denot). st.task.done) c.comes_to-2.ensures in
    let was = done-so c.self.inside.staged.value.task c.self.inside.since c.args.self.now.task c.loop-left.staged is at in
    let few = c.loop-left.invariant.way.few in
    let most = c.requires.most in
    let count = c.of-then-left-eq0.ensures in
    let none = c.if-left-eq0.true in
    omega (arith, done, was, few, most, count, none)

pub returns-else-left-eq0-clause-same : goal.returns-else-left-eq0-clause-same
returns-else-left-eq0-clause-same g c =
    let is = ap (λ (v : FrameView g.row.B.Denot g.row.B-Local.Denot g.row.Q-Ends.Denot). v.task) c.self.view_is in
    let at = ap (λ (st : StagedTask g.row.B.Denot g.row.B-Local.Denot). st.task) (c.loop-left.invariant.boxed ∙ c.deref_mut-staged.ensures.value) in
    same-ready g.B.Body g.Q.Ends.LocalEnds.name g.Q.Ends.LocalEnds.run g.Q.Ends.LocalEnds.ends g.Q.Ends.LocalEnds.counts c.args.self.now c.args.most c.loop-left.left c.loop-left.fuel c.loop-left.local c.loop-left.answer c.loop-left.self-inside.1.1.1.1.0 c.loop-left.invariant.way (c.args.self.now.task.done + (c.args.most - c.loop-left.left)) c.loop-left.fuel _ refl (task-then c.self.inside.staged.value.task c.self.inside.since c.args.self.now.task c.loop-left.staged is at (c.args.most - c.loop-left.left) c.loop-left.fuel _ c.comes_to-2.new.staged c.comes_to-2.ensures)

pub returns-else-left-eq0-clause-done : goal.returns-else-left-eq0-clause-done
returns-else-left-eq0-clause-done g c =
    let is = ap (λ (v : FrameView g.row.B.Denot g.row.B-Local.Denot g.row.Q-Ends.Denot). v.task) c.self.view_is in
    let at = ap (λ (st : StagedTask g.row.B.Denot g.row.B-Local.Denot). st.task) (c.loop-left.invariant.boxed ∙ c.deref_mut-staged.ensures.value) in
    let done = ap (λ (st : StagedTask g.row.B.Denot g.row.B-Local.Denot). st.task.done) c.comes_to-2.ensures in
    let was = done-so c.self.inside.staged.value.task c.self.inside.since c.args.self.now.task c.loop-left.staged is at in
    let few = c.loop-left.invariant.way.few in
    let most = c.requires.most in
    let count = c.of-else-left-eq0.ensures in
    let none = c.if-left-eq0.false in
    omega (arith, done, was, few, most, count, none)

pub returns-else-left-eq0-clause-at_core : goal.returns-else-left-eq0-clause-at_core
returns-else-left-eq0-clause-at_core g c =
    let few = c.loop-left.invariant.way.few in
    let most = c.requires.most in
    let count = c.of-else-left-eq0.ensures in
    let some = c.if-left-eq0.false in
    omega (arith, few, most, count, some)
