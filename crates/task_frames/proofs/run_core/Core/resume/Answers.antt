use Rattle.std.proofs.Common.{refl, sym, subst, ap, ◌∙◌, Some}
use Rattle.task_frames.specs.Cores.{CoreView, IsCore}
use Rattle.task_frames.specs.Frames.{TaskView}
use Rattle.task_frames.specs.Resumes.{IsLast, OnGoneOn, ends_of}
use Rattle.task_frames.proofs.Answered.{gone-on, resumed-so, step-core, waits-earlier}
use Rattle.task_frames.proofs.run_core.Core.resume.Goals as goal

pub take_in-requires-clause-core : goal.take_in-requires-clause-core
take_in-requires-clause-core g c κs within =
    let is = c.in-Some.is in
    let plan = c.requires.name.0 ∙ ap (λ (v : CoreView g.row.B.Denot g.row.B-Local.Denot). v.plan) (sym c.self.view_is) in
    subst (λ p. IsCore g.B.Body p c.in-Some.kept) (sym plan) (c.self.invariant.0 c.in-Some.kept is).0

pub take_in-requires-clause-run : goal.take_in-requires-clause-run
take_in-requires-clause-run g c κs within =
    let is = c.in-Some.is in
    c.requires.name.1 ∙ ap (λ (v : CoreView g.row.B.Denot g.row.B-Local.Denot). v.run) (sym c.self.view_is) ∙ sym (c.self.invariant.0 c.in-Some.kept is).1

pub invariant_of-self-in-Err : goal.invariant_of-self-in-Err
invariant_of-self-in-Err g c =
    let is = c.in-Some.is in
    (λ x same. c.self.invariant.0 x (is ∙ ap Some (sym c.in-Err.ensures.err) ∙ same), c.self.invariant.1, c.self.invariant.2)

pub answer-resumed-requires-clause-core : goal.answer-resumed-requires-clause-core
answer-resumed-requires-clause-core g c κs within =
    let View : Type 0 = CoreView g.row.B.Denot g.row.B-Local.Denot in
    let plan = ap (λ (t : TaskView g.row.B.Denot g.row.B-Local.Denot). t.plan) c.in-Ok.ensures.task ∙ c.requires.name.0 ∙ ap (λ (v : View). v.plan) (sym c.self.view_is) in
    subst (λ p. IsCore g.B.Body p c.step.new.self) plan (step-core g.B.Body _ _ _ c.in-Ok-step.step c.in-Ok-step.ensures.step)

pub returns-in-Ok-step-clause-resumed : goal.returns-in-Ok-step-clause-resumed
returns-in-Ok-step-clause-resumed g c =
    let View : Type 0 = CoreView g.row.B.Denot g.row.B-Local.Denot in
    let is = c.in-Some.is in
    let runs = c.answer-resumed.ensures.run ∙ c.in-Ok-step.ensures.run ∙ c.in-Ok.ensures.run in
    resumed-so g.B.Body (ends_of g.Q.Ends.LocalEnds) c.args.self.now _ c.args.frame c.in-Ok.at c.in-Some.kept c.take_in.new.self c.step.new.self c.answer-resumed.new.self
    (ap (λ (v : View). v.kept) (sym c.self.view_is) ∙ is) refl
    (c.requires.name.0 ∙ ap (λ (v : View). v.plan) (sym c.self.view_is)) (runs ∙ (c.self.invariant.0 c.in-Some.kept is).1) c.in-Ok.ensures.task c.in-Ok.ensures.come c.take_in.ensures.others
    _ c.in-Ok-step.step c.answer-resumed.result c.in-Ok-step.ensures.step c.answer-resumed.ensures.answered

pub returns-in-Ok-step-clause-gone_on : goal.returns-in-Ok-step-clause-gone_on
returns-in-Ok-step-clause-gone_on g c =
    subst (λ task. OnGoneOn c.answer-resumed.result (¬ IsLast g.B.Body task)) c.in-Ok.ensures.task
    (gone-on g.row.Q.Denot g.B.Body (ends_of g.Q.Ends.LocalEnds) c.take_in.new.self c.step.new.self c.answer-resumed.new.self _ c.in-Ok-step.step c.answer-resumed.result
    c.in-Ok-step.ensures.step c.answer-resumed.ensures.answered)

pub returns-in-Ok-step-clause-earlier : goal.returns-in-Ok-step-clause-earlier
returns-in-Ok-step-clause-earlier g c =
    waits-earlier g.row.Q.Denot g.B.Body (ends_of g.Q.Ends.LocalEnds) c.take_in.new.self c.step.new.self c.answer-resumed.new.self
    (record c.args.self.now { kept = Some c.answer-resumed.new.self }) _ c.in-Ok-step.step c.answer-resumed.result refl
    c.in-Ok-step.ensures.step c.answer-resumed.ensures.answered
