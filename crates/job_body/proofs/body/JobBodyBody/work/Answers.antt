use Rattle.std.proofs.Common.{◌≡◌, ℕ, ◌+◌, suc, IfOk, IfNone, IfSome, ◌∙◌, ap, subst}
use Rattle.swan_model.specs.declared.body.Ask.{Ask}
use Rattle.swan_model.specs.declared.body.Answer.{Answer}
use Rattle.swan_model.specs.Work.{ask_after, AreWork, local_after}
use Rattle.job_body.specs.Compiled.{program_of}
use Rattle.job_body.specs.Runs.{next_by}
use Rattle.job_body.specs.Standing.{Standing}
use Rattle.job_body.specs.Steps.{next}
use Rattle.job_body.proofs.Rows.{next-is}
use Rattle.job_body.proofs.body.JobBodyBody.work.Goals as goal

abbrev Next : Type 0
Next = Standing → Answer → ℕ → Standing × Ask Standing

pub returns-clause-works : goal.returns-clause-works
returns-clause-works c =
    let e : ◌≡◌ {A = Next} (next_by c.self.inside.program) (next c.args.self.now) = ap next_by (c.self.invariant ∙ ap program_of c.self.view_is) ∙ next-is c.args.self.now in
    subst (λ (step : Next). IfOk c.work.result (λ w. AreWork step c.args.local c.args.answer c.args.fuel w.works)) e c.work.ensures.works

pub returns-clause-last : goal.returns-clause-last
returns-clause-last c =
    let e : ◌≡◌ {A = Next} (next_by c.self.inside.program) (next c.args.self.now) = ap next_by (c.self.invariant ∙ ap program_of c.self.view_is) ∙ next-is c.args.self.now in
    subst (λ (step : Next). IfOk c.work.result (λ w. IfNone w.stop (w.local ≡ local_after step c.args.local c.args.answer c.args.fuel w.works))) e c.work.ensures.last

pub returns-clause-moved : goal.returns-clause-moved
returns-clause-moved c =
    let e : ◌≡◌ {A = Next} (next_by c.self.inside.program) (next c.args.self.now) = ap next_by (c.self.invariant ∙ ap program_of c.self.view_is) ∙ next-is c.args.self.now in
    subst (λ (step : Next). IfOk c.work.result (λ w. IfSome w.stop (λ stop. w.local ≡ local_after step c.args.local c.args.answer c.args.fuel (suc w.works)))) e c.work.ensures.moved

pub returns-clause-ask : goal.returns-clause-ask
returns-clause-ask c =
    let e : ◌≡◌ {A = Next} (next_by c.self.inside.program) (next c.args.self.now) = ap next_by (c.self.invariant ∙ ap program_of c.self.view_is) ∙ next-is c.args.self.now in
    subst (λ (step : Next). IfOk c.work.result (λ w. IfSome w.stop (λ stop. stop.ask ≡ ask_after step c.args.local c.args.answer c.args.fuel w.works))) e c.work.ensures.ask

pub returns-clause-place : goal.returns-clause-place
returns-clause-place c =
    let e : ◌≡◌ {A = Next} (next_by c.self.inside.program) (next c.args.self.now) = ap next_by (c.self.invariant ∙ ap program_of c.self.view_is) ∙ next-is c.args.self.now in
    subst (λ (step : Next). IfOk c.work.result (λ w. IfSome w.stop (λ stop. stop.place ≡ (local_after step c.args.local c.args.answer c.args.fuel w.works).at + 1))) e c.work.ensures.place
