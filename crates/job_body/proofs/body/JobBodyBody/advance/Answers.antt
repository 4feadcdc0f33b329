use Rattle.std.proofs.Common.{◌≡◌, IfOk, List, ◌∙◌, ap, subst}
use Rattle.swan_model.specs.declared.body.Ask.{Ask}
use Rattle.job_body.specs.declared.instruction.Instruction.{Instruction}
use Rattle.job_body.specs.Compiled.{program_of}
use Rattle.job_body.specs.Runs.{next_by}
use Rattle.job_body.specs.Standing.{Standing}
use Rattle.job_body.proofs.Steps.{next-program}
use Rattle.job_body.proofs.body.JobBodyBody.advance.Goals as goal

pub returns : goal.returns
returns c =
    let OfProgram : List Instruction → Type 0 = λ program. IfOk c.step.result (λ r. ◌≡◌ {A = Standing × Ask Standing} (r.0, r.1) (next_by program c.args.local c.args.answer c.args.fuel)) in
    let Is : Standing × Ask Standing → Type 0 = λ next. IfOk c.step.result (λ r. ◌≡◌ {A = Standing × Ask Standing} (r.0, r.1) next) in
    subst Is (next-program c.args.self.now c.args.local c.args.answer c.args.fuel)
    (subst OfProgram (c.self.invariant ∙ ap program_of c.self.view_is) c.step.ensures)
