use Rattle.std.proofs.Common.{◌≡◌, IfOk, [], codes, ap, subst, ◌∙◌}
use Rattle.job_body.specs.Compiled.{program_of}
use Rattle.job_body.specs.Runs.{begun_in}
use Rattle.job_body.specs.Standing.{Standing}
use Rattle.job_body.specs.Steps.{begun}
use Rattle.job_body.specs.Tasks.{task_index}
use Rattle.job_body.proofs.Programs.{begun-named}
use Rattle.job_body.proofs.body.JobBody.main.Goals as goal

pub returns : goal.returns
returns c =
    let Is : Standing → Type 0 = λ standing. IfOk c.begin.result (λ local. local ≡ standing) in
    let lines : c.lines.result.now ≡ c.args.self.now = c.lines.ensures.lines ∙ c.self.view_is in
    let index : c.new-main.result ≡ task_index c.args.self.now (codes "main") =
    c.new-main.ensures ∙ c.main_index.ensures.index ∙ ap (λ job. task_index job (codes "main")) lines in
    let begins : begun_in c.self.inside.program c.new-main.result c.new.result.items ≡ begun c.args.self.now (task_index c.args.self.now (codes "main")) [] =
    ap (λ program. begun_in program c.new-main.result c.new.result.items) (c.self.invariant ∙ ap program_of c.self.view_is)
    ∙ ap (λ i. begun_in (program_of c.args.self.now) i c.new.result.items) index
    ∙ ap (λ values. begun_in (program_of c.args.self.now) (task_index c.args.self.now (codes "main")) values) c.new.ensures.items
    ∙ begun-named c.args.self.now (codes "main") [] in
    subst Is begins c.begin.ensures
