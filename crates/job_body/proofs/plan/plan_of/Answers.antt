use Rattle.std.proofs.Common.{rules, ◌≡◌, List, sym, subst}
use Rattle.job_reader.specs.declared.line.Line.{Line}
use Rattle.swan_model.specs.declared.plan.Plan.{Plan}
use Rattle.job_body.specs.PlanOfJob.{plan_of_job}
use Rattle.job_body.specs.RightsKept.{KeepsRights}
use Rattle.job_body.specs.Standing.{Standing}
use Rattle.job_body.specs.contracts.body.JobBodyBody.TheImpl.{ghosts}
use Rattle.job_body.proofs.RightsRuns.{rights-kept}
use Rattle.job_body.proofs.plan.plan_of.Goals as goal

pub returns-clause-rights : goal.returns-clause-rights
returns-clause-rights c =
    let plan : Plan (List Line) Standing = record { body = c.in_ok-body.body; root_local = c.in_ok-root_local.root_local; roots = c.in_ok-roots.roots; fuel = c.new-2.result } in
    let is : plan ≡ plan_of_job c.args.job c.args.inputs.items c.args.fuel = search rules in
    subst (KeepsRights ghosts) (sym is) (rights-kept c.args.job c.args.inputs.items c.args.fuel c.lines.ensures.job c.lines.ensures.faultless)
