use Rattle.std.proofs.Common.{◌∙◌}
use Rattle.job_body.proofs.Rows.{one-step}
use Rattle.job_body.proofs.run.step.Goals as goal

pub returns : goal.returns
returns c =
    c.last_of.ensures
    ∙ one-step c.args.program.now c.args.local c.args.answer c.args.fuel _ c.in_ok-steps.ensures.works c.in_ok-steps.ensures.all c.in_ok-steps.ensures.last c.in_ok-steps.ensures.stopped c.in_ok-steps.ensures.moved c.in_ok-steps.ensures.ask
