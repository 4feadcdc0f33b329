use Rattle.std.proofs.Common.{◌∙◌}
use Rattle.std.proofs.lemmas.Result.{err_from_is_err_and, IfOk-weaker, IfErr-weaker}
use Rattle.job_body.specs.contracts.body.JobBodyBody.TheImpl.{ghosts}
use Rattle.swan_top.specs.Elisions.{end_by}
use Rattle.swan_top.proofs.Leading.{refused_run, unread_run, ran_run}
use Rattle.swan_top.proofs.TextsRead.{Is-map, Stops-map}
use Rattle.swan_top.proofs.settle.settle_run.Goals as goal

pub returns-in_err-job-clause-err : goal.returns-in_err-job-clause-err
returns-in_err-job-clause-err g c =
    let p = err_from_is_err_and c.from_residual-in_err-job.result c.from_residual-in_err-job.ensures.1 in
    rw (p.1, p.2) (refused_run _ c.args.job.now c.in_ok-text.text.items c.in_ok-text.ensures.read (end_by ghosts c.args.way) c.args.fuel c.args.inputs.now c.in_ok-text.ensures.no_fault c.in_ok-text.ensures.no_long_read _ c.in_err-job.ensures.refused)

pub returns-in_err-inputs-clause-err : goal.returns-in_err-inputs-clause-err
returns-in_err-inputs-clause-err g c =
    let p = err_from_is_err_and c.from_residual-in_err-inputs.result c.from_residual-in_err-inputs.ensures.1 in
    rw (p.1, p.2) (unread_run _ c.args.job.now c.in_ok-text.text.items c.in_ok-text.ensures.read (end_by ghosts c.args.way) c.args.fuel c.args.inputs.now _ c.in_ok-job.ensures.job
    (g.F.Files.content c.read_file.new.files) c.read_file.ensures.contents_kept _ _ c.in_ok-text.ensures.no_fault c.in_ok-text.ensures.no_long_read _ c.in_err-inputs.ensures.refused)

pub returns-clause-ok : goal.returns-clause-ok
returns-clause-ok g c =
    IfOk-weaker c.run_job.result _ _ (Is-map _ _ (ran_run _ c.args.job.now c.in_ok-text.text.items c.in_ok-text.ensures.read (end_by ghosts c.args.way) c.args.fuel c.args.inputs.now _ c.in_ok-job.ensures.job
    (g.F.Files.content c.read_file.new.files) c.read_file.ensures.contents_kept (c.in_ok-inputs.ensures.no_fault ∙ c.in_ok-text.ensures.no_fault) (c.in_ok-inputs.ensures.no_long_read ∙ c.in_ok-text.ensures.no_long_read) c.in_ok-inputs.inputs.items c.in_ok-inputs.ensures.read c.in_ok-inputs.ensures.all)) c.run_job.ensures.ran

pub returns-clause-err : goal.returns-clause-err
returns-clause-err g c =
    IfErr-weaker c.run_job.result _ _ (Stops-map (Unit {0}) _ _ _ (λ _. (c.in_ok-inputs.ensures.no_fault ∙ c.in_ok-text.ensures.no_fault, c.in_ok-inputs.ensures.no_long_read ∙ c.in_ok-text.ensures.no_long_read)) (ran_run _ c.args.job.now c.in_ok-text.text.items c.in_ok-text.ensures.read (end_by ghosts c.args.way) c.args.fuel c.args.inputs.now _ c.in_ok-job.ensures.job
    (g.F.Files.content c.read_file.new.files) c.read_file.ensures.contents_kept (c.in_ok-inputs.ensures.no_fault ∙ c.in_ok-text.ensures.no_fault) (c.in_ok-inputs.ensures.no_long_read ∙ c.in_ok-text.ensures.no_long_read) c.in_ok-inputs.inputs.items c.in_ok-inputs.ensures.read c.in_ok-inputs.ensures.all)) c.run_job.ensures.refused
