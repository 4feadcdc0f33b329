use Rattle.std.proofs.lemmas.Result.{err_from_is_err_and, IfOk-weaker, IfErr-weaker}
use Rattle.swan_top.proofs.Leading.{refused_check, accepted_check}
use Rattle.swan_top.proofs.TextsRead.{Is-map, Stops-map}
use Rattle.swan_top.proofs.settle.settle_check.Goals as goal

pub returns-in_err-job-clause-err : goal.returns-in_err-job-clause-err
returns-in_err-job-clause-err g c =
    let p = err_from_is_err_and c.from_residual-in_err-job.result c.from_residual-in_err-job.ensures.1 in
    rw (p.1, p.2) (refused_check _ c.args.job.now c.in_ok-text.text.items c.in_ok-text.ensures.read c.in_ok-text.ensures.no_fault c.in_ok-text.ensures.no_long_read _ c.in_err-job.ensures.refused)

pub returns-clause-ok : goal.returns-clause-ok
returns-clause-ok g c =
    IfOk-weaker c.settle_checked.result _ _ (Is-map _ _ (accepted_check _ c.args.job.now c.in_ok-text.text.items c.in_ok-text.ensures.read c.in_ok-text.ensures.no_fault c.in_ok-text.ensures.no_long_read _ c.in_ok-job.ensures.job)) c.settle_checked.ensures.ok

pub returns-clause-err : goal.returns-clause-err
returns-clause-err g c =
    IfErr-weaker c.settle_checked.result _ _ (Stops-map (Unit {0}) _ _ _ (λ _. (c.in_ok-text.ensures.no_fault, c.in_ok-text.ensures.no_long_read)) (accepted_check _ c.args.job.now c.in_ok-text.text.items c.in_ok-text.ensures.read c.in_ok-text.ensures.no_fault c.in_ok-text.ensures.no_long_read _ c.in_ok-job.ensures.job)) c.settle_checked.ensures.err
