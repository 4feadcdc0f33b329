use Rattle.std.proofs.Common.{◌≡◌, [], ◌∷◌, IfErr, ap, subst, ◌∙◌}
use Rattle.std.proofs.lemmas.Result.{err_from_is_err_and, IfOk-weaker, IfErr-weaker}
use Rattle.std.specs.Prelude.{IfOk}
use Rattle.job_body.specs.contracts.body.JobBodyBody.TheImpl.{ghosts}
use Rattle.swan_top.specs.Decision.{ran}
use Rattle.swan_top.specs.Elisions.{cheapest, end_by}
use Rattle.swan_top.specs.Settled.{Is, Stops}
use Rattle.swan_top.specs.declared.way.Way.{Way}
use Rattle.swan_top.proofs.Generated.{ran_bulk, refused_bulk}
use Rattle.swan_top.proofs.TextsRead.{Is-map, Stops-map}
use Rattle.swan_top.proofs.settle.settle_bulk.Goals as goal

pub returns-in_err-job-clause-err : goal.returns-in_err-job-clause-err
returns-in_err-job-clause-err g c =
    let p = err_from_is_err_and c.from_residual-in_err-job.result c.from_residual-in_err-job.ensures.1 in
    rw (p.1, p.2) (refused_bulk (end_by ghosts (cheapest c.args.workers)) c.args.number c.args.size c.in_ok-bulk_job.field-0.items c.in_ok-bulk_job.ensures _ c.in_err-job.ensures.refused)

pub returns-clause-ok : goal.returns-clause-ok
returns-clause-ok g c =
    let P : Way → Type 0 = λ taken. IfOk c.run_job.result (Is (λ verdict. verdict ≡ ran (end_by ghosts taken) c.in_ok-job.job c.in_ok-inputs.inputs.items c.bulk_fuel.result)) in
    IfOk-weaker c.run_job.result _ _ (Is-map _ _ (ran_bulk (end_by ghosts (cheapest c.args.workers)) c.args.number c.args.size c.in_ok-bulk_job.field-0.items c.in_ok-bulk_job.ensures c.in_ok-inputs.inputs.items
    (c.in_ok-inputs.ensures.items ∙ ap (λ text. text ∷ []) (c.new.ensures ∙ c.in_ok-bulk_input.ensures)) c.bulk_fuel.result c.bulk_fuel.ensures _ c.in_ok-job.ensures.job)) (subst P c.cheapest.ensures c.run_job.ensures.ran)

pub returns-clause-err : goal.returns-clause-err
returns-clause-err g c =
    let P : Way → Type 0 = λ taken. IfErr c.run_job.result (Stops (λ verdict. verdict ≡ ran (end_by ghosts taken) c.in_ok-job.job c.in_ok-inputs.inputs.items c.bulk_fuel.result)) in
    IfErr-weaker c.run_job.result _ _ (Stops-map (Unit {0}) (Unit {0}) _ _ (λ _. tt) (ran_bulk (end_by ghosts (cheapest c.args.workers)) c.args.number c.args.size c.in_ok-bulk_job.field-0.items c.in_ok-bulk_job.ensures c.in_ok-inputs.inputs.items
    (c.in_ok-inputs.ensures.items ∙ ap (λ text. text ∷ []) (c.new.ensures ∙ c.in_ok-bulk_input.ensures)) c.bulk_fuel.result c.bulk_fuel.ensures _ c.in_ok-job.ensures.job)) (subst P c.cheapest.ensures c.run_job.ensures.refused)
