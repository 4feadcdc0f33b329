use Rattle.std.proofs.Common.{rules, ◌∙◌, ap, length, subst, sym}
use Rattle.std.proofs.lemmas.Result.{IfOk-weaker}
use Rattle.swan_model.specs.declared.outcome.Outcome.{Outcome}
use Rattle.swan_runtime.specs.Workers.{AreWorkers, OneHasMet, AreWorkersOfPlan}
use Rattle.serial_elision.proofs.Counts.{length-outcome_objects, length-outcome_queues}
use Rattle.swan_runtime.proofs.Crews.{driven_run, driven_workers, one_has_met, written}
use Rattle.swan_runtime.proofs.threads.run.Goals as goal

pub close-requires-clause-workers : goal.close-requires-clause-workers
close-requires-clause-workers g c κs within =
    let was = subst (AreWorkers _) (sym c.as_mut_slice.ensures.value) c.in_ok-workers.ensures.workers in
    subst (AreWorkers _) (sym (written _ c.drive_all.new.workers _ (search rules) (c.drive_all.ensures.count ∙ ap length c.as_mut_slice.ensures.value)))
    (driven_workers _ _ _ was c.drive_all.ensures.count c.drive_all.ensures.driven)

pub close-requires-clause-met : goal.close-requires-clause-met
close-requires-clause-met g c κs within =
    let was = subst (AreWorkers _) (sym c.as_mut_slice.ensures.value) c.in_ok-workers.ensures.workers in
    subst OneHasMet (sym (written _ c.drive_all.new.workers _ (search rules) (c.drive_all.ensures.count ∙ ap length c.as_mut_slice.ensures.value)))
    (one_has_met _ _ _ was.some c.drive_all.ensures.count c.drive_all.ensures.driven)

pub returns-clause-outcome : goal.returns-clause-outcome
returns-clause-outcome g c = c.close.ensures.outcome c.args.plan
    (subst (AreWorkersOfPlan c.args.plan) (sym (written _ c.drive_all.new.workers _ (search rules) (c.drive_all.ensures.count ∙ ap length c.as_mut_slice.ensures.value)))
    (driven_run _ c.args.plan _ _ c.drive_all.ensures.count c.drive_all.ensures.driven (subst (AreWorkersOfPlan c.args.plan) (sym c.as_mut_slice.ensures.value) c.in_ok-workers.ensures.plan)))

pub returns-clause-script : goal.returns-clause-script
returns-clause-script g c = c.close.ensures.script c.args.plan
    (subst (AreWorkersOfPlan c.args.plan) (sym (written _ c.drive_all.new.workers _ (search rules) (c.drive_all.ensures.count ∙ ap length c.as_mut_slice.ensures.value)))
    (driven_run _ c.args.plan _ _ c.drive_all.ensures.count c.drive_all.ensures.driven (subst (AreWorkersOfPlan c.args.plan) (sym c.as_mut_slice.ensures.value) c.in_ok-workers.ensures.plan)))

pub returns-clause-queues : goal.returns-clause-queues
returns-clause-queues g c =
    IfOk-weaker c.close.result _ _ (λ ran is. ap (λ (o : Outcome). length o.queues) is ∙ length-outcome_queues g.B.Body c.args.plan) (returns-clause-outcome g c)

pub returns-clause-objects : goal.returns-clause-objects
returns-clause-objects g c =
    IfOk-weaker c.close.result _ _ (λ ran is. ap (λ (o : Outcome). length o.objects) is ∙ length-outcome_objects g.B.Body c.args.plan) (returns-clause-outcome g c)
