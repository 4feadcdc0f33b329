use Rattle.std.proofs.Common.{IfErr, subst}
use Rattle.std.proofs.lemmas.Result.{IfOk-weaker, IfErr-weaker}
use Rattle.std.specs.Prelude.{IfOk}
use Rattle.record_pipeline.specs.Plans.{record_plan}
use Rattle.record_pipeline.specs.contracts.body.RecordBodyBody.TheImpl.{ghosts}
use Rattle.swan_top.specs.Elisions.{cheapest, end_by}
use Rattle.swan_top.specs.Settled.{Is, RanOrRefused, Stops}
use Rattle.swan_top.specs.declared.way.Way.{Way}
use Rattle.swan_top.proofs.Leading.{ran_text}
use Rattle.swan_top.proofs.TextsRead.{Is-map, Stops-map}
use Rattle.swan_top.proofs.settle.settle_convert.Goals as goal

pub returns-clause-ok : goal.returns-clause-ok
returns-clause-ok g c =
    let P : Way → Type 0 = λ taken. IfOk c.run_text.result (Is (RanOrRefused (end_by ghosts taken) c.in_ok-names.names c.record_plan-plan.result)) in
    IfOk-weaker c.run_text.result _ _ (Is-map _ _ (ran_text (end_by ghosts (cheapest c.args.workers)) record_plan c.in_ok-text.text.items c.as_slice.result.now c.as_slice.ensures.value _ c.args.input.now c.in_ok-text.ensures.read c.in_ok-text.ensures.no_fault c.in_ok-text.ensures.no_long_read
    c.record_plan-plan.result c.in_ok-names.names c.in_ok-names.ensures c.record_plan-plan.ensures.plan c.record_plan-plan.ensures.accepted c.record_plan-plan.ensures.refused)) (subst P c.cheapest.ensures c.run_text.ensures.ran)

pub returns-clause-err : goal.returns-clause-err
returns-clause-err g c =
    let P : Way → Type 0 = λ taken. IfErr c.run_text.result (Stops (RanOrRefused (end_by ghosts taken) c.in_ok-names.names c.record_plan-plan.result)) in
    IfErr-weaker c.run_text.result _ _ (Stops-map (Unit {0}) _ _ _ (λ _. (c.in_ok-text.ensures.no_fault, c.in_ok-text.ensures.no_long_read)) (ran_text (end_by ghosts (cheapest c.args.workers)) record_plan c.in_ok-text.text.items c.as_slice.result.now c.as_slice.ensures.value _ c.args.input.now c.in_ok-text.ensures.read c.in_ok-text.ensures.no_fault c.in_ok-text.ensures.no_long_read
    c.record_plan-plan.result c.in_ok-names.names c.in_ok-names.ensures c.record_plan-plan.ensures.plan c.record_plan-plan.ensures.accepted c.record_plan-plan.ensures.refused)) (subst P c.cheapest.ensures c.run_text.ensures.refused)
