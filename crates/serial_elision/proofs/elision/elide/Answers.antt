use Rattle.std.proofs.Common.{◌≡◌, ◌≤◌, ◌+◌, suc, ◌∙◌, sym, subst, refl, arith, ap, [], map, take, length}
use Rattle.swan_model.specs.Elision.{final, most_steps}
use Rattle.swan_model.specs.SerialState.{Cell, Queue, State}
use Rattle.serial_elision.specs.Bounds.{MayFail}
use Rattle.serial_elision.proofs.FewFailed.{serial-may_fail}
use Rattle.serial_elision.proofs.Counts.{length-outcome_queues, length-outcome_objects}
use Rattle.serial_elision.specs.Working.{after_steps}
use Rattle.serial_elision.proofs.Finals.{final-past, final-empty, le-most}
use Rattle.serial_elision.proofs.Runs.{outcome-final, serial-more}
use Rattle.serial_elision.proofs.elision.elide.Goals as goal
use Rattle.serial_elision.proofs.elision.elide.Goals.{else-loop-turn-test, then-loop-turn-test+then-is_over}

pub turn-requires-clause-steps : goal.turn-requires-clause-steps
turn-requires-clause-steps g c = omega (arith, le-most g.B.Body c.args.plan c.loop-turn.invariant.steps, ap (λ s. s.steps) c.loop-turn.invariant.now)

pub turn-requires-clause-stack : goal.turn-requires-clause-stack
turn-requires-clause-stack g c =
    λ κs live. subst (λ (s : State g.row.B-Local.Denot). MayFail s.stack) (sym c.loop-turn.invariant.now) (serial-may_fail g.B.Body c.args.plan c.loop-turn.invariant.steps (omega (arith, c.units.ensures.units, c.units.ensures.most)))

pub returns-clause-outcome : goal.returns-clause-outcome
returns-clause-outcome g c =
    let plan = c.args.plan in
    let last : c.loop-turn.state ≡ final g.B.Body plan = elim c.loop-turn-test.branch [
      | else-loop-turn-test w ↦
          let past : most_steps plan ≤ c.loop-turn.invariant.steps = omega (arith, c.loop-turn.invariant.turns) in
          c.loop-turn.invariant.now ∙ final-past g.B.Body plan c.loop-turn.invariant.steps past
      | then-loop-turn-test+then-is_over w ↦
          let over : c.loop-turn.state.stack ≡ [] = w.if-is_over.ensures.0 refl in
          c.loop-turn.invariant.now ∙ final-empty g.B.Body plan c.loop-turn.invariant.steps (ap (λ s. s.stack) (sym c.loop-turn.invariant.now) ∙ over)
    ] in
    let objects = c.in_ok-first_values.ensures
    ∙ ap (λ n. map (λ (cell : Cell). cell.value) (take n c.store.inside.cells.items)) (c.len-objects.ensures ∙ ap length c.objects.ensures.objects)
    ∙ ap (λ store. map (λ (cell : Cell). cell.value) (take (length plan.roots.objects) store.cells)) c.store.view_is in
    let queues = c.in_ok-first_items.ensures
    ∙ ap (λ n. map (λ (queue : Queue). queue.items) (take n c.store.inside.queues.items)) (c.len-queues.ensures ∙ ap length c.queues.ensures.queues)
    ∙ ap (λ store. map (λ (queue : Queue). queue.items) (take (length plan.roots.queues) store.queues)) c.store.view_is in
    outcome-final g.B.Body plan _ _ _ (c.state-2.view_is ∙ last) objects queues

pub returns-clause-queues : goal.returns-clause-queues
returns-clause-queues g c =
    ap (λ left. length left.queues) (returns-clause-outcome g c) ∙ length-outcome_queues g.B.Body c.args.plan

pub returns-clause-objects : goal.returns-clause-objects
returns-clause-objects g c =
    ap (λ left. length left.objects) (returns-clause-outcome g c) ∙ length-outcome_objects g.B.Body c.args.plan

pub loop-turn-preserved : goal.loop-turn-preserved
loop-turn-preserved g c =
    let plan = c.args.plan in
    let n = c.in_ok-turn.ensures.0 in
    let k = c.loop-turn.invariant.steps in
    record {
      steps = k + suc n;
      now = c.in_ok-turn.ensures.1 ∙ ap (λ s. after_steps g.B.Body plan.body s (suc n)) c.loop-turn.invariant.now ∙ serial-more g.B.Body plan k (suc n);
      turns = omega (arith, c.loop-turn.invariant.turns);
    }
