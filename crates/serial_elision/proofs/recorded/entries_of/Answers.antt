use Rattle.std.proofs.Common.{◌≡◌, ◌≤◌, ◌∙◌, refl, sym, subst, arith, ap, []}
use Rattle.swan_model.specs.Elision.{most_steps}
use Rattle.swan_model.specs.Script.{entries, next_entry}
use Rattle.swan_model.specs.SerialState.{State}
use Rattle.swan_model.specs.SerialStep.{step}
use Rattle.serial_elision.specs.Bounds.{MayFail}
use Rattle.serial_elision.proofs.FewFailed.{serial-may_fail}
use Rattle.serial_elision.proofs.Runs.{le-serial}
use Rattle.serial_elision.proofs.Scripts.{entries-last, entries_add_one}
use Rattle.serial_elision.proofs.StepLaws.{serial_add_one}
use Rattle.serial_elision.proofs.recorded.entries_of.Goals as goal
use Rattle.serial_elision.proofs.recorded.entries_of.Goals.{else-loop-turn-test, then-loop-turn-test+then-is_over}

pub record_step-requires-clause-steps : goal.record_step-requires-clause-steps
record_step-requires-clause-steps g c = omega (arith, le-serial g.B.Body c.args.plan c.loop-turn._turn, ap (λ s. s.steps) c.loop-turn.invariant.state)

pub record_step-requires-clause-stack : goal.record_step-requires-clause-stack
record_step-requires-clause-stack g c =
    λ κs live. subst (λ (s : State g.row.B-Local.Denot). MayFail s.stack) (sym c.loop-turn.invariant.state) (serial-may_fail g.B.Body c.args.plan c.loop-turn._turn (omega (arith, c.units.ensures.units, c.units.ensures.most)))

pub loop-turn-preserved : goal.loop-turn-preserved
loop-turn-preserved g c =
    let plan = c.args.plan in
    let turn = c.loop-turn._turn in
    let now = c.loop-turn.invariant.state in
    let stepped = ap (step g.B.Body plan.body) now in
    let told = ap (next_entry g.B.Body plan.body) now in
    let one_state = serial_add_one g.B.Body plan turn in
    let one_entry = entries_add_one g.B.Body plan turn in
    record {
      state = cc (c.in_ok-record_step.ensures.state);
      entries = cc (c.in_ok-record_step.ensures.entry, c.loop-turn.invariant.entries);
    }

pub returns : goal.returns
returns g c =
    let plan = c.args.plan in
    let turn = c.loop-turn._turn in
    elim c.loop-turn-test.branch [
      | else-loop-turn-test w ↦ let end : turn ≡ most_steps plan = omega arith in c.loop-turn.invariant.entries ∙ ap (entries g.B.Body plan) end
      | then-loop-turn-test+then-is_over w ↦
          let most : turn ≤ most_steps plan = omega arith in
          let over : c.loop-turn.state.stack ≡ [] = w.if-is_over.ensures.0 refl in
          c.loop-turn.invariant.entries ∙ entries-last g.B.Body plan turn most (ap (λ s. s.stack) (sym c.loop-turn.invariant.state) ∙ over)
    ]
