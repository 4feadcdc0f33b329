use Rattle.std.proofs.Common.{◌≡◌, ℕ, ◌+◌, ◌-◌, ◌^◌, ◌<◌, ◌∷◌, ◌∙◌, rules, ap, refl, subst, sym, arith}
use Rattle.std.proofs.lemmas.List.Elements.{All-rest}
use Rattle.std.proofs.lemmas.Result.{on_ok_weaker}
use Rattle.swan_model.specs.declared.body.Answer.{Answer}
use Rattle.swan_model.specs.declared.body.Answer.TheVariants as answer
use Rattle.swan_model.specs.declared.body.Worked.{Worked}
use Rattle.swan_model.specs.declared.fault.FaultKind.TheVariants as kind
use Rattle.swan_model.specs.declared.plan.TheConstants.{FUEL_MOST}
use Rattle.swan_model.specs.SerialState.{Activation, State}
use Rattle.swan_model.specs.SerialStep.{Effect, state_after, effect, faults, goes_on}
use Rattle.serial_elision.specs.Bounds.{MayFail}
use Rattle.serial_elision.specs.declared.reply.Reply.{Reply}
use Rattle.serial_elision.specs.Effects.{as_ask, IsReply}
use Rattle.serial_elision.proofs.Works.{dry-end, fault-row, HasRow, HasTurned, last-end, own-row, told-row}
use Rattle.serial_elision.proofs.state.State.turn.Goals as goal
use Rattle.serial_elision.proofs.state.State.turn.Goals.{else-row-fuel, in-Synced, in-Told, then-row-fuel+in_ok-moved+in_default-stop}

pub loop-row-init : goal.loop-row-init
loop-row-init g c = record {
  turned = search rules;
  within = search rules;
  parent = All-rest (λ (a : Activation g.row.L.Denot). a.failed + 1 < 2 ^ 64) c.in-Some.top c.pop.new.self c.args.self.now.stack (sym (ap (λ (s : State g.row.L.Denot). s.stack) c.self.view_is) ∙ c.in-Some.ensures.top) c.requires.stack;
}

pub loop-row-preserved : goal.loop-row-preserved
loop-row-preserved g c =
    let body = c.args.body.now in
    let s : State g.row.L.Denot = c.args.self.now in
    let inside = c.self-in-loop-row.inside in
    let below = inside.stack in
    let a : Activation g.row.L.Denot = record { path = c.loop-row.path; local = c.loop-row.local; answer = c.loop-row.answer; fuel = c.loop-row.left; holdings = c.top.inside.holdings.items; children = c.top.inside.children; failed = c.loop-row.failed } in
    let now : State g.row.L.Denot = record { steps = inside.steps; stack = a ∷ below; store = inside.store; faults = inside.faults } in
    let so : HasTurned g.B.Body body s now c.loop-row._row a.fuel c.top.inside.fuel = subst (λ (t : State g.row.L.Denot). HasTurned g.B.Body body s (record { steps = t.steps; stack = a ∷ t.stack; store = t.store; faults = t.faults }) c.loop-row._row a.fuel c.top.inside.fuel) (sym c.self-in-loop-row.view_is) c.loop-row.invariant.turned in
    let w : Worked g.row.L.Denot = c.in_ok-moved.field-0 in
    let is = c.in_ok-moved.ensures in
    let row : HasRow g.B.Body body a FUEL_MOST w = record { works = is.works; all = is.all; last = is.last; stopped = is.stopped; moved = is.moved; ask = is.ask; place = is.place } in
    let stop = c.in-Some-stop.field-0 in
    let paid : Activation g.row.L.Denot = record a { local = w.local; answer = answer.Nothing; fuel = a.fuel - w.works - 1 } in
    let P : Reply g.row.L.Denot → Type 0 = λ r. IsReply r paid inside.store c.answer.new.self stop.ask (effect (inside.steps + w.works) inside.store paid stop.ask) in
    let reply : P c.in_ok-told.field-0 = c.in_ok-told.ensures (inside.steps + w.works) paid (sym c.as_slice.ensures.value) in
    let next : Activation g.row.L.Denot = record paid { answer = c.match-branch-3.answer; failed = c.match-branch-3.failed } in
    let goes : (x : Answer) (n : ℕ) → Effect g.row.L.Denot = λ x n. goes_on (record paid { answer = x; failed = n }) c.answer.new.self in
    let does : effect (inside.steps + w.works) inside.store paid stop.ask ≡ goes_on next c.answer.new.self = elim c.match-branch-3.branch [
      | in-Told t ↦ subst P t.in-Told.is reply ∙ ap (λ x. goes x c.loop-row.failed) (sym t.answer-is) ∙ ap (goes c.match-branch-3.answer) (sym t.failed-is)
      | in-Synced t ↦ subst P t.in-Synced.is reply ∙ ap (λ x. goes x 0) (sym t.answer-is) ∙ ap (goes c.match-branch-3.answer) (sym t.failed-is)
    ] in
    record {
      turned = told-row g.B.Body body s now a next below FUEL_MOST c.loop-row._row c.top.inside.fuel w stop c.answer.new.self so refl row c.in-Some-stop.is does;
      within = c.loop-row.invariant.within;
      parent = subst (λ (t : State g.row.L.Denot). MayFail t.stack) (sym c.self-in-loop-row.view_is) c.loop-row.invariant.parent;
    }

pub returns-in-Fault : goal.returns-in-Fault
returns-in-Fault g c =
    let body = c.args.body.now in
    let s : State g.row.L.Denot = c.args.self.now in
    let inside = c.self-in-loop-row.inside in
    let below = inside.stack in
    let a : Activation g.row.L.Denot = record { path = c.loop-row.path; local = c.loop-row.local; answer = c.loop-row.answer; fuel = c.loop-row.left; holdings = c.top.inside.holdings.items; children = c.top.inside.children; failed = c.loop-row.failed } in
    let now : State g.row.L.Denot = record { steps = inside.steps; stack = a ∷ below; store = inside.store; faults = inside.faults } in
    let so : HasTurned g.B.Body body s now c.loop-row._row a.fuel c.top.inside.fuel = subst (λ (t : State g.row.L.Denot). HasTurned g.B.Body body s (record { steps = t.steps; stack = a ∷ t.stack; store = t.store; faults = t.faults }) c.loop-row._row a.fuel c.top.inside.fuel) (sym c.self-in-loop-row.view_is) c.loop-row.invariant.turned in
    let w : Worked g.row.L.Denot = c.in_ok-moved.field-0 in
    let is = c.in_ok-moved.ensures in
    let row : HasRow g.B.Body body a FUEL_MOST w = record { works = is.works; all = is.all; last = is.last; stopped = is.stopped; moved = is.moved; ask = is.ask; place = is.place } in
    let stop = c.in-Some-stop.field-0 in
    let paid : Activation g.row.L.Denot = record a { local = w.local; answer = answer.Nothing; fuel = a.fuel - w.works - 1 } in
    let reply = subst (λ (r : Reply g.row.L.Denot). IsReply r paid inside.store c.answer.new.self stop.ask (effect (inside.steps + w.works) inside.store paid stop.ask)) c.in-Fault.is (c.in_ok-told.ensures (inside.steps + w.works) paid (sym c.as_slice.ensures.value)) in
    let later = fault-row g.B.Body body s now a below FUEL_MOST c.loop-row._row c.top.inside.fuel w stop c.in-Fault.kind c.answer.new.self so refl row c.in-Some-stop.is reply.0 reply.1 in
    on_ok_weaker c.fail.result (λ ok. (later.0, ok ∙ later.1)) c.fail.ensures

pub returns-in-Own : goal.returns-in-Own
returns-in-Own g c =
    let body = c.args.body.now in
    let s : State g.row.L.Denot = c.args.self.now in
    let inside = c.self-in-loop-row.inside in
    let below = inside.stack in
    let a : Activation g.row.L.Denot = record { path = c.loop-row.path; local = c.loop-row.local; answer = c.loop-row.answer; fuel = c.loop-row.left; holdings = c.top.inside.holdings.items; children = c.top.inside.children; failed = c.loop-row.failed } in
    let now : State g.row.L.Denot = record { steps = inside.steps; stack = a ∷ below; store = inside.store; faults = inside.faults } in
    let so : HasTurned g.B.Body body s now c.loop-row._row a.fuel c.top.inside.fuel = subst (λ (t : State g.row.L.Denot). HasTurned g.B.Body body s (record { steps = t.steps; stack = a ∷ t.stack; store = t.store; faults = t.faults }) c.loop-row._row a.fuel c.top.inside.fuel) (sym c.self-in-loop-row.view_is) c.loop-row.invariant.turned in
    let w : Worked g.row.L.Denot = c.in_ok-moved.field-0 in
    let is = c.in_ok-moved.ensures in
    let row : HasRow g.B.Body body a FUEL_MOST w = record { works = is.works; all = is.all; last = is.last; stopped = is.stopped; moved = is.moved; ask = is.ask; place = is.place } in
    let stop = c.in-Some-stop.field-0 in
    let paid : Activation g.row.L.Denot = record a { local = w.local; answer = answer.Nothing; fuel = a.fuel - w.works - 1 } in
    let reply = subst (λ (r : Reply g.row.L.Denot). IsReply r paid inside.store c.answer.new.self stop.ask (effect (inside.steps + w.works) inside.store paid stop.ask)) c.in-Own.is (c.in_ok-told.ensures (inside.steps + w.works) paid (sym c.as_slice.ensures.value)) in
    let later = own-row g.B.Body body s now a below FUEL_MOST c.loop-row._row c.top.inside.fuel w stop (as_ask c.in-Own.ask) c.answer.new.self so refl row c.in-Some-stop.is reply.0 reply.1 in
    on_ok_weaker c.end_step.result (λ ok. (later.0, ok ∙ later.1)) c.end_step.ensures

pub returns : goal.returns
returns g c =
    let body = c.args.body.now in
    let s : State g.row.L.Denot = c.args.self.now in
    let at_loop = c.loop-row.self in
    let a : Activation g.row.L.Denot = record { path = c.loop-row.path; local = c.loop-row.local; answer = c.loop-row.answer; fuel = c.loop-row.left; holdings = c.top.inside.holdings.items; children = c.top.inside.children; failed = c.loop-row.failed } in
    let place = c.place-place.result in
    let booked : State g.row.L.Denot → State g.row.L.Denot = λ t. state_after t t.stack a.path place (faults kind.Fuel) in
    elim c.if-row-fuel.branch [
      | else-row-fuel w ↦
          let now : State g.row.L.Denot = record { steps = at_loop.steps; stack = a ∷ at_loop.stack; store = at_loop.store; faults = at_loop.faults } in
          let so : HasTurned g.B.Body body s now c.loop-row._row a.fuel c.top.inside.fuel = c.loop-row.invariant.turned in
          let later = last-end g.B.Body body s now a at_loop.stack c.loop-row._row c.top.inside.fuel place so refl (omega (arith, so.bound, w.if-row-fuel.false)) (c.place-place.ensures ∙ ap (g.B.Body.place_of body) w.local-is) in
          on_ok_weaker c.fail-2.result (λ ok. (later.0, ok ∙ ap booked w.self-is ∙ later.1)) c.fail-2.ensures
      | then-row-fuel+in_ok-moved+in_default-stop w ↦
          let inside = w.self-in-loop-row.inside in
          let below = inside.stack in
          let now : State g.row.L.Denot = record { steps = inside.steps; stack = a ∷ below; store = inside.store; faults = inside.faults } in
          let so : HasTurned g.B.Body body s now c.loop-row._row a.fuel c.top.inside.fuel = subst (λ (t : State g.row.L.Denot). HasTurned g.B.Body body s (record { steps = t.steps; stack = a ∷ t.stack; store = t.store; faults = t.faults }) c.loop-row._row a.fuel c.top.inside.fuel) (sym w.self-in-loop-row.view_is) c.loop-row.invariant.turned in
          let row_of : Worked g.row.L.Denot = w.in_ok-moved.field-0 in
          let is = w.in_ok-moved.ensures in
          let row : HasRow g.B.Body body a FUEL_MOST row_of = record { works = is.works; all = is.all; last = is.last; stopped = is.stopped; moved = is.moved; ask = is.ask; place = is.place } in
          let later = dry-end g.B.Body body s now a below FUEL_MOST c.loop-row._row c.top.inside.fuel row_of place so refl row w.in_default-stop.is (omega (arith, so.bound, c.loop-row.invariant.within.spawned)) (c.place-place.ensures ∙ ap (g.B.Body.place_of body) w.local-is) in
          on_ok_weaker c.fail-2.result (λ ok. (later.0, ok ∙ ap booked w.self-is ∙ later.1)) c.fail-2.ensures
    ]
