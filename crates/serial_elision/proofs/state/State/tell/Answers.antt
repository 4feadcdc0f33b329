use Rattle.std.proofs.Common.{◌≡◌, ◌+◌, ◌^◌, ◌<◌, Some, ◌∙◌, ap, sym}
use Rattle.std.proofs.lemmas.List.Elements.{All-rest, All-same}
use Rattle.swan_model.specs.Script.{next_entry}
use Rattle.swan_model.specs.SerialState.{Activation, State}
use Rattle.swan_model.specs.SerialStep.{step}
use Rattle.serial_elision.specs.Effects.{after_effect}
use Rattle.serial_elision.proofs.Scripts.{entry-paid}
use Rattle.serial_elision.proofs.Steps.{step-paid}
use Rattle.serial_elision.proofs.state.State.tell.Goals as goal

pub returns-clause-state : goal.returns-clause-state
returns-clause-state g c =
    let body = c.args.body.now in
    let fuelled : c.in-Some.top.fuel ≡ 0 → ⊥ = λ dry. c.if-top-eq0.false (ap (λ a. a.fuel) c.top.view_is ∙ dry) in
    let place : c.place-place.result ≡ g.B.Body.place_of body c.in-Some.top.local = c.place-place.ensures ∙ ap (λ a. g.B.Body.place_of body a.local) c.top.view_is in
    let paid = step-paid g.B.Body body _ c.perform.new.self c.in-Some.top c.in_ok-top.top c.perform.new.top c.in_ok-top.ask _ c.in-Ok-perform.effect c.in-Some.ensures.top fuelled c.in_ok-top.ensures.moved c.in_ok-top.ensures.ask c.in-Ok-perform.ensures.path c.in-Ok-perform.ensures.effect c.in-Ok-perform.ensures.steps c.in-Ok-perform.ensures.stack c.in-Ok-perform.ensures.faults in
    c.in-Ok-settle.ensures
    ∙ ap (λ p. after_effect c.in-Ok-perform.effect c.perform.new.top p c.perform.new.self) place
    ∙ paid
    ∙ ap (step g.B.Body body) c.self.view_is

pub returns-clause-entry : goal.returns-clause-entry
returns-clause-entry g c =
    let body = c.args.body.now in
    let fuelled : c.in-Some.top.fuel ≡ 0 → ⊥ = λ dry. c.if-top-eq0.false (ap (λ a. a.fuel) c.top.view_is ∙ dry) in
    let path : c.in-Ok.path ≡ c.in-Some.top.path = c.in-Ok.ensures ∙ ap (λ a. a.path) c.top.view_is in
    let before : State g.row.L.Denot = record { steps = c.self.inside.steps; stack = c.self.inside.stack; store = c.self.inside.store; faults = c.self.inside.faults } in
    let paid = entry-paid g.B.Body body before c.in-Some.top c.in_ok-top.top c.perform.new.top c.in_ok-top.ask _ c.in-Ok-perform.effect c.perform.new.self.store c.in-Ok.path c.in-Ok-asked.deed c.in-Some.ensures.top fuelled c.in_ok-top.ensures.moved c.in_ok-top.ensures.ask path c.in-Ok-asked.ensures c.in-Ok-perform.ensures.effect in
    ap Some c.entry-told.ensures ∙ paid ∙ ap (next_entry g.B.Body body) c.self.view_is

-- what stands below the top may fail as before
pub settle-requires-clause-parent : goal.settle-requires-clause-parent
settle-requires-clause-parent g c =
    All-rest (λ (a : Activation g.row.L.Denot). a.failed + 1 < 2 ^ 64) c.in-Some.top c.pop.new.self c.args.self.now.stack
    (sym (ap (λ (s : State g.row.L.Denot). s.stack) c.self.view_is) ∙ c.in-Some.ensures.top) c.requires.stack

pub settle-requires-2-clause-parent : goal.settle-requires-2-clause-parent
settle-requires-2-clause-parent g c =
    let P : Activation g.row.L.Denot → Type 0 = λ a. a.failed + 1 < 2 ^ 64 in
    All-same P c.perform.new.self.stack c.pop.new.self c.in-Ok-perform.ensures.stack
    (All-rest P c.in-Some.top c.pop.new.self c.args.self.now.stack
    (sym (ap (λ (s : State g.row.L.Denot). s.stack) c.self.view_is) ∙ c.in-Some.ensures.top) c.requires.stack)
