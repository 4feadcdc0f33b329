use Rattle.std.proofs.Common.{ap, ◌∙◌}
use Rattle.std.proofs.lemmas.Result.{on_ok_weaker}
use Rattle.swan_model.specs.SerialState.{State}
use Rattle.swan_model.specs.SerialStep.{state_after, effect}
use Rattle.serial_elision.specs.Effects.{as_ask, after_effect}
use Rattle.serial_elision.proofs.Steps.{settled-after, with_rest}
use Rattle.serial_elision.proofs.state.State.end_step.Goals as goal

pub returns : goal.returns
returns g c =
    let s : State g.row.L.Denot = c.args.self.now in
    let place = c.args.place in
    let done = c.in_ok-effect.effect in
    let is = c.in_ok-effect.ensures in
    let said = effect s.steps s.store c.args.top (as_ask c.args.ask) in
    on_ok_weaker c.settle.result (λ ok. ok ∙ ap (after_effect done c.perform_own.new.top place) (with_rest s c.perform_own.new.self s.stack is.steps is.stack is.faults) ∙ settled-after s c.perform_own.new.top s.stack place c.perform_own.new.self.store done said is.effect ∙ ap (λ p. state_after s s.stack p place said) is.path) c.settle.ensures
