use Rattle.std.proofs.Common.{◌≡◌, ◌∙◌, ap, sym, subst}
use Rattle.swan_model.specs.SerialState.{Activation, State}
use Rattle.swan_model.specs.SerialStep.{effect, faults}
use Rattle.serial_elision.specs.declared.reply.Reply.{Reply}
use Rattle.serial_elision.specs.Effects.{IsReply}
use Rattle.serial_elision.proofs.state.State.perform.Goals as goal

pub returns-in-Fault-clause-effect : goal.returns-in-Fault-clause-effect
returns-in-Fault-clause-effect g c =
    let steps = c.args.self.now.steps in
    let top : Activation g.row.L.Denot = c.args.top.now in
    let store = c.self.inside.store in
    let same = sym (c.as_slice.ensures.value ∙ ap (λ (a : Activation g.row.L.Denot). a.holdings) c.top.view_is) in
    let reply = subst (λ (r : Reply g.row.L.Denot). IsReply r top store c.answer.new.self c.args.ask (effect steps store top c.args.ask)) c.in-Fault.is (c.in_ok-answer.ensures steps top same) in
    subst (λ (s : State g.row.L.Denot). (effect steps s.store top c.args.ask ≡ faults c.in-Fault.kind) × (c.answer.new.self ≡ s.store)) c.self.view_is reply
