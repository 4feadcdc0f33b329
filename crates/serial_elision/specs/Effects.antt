-- What the code says that an ask did, and what the definitions say.
use Rattle.std.specs.Prelude.{◌≡◌, ℕ, ◌+◌, ◌∷◌, ◌++◌, [], Bool, true, false}
use Rattle.swan_model.specs.declared.body.Ask.{Ask}
use Rattle.swan_model.specs.declared.body.Ask.TheVariants as ask
use Rattle.swan_model.specs.declared.fault.FaultKind.TheVariants.{PopEmpty}
use Rattle.swan_model.specs.declared.script.Deed.{Deed}
use Rattle.swan_model.specs.declared.script.Deed.TheVariants as deed
use Rattle.swan_model.specs.SerialState.{Activation, Store, State}
use Rattle.swan_model.specs.SerialStep.{synced, with_answer, with_failed}
use Rattle.swan_model.specs.SerialStep as serial
use Rattle.serial_elision.specs.declared.effect.Effect.{Effect}
use Rattle.serial_elision.specs.declared.effect.Effect.TheVariants.{Answered, Spawned, Ended, Faulted}
use Rattle.serial_elision.specs.declared.reply.OwnAsk.{OwnAsk}
use Rattle.serial_elision.specs.declared.reply.OwnAsk.TheVariants as own
use Rattle.serial_elision.specs.declared.reply.Reply.{Reply}
use Rattle.serial_elision.specs.declared.reply.Reply.TheVariants as reply

-- The activation and the store that the code leaves are those of the effect; an activation that ends
-- leaves the store as it was.
abbrev pub IsEffect : {L : Type 0} → Effect L → Activation L → Store → Store → serial.Effect L → Type 0
IsEffect (Answered answer) a before after effect = effect ≡ serial.goes_on (with_answer a answer) after
IsEffect (Spawned child) a before after effect = effect ≡ serial.spawns a child after
IsEffect Ended a before after effect = (effect ≡ serial.ends) × (after ≡ before)
IsEffect (Faulted kind) a before after effect = (effect ≡ serial.faults kind) × (after ≡ before)

-- an ask about the task itself, among all asks
abbrev pub as_ask : {L : Type 0} → OwnAsk L → Ask L
as_ask own.NewQueue = ask.NewQueue
as_ask (own.NewObject value) = ask.NewObject value
as_ask (own.Spawn child) = ask.Spawn child
as_ask own.Finish = ask.Finish
as_ask (own.Fail trouble) = ask.Fail trouble

-- What the store says to an ask: that it has the effect, or that the ask is about the task itself and has had
-- none yet.
abbrev pub IsReply : {L : Type 0} → Reply L → Activation L → Store → Store → Ask L → serial.Effect L → Type 0
IsReply (reply.Told answer) a before after asks effect = effect ≡ serial.goes_on (with_answer a answer) after
IsReply reply.Synced a before after asks effect = effect ≡ serial.goes_on (synced a) after
IsReply (reply.Fault kind) a before after asks effect = (effect ≡ serial.faults kind) × (after ≡ before)
IsReply (reply.Own task) a before after asks effect = (asks ≡ as_ask task) × (after ≡ before)

-- The state once an effect has come to the activation that was taken off its stack.
abbrev pub after_effect : {L : Type 0} → Effect L → Activation L → ℕ → State L → State L
after_effect (Answered answer) a place s = record s { steps = s.steps + 1; stack = with_answer a answer ∷ s.stack }
after_effect (Spawned child) a place s = record s { steps = s.steps + 1; stack = child ∷ a ∷ s.stack }
after_effect Ended a place s = record s { steps = s.steps + 1 }
after_effect (Faulted kind) a place s = record s { steps = s.steps + 1; stack = with_failed s.stack; faults = s.faults ++ (record { path = a.path; place = place; kind = kind }) ∷ [] }

-- What an ask with this effect did, where it was to do that; and whether its activation ends by it.
abbrev pub deed_kept : {L : Type 0} → Deed → Effect L → Deed
deed_kept does (Faulted PopEmpty) = does
deed_kept does (Faulted kind) = deed.Quiet
deed_kept does effect = does

abbrev pub ends_its_task : {L : Type 0} → Effect L → Bool
ends_its_task (Answered answer) = false
ends_its_task (Spawned child) = false
ends_its_task Ended = true
ends_its_task (Faulted kind) = true
