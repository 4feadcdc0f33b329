-- A serial step, from what its activation's body and its ask have done.
use Rattle.std.proofs.Common.{◌≡◌, ℕ, ◌-◌, List, [], ◌∷◌, false, nat_eq, cond, Option, rules, tests, Some, None, sym, ap, ◌∙◌, refl}
use Rattle.swan_model.specs.declared.body.Answer.{Answer}
use Rattle.swan_model.specs.declared.body.Answer.TheVariants as answer
use Rattle.swan_model.specs.declared.body.Ask.{Ask}
use Rattle.swan_model.specs.declared.body.Ask.TheVariants as ask
use Rattle.swan_model.specs.declared.body.Body.{Ghosts}
use Rattle.swan_model.specs.declared.body.Child.{Child}
use Rattle.swan_model.specs.declared.fault.FaultKind.TheVariants as kind
use Rattle.swan_model.specs.declared.rights.Mode.TheVariants.{Pop}
use Rattle.swan_model.specs.declared.value.Value.{Value}
use Rattle.swan_model.specs.SerialState.{Activation, Holding, Queue, Store, State}
use Rattle.swan_model.specs.SerialStep as serial
use Rattle.swan_model.specs.SerialStep.{with_answer, after_next, state_after, effect, effect_of, step, step_on, on_list, on_queue, popped, spawn_effect, given, number_at}
use Rattle.std.specs.Prelude.{slice_get}
use Rattle.serial_elision.specs.declared.effect.Effect as code
use Rattle.serial_elision.specs.declared.effect.Effect.TheVariants.{Answered, Spawned, Ended, Faulted}
use Rattle.serial_elision.specs.Effects.{IsEffect, after_effect}

-- An ask's effect doesn't depend on what the activation was told before.
popped-told : {L : Type 0} (store : Store) (a : Activation L) (x : Answer) (number : ℕ) (queue : Queue) (items : List Value) → popped store (with_answer a x) number queue items ≡ popped store a number queue items
popped-told store a x number queue [] = refl
popped-told store a x number queue (item ∷ items) = refl

on_list-told : {L : Type 0} (store : Store) (a : Activation L) (x : Answer) (number : ℕ) (found : Option Queue) → on_list {L = L} found (λ queue. popped store (with_answer a x) number queue queue.items) ≡ on_list {L = L} found (λ queue. popped store a number queue queue.items)
on_list-told store a x number None = refl
on_list-told store a x number (Some queue) = popped-told store a x number queue queue.items

on_queue-told : {L : Type 0} (store : Store) (a : Activation L) (x : Answer) (at : Option ℕ) → on_queue {L = L} store at (λ number queue. popped store (with_answer a x) number queue queue.items) ≡ on_queue {L = L} store at (λ number queue. popped store a number queue queue.items)
on_queue-told store a x None = refl
on_queue-told store a x (Some number) = on_list-told store a x number (slice_get store.queues number)

spawned-told : {L : Type 0} (store : Store) (a : Activation L) (x : Answer) (child : Child L) (holdings : Option (List Holding)) → spawn_effect store (with_answer a x) child holdings ≡ spawn_effect store a child holdings
spawned-told store a x child None = refl
spawned-told store a x child (Some holdings) = refl

pub effect-told : {L : Type 0} (n : ℕ) (store : Store) (a : Activation L) (x : Answer) (asked : Ask L) → effect n store (with_answer a x) asked ≡ effect n store a asked
effect-told n store a x ask.Work = refl
effect-told n store a x (ask.Read place) = refl
effect-told n store a x (ask.Write place value) = refl
effect-told n store a x (ask.Push place value) = refl
effect-told n store a x (ask.Pop place) = on_queue-told store a x (number_at a.holdings place Pop)
effect-told n store a x (ask.Empty place) = refl
effect-told n store a x ask.NewQueue = refl
effect-told n store a x (ask.NewObject value) = refl
effect-told n store a x (ask.Spawn child) = spawned-told store a x child (given a.holdings child.gives)
effect-told n store a x ask.Sync = refl
effect-told n store a x ask.Finish = refl
effect-told n store a x (ask.Fail trouble) = refl

-- the state once the effect of the top activation's ask has come to it
pub settled-after : {L : Type 0} (s : State L) (a : Activation L) (below : List (Activation L)) (place : ℕ) (store : Store) (done : code.Effect L) (said : serial.Effect L) → IsEffect done a s.store store said → after_effect done a place (record s { stack = below; store = store }) ≡ state_after s below a.path place said
settled-after s a below place store (Answered answer) said is = ap (state_after s below a.path place) (sym is)
settled-after s a below place store (Spawned child) said is = ap (state_after s below a.path place) (sym is)
settled-after s a below place store Ended said is =
    ap (λ o. after_effect Ended a place (record s { stack = below; store = o })) is.1 ∙ ap (state_after s below a.path place) (sym is.0)
settled-after s a below place store (Faulted kind) said is =
    ap (λ o. after_effect (Faulted kind) a place (record s { stack = below; store = o })) is.1
    ∙ ap (state_after s below a.path place) (sym is.0)

pub with_rest : {L : Type 0} (s new : State L) (below : List (Activation L)) → new.steps ≡ s.steps → new.stack ≡ below → new.faults ≡ s.faults → new ≡ record s { stack = below; store = new.store }
with_rest {L = L} s new below steps stack faults =
    ap {B = State L} (λ n. record new { steps = n }) steps
    ∙ ap {B = State L} (λ b. record new { steps = s.steps; stack = b }) stack
    ∙ ap {B = State L} (λ f. record s { stack = below; store = new.store; faults = f }) faults

module _ {B L : Type 0} (G : Ghosts B L) where
  -- the body's step of an activation
  abbrev pub stepped : B → Activation L → L × Ask L
  stepped body top = G.next body top.local top.answer (top.fuel - 1)

  -- where there is fuel, the effect is that of the ask, whatever the activation was told before
  pub effect-paid : (body : B) (n : ℕ) (store : Store) (top paid : Activation L) (asked : Ask L) → (top.fuel ≡ 0 → ⊥) → paid ≡ with_answer (after_next top (stepped body top).0) answer.Nothing → asked ≡ (stepped body top).1 → effect n store paid asked ≡ effect_of G body n store top
  effect-paid body n store top paid asked fuel moved_is asked_is =
      let body_moved : Activation L = after_next top (stepped body top).0 in
      let full : nat_eq top.fuel 0 ≡ false = search (rules, tests) in
      ap (λ p. effect n store p asked) moved_is
      ∙ effect-told n store body_moved answer.Nothing asked
      ∙ ap (effect n store body_moved) asked_is
      ∙ ap (λ b. cond b (serial.faults kind.Fuel) (effect n store body_moved (stepped body top).1)) (sym full)

  -- A step that costs fuel: the body has said what it asks for, the ask has its effect on the
  -- activation and on the store, and the rest of the state is the old one without its top.
  pub step-paid : (body : B) (s new : State L) (top paid a : Activation L) (asked : Ask L) (below : List (Activation L)) (done : code.Effect L) → s.stack ≡ top ∷ below → (top.fuel ≡ 0 → ⊥) → paid ≡ with_answer (after_next top (stepped body top).0) answer.Nothing → asked ≡ (stepped body top).1 → a.path ≡ paid.path → IsEffect done a s.store new.store (effect s.steps s.store paid asked) → new.steps ≡ s.steps → new.stack ≡ below → new.faults ≡ s.faults → after_effect done a (G.place_of body top.local) new ≡ step G body s
  step-paid body s new top paid a asked below done stack fuel moved_is asked_is path is steps stack_is faults_is =
      let place = G.place_of body top.local in
      let said : serial.Effect L = effect s.steps s.store paid asked in
      let same : said ≡ effect_of G body s.steps s.store top = effect-paid body s.steps s.store top paid asked fuel moved_is asked_is in
      ap (after_effect done a place) (with_rest s new below steps stack_is faults_is)
      ∙ settled-after s a below place new.store done said is
      ∙ ap (λ p. state_after s below p place said) (path ∙ ap (λ p. p.path) moved_is)
      ∙ ap (state_after s below top.path place) same
      ∙ ap (step_on G body s) (sym stack)
