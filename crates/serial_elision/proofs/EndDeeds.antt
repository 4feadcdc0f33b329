-- A task ends by an entry that does nothing to others: by no deed, or by the pop of an empty queue.
use Rattle.std.proofs.Common.{◌≡◌, ◌⊎◌, inl, inr, ℕ, ◌-◌, true, nat_eq, nat_lt, nat_le, List, [], ◌∷◌, length, drop, Option, Some, None, refl, sym, ap, ◌∙◌, arith}
use Rattle.std.proofs.lemmas.List.{length-drop}
use Rattle.std.specs.Option.{option_map}
use Rattle.std.specs.Prelude.{slice_get}
use Rattle.swan_model.specs.declared.body.Ask.{Ask}
use Rattle.swan_model.specs.declared.body.Ask.TheVariants as ask
use Rattle.swan_model.specs.declared.body.Body.{Ghosts}
use Rattle.swan_model.specs.declared.body.Child.{Child}
use Rattle.swan_model.specs.declared.origin.Origin.{Origin}
use Rattle.swan_model.specs.declared.path.TheConstants.{PATH_MOST}
use Rattle.swan_model.specs.declared.plan.Plan.{Plan}
use Rattle.swan_model.specs.declared.rights.Mode.TheVariants.{In, Out, Push, Pop}
use Rattle.swan_model.specs.declared.script.Deed.{Deed}
use Rattle.swan_model.specs.declared.script.Deed.TheVariants as deed
use Rattle.swan_model.specs.declared.script.Entry.{Entry}
use Rattle.swan_model.specs.declared.script.Script.{Script}
use Rattle.swan_model.specs.declared.value.Value.{Value}
use Rattle.swan_model.specs.Elision.{serial}
use Rattle.swan_model.specs.Rights.{is_aliased}
use Rattle.swan_model.specs.Script.{asked, deed_of, is_end, script, spawn_of}
use Rattle.swan_model.specs.SerialState.{Activation, Holding, Queue, Store}
use Rattle.swan_model.specs.SerialStep.{Effect, goes_on, spawns, ends, faults, effect, effect_of, after_next, number_at, popped, spawn_effect, given}
use Rattle.swan_model.specs.Told.{count, items, taken}
use Rattle.serial_elision.proofs.Asks.{on_object-either, on_queue-either, if-either}
use Rattle.serial_elision.proofs.AsksTold.{named}
use Rattle.serial_elision.proofs.ItemsTold.{come, items-come, count-come, le-taken}
use Rattle.serial_elision.proofs.Nesting.{top_at}
use Rattle.serial_elision.proofs.SerialTold.{told-serial}
use Rattle.serial_elision.proofs.Turns.{next_deed}

-- the pop of a queue that is empty
record IsEmptyPop (store : Store) (does : Deed) : Type 0 where
  number : ℕ
  queue : Queue
  stands : slice_get store.queues number ≡ Some queue
  empty : queue.items ≡ []
  pops : does ≡ deed.Pop queue.origin

-- an effect that ends its activation does nothing to others
abbrev EndsStill : {L : Type 0} → Store → Deed → Effect L → Type 0
EndsStill store does (goes_on a after) = Unit {0}
EndsStill store does (spawns parent child after) = Unit {0}
EndsStill store does ends = does ≡ deed.Quiet
EndsStill {L} store does (faults kind) = (deed_of {L = L} does (faults kind) ≡ deed.Quiet) ⊎ IsEmptyPop store (deed_of {L = L} does (faults kind))

popped-ends : {L : Type 0} (store : Store) (a : Activation L) (does : Deed) (number : ℕ) (queue : Queue) (items : List Value) → slice_get store.queues number ≡ Some queue → queue.items ≡ items → does ≡ deed.Pop queue.origin → EndsStill store does (popped store a number queue items)
popped-ends store a does number queue [] stands is pops =
    inr (record { number = number; queue = queue; stands = stands; empty = is; pops = pops })
popped-ends store a does number queue (item ∷ items) stands is pops = tt

spawned-ends : {L : Type 0} (store : Store) (a : Activation L) (does : Deed) (child : Child L) (holdings : Option (List Holding)) → EndsStill store does (spawn_effect store a child holdings)
spawned-ends store a does child None = inl refl
spawned-ends {L = L} store a does child (Some holdings) =
    let P : Effect L → Type 0 = EndsStill store does in
    if-either P (is_aliased child.gives) _ _ (inl refl)
    (if-either P (nat_le PATH_MOST (length a.path)) _ _ (inl refl)
    (if-either P (nat_lt a.fuel child.fuel) _ _ (inl refl) tt))

effect-ends : {L : Type 0} (n : ℕ) (store : Store) (a : Activation L) (asks : Ask L) → EndsStill store (asked store a.holdings asks) (effect n store a asks)
effect-ends n store a ask.Work = tt
effect-ends {L = L} n store a (ask.Read place) =
    on_object-either (EndsStill store (asked {L = L} store a.holdings (ask.Read place))) (inl refl) store (number_at a.holdings place In) _ (λ number cell held found. tt)
effect-ends {L = L} n store a (ask.Write place value) =
    on_object-either (EndsStill store (asked {L = L} store a.holdings (ask.Write place value))) (inl refl) store (number_at a.holdings place Out) _ (λ number cell held found. tt)
effect-ends {L = L} n store a (ask.Push place value) =
    on_queue-either (EndsStill store (asked {L = L} store a.holdings (ask.Push place value))) (inl refl) store (number_at a.holdings place Push) _ (λ number queue held found. tt)
effect-ends {L = L} n store a (ask.Pop place) =
    let does = asked {L = L} store a.holdings (ask.Pop place) in
    on_queue-either (EndsStill store does) (inl refl) store (number_at a.holdings place Pop) _ (λ number queue held found.
    popped-ends store a does number queue queue.items found refl
    (sym (named store a.holdings place Pop number queue.origin held (ap (option_map (λ (x : Queue). x.origin)) found) deed.Pop)))
effect-ends {L = L} n store a (ask.Empty place) =
    on_queue-either (EndsStill store (asked {L = L} store a.holdings (ask.Empty place))) (inl refl) store (number_at a.holdings place Pop) _ (λ number queue held found. tt)
effect-ends n store a ask.NewQueue = tt
effect-ends n store a (ask.NewObject value) = tt
effect-ends n store a (ask.Spawn child) =
    spawned-ends store a (spawn_of store (given a.holdings child.gives)) child (given a.holdings child.gives)
effect-ends n store a ask.Sync = tt
effect-ends n store a ask.Finish = refl
effect-ends n store a (ask.Fail trouble) = inl refl

by-effect : {L : Type 0} (store : Store) (does : Deed) (done : Effect L) → EndsStill store does done → is_end done ≡ true → (deed_of does done ≡ deed.Quiet) ⊎ IsEmptyPop store (deed_of does done)
by-effect store does (goes_on a after) still is = absurd (cc)
by-effect store does (spawns parent child after) still is = absurd (cc)
by-effect store does ends still is = inl still
by-effect store does (faults kind) still is = still

-- of a queue that is empty all items that had come are taken
all-taken : (s : Script) (queue : Origin) (n : ℕ) → items s queue n ≡ [] → taken s queue n ≡ count s queue n
all-taken s queue n is =
    let none : length (drop (taken s queue n) (come s queue n)) ≡ 0 = ap length (sym (items-come s queue n) ∙ is) in
    let left = length-drop (taken s queue n) (come s queue n) in
    omega (arith, none, left, le-taken s queue n, count-come s queue n)

module _ {B L : Type 0} (G : Ghosts B L) where
  step-ends : (body : B) (n : ℕ) (store : Store) (top : Activation L) → EndsStill store (next_deed G body store top) (effect_of G body n store top)
  step-ends body n store top =
      let step = G.next body top.local top.answer (top.fuel - 1) in
      if-either (EndsStill store (next_deed G body store top)) (nat_eq top.fuel 0) _ _ (inl refl) (effect-ends n store (after_next top step.0) step.1)

  pub ending : (plan : Plan B L) (n : ℕ) (entry : Entry) → slice_get (script G plan).entries n ≡ Some entry → entry.ends ≡ true → (entry.deed ≡ deed.Quiet) ⊎ ((queue : Origin) × (entry.deed ≡ deed.Pop queue) × (taken (script G plan) queue n ≡ count (script G plan) queue n))
  ending plan n entry is over =
      let s = script G plan in
      let state = serial G plan n in
      let at = top_at G plan n entry is in
      let does = next_deed G plan.body state.store at.top in
      let done = effect_of G plan.body state.steps state.store at.top in
      elim (by-effect state.store does done (step-ends plan.body state.steps state.store at.top) (sym at.ends ∙ over)) [
        | inl quiet ↦ inl (at.deed ∙ quiet)
        | inr pop ↦
            let left : pop.queue.items ≡ items s pop.queue.origin n = (told-serial G plan n).queues pop.number pop.queue pop.stands in
            inr (pop.queue.origin, at.deed ∙ pop.pops, all-taken s pop.queue.origin n (sym left ∙ pop.empty))
      ]
