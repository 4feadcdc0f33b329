-- Steps that a frame takes by itself leave what its task holds, and so the names of it.
use Rattle.std.proofs.Common.{◌≡◌, inl, inr, ℕ, zero, suc, ◌+◌, ◌-◌, Bool, true, false, cond, List, [], ◌∷◌, Option, Some, None, length, refl, sym, ap, subst, ◌∙◌, arith}
use Rattle.std.specs.Prelude.{nat_eq, nat_le, nat_lt, slice_get}
use Rattle.swan_model.specs.declared.body.Ask.{Ask}
use Rattle.swan_model.specs.declared.body.Ask.TheVariants as ask
use Rattle.swan_model.specs.declared.body.Body.{Ghosts}
use Rattle.swan_model.specs.declared.body.Child.{Child}
use Rattle.swan_model.specs.declared.fault.FaultKind.TheVariants as kind
use Rattle.swan_model.specs.declared.path.TheConstants.{PATH_MOST}
use Rattle.swan_model.specs.declared.plan.Plan.{Plan}
use Rattle.swan_model.specs.declared.rights.Mode.TheVariants.{In, Out, Pop, Push}
use Rattle.swan_model.specs.declared.script.Deed.{Deed}
use Rattle.swan_model.specs.declared.script.Script.{Script}
use Rattle.swan_model.specs.declared.value.Value.{Value}
use Rattle.swan_model.specs.Roots.{IsWithinBounds}
use Rattle.swan_model.specs.Rights.{is_aliased}
use Rattle.swan_model.specs.Script.{asked, deed_of, entry_of, script}
use Rattle.swan_model.specs.SerialState.{Activation, Cell, Holding, Queue, Store}
use Rattle.swan_model.specs.SerialStep.{Effect, effect, faults, given, goes_on, after_next, number_at, on_cell, on_list, on_object, on_queue, popped, spawn_effect, spawns}
use Rattle.swan_model.specs.SerialTime.{time}
use Rattle.swan_model.specs.Told.{deed_at}
use Rattle.swan_model.specs.TrueFrames.{StandsAt, effect_at, gives_at, state_at}
use Rattle.swan_model.proofs.ScriptSteps.{deed_is}
use Rattle.serial_elision.proofs.Endings.{entry_now}
use Rattle.serial_elision.proofs.NamesStay.{names-stay}
use Rattle.serial_elision.proofs.Onward.{stood-before}
use Rattle.serial_elision.proofs.TaskSteps.{stands-one}
use Rattle.task_frames.specs.Frames.{AreLocal, is_local}

-- an effect after which the task, where it goes on, holds this
abbrev Keeps : {L : Type 0} → List Holding → Effect L → Type 0
Keeps holdings (goes_on a store) = a.holdings ≡ holdings
Keeps holdings (spawns parent child store) = parent.holdings ≡ holdings
Keeps holdings _ = Unit {0}

object-keeps : {L : Type 0} (holdings : List Holding) (store : Store) (found : Option ℕ) (f : ℕ → Cell → Effect L) → ((number : ℕ) (cell : Cell) → Keeps holdings (f number cell)) → Keeps holdings (on_object store found f)
object-keeps holdings store None f each = tt
object-keeps holdings store (Some number) f each = by (slice_get store.cells number) where
  by : (cell : Option Cell) → Keeps holdings (on_cell cell (f number))
  by None = tt
  by (Some cell) = each number cell

queue-keeps : {L : Type 0} (holdings : List Holding) (store : Store) (found : Option ℕ) (f : ℕ → Queue → Effect L) → ((number : ℕ) (queue : Queue) → Keeps holdings (f number queue)) → Keeps holdings (on_queue store found f)
queue-keeps holdings store None f each = tt
queue-keeps holdings store (Some number) f each = by (slice_get store.queues number) where
  by : (queue : Option Queue) → Keeps holdings (on_list queue (f number))
  by None = tt
  by (Some queue) = each number queue

pop-keeps : {L : Type 0} (store : Store) (a : Activation L) (number : ℕ) (queue : Queue) (items : List Value) → Keeps a.holdings (popped store a number queue items)
pop-keeps store a number queue [] = tt
pop-keeps store a number queue (item ∷ items) = refl

spawn-keeps : {L : Type 0} (store : Store) (a : Activation L) (child : Child L) (found : Option (List Holding)) → Keeps a.holdings (spawn_effect store a child found)
spawn-keeps {L = L} store a child None = tt
spawn-keeps {L = L} store a child (Some holdings) = by (is_aliased child.gives) (nat_le PATH_MOST (length a.path)) (nat_lt a.fuel child.fuel) _ _ _ refl where
  by : (twice deep dear : Bool) (parent below : Activation L) (then : Store) → parent.holdings ≡ a.holdings
      → Keeps a.holdings (cond twice (faults kind.Alias) (cond deep (faults kind.Depth) (cond dear (faults kind.Fuel) (spawns parent below then))))
  by true deep dear parent below then same = tt
  by false true dear parent below then same = tt
  by false false true parent below then same = tt
  by false false false parent below then same = same

effect-keeps : {L : Type 0} (n : ℕ) (store : Store) (a : Activation L) (asks : Ask L) → is_local (asked store a.holdings asks) ≡ true → Keeps a.holdings (effect n store a asks)
effect-keeps n store a ask.Work is = refl
effect-keeps n store a (ask.Read place) is = object-keeps a.holdings store (number_at a.holdings place In) _ (λ number cell. refl)
effect-keeps n store a (ask.Write place value) is = object-keeps a.holdings store (number_at a.holdings place Out) _ (λ number cell. refl)
effect-keeps n store a (ask.Push place value) is = queue-keeps a.holdings store (number_at a.holdings place Push) _ (λ number queue. refl)
effect-keeps n store a (ask.Pop place) is = queue-keeps a.holdings store (number_at a.holdings place Pop) _ (λ number queue. pop-keeps store a number queue queue.items)
effect-keeps n store a (ask.Empty place) is = queue-keeps a.holdings store (number_at a.holdings place Pop) _ (λ number queue. refl)
effect-keeps n store a ask.NewQueue is = absurd (cc)
effect-keeps n store a (ask.NewObject value) is = absurd (cc)
effect-keeps n store a (ask.Spawn child) is = spawn-keeps store a child (given a.holdings child.gives)
effect-keeps n store a ask.Sync is = refl
effect-keeps n store a ask.Finish is = tt
effect-keeps n store a (ask.Fail trouble) is = tt

-- what an entry does with this effect was asked for, where the effect is no fault
goes-local : {L : Type 0} (does : Deed) (next : Activation L) (store : Store) (done : Effect L) → done ≡ goes_on next store → is_local (deed_of does done) ≡ true → is_local does ≡ true
goes-local does next store done is local = sym (ap (λ e. is_local (deed_of does e)) is) ∙ local

spawns-local : {L : Type 0} (does : Deed) (parent child : Activation L) (store : Store) (done : Effect L) → done ≡ spawns parent child store → is_local (deed_of does done) ≡ true → is_local does ≡ true
spawns-local does parent child store done is local = sym (ap (λ e. is_local (deed_of does e)) is) ∙ local

module _ {B L : Type 0} (G : Ghosts B L) (plan : Plan B L) (bounds : IsWithinBounds plan.roots.queues plan.roots.objects) (path : List ℕ) where
  abbrev s : Script
  s = script G plan

  -- one such step
  holds-same : (k : ℕ) (top next : Activation L) → StandsAt G plan path k top → StandsAt G plan path (k + 1) next → is_local (deed_at s (time s path k)) ≡ true → next.holdings ≡ top.holdings
  holds-same k top next at then local =
      let st = state_at G plan path k in
      let said = G.next plan.body top.local top.answer (top.fuel - 1) in
      let does = asked st.store top.holdings said.1 in
      let done = effect_at G plan path k top in
      let deed : deed_at s (time s path k) ≡ deed_of does done = deed_is s (time s path k) (entry_of G plan.body st.steps st.store top) (entry_now G plan (time s path k) top at.below at.stack) in
      let now : is_local (deed_of does done) ≡ true = ap is_local (sym deed) ∙ local in
      let stood = stood-before G plan path k next then in
      let same = stands-one G plan path k stood.before top stood.stands at in
      elim stood.effect [
        | inl goes ↦
            let is : done ≡ goes_on next stood.store = ap (effect_at G plan path k) (sym same) ∙ goes in
            subst (Keeps top.holdings) is (keeps-of top (goes-local does next stood.store done is now))
        | inr spawn ↦
            let is : done ≡ spawns spawn.0 spawn.1 stood.store = ap (effect_at G plan path k) (sym same) ∙ spawn.2 in
            ap (λ (a : Activation L). a.holdings) spawn.3 ∙ subst (Keeps top.holdings) is (keeps-of top (spawns-local does spawn.0 spawn.1 stood.store done is now))
      ]
    where
      keeps-of : (a : Activation L) → is_local (asked (state_at G plan path k).store a.holdings (G.next plan.body a.local a.answer (a.fuel - 1)).1) ≡ true → Keeps a.holdings (effect_at G plan path k a)
      keeps-of a is = by (nat_eq a.fuel 0) where
        by : (dry : Bool) → Keeps a.holdings (cond dry (faults kind.Fuel) (effect (state_at G plan path k).steps (state_at G plan path k).store (after_next a (G.next plan.body a.local a.answer (a.fuel - 1)).0) (G.next plan.body a.local a.answer (a.fuel - 1)).1))
        by true = tt
        by false =
            effect-keeps (state_at G plan path k).steps (state_at G plan path k).store (after_next a (G.next plan.body a.local a.answer (a.fuel - 1)).0) (G.next plan.body a.local a.answer (a.fuel - 1)).1 is

  -- and so many of them
  pub local-names : (many k : ℕ) (top next : Activation L) → StandsAt G plan path k top → StandsAt G plan path (k + many) next → AreLocal s path k (k + many)
      → gives_at G plan path (k + many) next ≡ gives_at G plan path k top
  local-names zero k top next at then local =
      let none : k + 0 ≡ k = omega arith in
      let there : StandsAt G plan path k next = subst (λ j. StandsAt G plan path j next) none then in
      let same = stands-one G plan path k next top there at in
      ap (λ j. gives_at G plan path j next) none ∙ ap (gives_at G plan path k) same
  local-names (suc many) k top next at then local =
      let more : k + suc many ≡ k + many + 1 = omega arith in
      let last : StandsAt G plan path (k + many + 1) next = subst (λ j. StandsAt G plan path j next) more then in
      let stood = stood-before G plan path (k + many) next last in
      let before = local-names many k top stood.before at stood.stands (record { order = omega arith; each = λ j late early. local.each j late (omega (arith, early)) }) in
      let held = holds-same (k + many) stood.before next stood.stands last (local.each (k + many) (omega arith) (omega arith)) in
      ap (λ j. gives_at G plan path j next) more
      ∙ names-stay G plan bounds path (k + many) stood.before stood.stands next last held
      ∙ before
