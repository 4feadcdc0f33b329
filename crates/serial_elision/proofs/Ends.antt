-- Why the elision ends: each step takes fuel, or ends an activation that has none.
use Rattle.std.proofs.Common.{◌≡◌, ℕ, zero, suc, ◌+◌, ◌-◌, ◌*◌, ◌≤◌, ◌<◌, Bool, true, false, nat_eq, nat_lt, nat_le, cond, List, [], ◌∷◌, Option, Some, None, refl, ap, arith, rules, tests, length}
use Rattle.swan_model.specs.declared.body.Ask.{Ask}
use Rattle.swan_model.specs.declared.body.Ask.TheVariants as ask
use Rattle.swan_model.specs.declared.body.Body.{Ghosts}
use Rattle.swan_model.specs.declared.body.Child.{Child}
use Rattle.swan_model.specs.declared.fault.FaultKind.TheVariants as kind
use Rattle.swan_model.specs.declared.path.TheConstants.{PATH_MOST}
use Rattle.swan_model.specs.declared.plan.Plan.{Plan}
use Rattle.swan_model.specs.declared.rights.Mode.TheVariants.{In, Out, Push, Pop}
use Rattle.swan_model.specs.declared.value.Value.{Value}
use Rattle.swan_model.specs.Elision.{serial, most_steps}
use Rattle.swan_model.specs.Rights.{is_aliased}
use Rattle.swan_model.specs.SerialState.{Activation, Holding, Queue, Store, State}
use Rattle.swan_model.specs.SerialStep.{Effect, goes_on, spawns, ends, faults, state_after, with_failed, effect, step_on, after_next, number_at, popped, spawn_effect, given}
use Rattle.serial_elision.proofs.Asks.{on_object-either, on_queue-either}

-- how many steps a stack can still take
abbrev pub potential : {L : Type 0} → List (Activation L) → ℕ
potential [] = 0
potential (a ∷ below) = 2 * a.fuel + 1 + potential below

potential-failed : {L : Type 0} (stack : List (Activation L)) → potential (with_failed stack) ≡ potential stack
potential-failed [] = refl
potential-failed (parent ∷ below) = refl

-- the activations that an effect leaves have no more fuel than this
abbrev pub IsWithinFuel : {L : Type 0} → ℕ → Effect L → Type 0
IsWithinFuel fuel (goes_on a store) = a.fuel ≤ fuel
IsWithinFuel fuel (spawns parent child store) = parent.fuel + child.fuel ≤ fuel
IsWithinFuel fuel ends = Unit {0}
IsWithinFuel fuel (faults kind) = Unit {0}

popped-within : {L : Type 0} (store : Store) (a : Activation L) (n : ℕ) (queue : Queue) (items : List Value) → IsWithinFuel a.fuel (popped store a n queue items)
popped-within store a n queue [] = tt
popped-within store a n queue (item ∷ items) = omega arith

if-within : {L : Type 0} (fuel : ℕ) (b : Bool) (x y : Effect L) → IsWithinFuel fuel x → (b ≡ false → IsWithinFuel fuel y) → IsWithinFuel fuel (cond b x y)
if-within fuel true x y then_within else_within = then_within
if-within fuel false x y then_within else_within = else_within refl

spawned-within : {L : Type 0} (store : Store) (a : Activation L) (child : Child L) (holdings : Option (List Holding)) → IsWithinFuel a.fuel (spawn_effect store a child holdings)
spawned-within store a child None = tt
spawned-within store a child (Some holdings) =
    if-within a.fuel (is_aliased child.gives) _ _ tt (λ lawful.
    if-within a.fuel (nat_le PATH_MOST (length a.path)) _ _ tt (λ shallow.
    if-within a.fuel (nat_lt a.fuel child.fuel) _ _ tt (λ enough.
    let most : child.fuel ≤ a.fuel = search (rules, tests) in omega arith)))

pub effect-within : {L : Type 0} (n : ℕ) (store : Store) (a : Activation L) (asked : Ask L) → IsWithinFuel a.fuel (effect n store a asked)
effect-within n store a ask.Work = omega arith
effect-within n store a (ask.Read place) =
    on_object-either (IsWithinFuel a.fuel) tt store (number_at a.holdings place In) _ (λ number cell held found. omega arith)
effect-within n store a (ask.Write place value) =
    on_object-either (IsWithinFuel a.fuel) tt store (number_at a.holdings place Out) _ (λ number cell held found. omega arith)
effect-within n store a (ask.Push place value) =
    on_queue-either (IsWithinFuel a.fuel) tt store (number_at a.holdings place Push) _ (λ number queue held found. omega arith)
effect-within n store a (ask.Pop place) =
    on_queue-either (IsWithinFuel a.fuel) tt store (number_at a.holdings place Pop) _ (λ number queue held found. popped-within store a number queue queue.items)
effect-within n store a (ask.Empty place) =
    on_queue-either (IsWithinFuel a.fuel) tt store (number_at a.holdings place Pop) _ (λ number queue held found. omega arith)
effect-within n store a ask.NewQueue = omega arith
effect-within n store a (ask.NewObject value) = omega arith
effect-within n store a (ask.Spawn child) = spawned-within store a child (given a.holdings child.gives)
effect-within n store a ask.Sync = omega arith
effect-within n store a ask.Finish = tt
effect-within n store a (ask.Fail trouble) = tt

-- after a step that was paid with one of this many units, and more, the stack can take fewer steps
after-falls : {L : Type 0} (s : State L) (below : List (Activation L)) (path : List ℕ) (place fuel : ℕ) (done : Effect L) → IsWithinFuel (fuel - 1) done → 0 < fuel → potential (state_after s below path place done).stack ≤ 2 * fuel + potential below
after-falls s below path place fuel (goes_on a store) within paid = omega arith
after-falls s below path place fuel (spawns parent child store) within paid = omega arith
after-falls s below path place fuel ends within paid = omega arith
after-falls s below path place fuel (faults kind) within paid = omega (arith, potential-failed below)

module _ {B L : Type 0} (G : Ghosts B L) where
  top-falls : (body : B) (s : State L) (top : Activation L) (below : List (Activation L)) (dry : Bool) → nat_eq top.fuel 0 ≡ dry → potential (step_on G body s (top ∷ below)).stack ≤ 2 * top.fuel + potential below
  top-falls body s top below true is =
      let asked = G.next body top.local top.answer (top.fuel - 1) in
      omega (arith, potential-failed below, ap (λ b. potential (state_after s below top.path (G.place_of body top.local) (cond b (faults kind.Fuel) (effect s.steps s.store (after_next top asked.0) asked.1))).stack) is)
  top-falls body s top below false is =
      let asked = G.next body top.local top.answer (top.fuel - 1) in
      let done = effect s.steps s.store (after_next top asked.0) asked.1 in
      let paid : 0 < top.fuel = search (rules, tests) in
      let falls = after-falls s below top.path (G.place_of body top.local) top.fuel done (effect-within s.steps s.store (after_next top asked.0) asked.1) paid in
      omega (arith, falls, ap (λ b. potential (state_after s below top.path (G.place_of body top.local) (cond b (faults kind.Fuel) done)).stack) is)

  -- each step that is taken lessens how many can still be taken
  step-falls : (body : B) (s : State L) (stack : List (Activation L)) → s.stack ≡ stack → potential (step_on G body s stack).stack ≤ potential stack - 1
  step-falls body s [] is = omega (arith, ap potential is)
  step-falls body s (top ∷ below) is = omega (arith, top-falls body s top below (nat_eq top.fuel 0) refl)

  serial-falls : (plan : Plan B L) (n : ℕ) → potential (serial G plan n).stack ≤ 2 * plan.fuel + 1 - n
  serial-falls plan zero = omega arith
  serial-falls plan (suc n) =
      omega (arith, serial-falls plan n, step-falls plan.body (serial G plan n) (serial G plan n).stack refl)

  none-left : (stack : List (Activation L)) → potential stack ≤ 0 → stack ≡ []
  none-left [] none = refl
  none-left (a ∷ below) none = absurd (omega arith)

  -- no activation is left after the most steps
  pub serial_ends : (plan : Plan B L) → (serial G plan (most_steps plan)).stack ≡ []
  serial_ends plan = none-left (serial G plan (most_steps plan)).stack (omega (arith, serial-falls plan (most_steps plan)))
