-- No step makes a list of objects or queues shorter. So the outcome has as many as the plan.
use Rattle.std.proofs.Common.{◌≡◌, ℕ, zero, suc, ◌-◌, nat_eq, nat_lt, nat_le, List, [], ◌∷◌, ◌++◌, Option, Some, None, arith, length, map, length-append}
use Rattle.std.proofs.lemmas.List.{length-map, length-take-le}
use Rattle.swan_model.specs.declared.body.Ask.{Ask}
use Rattle.swan_model.specs.declared.body.Ask.TheVariants as ask
use Rattle.swan_model.specs.declared.body.Body.{Ghosts}
use Rattle.swan_model.specs.declared.body.Child.{Child}
use Rattle.swan_model.specs.declared.path.TheConstants.{PATH_MOST}
use Rattle.swan_model.specs.declared.plan.Plan.{Plan}
use Rattle.swan_model.specs.declared.rights.Mode.TheVariants.{In, Out, Push, Pop}
use Rattle.swan_model.specs.declared.value.Value.{Value}
use Rattle.swan_model.specs.Elision.{serial, final, outcome, most_steps}
use Rattle.swan_model.specs.Rights.{is_aliased}
use Rattle.swan_model.specs.SerialState.{Activation, Cell, Holding, Queue, Store, State}
use Rattle.swan_model.specs.SerialStep.{Effect, goes_on, spawns, ends, faults, state_after, effect, effect_of, step_on, after_next, number_at, popped, spawn_effect, given}
use Rattle.swan_model.proofs.ZeroedCells.{length-zeroed}
use Rattle.swan_model.proofs.RootLists.{length-first_queues, length-first_cells}
use Rattle.swan_model.proofs.Stores.{HasGrown, grown-items, grown-same, grown-value}
use Rattle.serial_elision.proofs.Asks.{if-either, on_object-either, on_queue-either}

-- an effect leaves a store that has all of this one
abbrev pub Keeps : {L : Type 0} → Store → Effect L → Type 0
Keeps store (goes_on a after) = HasGrown store after
Keeps store (spawns parent child after) = HasGrown store after
Keeps store ends = Unit {0}
Keeps store (faults kind) = Unit {0}

popped-keeps : {L : Type 0} (store : Store) (a : Activation L) (n : ℕ) (queue : Queue) (items : List Value) → Keeps store (popped store a n queue items)
popped-keeps store a n queue [] = tt
popped-keeps store a n queue (item ∷ items) = grown-items store n queue items

spawned-keeps : {L : Type 0} (store : Store) (a : Activation L) (child : Child L) (holdings : Option (List Holding)) → Keeps store (spawn_effect store a child holdings)
spawned-keeps store a child None = tt
spawned-keeps store a child (Some holdings) =
    if-either (Keeps store) (is_aliased child.gives) _ _ tt
    (if-either (Keeps store) (nat_le PATH_MOST (length a.path)) _ _ tt
    (if-either (Keeps store) (nat_lt a.fuel child.fuel) _ _ tt
    (record { cells = omega (arith, length-zeroed store.cells holdings); queues = omega arith })))

effect-keeps : {L : Type 0} (n : ℕ) (store : Store) (a : Activation L) (asked : Ask L) → Keeps store (effect n store a asked)
effect-keeps n store a ask.Work = grown-same store
effect-keeps n store a (ask.Read place) =
    on_object-either (Keeps store) tt store (number_at a.holdings place In) _ (λ number cell held found. grown-same store)
effect-keeps n store a (ask.Write place value) =
    on_object-either (Keeps store) tt store (number_at a.holdings place Out) _ (λ number cell held found. grown-value store number cell value)
effect-keeps n store a (ask.Push place value) =
    on_queue-either (Keeps store) tt store (number_at a.holdings place Push) _ (λ number queue held found. grown-items store number queue (queue.items ++ value ∷ []))
effect-keeps n store a (ask.Pop place) =
    on_queue-either (Keeps store) tt store (number_at a.holdings place Pop) _ (λ number queue held found. popped-keeps store a number queue queue.items)
effect-keeps n store a (ask.Empty place) =
    on_queue-either (Keeps store) tt store (number_at a.holdings place Pop) _ (λ number queue held found. grown-same store)
effect-keeps n store a ask.NewQueue = record { cells = omega arith; queues = omega (arith, length-append {A = Queue}) }
effect-keeps n store a (ask.NewObject value) = record { cells = omega (arith, length-append {A = Cell}); queues = omega arith }
effect-keeps n store a (ask.Spawn child) = spawned-keeps store a child (given a.holdings child.gives)
effect-keeps n store a ask.Sync = grown-same store
effect-keeps n store a ask.Finish = tt
effect-keeps n store a (ask.Fail trouble) = tt

after-keeps : {L : Type 0} (s : State L) (below : List (Activation L)) (path : List ℕ) (place : ℕ) (done : Effect L) → Keeps s.store done → HasGrown s.store (state_after s below path place done).store
after-keeps s below path place (goes_on a store) kept = kept
after-keeps s below path place (spawns parent child store) kept = kept
after-keeps s below path place ends kept = grown-same s.store
after-keeps s below path place (faults kind) kept = grown-same s.store

module _ {B L : Type 0} (G : Ghosts B L) where
  step-keeps : (body : B) (s : State L) (stack : List (Activation L)) → HasGrown s.store (step_on G body s stack).store
  step-keeps body s [] = grown-same s.store
  step-keeps body s (top ∷ below) =
      let asked = G.next body top.local top.answer (top.fuel - 1) in
      after-keeps s below top.path (G.place_of body top.local) (effect_of G body s.steps s.store top)
      (if-either (Keeps s.store) (nat_eq top.fuel 0) _ _ tt (effect-keeps s.steps s.store (after_next top asked.0) asked.1))

  pub serial-keeps : (plan : Plan B L) (n : ℕ) → HasGrown (serial G plan zero).store (serial G plan n).store
  serial-keeps plan zero = grown-same (serial G plan zero).store
  serial-keeps plan (suc n) =
      let before = serial-keeps plan n in
      let last = step-keeps plan.body (serial G plan n) (serial G plan n).stack in
      record { cells = omega arith; queues = omega arith }

  -- the outcome has as many queues and objects as the plan
  pub length-outcome_queues : (plan : Plan B L) → length (outcome G plan).queues ≡ length plan.roots.queues
  length-outcome_queues plan =
      let kept = serial-keeps plan (most_steps plan) in
      let left = (final G plan).store.queues in
      let items : Queue → List Value = λ queue. queue.items in
      length-take-le (length plan.roots.queues) (map items left) (omega (arith, kept.queues, length-map left items, length-first_queues 0 plan.roots.queues))

  pub length-outcome_objects : (plan : Plan B L) → length (outcome G plan).objects ≡ length plan.roots.objects
  length-outcome_objects plan =
      let kept = serial-keeps plan (most_steps plan) in
      let left = (final G plan).store.cells in
      let value : Cell → Value = λ cell. cell.value in
      length-take-le (length plan.roots.objects) (map value left) (omega (arith, kept.cells, length-map left value, length-first_cells 0 plan.roots.objects))
