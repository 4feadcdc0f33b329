-- Whole runs of the elision: how many steps they take, and that they end.
use Rattle.std.proofs.Common.{◌≡◌, ℕ, zero, suc, ◌+◌, ◌-◌, ◌≤◌, List, [], ◌∷◌, refl, sym, ap, ◌∙◌, arith, add-suc, add-zero, length, map, take}
use Rattle.std.proofs.lemmas.List.{take-map}
use Rattle.swan_model.specs.declared.body.Body.{Ghosts}
use Rattle.swan_model.specs.declared.plan.Plan.{Plan}
use Rattle.swan_model.specs.declared.outcome.Outcome.{Outcome}
use Rattle.swan_model.specs.declared.value.Value.{Value}
use Rattle.swan_model.specs.Elision.{serial, final, most_steps, outcome}
use Rattle.swan_model.specs.SerialState.{Activation, Cell, Queue, State}
use Rattle.swan_model.specs.SerialStep.{Effect, goes_on, spawns, ends, faults, state_after, step, step_on, effect_of}
use Rattle.serial_elision.specs.Working.{after_steps}

-- an effect counts one step
pub steps-after : {L : Type 0} (s : State L) (below : List (Activation L)) (path : List ℕ) (place : ℕ) (effect : Effect L) → (state_after s below path place effect).steps ≡ s.steps + 1
steps-after s below path place (goes_on a store) = refl
steps-after s below path place (spawns parent child store) = refl
steps-after s below path place ends = refl
steps-after s below path place (faults kind) = refl

module _ {B L : Type 0} (G : Ghosts B L) where
  steps-step_on : (body : B) (s : State L) (stack : List (Activation L)) → (step_on G body s stack).steps ≤ s.steps + 1
  steps-step_on body s [] = omega arith
  steps-step_on body s (top ∷ below) =
      omega (arith, steps-after s below top.path (G.place_of body top.local) (effect_of G body s.steps s.store top))

  -- the state after n steps counts no more than n
  pub le-serial : (plan : Plan B L) (n : ℕ) → (serial G plan n).steps ≤ n
  le-serial plan zero = omega arith
  le-serial plan (suc n) =
      omega (arith, le-serial plan n, steps-step_on plan.body (serial G plan n) (serial G plan n).stack)

  -- once no activation is left, the state stays
  pub serial-over : (plan : Plan B L) (n k : ℕ) → (serial G plan n).stack ≡ [] → serial G plan (n + k) ≡ serial G plan n
  serial-over plan n zero over = ap (serial G plan) (add-zero n)
  serial-over plan n (suc k) over =
      let same = serial-over plan n k over in
      ap (serial G plan) (add-suc n k)
      ∙ ap (step G plan.body) same
      ∙ ap (step_on G plan.body (serial G plan n)) over

  -- a state in which no activation is left is the final one
  pub final-over : (plan : Plan B L) (n : ℕ) → n ≤ most_steps plan → (serial G plan n).stack ≡ [] → serial G plan n ≡ final G plan
  final-over plan n most over =
      let rest : n + (most_steps plan - n) ≡ most_steps plan = omega arith in
      sym (serial-over plan n (most_steps plan - n) over) ∙ ap (serial G plan) rest

  -- the outcome is what the first cells and queues of the final state have, and its faults
  pub outcome-final : (plan : Plan B L) (s : State L) (objects : List Value) (queues : List (List Value)) → s ≡ final G plan → objects ≡ map (λ cell. cell.value) (take (length plan.roots.objects) s.store.cells) → queues ≡ map (λ queue. queue.items) (take (length plan.roots.queues) s.store.queues) → ◌≡◌ {A = Outcome} (record { objects = objects; queues = queues; faults = s.faults }) (outcome G plan)
  outcome-final plan s objects queues last objects_are queues_are =
      let value : Cell → Value = λ cell. cell.value in
      let items : Queue → List Value = λ queue. queue.items in
      ap {B = Outcome} (λ o. record { objects = o; queues = queues; faults = s.faults }) (objects_are ∙ sym (take-map value (length plan.roots.objects) s.store.cells))
      ∙ ap {B = Outcome} (λ q. record { objects = take (length plan.roots.objects) (map value s.store.cells); queues = q; faults = s.faults }) (queues_are ∙ sym (take-map items (length plan.roots.queues) s.store.queues))
      ∙ ap {B = Outcome} (λ t. record { objects = take (length plan.roots.objects) (map value t.store.cells); queues = take (length plan.roots.queues) (map items t.store.queues); faults = t.faults }) last

  -- the state after more steps
  pub serial-more : (plan : Plan B L) (k n : ℕ) → after_steps G plan.body (serial G plan k) n ≡ serial G plan (k + n)
  serial-more plan k zero = ap (serial G plan) (sym (add-zero k))
  serial-more plan k (suc n) = ap (step G plan.body) (serial-more plan k n) ∙ ap (serial G plan) (sym (add-suc k n))
