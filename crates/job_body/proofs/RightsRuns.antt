-- The elision of a checked job meets no fault of rights.
use Rattle.std.proofs.Common.{◌≡◌, ℕ, zero, suc, ◌+◌, ◌-◌, ◌≤◌, Bool, true, false, All, Option, Some, None, List, [], ◌∷◌, ◌++◌, length, flat_map, slice_get, codes, if◌then◌else◌, nat_eq, refl, sym, ap, ap₂, ◌∙◌, subst, arith}
use Rattle.std.proofs.lemmas.List.{append-nil, map-append}
use Rattle.std.proofs.lemmas.List.Elements.{All-push}
use Rattle.swan_model.specs.declared.fault.FaultKind.TheVariants as kind
use Rattle.swan_model.specs.declared.rights.Mode.TheVariants.{InOut, Push, Pop}
use Rattle.swan_model.specs.declared.value.Value.{Value}
use Rattle.swan_model.specs.Elision.{first_store, object_holdings, queue_holdings, root, root_holdings, serial}
use Rattle.swan_model.specs.SerialState.{Activation, Holding, State, Store}
use Rattle.swan_model.specs.SerialStep.{Effect, goes_on, spawns, ends, faults, state_after, effect, effect_of, after_next, step_on, with_failed}
use Rattle.job_reader.specs.Jobs.{IsJob, IsPlaced, edition_of}
use Rattle.job_reader.specs.declared.line.Line.{Line}
use Rattle.job_reader.specs.declared.line.Line.TheVariants as line
use Rattle.job_reader.specs.declared.position.Position.TheVariants.{First}
use Rattle.privilege_check.specs.FirstFault.{first_fault}
use Rattle.privilege_check.specs.Names.{before_first_line}
use Rattle.job_body.specs.contracts.body.JobBodyBody.TheImpl.{ghosts}
use Rattle.job_body.specs.PlanOfJob.{plan_of_job, root_objects, root_queues}
use Rattle.job_body.specs.RightsKept.{IsNotOfRights, KeepsRights}
use Rattle.job_body.specs.Standing.{Standing}
use Rattle.job_body.specs.Steps as steps
use Rattle.job_body.specs.Tasks.{task_index, top_lines}
use Rattle.swan_model.proofs.Stores.{HasGrown}
use Rattle.job_body.proofs.RightsEffects.{EffectFits, FitsStore, fits-grown}
use Rattle.job_body.proofs.RightsEntries.{root_entries, root_object_entry, root_queue_entry}
use Rattle.job_body.proofs.RightsLines.{task-stands}
use Rattle.job_body.proofs.RightsNames.{modes}
use Rattle.job_body.proofs.RightsPlaces.{Passes}
use Rattle.job_body.proofs.RightsSpawns.{InStore, held_modes_of}
use Rattle.job_body.proofs.RightsStands.{Stands, stands-executed}
use Rattle.job_body.proofs.RightsSteps.{line-fits}
use Rattle.job_body.proofs.RightsTasks.{IsTaskAt, found, learnt, main-found, main-known, passes-faultless, task-found}
use Rattle.swan_model.proofs.RootLists.{length-first_queues, length-first_cells}

-- ---- a step

top-fits : (job : List Line) → IsPlaced (edition_of job) First job → Passes before_first_line job → (n : ℕ) (store : Store) (top : Activation Standing) → FitsStore job store top → EffectFits job store (effect_of ghosts job n store top)
top-fits job placed passes n store top fits = fuelled (nat_eq top.fuel 0) where
  s : Standing
  s = steps.after_answer job top.local top.answer

  goes : (line : Option Line) → slice_get job top.local.at ≡ line → let taken = steps.step_at job s (top.fuel - 1) line in EffectFits job store (effect n store (after_next top taken.0) taken.1)
  goes None is = tt
  goes (Some line) is =
      line-fits job n store top s (top.fuel - 1) line (record { placed = placed; passes = passes; is = is; stands = fits.stands; stored = fits.stored })

  fuelled : (b : Bool) → EffectFits job store (if b then faults kind.Fuel else (let taken = steps.step_at job s (top.fuel - 1) (slice_get job top.local.at) in effect n store (after_next top taken.0) taken.1))
  fuelled true = refl
  fuelled false = goes (slice_get job top.local.at) refl

-- ---- the state

abbrev EachFits : List Line → Store → List (Activation Standing) → Type 0
EachFits job store [] = Unit {0}
EachFits job store (a ∷ below) = FitsStore job store a × EachFits job store below

each-grown : (job : List Line) (before after : Store) (stack : List (Activation Standing)) → HasGrown before after → EachFits job before stack → EachFits job after stack
each-grown job before after [] grows fits = tt
each-grown job before after (a ∷ below) grows fits = (fits-grown job before after a grows fits.0, each-grown job before after below grows fits.1)

each-failed : (job : List Line) (store : Store) (stack : List (Activation Standing)) → EachFits job store stack → EachFits job store (with_failed stack)
each-failed job store [] fits = tt
each-failed job store (a ∷ below) fits = (record { stands = fits.0.stands; stored = fits.0.stored }, fits.1)

record KeepsTo (job : List Line) (s : State Standing) : Type 0 where
  pub stack : EachFits job s.store s.stack
  pub faults : All IsNotOfRights s.faults

after-keeps : (job : List Line) (s : State Standing) (below : List (Activation Standing)) (path : List ℕ) (place : ℕ) (done : Effect Standing) → EffectFits job s.store done → EachFits job s.store below → All IsNotOfRights s.faults → KeepsTo job (state_after s below path place done)
after-keeps job s below path place (goes_on a store) fits each booked =
    record { stack = (fits.1, each-grown job s.store store below fits.0 each); faults = booked }
after-keeps job s below path place (spawns parent child store) fits each booked =
    record { stack = (fits.2, (fits.1, each-grown job s.store store below fits.0 each)); faults = booked }
after-keeps job s below path place ends fits each booked = record { stack = each; faults = booked }
after-keeps job s below path place (faults kind) fits each booked =
    record { stack = each-failed job s.store below each; faults = All-push IsNotOfRights s.faults (record { path = path; place = place; kind = kind }) booked fits }

step_on-keeps : (job : List Line) → IsPlaced (edition_of job) First job → Passes before_first_line job → (s : State Standing) (stack : List (Activation Standing)) → EachFits job s.store stack → KeepsTo job s → KeepsTo job (step_on ghosts job s stack)
step_on-keeps job placed passes s [] each keeps = keeps
step_on-keeps job placed passes s (top ∷ below) each keeps =
    after-keeps job s below top.path _ _ (top-fits job placed passes s.steps s.store top each.0) each.1 keeps.faults

-- ---- the start

queue-modes : (i : ℕ) (top : List Line) (texts : List (List ℕ)) → held_modes_of (queue_holdings i (root_queues top texts)) ≡ modes (flat_map root_queue_entry top)
queue-modes i [] texts = refl
queue-modes i (line.Input name ∷ top) [] = ap (λ ms. Pop ∷ ms) (queue-modes (i + 1) top [])
queue-modes i (line.Input name ∷ top) (text ∷ texts) = ap (λ ms. Pop ∷ ms) (queue-modes (i + 1) top texts)
queue-modes i (line.Output name k ∷ top) texts = ap (λ ms. Push ∷ ms) (queue-modes (i + 1) top texts)
queue-modes i (line ∷ top) texts = queue-modes i top texts

object-modes : (i : ℕ) (top : List Line) → held_modes_of (object_holdings i (root_objects top)) ≡ modes (flat_map root_object_entry top)
object-modes i [] = refl
object-modes i (line.Object name k ∷ top) = ap (λ ms. InOut ∷ ms) (object-modes (i + 1) top)
object-modes i (line ∷ top) = object-modes i top

root-modes : (top : List Line) (texts : List (List ℕ)) → held_modes_of (queue_holdings 0 (root_queues top texts) ++ object_holdings 0 (root_objects top)) ≡ modes (root_entries top)
root-modes top texts =
    map-append (λ (h : Holding). h.mode) (queue_holdings 0 (root_queues top texts)) (object_holdings 0 (root_objects top))
    ∙ ap₂ (λ a b. a ++ b) (queue-modes 0 top texts) (object-modes 0 top)
    ∙ sym (map-append (λ entry. entry.1) (flat_map root_queue_entry top) (flat_map root_object_entry top))

queues-stored : (c q i : ℕ) (top : List Line) (texts : List (List ℕ)) → i + length (root_queues top texts) ≤ q → InStore c q (queue_holdings i (root_queues top texts))
queues-stored c q i [] texts few = tt
queues-stored c q i (line.Input name ∷ top) [] few = (omega (arith, few), queues-stored c q (i + 1) top [] (omega (arith, few)))
queues-stored c q i (line.Input name ∷ top) (text ∷ texts) few = (omega (arith, few), queues-stored c q (i + 1) top texts (omega (arith, few)))
queues-stored c q i (line.Output name k ∷ top) texts few = (omega (arith, few), queues-stored c q (i + 1) top texts (omega (arith, few)))
queues-stored c q i (line ∷ top) texts few = queues-stored c q i top texts few

objects-stored : (c q i : ℕ) (values : List Value) → i + length values ≤ c → InStore c q (object_holdings i values)
objects-stored c q i [] few = tt
objects-stored c q i (value ∷ values) few = (omega (arith, few), objects-stored c q (i + 1) values (omega (arith, few)))

both-stored : (c q : ℕ) (first second : List Holding) → InStore c q first → InStore c q second → InStore c q (first ++ second)
both-stored c q [] second a b = b
both-stored c q (holding ∷ first) second a b = (a.0, both-stored c q first second a.1 b)

main-at : (job : List Line) → first_fault job ≡ None → Passes before_first_line job → IsTaskAt job (task_index job (codes "main")) (codes "main") []
main-at job faultless passes =
    let main = main-known job 0 before_first_line faultless in
    let is : found job (codes "main") ≡ Some main.0 = sym (learnt before_first_line job (codes "main") passes refl) ∙ main.1 in
    subst (IsTaskAt job (task_index job (codes "main")) (codes "main")) (main-found job before_first_line main.0 passes is) (task-found job (codes "main") main.0 is)

root-fits : (job : List Line) (texts : List (List ℕ)) (fuel : ℕ) → IsPlaced (edition_of job) First job → first_fault job ≡ None → Passes before_first_line job → let plan = plan_of_job job texts fuel in FitsStore job (first_store plan.roots) (root plan)
root-fits job texts fuel placed faultless passes =
    let top = top_lines job in
    let index = task_index job (codes "main") in
    let begins : Stands job (index + 1) (modes (root_entries top) ++ []) = task-stands job placed index (codes "main") [] (main-at job faultless passes) in
    let holds : Stands job (index + 1) (held_modes_of (root_holdings (plan_of_job job texts fuel).roots)) =
    subst (Stands job (index + 1)) (append-nil (modes (root_entries top)) ∙ sym (root-modes top texts)) begins in
    record {
      stands = stands-executed job (index + 1) _ placed holds;
      stored = both-stored _ _ (queue_holdings 0 (root_queues top texts)) (object_holdings 0 (root_objects top))
          (queues-stored _ _ 0 top texts (omega (arith, length-first_queues 0 (root_queues top texts))))
          (objects-stored _ _ 0 (root_objects top) (omega (arith, length-first_cells 0 (root_objects top))));
    }

-- ---- the elision

serial-keeps : (job : List Line) (texts : List (List ℕ)) (fuel : ℕ) → IsPlaced (edition_of job) First job → first_fault job ≡ None → Passes before_first_line job → (n : ℕ) → KeepsTo job (serial ghosts (plan_of_job job texts fuel) n)
serial-keeps job texts fuel placed faultless passes zero =
    record { stack = (root-fits job texts fuel placed faultless passes, tt); faults = λ k d less. absurd (omega (arith, less)) }
serial-keeps job texts fuel placed faultless passes (suc n) =
    let before = serial-keeps job texts fuel placed faultless passes n in
    let s = serial ghosts (plan_of_job job texts fuel) n in
    step_on-keeps job placed passes s s.stack before.stack before

-- a job without a fault keeps to the rights of its tasks
pub rights-kept : (job : List Line) (texts : List (List ℕ)) (fuel : ℕ) → IsJob job → first_fault job ≡ None → KeepsRights ghosts (plan_of_job job texts fuel)
rights-kept job texts fuel is_job faultless = λ n.
    (serial-keeps job texts fuel is_job.placed faultless (passes-faultless job 0 before_first_line faultless) n).faults
