-- The names of what the root holds as it begins: those of the plan's queues and then of its objects.
use Rattle.std.proofs.Common.{◌≡◌, ℕ, zero, suc, ◌+◌, List, [], ◌∷◌, ◌++◌, Some, length, map, sym, ap, ◌∙◌, arith}
use Rattle.std.proofs.lemmas.Option.{same_Some, slice_get-map}
use Rattle.std.specs.Option.{option_map}
use Rattle.std.specs.Prelude.{slice_get}
use Rattle.swan_model.specs.declared.body.Body.{Ghosts}
use Rattle.swan_model.specs.declared.origin.Origin.TheVariants.{Root}
use Rattle.swan_model.specs.declared.plan.Plan.{Plan}
use Rattle.swan_model.specs.declared.plan.RootQueue.{RootQueue}
use Rattle.swan_model.specs.declared.rights.Mode.TheVariants.{InOut}
use Rattle.swan_model.specs.declared.value.Value.{Value}
use Rattle.swan_model.specs.Elision.{first_store, object_holdings, queue_holdings, root, root_holdings, serial}
use Rattle.swan_model.specs.Roots.{IsWithinBounds}
use Rattle.swan_model.specs.Script.{give_of}
use Rattle.swan_model.specs.SerialState.{Holding}
use Rattle.swan_model.specs.TrueFrames.{gives_at}
use Rattle.serial_elision.proofs.Held.{give-of}
use Rattle.serial_elision.proofs.RightsTold.{root-object_stands, root-queue_stands}
use Rattle.swan_model.proofs.RootLists.{length-queue_holdings}
use Rattle.serial_elision.proofs.TaskSteps.{root-time}
use Rattle.swan_model.proofs.Lists.{get-after}

held-queue : (k : ℕ) (queues : List RootQueue) (more : List Holding) (i : ℕ) (queue : RootQueue) → slice_get queues i ≡ Some queue
    → slice_get (queue_holdings k queues ++ more) i ≡ Some (record { mode = queue.mode; number = k + i })
held-queue k [] more i queue is = absurd (cc)
held-queue k (q ∷ queues) more zero queue is =
    let here : k ≡ k + 0 = omega arith in
    ap (λ (x : RootQueue). Some (let h : Holding = record { mode = x.mode; number = k } in h)) (same_Some q queue is)
    ∙ ap (λ n. Some (let h : Holding = record { mode = queue.mode; number = n } in h)) here
held-queue k (q ∷ queues) more (suc i) queue is =
    let later : (k + 1) + i ≡ k + suc i = omega arith in
    held-queue (k + 1) queues more i queue is ∙ ap (λ n. Some (let h : Holding = record { mode = queue.mode; number = n } in h)) later

held-object : (k : ℕ) (values : List Value) (i : ℕ) (value : Value) → slice_get values i ≡ Some value
    → slice_get (object_holdings k values) i ≡ Some (record { mode = InOut; number = k + i })
held-object k [] i value is = absurd (cc)
held-object k (v ∷ values) zero value is =
    let here : k ≡ k + 0 = omega arith in
    ap (λ n. Some (let h : Holding = record { mode = InOut; number = n } in h)) here
held-object k (v ∷ values) (suc i) value is =
    let later : (k + 1) + i ≡ k + suc i = omega arith in
    held-object (k + 1) values i value is ∙ ap (λ n. Some (let h : Holding = record { mode = InOut; number = n } in h)) later

module _ {B L : Type 0} (G : Ghosts B L) (plan : Plan B L) (bounds : IsWithinBounds plan.roots.queues plan.roots.objects) where
  name-at : (i : ℕ) (h : Holding) → slice_get (root_holdings plan.roots) i ≡ Some h → slice_get (gives_at G plan [] 0 (root plan)) i ≡ Some (give_of (first_store plan.roots) h)
  name-at i h is =
      let names = λ (n : ℕ). slice_get (map (give_of (serial G plan n).store) (root_holdings plan.roots)) i in
      ap names (root-time G plan) ∙ slice_get-map (give_of (first_store plan.roots)) (root_holdings plan.roots) i ∙ ap (option_map (give_of (first_store plan.roots))) is

  pub root-queue_name : (i : ℕ) (queue : RootQueue) → slice_get plan.roots.queues i ≡ Some queue
      → slice_get (gives_at G plan [] 0 (root plan)) i ≡ Some (Some (record { origin = Root i; mode = queue.mode }))
  root-queue_name i queue is =
      let h : Holding = record { mode = queue.mode; number = 0 + i } in
      name-at i h (held-queue 0 plan.roots.queues (object_holdings 0 plan.roots.objects) i queue is)
      ∙ ap Some (give-of (first_store plan.roots) h (Root i) (root-queue_stands G plan bounds i queue is))

  pub root-object_name : (i : ℕ) (value : Value) → slice_get plan.roots.objects i ≡ Some value
      → slice_get (gives_at G plan [] 0 (root plan)) (length plan.roots.queues + i) ≡ Some (Some (record { origin = Root i; mode = InOut }))
  root-object_name i value is =
      let h : Holding = record { mode = InOut; number = 0 + i } in
      let place : length (queue_holdings 0 plan.roots.queues) + i ≡ length plan.roots.queues + i = omega (arith, length-queue_holdings 0 plan.roots.queues) in
      name-at (length plan.roots.queues + i) h
      (ap (slice_get (root_holdings plan.roots)) (sym place) ∙ get-after (queue_holdings 0 plan.roots.queues) (object_holdings 0 plan.roots.objects) i ∙ held-object 0 plan.roots.objects i value is)
      ∙ ap Some (give-of (first_store plan.roots) h (Root i) (root-object_stands G plan i value is))
