-- What the elision leaves is what the script tells after its last entry, at each index, and nothing past them.
use Rattle.std.proofs.Common.{◌≡◌, ℕ, zero, suc, ◌+◌, List, [], ◌∷◌, length, Some, refl, sym, ap, ◌∙◌, arith, length-append}
use Rattle.std.proofs.lemmas.List.{length-map, take_all}
use Rattle.std.specs.Option.{option_map}
use Rattle.std.specs.Prelude.{drop, slice_get, take, IfSome}
use Rattle.swan_model.specs.declared.body.Body.{Ghosts}
use Rattle.swan_model.specs.declared.origin.Origin.TheVariants.{Root}
use Rattle.swan_model.specs.declared.plan.Plan.{Plan}
use Rattle.swan_model.specs.declared.plan.RootQueue.{RootQueue}
use Rattle.swan_model.specs.declared.value.Value.{Value}
use Rattle.swan_model.specs.Elision.{outcome}
use Rattle.swan_model.specs.Script.{script}
use Rattle.swan_model.specs.Told.{items, cell, cell_from, count, first_items, pushed, pushes, taken}
use Rattle.serial_elision.proofs.Counts.{length-outcome_queues, length-outcome_objects}
use Rattle.serial_elision.proofs.SerialTold.{queues_left, objects_left}

-- a list that is as long as another one, and has this wherever it has anything
each-index : {X Y : Type 0} (xs : List X) (ys : List Y) (x : X) (i : ℕ) → length xs ≡ length ys → IfSome (slice_get xs i) (λ z. z ≡ x) → slice_get xs i ≡ option_map (λ y. x) (slice_get ys i)
each-index [] [] x i long is = refl
each-index [] (y ∷ ys) x i long is = absurd (omega arith)
each-index (z ∷ zs) [] x i long is = absurd (omega arith)
each-index (z ∷ zs) (y ∷ ys) x zero long is = ap Some is
each-index (z ∷ zs) (y ∷ ys) x (suc i) long is = each-index zs ys x i (omega arith) is

each-made : {X Y : Type 0} (xs : List X) (ys : List Y) (make : Y → X) (i : ℕ) → length xs ≡ length ys → IfSome (slice_get xs i) (λ z. option_map make (slice_get ys i) ≡ Some z) → slice_get xs i ≡ option_map make (slice_get ys i)
each-made [] [] make i long is = refl
each-made [] (y ∷ ys) make i long is = absurd (omega arith)
each-made (z ∷ zs) [] make i long is = absurd (omega arith)
each-made (z ∷ zs) (y ∷ ys) make zero long is = sym is
each-made (z ∷ zs) (y ∷ ys) make (suc i) long is = each-made zs ys make i (omega arith) is

module _ {B L : Type 0} (G : Ghosts B L) where
  pub queues_told : (plan : Plan B L) (i : ℕ) → slice_get (outcome G plan).queues i ≡ option_map (λ (first : List Value). items (script G plan) (Root i) (length (script G plan).entries)) (slice_get (script G plan).queues i)
  queues_told plan i =
      let s = script G plan in
      let long : length (outcome G plan).queues ≡ length s.queues =
      length-outcome_queues G plan ∙ sym (length-map plan.roots.queues (λ (queue : RootQueue). queue.items)) in
      each-index (outcome G plan).queues s.queues (items s (Root i) (length s.entries)) i long (queues_left G plan i)

  -- all items that are left, from the first one that wasn't taken on
  pub rest_told : (plan : Plan B L) (i : ℕ) → slice_get (outcome G plan).queues i
      ≡ option_map (λ (first : List Value). drop (taken (script G plan) (Root i) (length (script G plan).entries)) (pushes (script G plan) (Root i))) (slice_get (script G plan).queues i)
  rest_told plan i =
      let s = script G plan in
      let n = length s.entries in
      let whole : take n s.entries ≡ s.entries = take_all n s.entries (omega arith) in
      let many : count s (Root i) n ≡ length (first_items s (Root i)) + length (pushed (Root i) s.entries) = ap (λ es. length (first_items s (Root i)) + length (pushed (Root i) es)) whole in
      let all : take (count s (Root i) n) (pushes s (Root i)) ≡ pushes s (Root i) =
      take_all (count s (Root i) n) (pushes s (Root i)) (omega (arith, many, length-append (first_items s (Root i)) (pushed (Root i) s.entries))) in
      queues_told plan i ∙ ap (λ xs. option_map (λ (first : List Value). drop (taken s (Root i) n) xs) (slice_get s.queues i)) all

  pub objects_told : (plan : Plan B L) (i : ℕ) → slice_get (outcome G plan).objects i ≡ cell (script G plan) (Root i) (length (script G plan).entries)
  objects_told plan i =
      let s = script G plan in
      each-made (outcome G plan).objects s.objects (λ first. cell_from s (Root i) first (length s.entries)) i (length-outcome_objects G plan) (objects_left G plan i)
