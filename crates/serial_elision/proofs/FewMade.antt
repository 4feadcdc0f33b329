-- How much a plan can make: each thing that a step makes costs a unit of fuel.
use Rattle.std.proofs.Common.{◌≡◌, ◌≢◌, ℕ, zero, suc, ◌+◌, ◌-◌, ◌≤◌, ◌<◌, ◌&&◌, inl, inr, Bool, true, false, nat_eq, cond, List, [], ◌∷◌, Option, Some, None, length, map, refl, sym, ap, ◌∙◌, arith, rules, tests}
use Rattle.std.proofs.lemmas.Bool.{cases_order}
use Rattle.std.proofs.lemmas.Bool.Decides.{Decides-eqb}
use Rattle.std.proofs.lemmas.List.{length-map}
use Rattle.std.proofs.lemmas.Map.Made.{IsDistinct-from_AllPairs}
use Rattle.std.proofs.lemmas.Map.Steps.{length-le_from_distinct_below}
use Rattle.std.proofs.lemmas.Option.{get_or_from_slice_get, same_Some, slice_get-map}
use Rattle.std.specs.List.{AllPairs}
use Rattle.std.specs.Option.{option_map, option_map_or}
use Rattle.std.specs.Prelude.{filter, slice_get, take}
use Rattle.swan_model.specs.declared.body.Body.{Ghosts}
use Rattle.swan_model.specs.declared.fault.FaultKind.TheVariants as kind
use Rattle.swan_model.specs.declared.origin.Origin.{Origin}
use Rattle.swan_model.specs.declared.origin.Origin.TheVariants.{Root, Step}
use Rattle.swan_model.specs.declared.plan.Plan.{Plan}
use Rattle.swan_model.specs.declared.plan.RootQueue.{RootQueue}
use Rattle.swan_model.specs.declared.script.Deed.{Deed}
use Rattle.swan_model.specs.declared.script.Deed.TheVariants as deed
use Rattle.swan_model.specs.declared.script.Entry.{Entry}
use Rattle.swan_model.specs.Elision.{most_steps, serial}
use Rattle.swan_model.specs.QueueFollows.{queue_times}
use Rattle.swan_model.specs.Script.{asked, deed_of, entry_of, entry_on, script}
use Rattle.swan_model.specs.SerialState.{Activation, State}
use Rattle.swan_model.specs.SerialStep.{Effect, goes_on, spawns, ends, faults, state_after, with_failed, effect, effect_of, after_next, step_on}
use Rattle.swan_model.specs.SerialTime.{is_of, is_queue_deed, places_from, times}
use Rattle.swan_model.specs.Told.{deed_at}
use Rattle.swan_model.proofs.Elements.{option_cases, one_if, any_number}
use Rattle.swan_model.proofs.Lists.{some_within}
use Rattle.swan_model.proofs.Places.{passing, passing-more, passing-none, passing-rises, passing-same}
use Rattle.swan_model.proofs.ScriptSteps.{deed_is}
use Rattle.serial_elision.specs.Laws.{AreEachOnce, IsObjectOf, IsQueueOf}
use Rattle.serial_elision.proofs.Endings.{entry_now}
use Rattle.serial_elision.proofs.Ends.{IsWithinFuel, effect-within}
use Rattle.serial_elision.proofs.Entries.{get_script}
use Rattle.swan_model.proofs.ScriptLength.{le_script}

-- ---- as many as there is fuel

abbrev fuel_of : {L : Type 0} → List (Activation L) → ℕ
fuel_of [] = 0
fuel_of (a ∷ below) = a.fuel + fuel_of below

fuel-failed : {L : Type 0} (stack : List (Activation L)) → fuel_of (with_failed stack) ≡ fuel_of stack
fuel-failed [] = refl
fuel-failed (parent ∷ below) = refl

after-fuel : {L : Type 0} (s : State L) (below : List (Activation L)) (path : List ℕ) (place fuel : ℕ) (done : Effect L) → IsWithinFuel fuel done → fuel_of (state_after s below path place done).stack ≤ fuel + fuel_of below
after-fuel s below path place fuel (goes_on a store) within = omega arith
after-fuel s below path place fuel (spawns parent child store) within = omega arith
after-fuel s below path place fuel ends within = omega arith
after-fuel s below path place fuel (faults kind) within = omega (arith, fuel-failed below)

one_if-most : (b : Bool) → one_if b ≤ 1
one_if-most true = omega arith
one_if-most false = omega arith

module _ {B L : Type 0} (G : Ghosts B L) (plan : Plan B L) (test : Deed → Bool) (quiet : test deed.Quiet ≡ false) where
  abbrev passes : Entry → Bool
  passes entry = test entry.deed

  -- a step that passes is paid for
  top-pays : (s : State L) (top : Activation L) (below : List (Activation L)) (dry : Bool) → nat_eq top.fuel 0 ≡ dry
      → one_if (passes (entry_of G plan.body s.steps s.store top)) + fuel_of (step_on G plan.body s (top ∷ below)).stack ≤ fuel_of (top ∷ below)
  top-pays s top below true is =
      let said = G.next plan.body top.local top.answer (top.fuel - 1) in
      let none : effect_of G plan.body s.steps s.store top ≡ faults kind.Fuel = ap (λ b. cond b (faults kind.Fuel) (effect s.steps s.store (after_next top said.0) said.1)) is in
      let fails : one_if (passes (entry_of G plan.body s.steps s.store top)) ≡ 0 = ap (λ d. one_if (test (deed_of (asked s.store top.holdings said.1) d))) none ∙ ap one_if quiet in
      let left : fuel_of (step_on G plan.body s (top ∷ below)).stack ≡ fuel_of below = ap (λ d. fuel_of (state_after s below top.path (G.place_of plan.body top.local) d).stack) none ∙ fuel-failed below in
      omega (arith, fails, left)
  top-pays s top below false is =
      let said = G.next plan.body top.local top.answer (top.fuel - 1) in
      let done = effect s.steps s.store (after_next top said.0) said.1 in
      let paid : 0 < top.fuel = search (rules, tests) in
      let falls = after-fuel s below top.path (G.place_of plan.body top.local) (top.fuel - 1) done (effect-within s.steps s.store (after_next top said.0) said.1) in
      let left : fuel_of (step_on G plan.body s (top ∷ below)).stack ≡ fuel_of (state_after s below top.path (G.place_of plan.body top.local) done).stack =
      ap (λ b. fuel_of (state_after s below top.path (G.place_of plan.body top.local) (cond b (faults kind.Fuel) done)).stack) is in
      omega (arith, falls, left, one_if-most (passes (entry_of G plan.body s.steps s.store top)))

  abbrev es : List Entry
  es = (script G plan).entries

  paid-on : (n : ℕ) (stack : List (Activation L)) → (serial G plan n).stack ≡ stack → passing passes (suc n) es + fuel_of (step_on G plan.body (serial G plan n) stack).stack ≤ passing passes n es + fuel_of stack
  paid-on n [] is =
      let none : slice_get es n ≡ None = get_script G plan n ∙ ap (entry_on G plan.body (serial G plan n)) is in
      let left : fuel_of (serial G plan n).stack ≡ 0 = ap fuel_of is in
      omega (arith, left, passing-same passes es n (λ e at. let both : None ≡ Some e = sym none ∙ at in absurd (cc)))
  paid-on n (top ∷ below) is =
      let s = serial G plan n in
      omega (arith, passing-more passes es n (entry_of G plan.body s.steps s.store top) (entry_now G plan n top below is), top-pays s top below (nat_eq top.fuel 0) refl)

  paid : (n : ℕ) → passing passes n es + fuel_of (serial G plan n).stack ≤ plan.fuel
  paid zero = omega (arith, passing-none passes es zero (λ i e less is. absurd (omega arith)))
  paid (suc n) = omega (arith, paid n, paid-on n (serial G plan n).stack refl)

  -- no more steps pass than there is fuel
  pub few-pass : (n : ℕ) → passing passes n es ≤ plan.fuel
  few-pass n = omega (arith, paid n)

  -- ---- and so no more origins

  -- the origin is one of so many roots, or of a step that passes
  abbrev IsRootOrPassing : ℕ → Origin → Type 0
  IsRootOrPassing roots (Root i) = i < roots
  IsRootOrPassing roots (Step n) = test (deed_at (script G plan) n) ≡ true

  abbrev number_of : ℕ → Origin → ℕ
  number_of roots (Root i) = i
  number_of roots (Step n) = roots + passing passes n es

  passing-next : (n : ℕ) → test (deed_at (script G plan) n) ≡ true → passing passes (suc n) es ≡ passing passes n es + 1
  passing-next n is = elim (option_cases (slice_get es n)) [
    | inl none ↦
        let idle : deed_at (script G plan) n ≡ deed.Quiet = ap (λ o. option_map_or (λ (e : Entry). e.deed) o deed.Quiet) none in
        let both : true ≡ false = sym is ∙ ap test idle ∙ quiet in
        absurd (cc)
    | inr some ↦
        let one : one_if (passes some.0) ≡ 1 = ap (λ d. one_if (test d)) (sym (deed_is (script G plan) n some.0 some.1)) ∙ ap one_if is in
        omega (arith, passing-more passes es n some.0 some.1, one)
  ]

  number-below : (roots : ℕ) (o : Origin) → IsRootOrPassing roots o → number_of roots o < roots + plan.fuel
  number-below roots (Root i) is = omega arith
  number-below roots (Step n) is = omega (arith, passing-next n is, few-pass (suc n))

  number-one : (roots : ℕ) (o p : Origin) → IsRootOrPassing roots o → IsRootOrPassing roots p → number_of roots o ≡ number_of roots p → o ≡ p
  number-one roots (Root i) (Root j) one two same = ap Root same
  number-one roots (Root i) (Step n) one two same = absurd (omega arith)
  number-one roots (Step n) (Root i) one two same = absurd (omega arith)
  number-one roots (Step n) (Step m) one two same = elim (cases_order n m) [
    | inl is ↦ ap Step is
    | inr differ ↦ elim differ [
      | inl less ↦ absurd (omega (arith, passing-next n one, passing-rises passes es (suc n) m (omega arith)))
      | inr more ↦ absurd (omega (arith, passing-next m two, passing-rises passes es (suc m) n (omega arith)))
    ]
  ]

  record HasNumber (roots : ℕ) (origins : List Origin) (i q : ℕ) : Type 0 where
    pub origin : Origin
    pub stands : slice_get origins i ≡ Some origin
    pub is : number_of roots origin ≡ q

  has-number : (roots : ℕ) (origins : List Origin) (i q : ℕ) (found : Option Origin) → slice_get origins i ≡ found → option_map (number_of roots) found ≡ Some q → HasNumber roots origins i q
  has-number roots origins i q None at is = absurd (cc)
  has-number roots origins i q (Some o) at is = record { origin = o; stands = at; is = same_Some (number_of roots o) q is }

  numbered : (roots : ℕ) (origins : List Origin) (i q : ℕ) → slice_get (map (number_of roots) origins) i ≡ Some q → HasNumber roots origins i q
  numbered roots origins i q at = has-number roots origins i q (slice_get origins i) refl (sym (slice_get-map (number_of roots) origins i) ∙ at)

  pub few-origins : (roots : ℕ) (origins : List Origin) → AreEachOnce (IsRootOrPassing roots) origins → length origins ≤ roots + plan.fuel
  few-origins roots origins are =
      let numbers = map (number_of roots) origins in
      let many : length numbers ≡ length origins = length-map origins (number_of roots) in
      let apart : AllPairs (λ x y. x ≢ y) numbers = λ i j d less within same.
      let a = some_within numbers i (omega arith) in
      let b = some_within numbers j within in
      let x = numbered roots origins i a.0 a.1 in
      let y = numbered roots origins j b.0 b.1 in
      let equal : number_of roots x.origin ≡ number_of roots y.origin = x.is ∙ sym (get_or_from_slice_get numbers i a.0 d a.1) ∙ same ∙ get_or_from_slice_get numbers j b.0 d b.1 ∙ sym y.is in
      let one = number-one roots x.origin y.origin (are.each i x.origin x.stands) (are.each j y.origin y.stands) equal in
      let here = are.once i j x.origin x.stands (y.stands ∙ ap Some (sym one)) in
      omega (arith, here) in
      omega (
        arith,
        many,
        length-le_from_distinct_below numbers (roots + plan.fuel) (IsDistinct-from_AllPairs Decides-eqb numbers apart) (λ q is.
            let found = any_number q numbers is in
            let o = numbered roots origins found.0 q found.1 in
            omega (arith, o.is, number-below roots o.origin (are.each found.0 o.origin o.stands))),
      )

-- ---- queues and objects

abbrev makes_queue : Deed → Bool
makes_queue deed.MakeQueue = true
makes_queue _ = false

abbrev makes_object : Deed → Bool
makes_object (deed.MakeObject first) = true
makes_object _ = false

module _ {B L : Type 0} (G : Ghosts B L) (plan : Plan B L) where
  queue-made : (o : Origin) → IsQueueOf (script G plan) o → IsRootOrPassing G plan makes_queue refl (length plan.roots.queues) o
  queue-made (Root i) is = omega (arith, is, length-map plan.roots.queues (λ (queue : RootQueue). queue.items))
  queue-made (Step n) is = ap makes_queue is

  object-made : (o : Origin) → IsObjectOf (script G plan) o → IsRootOrPassing G plan makes_object refl (length plan.roots.objects) o
  object-made (Root i) is = is
  object-made (Step n) is = ap makes_object is.1

  pub few-queues : (queues : List Origin) → AreEachOnce (IsQueueOf (script G plan)) queues → length queues ≤ length plan.roots.queues + plan.fuel
  few-queues queues are =
      few-origins G plan makes_queue refl (length plan.roots.queues) queues (record { each = λ i o at. queue-made o (are.each i o at); once = are.once })

  pub few-objects : (objects : List Origin) → AreEachOnce (IsObjectOf (script G plan)) objects → length objects ≤ length plan.roots.objects + plan.fuel
  few-objects objects are =
      few-origins G plan makes_object refl (length plan.roots.objects) objects (record { each = λ i o at. object-made o (are.each i o at); once = are.once })

-- ---- entries

one-or-none : {X : Type 0} (b : Bool) (x : X) (xs : List X) (n : ℕ) → length xs ≤ n → length (cond b (x ∷ xs) xs) ≤ suc n
one-or-none true x xs n is = omega (arith, is)
one-or-none false x xs n is = omega (arith, is)

few-places : (test : Entry → Bool) (n : ℕ) (es : List Entry) → length (places_from test n es) ≤ length es
few-places test n [] = omega arith
few-places test n (e ∷ es) = one-or-none (test e) n (places_from test (n + 1) es) (length es) (few-places test (n + 1) es)

few-passing : {X : Type 0} (test : X → Bool) (k : ℕ) (xs : List X) → length (filter test (take k xs)) ≤ length xs
few-passing test zero [] = omega arith
few-passing test zero (x ∷ xs) = omega arith
few-passing test (suc k) [] = omega arith
few-passing test (suc k) (x ∷ xs) = one-or-none (test x) x (filter test (take k xs)) (length xs) (few-passing test k xs)

module _ {B L : Type 0} (G : Ghosts B L) (plan : Plan B L) where
  -- a task has no more steps, and no more queue deeds, than the elision has steps
  pub few-times : (path : List ℕ) → length (times (script G plan) path) ≤ most_steps plan
  few-times path = omega (arith, few-places (is_of path) 0 (script G plan).entries, le_script G plan)

  pub few-queue_times : (path : List ℕ) → length (queue_times (script G plan) path) ≤ most_steps plan
  few-queue_times path = omega (arith, few-places (λ entry. is_of path entry && is_queue_deed entry.deed) 0 (script G plan).entries, le_script G plan)

  pub few-deeds : (path : List ℕ) (k : ℕ) → length (filter (λ t. is_queue_deed (deed_at (script G plan) t)) (take k (times (script G plan) path))) ≤ most_steps plan
  few-deeds path k =
      let s = script G plan in
      omega (arith, few-passing (λ t. is_queue_deed (deed_at s t)) k (times s path), few-times path)
