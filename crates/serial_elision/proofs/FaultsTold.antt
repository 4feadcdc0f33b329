-- Each fault of the elision is that of a task's last step, and each such step books one; so faults in serial order that are
-- those of the last steps are the elision's.
use Rattle.std.proofs.Common.{◌≡◌, ◌⊎◌, inl, inr, ℕ, zero, suc, ◌+◌, true, List, [], ◌∷◌, ◌++◌, Some, length, refl, sym, ap, subst, ◌∙◌, append-nil, arith}
use Rattle.std.proofs.lemmas.Option.{get_or_from_slice_get, slice_get_within}
use Rattle.std.specs.Prelude.{slice_get}
use Rattle.swan_model.specs.declared.body.Body.{Ghosts}
use Rattle.swan_model.specs.declared.fault.Fault.{Fault}
use Rattle.swan_model.specs.declared.plan.Plan.{Plan}
use Rattle.swan_model.specs.Elision.{most_steps, outcome, serial}
use Rattle.swan_model.specs.PathOrder.{comes_before}
use Rattle.swan_model.specs.Script.{is_end, script}
use Rattle.swan_model.specs.SerialState.{Activation, State}
use Rattle.swan_model.specs.SerialStep.{Effect, goes_on, spawns, ends, faults, state_after, effect_of, step_on}
use Rattle.swan_model.specs.SerialTime.{time}
use Rattle.swan_model.specs.TrueFrames.{effect_at}
use Rattle.serial_elision.specs.Laws.{AreInOrder}
use Rattle.serial_elision.specs.TaskSteps.{IsFaultOf}
use Rattle.swan_model.proofs.Elements.{before_more, last_more, more_cases}
use Rattle.serial_elision.proofs.FaultOrder.{serial-in_order}
use Rattle.serial_elision.proofs.Finals.{final-past}
use Rattle.serial_elision.proofs.TaskSteps.{ends_last, next-state, stands-now, top_path}
use Rattle.swan_model.proofs.PathOrder.{never_before-both, not_before-under}

-- ---- lists in serial order

-- a list has this somewhere
abbrev HasFault : List Fault → Fault → Type 0
HasFault all fault = (j : ℕ) × (slice_get all j ≡ Some fault)

-- each of a list stands in the other one
abbrev AreAmong : List Fault → List Fault → Type 0
AreAmong some all = (j : ℕ) (fault : Fault) → slice_get some j ≡ Some fault → HasFault all fault

later-one : (first : Fault) (rest : List Fault) (j : ℕ) (fault : Fault) → AreInOrder (first ∷ rest) → slice_get rest j ≡ Some fault → comes_before first.path fault.path ≡ true
later-one first rest j fault ordered at =
    let within = slice_get_within rest j fault at in
    let is = ordered 0 (suc j) first (omega arith) (omega arith) in
    let same = get_or_from_slice_get rest j fault first at in
    subst (λ (f : Fault). comes_before first.path f.path ≡ true) same is

rest-ordered : (first : Fault) (rest : List Fault) → AreInOrder (first ∷ rest) → AreInOrder rest
rest-ordered first rest ordered = λ i j d less within. ordered (suc i) (suc j) d (omega arith) (omega arith)

-- what stands in a list is its first one, or comes after it
first-or-later : (first : Fault) (rest : List Fault) (fault : Fault) → AreInOrder (first ∷ rest) → HasFault (first ∷ rest) fault → (fault ≡ first) ⊎ ((comes_before first.path fault.path ≡ true) × HasFault rest fault)
first-or-later first rest fault ordered (zero, at) = let same : first ≡ fault = cc in inl (sym same)
first-or-later first rest fault ordered (suc j, at) = inr (later-one first rest j fault ordered at, (j, at))

tail-among : (x y : Fault) (xs ys : List Fault) → x ≡ y → AreInOrder (x ∷ xs) → AreInOrder (y ∷ ys) → AreAmong (x ∷ xs) (y ∷ ys) → AreAmong xs ys
tail-among x y xs ys same one two among j fault at = elim (first-or-later y ys fault two (among (suc j) fault at)) [
  | inl is ↦
      let before = later-one x xs j fault one at in
      absurd (not_before-under x.path [] (ap (comes_before x.path) (append-nil x.path) ∙ ap (λ (f : Fault). comes_before x.path f.path) (same ∙ sym is) ∙ before))
  | inr later ↦ later.1
]

pub same-faults : (xs ys : List Fault) → AreInOrder xs → AreInOrder ys → AreAmong xs ys → AreAmong ys xs → xs ≡ ys
same-faults [] [] one two among also = refl
same-faults [] (y ∷ ys) one two among also = let none = also 0 y refl in absurd (cc)
same-faults (x ∷ xs) [] one two among also = let none = among 0 x refl in absurd (cc)
same-faults (x ∷ xs) (y ∷ ys) one two among also =
    let first : x ≡ y = elim (first-or-later y ys x two (among 0 x refl)) [
      | inl is ↦ is
      | inr after_y ↦ elim (first-or-later x xs y one (also 0 y refl)) [
        | inl is ↦ sym is
        | inr after_x ↦ absurd (never_before-both x.path y.path after_x.0 after_y.0)
      ]
    ] in
    let rest = same-faults xs ys (rest-ordered x xs one) (rest-ordered y ys two) (tail-among x y xs ys first one two among) (tail-among y x ys xs (sym first) two one also) in
    ap (λ f. f ∷ xs) first ∙ ap (λ fs. y ∷ fs) rest

-- ---- the faults of an elision

module _ {B L : Type 0} (G : Ghosts B L) (plan : Plan B L) where
  booked-on : (n : ℕ) (top : Activation L) (below : List (Activation L)) (done : Effect L) → (serial G plan n).stack ≡ top ∷ below → effect_of G plan.body (serial G plan n).steps (serial G plan n).store top ≡ done
      → (j : ℕ) (fault : Fault) → ((i : ℕ) → slice_get (serial G plan n).faults i ≡ Some fault → IsFaultOf G plan fault)
      → slice_get (state_after (serial G plan n) below top.path (G.place_of plan.body top.local) done).faults j ≡ Some fault → IsFaultOf G plan fault
  booked-on n top below (goes_on a store) is does j fault before at = before j at
  booked-on n top below (spawns parent child store) is does j fault before at = before j at
  booked-on n top below ends is does j fault before at = before j at
  booked-on n top below (faults kind) is does j fault before at =
      let new : Fault = record { path = top.path; place = G.place_of plan.body top.local; kind = kind } in
      elim (more_cases (serial G plan n).faults new j fault at) [
        | inl early ↦ before j early
        | inr last ↦
            let here = stands-now G plan n top below is in
            let effect_is : effect_at G plan top.path here.0 top ≡ faults kind = ap (λ t. effect_of G plan.body (serial G plan t).steps (serial G plan t).store top) here.1 ∙ does in
            let found : IsFaultOf G plan new = record {
              k = here.0;
              top = top;
              stands = here.2;
              effect = effect_is;
              place = refl;
              last = ends_last G plan top.path here.0 top here.2 (ap is_end effect_is);
            } in
            subst (IsFaultOf G plan) (sym last.1) found
      ]

  booked-step : (n : ℕ) (stack : List (Activation L)) → (serial G plan n).stack ≡ stack → (j : ℕ) (fault : Fault) → ((i : ℕ) → slice_get (serial G plan n).faults i ≡ Some fault → IsFaultOf G plan fault)
      → slice_get (step_on G plan.body (serial G plan n) stack).faults j ≡ Some fault → IsFaultOf G plan fault
  booked-step n [] is j fault before at = before j at
  booked-step n (top ∷ below) is j fault before at = booked-on n top below (effect_of G plan.body (serial G plan n).steps (serial G plan n).store top) is refl j fault before at

  fault-is : (n j : ℕ) (fault : Fault) → slice_get (serial G plan n).faults j ≡ Some fault → IsFaultOf G plan fault
  fault-is zero j fault at = absurd (cc)
  fault-is (suc n) j fault at = booked-step n (serial G plan n).stack refl j fault (λ i early. fault-is n i fault early) at

  -- each fault that is left is that of a task's last step
  pub fault-of : (j : ℕ) (fault : Fault) → slice_get (outcome G plan).faults j ≡ Some fault → IsFaultOf G plan fault
  fault-of j fault at = fault-is (most_steps plan) j fault at

  -- ---- each such step books one

  kept-on : (s : State L) (stack : List (Activation L)) (j : ℕ) (fault : Fault) → slice_get s.faults j ≡ Some fault → slice_get (step_on G plan.body s stack).faults j ≡ Some fault
  kept-on s [] j fault at = at
  kept-on s (top ∷ below) j fault at = by (effect_of G plan.body s.steps s.store top) where
    by : (done : Effect L) → slice_get (state_after s below top.path (G.place_of plan.body top.local) done).faults j ≡ Some fault
    by (goes_on a store) = at
    by (spawns parent child store) = at
    by ends = at
    by (faults kind) = before_more s.faults (record { path = top.path; place = G.place_of plan.body top.local; kind = kind }) j fault at

  kept-more : (n k j : ℕ) (fault : Fault) → slice_get (serial G plan n).faults j ≡ Some fault → slice_get (serial G plan (n + k)).faults j ≡ Some fault
  kept-more n zero j fault at = let e : n ≡ n + 0 = omega arith in subst (λ m. slice_get (serial G plan m).faults j ≡ Some fault) e at
  kept-more n (suc k) j fault at =
      let e : suc (n + k) ≡ n + suc k = omega arith in
      subst (λ m. slice_get (serial G plan m).faults j ≡ Some fault) e (kept-on (serial G plan (n + k)) (serial G plan (n + k)).stack j fault (kept-more n k j fault at))

  pub fault-booked : (fault : Fault) → IsFaultOf G plan fault → (j : ℕ) × (slice_get (outcome G plan).faults j ≡ Some fault)
  fault-booked fault is =
      let t = time (script G plan) fault.path is.k in
      let s = serial G plan t in
      let new : Fault = record { path = is.top.path; place = G.place_of plan.body is.top.local; kind = fault.kind } in
      let path = (top_path G plan fault.path is.k is.top is.stands).1 in
      let it : new ≡ fault = ap {B = Fault} (λ p. record { path = p; place = G.place_of plan.body is.top.local; kind = fault.kind }) path ∙ ap {B = Fault} (λ p. record { path = fault.path; place = p; kind = fault.kind }) (sym is.place) in
      let then : (serial G plan (suc t)).faults ≡ s.faults ++ new ∷ [] =
      ap (λ (x : State L). x.faults) (next-state G plan fault.path is.k is.top is.stands) ∙ ap (λ d. (state_after s is.stands.below is.top.path (G.place_of plan.body is.top.local) d).faults) is.effect in
      let j = length s.faults in
      let here : slice_get (serial G plan (suc t)).faults j ≡ Some fault = ap (λ fs. slice_get fs j) then ∙ last_more s.faults new ∙ ap Some it in
      (j, ap (λ (x : State L). slice_get x.faults j) (sym (final-past G plan (suc t + most_steps plan) (omega arith))) ∙ kept-more (suc t) (most_steps plan) j fault here)

  -- they are in serial order
  pub faults-ordered : AreInOrder (outcome G plan).faults
  faults-ordered = serial-in_order G plan (most_steps plan)

  -- and so they are these, wherever these are in serial order and are those of the last steps that are faults
  pub faults-are : (booked : List Fault) → AreInOrder booked → ((j : ℕ) (fault : Fault) → slice_get booked j ≡ Some fault → IsFaultOf G plan fault)
      → ((fault : Fault) → IsFaultOf G plan fault → (j : ℕ) × (slice_get booked j ≡ Some fault)) → booked ≡ (outcome G plan).faults
  faults-are booked ordered only all =
      same-faults booked (outcome G plan).faults ordered faults-ordered
      (λ j fault at. fault-booked fault (only j fault at))
      (λ j fault at. all fault (fault-of j fault at))
