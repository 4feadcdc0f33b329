-- The serial order of tasks sorts: faults of different tasks that are sorted by it are in serial order, and so they are
-- those that the elision leaves, where they are those of the last steps that are faults.
use Rattle.std.proofs.Common.{◌≡◌, inl, inr, ℕ, Bool, true, false, nat_eq, List, Some, get_or, refl, sym, ap, ◌∙◌, arith}
use Rattle.std.proofs.lemmas.List.Sorted.{Contains-permutation, IsPermutation-sym, sorted_far}
use Rattle.std.proofs.lemmas.Map.Keys.{IsDistinct-IsPermutation, IsDistinct-from_apart, apart_from_distinct}
use Rattle.std.proofs.lemmas.Option.{get_or_from_slice_get, slice_get-get_or, slice_get_within}
use Rattle.std.specs.Cmp.{IsStrictWeakOrder}
use Rattle.std.specs.Cmp.Lexicographic.{pointwise}
use Rattle.std.specs.List.Sorted.{IsPermutation, IsSortedBy}
use Rattle.std.specs.List.{Contains, IsDistinct}
use Rattle.std.specs.Prelude.{slice_get}
use Rattle.swan_model.proofs.Lists.{bytes_eq-sym}
use Rattle.swan_model.specs.declared.body.Body.{Ghosts}
use Rattle.swan_model.specs.declared.fault.Fault.{Fault}
use Rattle.swan_model.specs.declared.plan.Plan.{Plan}
use Rattle.swan_model.specs.Elision.{outcome}
use Rattle.swan_model.specs.PathOrder.{comes_before}
use Rattle.serial_elision.specs.Laws.{AreInOrder}
use Rattle.serial_elision.specs.TaskSteps.{IsFaultOf}
use Rattle.swan_model.proofs.PathOrder.{before-chain, before-one_way, either_before}
use Rattle.swan_model.proofs.Paths.{path_is-itself, same_path}
use Rattle.serial_elision.proofs.FaultsTold.{faults-are}

abbrev pub is_earlier_fault : Fault → Fault → Bool
is_earlier_fault a b = comes_before a.path b.path

pub faults-compare : IsStrictWeakOrder is_earlier_fault
faults-compare = record {
  one_way = λ a b is. before-one_way a.path b.path is;
  chain = λ a b c is also. before-chain a.path b.path c.path is also;
}

abbrev is_same_task : Fault → Fault → Bool
is_same_task a b = pointwise nat_eq a.path b.path

other-task : (a b : Fault) → (a.path ≡ b.path → ⊥) → is_same_task a b ≡ false
other-task a b differ = by (is_same_task a b) refl where
  by : (answer : Bool) → is_same_task a b ≡ answer → answer ≡ false
  by true is = absurd (differ (same_path a.path b.path is))
  by false is = refl

stands-in : (faults : List Fault) (i : ℕ) (fault : Fault) → slice_get faults i ≡ Some fault → Contains faults fault
stands-in faults i fault at = (i, slice_get_within faults i fault at, get_or_from_slice_get faults i fault fault at)

place-in : (faults : List Fault) (fault : Fault) → Contains faults fault → (i : ℕ) × (slice_get faults i ≡ Some fault)
place-in faults fault found = (found.0, slice_get-get_or faults found.0 fault found.1 ∙ ap Some found.2)

module _ (booked sorted : List Fault) (same : IsPermutation booked sorted)
    (once : (i j : ℕ) (a b : Fault) → slice_get booked i ≡ Some a → slice_get booked j ≡ Some b → a.path ≡ b.path → i ≡ j) (rise : IsSortedBy is_earlier_fault sorted) where
  apart : IsDistinct is_same_task sorted
  apart =
      IsDistinct-IsPermutation is_same_task (λ a b. bytes_eq-sym a.path b.path) booked sorted same
      (IsDistinct-from_apart is_same_task booked (λ i j d less within.
      let a = get_or booked i d in
      let b = get_or booked j d in
      other-task a b (λ path.
      let e = once i j a b (slice_get-get_or booked i d (omega arith)) (slice_get-get_or booked j d within) path in
      absurd (omega (arith, e, less)))))

  -- faults of different tasks that are sorted are in serial order
  pub sorted-in_order : AreInOrder sorted
  sorted-in_order i j d less within =
      let a = get_or sorted i d in
      let b = get_or sorted j d in
      let late = sorted_far is_earlier_fault faults-compare sorted rise i j d (omega arith) within in
      elim (either_before a.path b.path) [
        | inl path ↦
            let yes : is_same_task a b ≡ true = ap (pointwise nat_eq a.path) (sym path) ∙ path_is-itself a.path in
            let none = apart_from_distinct is_same_task sorted i j d apart less within in
            let both : true ≡ false = sym yes ∙ none in
            absurd (cc)
        | inr differ ↦ elim differ [
          | inl before ↦ before
          | inr after ↦ let both : true ≡ false = sym after ∙ late in absurd (cc)
        ]
      ]

  -- and they are what the elision leaves, where they are those of the last steps that are faults
  pub sorted-faults : {B L : Type 0} (G : Ghosts B L) (plan : Plan B L) → ((i : ℕ) (fault : Fault) → slice_get booked i ≡ Some fault → IsFaultOf G plan fault)
      → ((fault : Fault) → IsFaultOf G plan fault → (i : ℕ) × (slice_get booked i ≡ Some fault)) → sorted ≡ (outcome G plan).faults
  sorted-faults G plan only all =
      faults-are G plan sorted sorted-in_order
      (λ j fault at.
      let found = place-in booked fault (Contains-permutation sorted booked fault (IsPermutation-sym booked sorted same) (stands-in sorted j fault at)) in
      only found.0 fault found.1)
      (λ fault is.
      let found = all fault is in
      place-in sorted fault (Contains-permutation booked sorted fault same (stands-in booked found.0 fault found.1)))
