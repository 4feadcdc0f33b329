-- What stands in a table of which one place was set, and in a table with one place.
use Rattle.std.proofs.Common.{◌≡◌, ◌≢◌, ℕ, zero, suc, List, [], ◌∷◌, set, sym, refl, subst, ⊎_elim}
use mathlib.Core.Option.{some, some-ne-none, some-injective}
use lib.ListN.{get_elem?}
use Rattle.atomic_table.proofs.Lists.{at_set}

module _ {X : Type 0} where
  -- what holds at the place that was set, and at each other one, holds at each place
  pub all_set : (P : ℕ → X → Type 0) (xs : List X) (place : ℕ) (new : X) → P place new
      → ((j : ℕ) (x : X) → j ≢ place → get_elem? xs j ≡ some x → P j x) → (j : ℕ) (x : X) → get_elem? (set xs place new) j ≡ some x → P j x
  all_set P xs place new mine others j x e = ⊎_elim (λ (at : (j ≡ place) × (new ≡ x)). subst (λ (y : ℕ × X). P y.0 y.1) (λ i. (sym at.0 i, at.1 i)) mine)
      (λ (at : (j ≢ place) × (get_elem? xs j ≡ some x)). others j x at.0 at.1) (at_set xs place j new x e)

  -- a table with one place has what stands there
  pub only_one : (x : X) (j : ℕ) (y : X) → get_elem? (x ∷ []) j ≡ some y → (j ≡ 0) × (x ≡ y)
  only_one x zero y e = (refl, some-injective x y e)
  only_one x (suc j) y e = absurd (some-ne-none y (sym e))
