-- What is left of the places when a frame has ended, and the versions that it leaves.
use Rattle.std.proofs.Common.{◌≡◌, ◌≢◌, ℕ, nat_eq, ◌&&◌, ◌||◌, not, Bool, true, false, cond, Option, None, Some, filter, refl, sym, ap, subst, ◌∙◌}
use Rattle.std.proofs.lemmas.Bool.{and_parts, and_from, eq-eqb, eqb-true, ne_eqb}
use Rattle.std.proofs.lemmas.Cmp.{eq_by_cmp_equiv}
use Rattle.std.proofs.lemmas.List.Kept.{IsStrictlySortedBy-filter}
use Rattle.std.proofs.lemmas.Map.Entries.{lookup-filter-keys, lookup_from_place, place_from_lookup}
use Rattle.std.proofs.lemmas.Map.Keys.{IsDistinct-from_sorted}
use Rattle.std.proofs.lemmas.Map.Made.{keys_of-map_values, lookup-map_values}
use Rattle.std.specs.BTreeMap.{is_at}
use Rattle.std.specs.List.Sorted.{IsStrictlySortedBy}
use Rattle.std.specs.Map.{keys_of}
use Rattle.std.specs.Option.{option_map}
use Rattle.swan_model.specs.declared.rights.Mode.TheVariants.{Out}
use Rattle.swan_model.specs.Rights.{allows}
use Rattle.swan_model.specs.Versions.{Placed, VersionState, place_cmp, placed_at, objects_after_finish, settle_placed, stays, may_write, left_by}
use Rattle.swan_model.proofs.Elements.{find_some, found_is}
use Rattle.swan_model.proofs.Lookups.{keys_filtered}
use Rattle.object_versions.proofs.Lookups.{equal_at, place_total}

-- whether a frame's places are still kept once the frame n has ended
abbrev pub keeps : ℕ → ℕ × ℕ → Bool
keeps n key = (nat_eq n 0) || not (nat_eq key.0 n)

keeps_same : (n : ℕ) (k q : ℕ × ℕ) → is_at (place_cmp q) k ≡ true → keeps n k ≡ keeps n q
keeps_same n k q is = ap (keeps n) (sym (equal_at q k is))

pub found_kept : (state : VersionState) (n f p : ℕ) → placed_at (objects_after_finish state n) f p ≡ option_map (settle_placed state n) (cond (keeps n (f, p)) (placed_at state f p) None)
found_kept state n f p =
    lookup-map_values (settle_placed state n) (is_at (place_cmp (f, p))) (filter (stays n) state.places)
    ∙ ap (option_map (settle_placed state n)) (lookup-filter-keys (is_at (place_cmp (f, p))) (keeps n) (keeps n (f, p)) (λ k is. keeps_same n k (f, p) is) state.places)

-- what a frame has at a place is what it had, settled
pub record IsStillPlaced (state : VersionState) (n f p : ℕ) (has : Placed) : Type 0 where
  pub was : Placed
  pub stood : placed_at state f p ≡ Some was
  pub now : has ≡ settle_placed state n was

pub after_kept : (state : VersionState) (n f p : ℕ) (has : Placed) → placed_at (objects_after_finish state n) f p ≡ Some has → IsStillPlaced state n f p has
after_kept state n f p has is = by (keeps n (f, p)) (placed_at state f p) refl (sym (found_kept state n f p) ∙ is) where
  by : (b : Bool) (o : Option Placed) → placed_at state f p ≡ o → option_map (settle_placed state n) (cond b o None) ≡ Some has → IsStillPlaced state n f p has
  by true None stood e = absurd (cc)
  by true (Some was) stood e = record { was = was; stood = stood; now = let s : has ≡ settle_placed state n was = cc in s }
  by false o stood e = absurd (cc)

pub still_kept : (state : VersionState) (n f p : ℕ) (was : Placed) → placed_at state f p ≡ Some was → f ≢ n → placed_at (objects_after_finish state n) f p ≡ Some (settle_placed state n was)
still_kept state n f p was stood apart =
    let differs : nat_eq f n ≡ false = ne_eqb f n apart in
    found_kept state n f p
    ∙ by (nat_eq n 0) (nat_eq f n) differs
  where
    by : (a b : Bool) → b ≡ false → option_map (settle_placed state n) (cond (a || not b) (placed_at state f p) None) ≡ Some (settle_placed state n was)
    by true b e = ap (option_map (settle_placed state n)) stood
    by false true e = absurd (cc)
    by false false e = ap (option_map (settle_placed state n)) stood

pub sorted_kept : (state : VersionState) (n : ℕ) → IsStrictlySortedBy place_cmp (keys_of state.places) → IsStrictlySortedBy place_cmp (keys_of (objects_after_finish state n).places)
sorted_kept state n sorted =
    let same : keys_of (objects_after_finish state n).places ≡ filter (keeps n) (keys_of state.places) =
    keys_of-map_values (settle_placed state n) (filter (stays n) state.places) ∙ keys_filtered (keeps n) state.places in
    subst (λ keys. IsStrictlySortedBy place_cmp keys) (sym same) (IsStrictlySortedBy-filter place_cmp (keeps n) (keys_of state.places) sorted)

-- ---- the version that a frame leaves

-- a frame leaves the version that it has at this place
pub record LeavesFrom (state : VersionState) (n object : ℕ) : Type 0 where
  pub place : ℕ
  pub has : Placed
  pub stands : placed_at state n place ≡ Some has
  pub same : has.object ≡ object
  pub leaves : left_by state n object ≡ Some has.present

pub leaves_from : (state : VersionState) (n object other : ℕ) (has : Placed) → IsStrictlySortedBy place_cmp (keys_of state.places) → placed_at state n other ≡ Some has
    → has.object ≡ object → allows has.mode Out ≡ true → LeavesFrom state n object
leaves_from state n object other has sorted stands same may =
    let at = place_from_lookup (is_at (place_cmp (n, other))) state.places has stands in
    let key : (n, other) ≡ at.1 = equal_at (n, other) at.1 at.3 in
    let passes : may_write n object (at.1, has) ≡ true =
    and_from (nat_eq at.1.0 n) (nat_eq has.object object && allows has.mode Out) (eq-eqb at.1.0 n (ap (λ (k : ℕ × ℕ). k.0) (sym key)))
    (and_from (nat_eq has.object object) (allows has.mode Out) (eq-eqb has.object object same) may) in
    let some = find_some (may_write n object) state.places at.0 (at.1, has) at.2 passes in
    let first : (ℕ × ℕ) × Placed = some.0 in
    let found = found_is (may_write n object) state.places first some.1 in
    let parts = and_parts (nat_eq first.0.0 n) (nat_eq first.1.object object && allows first.1.mode Out) found.passes in
    let there = lookup_from_place (eq_by_cmp_equiv place_total) state.places found.index first.0 first.1 (IsDistinct-from_sorted place_cmp (keys_of state.places) sorted) found.stands in
    let own : first.0.0 ≡ n = eqb-true first.0.0 n parts.0 in
    record {
      place = first.0.1;
      has = first.1;
      stands = ap (λ f. placed_at state f first.0.1) (sym own) ∙ there;
      same = eqb-true first.1.object object (and_parts (nat_eq first.1.object object) (allows first.1.mode Out) parts.1).0;
      leaves = ap (option_map (λ (entry : (ℕ × ℕ) × Placed). entry.1.present)) some.1;
    }
