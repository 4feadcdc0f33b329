-- One walk over the places of a frame, in rising order.
use Rattle.std.proofs.Common.{◌≡◌, ◌≢◌, ◌⊎◌, inl, inr, ℕ, ◌<◌, ◌≤◌, Bool, true, false, cond, nat_lt, Option, None, Some, List, [], ◌∷◌, refl, sym, ap, subst, ◌∙◌, arith}
use Rattle.std.proofs.lemmas.Option.{none-some, same_Some}
use Rattle.std.proofs.lemmas.Bool.Decides.{nat_tests}
use Rattle.std.proofs.lemmas.List.Kept.{IsStrictlySortedBy-filter}
use Rattle.std.proofs.lemmas.Map.Entries.{lookup-filter-keys}
use Rattle.std.specs.List.{AllByRecursion}
use Rattle.std.specs.List.Sorted.{IsStrictlySortedBy}
use Rattle.std.specs.Map.{keys_of}
use Rattle.std.specs.BTreeMap.{is_at}
use Rattle.std.specs.BTreeMap.Range.{entries_between, range_contains}
use Rattle.std.specs.declared.cmp.Ordering.TheVariants.{Less}
use Rattle.std.specs.declared.ops.Bound.TheVariants.{Included, Unbounded}
use Rattle.swan_model.specs.Versions.{place_cmp}
use Rattle.object_versions.specs.declared.placed_object.PlacedObject.{PlacedObject}
use Rattle.object_versions.specs.Store.{PlaceEntries, place_at}
use Rattle.swan_model.proofs.Lookups.{keys_filtered}
use Rattle.object_versions.proofs.Lookups.{equal_at, tied}

-- These entries are left of a walk over a frame's places: what is left stands in the map, in rising order and at no
-- frame before this one; and each place of the frame is done or left.
pub record IsWalk (entries left : PlaceEntries) (frame : ℕ) (Done : PlacedObject → Type 0) : Type 0 where
  pub sorted : IsStrictlySortedBy place_cmp (keys_of left)
  pub from : (owner place : ℕ) (has : PlacedObject) → place_at left owner place ≡ Some has → frame ≤ owner
  pub there : (owner place : ℕ) (has : PlacedObject) → place_at left owner place ≡ Some has → place_at entries owner place ≡ Some has
  pub done : (place : ℕ) (has : PlacedObject) → place_at entries frame place ≡ Some has → Done has ⊎ (place_at left frame place ≡ Some has)

-- what is true of all keys is true of one that is found
all_found : (P : ℕ × ℕ → Type 0) (es : PlaceEntries) (n : ℕ × ℕ) (has : PlacedObject) → AllByRecursion P (keys_of es) → place_at es n.0 n.1 ≡ Some has → P n
all_found P [] n has all is = absurd (none-some has is)
all_found P (e ∷ es) n has all is = by (is_at (place_cmp n) e.0) refl is (all_found P es n has all.1) where
  by : (b : Bool) → is_at (place_cmp n) e.0 ≡ b → cond b (Some e.1) (place_at es n.0 n.1) ≡ Some has → (place_at es n.0 n.1 ≡ Some has → P n) → P n
  by true same at rest = subst P (sym (equal_at n e.0 same)) all.0
  by false other at rest = rest at

later_keys : (e : (ℕ × ℕ) × PlacedObject) (left : PlaceEntries) → IsStrictlySortedBy place_cmp (keys_of (e ∷ left)) → AllByRecursion (λ k. place_cmp e.0 k ≡ Less) (keys_of left)
unfolding IsStrictlySortedBy
later_keys e left sorted = sorted.0

rest_sorted : (e : (ℕ × ℕ) × PlacedObject) (left : PlaceEntries) → IsStrictlySortedBy place_cmp (keys_of (e ∷ left)) → IsStrictlySortedBy place_cmp (keys_of left)
unfolding IsStrictlySortedBy
rest_sorted e left sorted = sorted.1

never_itself : (k : ℕ × ℕ) → place_cmp k k ≡ Less → ⊥
never_itself k less = grind (arith, nat_tests)

-- ---- the next entry

module _ (entries left : PlaceEntries) (frame : ℕ) (Done : PlacedObject → Type 0) (e : (ℕ × ℕ) × PlacedObject) (walk : IsWalk entries (e ∷ left) frame Done) where
  first : place_at (e ∷ left) e.0.0 e.0.1 ≡ Some e.1
  first = ap (λ b. cond b (Some e.1) (place_at left e.0.0 e.0.1)) (tied e.0)

  later : (n : ℕ × ℕ) (has : PlacedObject) → place_at left n.0 n.1 ≡ Some has → place_cmp e.0 n ≡ Less
  later n has is = all_found (λ k. place_cmp e.0 k ≡ Less) left n has (later_keys e left walk.sorted) is

  still : (n : ℕ × ℕ) (has : PlacedObject) → place_at left n.0 n.1 ≡ Some has → place_at (e ∷ left) n.0 n.1 ≡ Some has
  still n has is = by (is_at (place_cmp n) e.0) refl where
    by : (b : Bool) → is_at (place_cmp n) e.0 ≡ b → cond b (Some e.1) (place_at left n.0 n.1) ≡ Some has
    by true same = absurd (never_itself e.0 (ap (place_cmp e.0) (sym (equal_at n e.0 same)) ∙ later n has is))
    by false other = is

  -- what is found is the next entry, or one after it
  data Found (n : ℕ × ℕ) (has : PlacedObject) : Type 0 where
    here : n ≡ e.0 → e.1 ≡ has → Found n has
    after : place_at left n.0 n.1 ≡ Some has → Found n has

  found : (n : ℕ × ℕ) (has : PlacedObject) → place_at (e ∷ left) n.0 n.1 ≡ Some has → Found n has
  found n has is = by (is_at (place_cmp n) e.0) refl is where
    by : (b : Bool) → is_at (place_cmp n) e.0 ≡ b → cond b (Some e.1) (place_at left n.0 n.1) ≡ Some has → Found n has
    by true same at = here (equal_at n e.0 same) (same_Some e.1 has at)
    by false other at = after at

  -- the next entry is what stands in the map
  pub stands : e.0.0 ≡ frame → place_at entries frame e.0.1 ≡ Some e.1
  stands same = ap (λ n. place_at entries n e.0.1) (sym same) ∙ walk.there e.0.0 e.0.1 e.1 first

  not_past : (owner place other : ℕ) → place_cmp (owner, place) (frame, other) ≡ Less → owner ≤ frame
  not_past owner place other less = grind (arith, nat_tests)

  in_order : (owner place other : ℕ) → place_cmp (owner, place) (frame, other) ≡ Less → owner ≡ frame → place ≤ other
  in_order owner place other less same = grind (arith, nat_tests)

  none_of_it : e.0.0 ≢ frame → (place : ℕ) (has : PlacedObject) → place_at (e ∷ left) frame place ≡ Some has → ⊥
  none_of_it apart place has is = elim (found (frame, place) has is) [
    | here same at ↦ apart (ap (λ n. n.0) (sym same))
    | after is ↦
        let most = not_past e.0.0 e.0.1 place (later (frame, place) has is) in
        let least = walk.from e.0.0 e.0.1 e.1 first in
        apart (omega (arith, most, least))
  ]

  -- where the next entry is of a later frame, all places are done
  pub ends_at : e.0.0 ≢ frame → (place : ℕ) (has : PlacedObject) → place_at entries frame place ≡ Some has → Done has
  ends_at apart place has is = elim (walk.done place has is) [
    | inl done ↦ done
    | inr still_left ↦ absurd (none_of_it apart place has still_left)
  ]

  -- no place before the next entry's is left
  pub least : e.0.0 ≡ frame → (place : ℕ) (has : PlacedObject) → place_at entries frame place ≡ Some has → (Done has → ⊥) → e.0.1 ≤ place
  least same place has is never = elim (walk.done place has is) [
    | inl done ↦ absurd (never done)
    | inr still_left ↦ elim (found (frame, place) has still_left) [
      | here tie at ↦ let own : place ≡ e.0.1 = ap (λ n. n.1) tie in omega (arith, own)
      | after is ↦ in_order e.0.0 e.0.1 place (later (frame, place) has is) same
    ]
  ]

  -- each place before the next entry's is done
  pub done_before : e.0.0 ≡ frame → (place : ℕ) (has : PlacedObject) → place < e.0.1 → place_at entries frame place ≡ Some has → Done has
  done_before same place has less is = elim (walk.done place has is) [
    | inl done ↦ done
    | inr still_left ↦ elim (found (frame, place) has still_left) [
      | here tie at ↦ let own : place ≡ e.0.1 = ap (λ n. n.1) tie in absurd (omega (arith, own, less))
      | after is ↦ let most = in_order e.0.0 e.0.1 place (later (frame, place) has is) same in absurd (omega (arith, most, less))
    ]
  ]

  -- the next entry is done
  pub goes_on : (Later : PlacedObject → Type 0) → ((place : ℕ) (has : PlacedObject) → place_at entries frame place ≡ Some has → Done has → Later has) → Later e.1
      → IsWalk entries left frame Later
  goes_on Later keeps now = record {
    sorted = rest_sorted e left walk.sorted;
    from = λ owner place has is. walk.from owner place has (still (owner, place) has is);
    there = λ owner place has is. walk.there owner place has (still (owner, place) has is);
    done = λ place has is. elim (walk.done place has is) [
      | inl done ↦ inl (keeps place has is done)
      | inr still_left ↦ elim (found (frame, place) has still_left) [
        | here tie at ↦ inl (subst Later at now)
        | after is ↦ inr is
      ]
    ];
  }

-- where nothing is left, all places are done
pub ends : (entries : PlaceEntries) (frame : ℕ) (Done : PlacedObject → Type 0) → IsWalk entries [] frame Done → (place : ℕ) (has : PlacedObject) → place_at entries frame place ≡ Some has → Done has
ends entries frame Done walk place has is = elim (walk.done place has is) [
  | inl done ↦ done
  | inr still_left ↦ absurd (none-some has still_left)
]

-- ---- the first entry

-- whether a place is this one of a frame, or a later one
abbrev is_from : (frame from : ℕ) → ℕ × ℕ → Bool
is_from frame from k = range_contains place_cmp (Included (frame, from)) Unbounded k

from_own : (frame from place : ℕ) → from ≤ place → (k : ℕ × ℕ) → is_at (place_cmp (frame, place)) k ≡ true → is_from frame from k ≡ true
from_own frame from place later k same = ap (is_from frame from) (sym (equal_at (frame, place) k same)) ∙ by where
  by : is_from frame from (frame, place) ≡ true
  by = grind (arith, nat_tests)

from_later : (frame from owner place : ℕ) → is_from frame from (owner, place) ≡ true → frame ≤ owner
from_later frame from owner place is = grind (arith, nat_tests)

kept : (b : Bool) (o : Option PlacedObject) (has : PlacedObject) → cond b o None ≡ Some has → (b ≡ true) × (o ≡ Some has)
kept true o has is = (refl, is)
kept false o has is = absurd (none-some has is)

-- the walk begins with all entries from one of the frame's places on, where those before it are done
pub begins : (entries : PlaceEntries) (frame from : ℕ) (Done : PlacedObject → Type 0) → IsStrictlySortedBy place_cmp (keys_of entries)
    → ((place : ℕ) (has : PlacedObject) → place < from → place_at entries frame place ≡ Some has → Done has)
    → IsWalk entries (entries_between place_cmp (Included (frame, from)) Unbounded entries) frame Done
begins entries frame from Done sorted before = record {
  sorted = keys_from;
  from = λ owner place has is. from_later frame from owner place (found owner place has is).0;
  there = λ owner place has is. (found owner place has is).1;
  done = λ place has is. by place has is (nat_lt place from) refl;
} where
  keys_from : IsStrictlySortedBy place_cmp (keys_of (entries_between place_cmp (Included (frame, from)) Unbounded entries))
  keys_from =
      let P : List (ℕ × ℕ) → Type 0 = λ keys. IsStrictlySortedBy place_cmp keys in
      subst P (sym (keys_filtered (is_from frame from) entries)) (IsStrictlySortedBy-filter place_cmp (is_from frame from) (keys_of entries) sorted)

  found : (owner place : ℕ) (has : PlacedObject) → place_at (entries_between place_cmp (Included (frame, from)) Unbounded entries) owner place ≡ Some has
      → (is_from frame from (owner, place) ≡ true) × (place_at entries owner place ≡ Some has)
  found owner place has is = kept (is_from frame from (owner, place)) (place_at entries owner place) has
      (sym (lookup-filter-keys (is_at (place_cmp (owner, place))) (is_from frame from) (is_from frame from (owner, place))
      (λ k same. ap (is_from frame from) (sym (equal_at (owner, place) k same))) entries) ∙ is)

  of_frame : (place : ℕ) → from ≤ place → place_at (entries_between place_cmp (Included (frame, from)) Unbounded entries) frame place ≡ place_at entries frame place
  of_frame place later = lookup-filter-keys (is_at (place_cmp (frame, place))) (is_from frame from) true (from_own frame from place later) entries

  by : (place : ℕ) (has : PlacedObject) → place_at entries frame place ≡ Some has → (b : Bool) → nat_lt place from ≡ b
      → Done has ⊎ (place_at (entries_between place_cmp (Included (frame, from)) Unbounded entries) frame place ≡ Some has)
  by place has is true earlier = let less : place < from = grind (arith, nat_tests) in inl (before place has less is)
  by place has is false later = let least : from ≤ place = grind (arith, nat_tests) in inr (of_frame place least ∙ is)
