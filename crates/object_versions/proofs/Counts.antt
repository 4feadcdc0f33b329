-- How often keys are used, and what is kept of each.
use Rattle.std.proofs.Common.{◌≡◌, ◌≢◌, ℕ, ◌+◌, ◌<◌, ◌≤◌, Option, None, Some, refl, sym, ap, ◌∙◌, arith, ⊎_elim}
use Rattle.std.proofs.lemmas.Bool.{cases_eq}
use Rattle.std.proofs.lemmas.Bool.Decides.{nat_tests}
use Rattle.std.proofs.lemmas.Map.Entries.{sum_by-insert_entry, sum_by-set_value, sum_by-remove_entry}
use Rattle.std.specs.BTreeMap.{is_at, insert_entry}
use Rattle.std.specs.Map.{set_value, remove_entry, keys_of}
use Rattle.std.specs.List.Sorted.{IsStrictlySortedBy}
use Rattle.std.specs.Option.{option_map, unwrap_or}
use Rattle.slab.specs.Slab.{Slab, get, Updates}
use Rattle.swan_model.specs.Versions.{place_cmp}
use Rattle.object_versions.specs.declared.node.Node.{Node}
use Rattle.object_versions.specs.declared.placed_object.PlacedObject.{PlacedObject}
use Rattle.object_versions.specs.Store.{PlaceEntries, place_at, told_of, told_at, one, one_of, uses_of, uses, uses_in}
use Rattle.object_versions.specs.Whole.{IsCounted}
use Rattle.object_versions.proofs.Lookups.{place_total}

pub one_self : (k : ℕ) → one k k ≡ 1
one_self k = grind (arith, nat_tests)

pub one_other : (k j : ℕ) → k ≢ j → one k j ≡ 0
one_other k j apart = grind (arith, nat_tests)

-- ---- nodes

module _ (old new : Slab Node) (key : ℕ) (slot : Option Node) (change : Updates old new key slot) where
  pub counted_after : (f g : ℕ → ℕ) → IsCounted old f → ((k : ℕ) → k ≢ key → g k ≡ f k) → uses_in slot ≡ g key
      → ((node : Node) → slot ≡ Some node → 0 < node.uses) → IsCounted new g
  counted_after f g counted others count live = record {
    exact = λ k. ⊎_elim (λ e. ap (λ n. uses_in (get new n)) e ∙ ap uses_in change.changed ∙ count ∙ ap g (sym e))
        (λ apart. ap uses_in (change.others k apart) ∙ counted.exact k ∙ sym (others k apart)) (cases_eq k key);
    live = λ k node is. ⊎_elim (λ e. live node (sym change.changed ∙ ap (get new) (sym e) ∙ is))
        (λ apart. counted.live k node (sym (change.others k apart) ∙ is)) (cases_eq k key);
  }

  pub told_elsewhere : (k : ℕ) → k ≢ key → told_at new k ≡ told_at old k
  told_elsewhere k apart = ap told_of (change.others k apart)

  pub told_here : told_at new key ≡ told_of slot
  told_here = ap told_of change.changed

  pub told_still : told_of slot ≡ told_at old key → (k : ℕ) → told_at new k ≡ told_at old k
  told_still same k = ⊎_elim (λ e. ap (told_at new) e ∙ told_here ∙ same ∙ ap (told_at old) (sym e)) (told_elsewhere k) (cases_eq k key)

pub same_count : (nodes : Slab Node) (f g : ℕ → ℕ) → IsCounted nodes f → ((k : ℕ) → f k ≡ g k) → IsCounted nodes g
same_count nodes f g counted same = record { exact = λ k. counted.exact k ∙ same k; live = counted.live }

pub unused : (nodes : Slab Node) (f : ℕ → ℕ) (key : ℕ) → IsCounted nodes f → get nodes key ≡ None → f key ≡ 0
unused nodes f key counted none = sym (counted.exact key) ∙ ap uses_in none

-- a key that is used has a node
pub record HasNode (nodes : Slab Node) (key : ℕ) : Type 0 where
  pub node : Node
  pub is : get nodes key ≡ Some node

pub used : (nodes : Slab Node) (f : ℕ → ℕ) (key : ℕ) → IsCounted nodes f → 0 < f key → HasNode nodes key
used nodes f key counted some = by (get nodes key) refl where
  by : (o : Option Node) → get nodes key ≡ o → HasNode nodes key
  by None is = let zero : f key ≡ 0 = unused nodes f key counted is in absurd (omega arith)
  by (Some node) is = record { node = node; is = is }

-- ---- places

pub uses_inserted : (entries : PlaceEntries) (k frame place : ℕ) (has : PlacedObject) → IsStrictlySortedBy place_cmp (keys_of entries) → place_at entries frame place ≡ None
    → uses k (insert_entry place_cmp entries (frame, place) has) ≡ uses k entries + uses_of k has
uses_inserted entries k frame place has sorted free =
    let sums = sum_by-insert_entry (uses_of k) place_total entries (frame, place) has sorted in
    let none : unwrap_or (option_map (uses_of k) (place_at entries frame place)) 0 ≡ 0 = ap (λ o. unwrap_or (option_map (uses_of k) o) 0) free in
    omega (arith, sums, none)

pub uses_changed : (entries : PlaceEntries) (k frame place : ℕ) (was changed : PlacedObject) → place_at entries frame place ≡ Some was
    → uses k (set_value (is_at (place_cmp (frame, place))) entries changed) + uses_of k was ≡ uses k entries + uses_of k changed
uses_changed entries k frame place was changed stands = sum_by-set_value (uses_of k) (is_at (place_cmp (frame, place))) entries was changed stands

pub uses_set : (entries : PlaceEntries) (k frame place key : ℕ) (was : PlacedObject) → place_at entries frame place ≡ Some was
    → uses k (set_value (is_at (place_cmp (frame, place))) entries (record was { present = key })) + one k was.present ≡ uses k entries + one k key
uses_set entries k frame place key was stands =
    let sums = sum_by-set_value (uses_of k) (is_at (place_cmp (frame, place))) entries was (record was { present = key }) stands in
    omega (arith, sums)

pub uses_without : (entries : PlaceEntries) (k frame place : ℕ) (has : PlacedObject) → place_at entries frame place ≡ Some has
    → uses k (remove_entry (is_at (place_cmp (frame, place))) entries) + uses_of k has ≡ uses k entries
uses_without entries k frame place has stands =
    let sums = sum_by-remove_entry (uses_of k) (is_at (place_cmp (frame, place))) entries in
    let some : unwrap_or (option_map (uses_of k) (place_at entries frame place)) 0 ≡ uses_of k has = ap (λ o. unwrap_or (option_map (uses_of k) o) 0) stands in
    omega (arith, sums, some)

pub uses_at : (entries : PlaceEntries) (k frame place : ℕ) (has : PlacedObject) → place_at entries frame place ≡ Some has → uses_of k has ≤ uses k entries
uses_at entries k frame place has stands = let sums = uses_without entries k frame place has stands in omega (arith, sums)

pub present_used : (has : PlacedObject) → 0 < uses_of has.present has
present_used has = let self = one_self has.present in omega (arith, self)

pub given_used : (has : PlacedObject) (key : ℕ) → has.given ≡ Some key → 0 < uses_of key has
given_used has key is =
    let self = one_self key in let given : one_of key has.given ≡ one key key = ap (one_of key) is in omega (arith, self, given)

pub owes_used : (has : PlacedObject) (key : ℕ) → has.owes ≡ Some key → 0 < uses_of key has
owes_used has key is =
    let self = one_self key in let owes : one_of key has.owes ≡ one key key = ap (one_of key) is in omega (arith, self, owes)
