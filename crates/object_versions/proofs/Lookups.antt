-- What stands at a place after an entry came in, was changed, or went out.
use Rattle.std.proofs.Common.{◌≡◌, ◌≢◌, ◌⊎◌, inl, inr, ℕ, Bool, true, false, cond, Option, None, Some, List, refl, sym, ap, ◌∙◌, arith}
use Rattle.std.proofs.lemmas.Bool.{false≢true}
use Rattle.std.proofs.lemmas.Bool.Decides.{nat_tests}
use Rattle.std.proofs.lemmas.Cmp.{nat_cmp_total, on_total, then_total}
use Rattle.std.proofs.lemmas.Option.{none-some}
use Rattle.std.specs.Cmp.{IsTotalOrder}
use Rattle.std.specs.List.Sorted.{IsStrictlySortedBy}
use Rattle.std.specs.Map.{lookup, set_value, remove_entry, keys_of}
use Rattle.std.specs.BTreeMap.{is_at, insert_entry}
use Rattle.swan_model.specs.Versions.{place_cmp}
use Rattle.swan_model.proofs.Lookups.{at_key_inserted, at_key_set, by_key_inserted, by_key_removed, by_key_set, found_in, found_set, found_without, key_tied, key_untied}

pub place_total : IsTotalOrder place_cmp
place_total = then_total (on_total (λ (k : ℕ × ℕ). k.0) nat_cmp_total) (on_total (λ (k : ℕ × ℕ). k.1) nat_cmp_total)

pub equal_by : (a b c d : ℕ) → is_at (place_cmp (a, b)) (c, d) ≡ true → (a ≡ c) × (b ≡ d)
equal_by a b c d h = (grind (arith, nat_tests), grind (arith, nat_tests))

pub equal_at : (k n : ℕ × ℕ) → is_at (place_cmp k) n ≡ true → k ≡ n
equal_at k n h = let both = equal_by k.0 k.1 n.0 n.1 h in λ i. (both.0 i, both.1 i)

-- a place ties with itself
pub tied : (k : ℕ × ℕ) → is_at (place_cmp k) k ≡ true
tied k = key_tied place_total equal_at k

-- and with no other one
pub untied : (k n : ℕ × ℕ) → n ≢ k → is_at (place_cmp k) n ≡ false
untied k n apart = key_untied place_total equal_at k n apart

-- a place is this one, or another one
pub cases_place : (n k : ℕ × ℕ) → (n ≡ k) ⊎ (n ≢ k)
cases_place n k = by (is_at (place_cmp k) n) refl where
  by : (b : Bool) → is_at (place_cmp k) n ≡ b → (n ≡ k) ⊎ (n ≢ k)
  by true e = inl (sym (equal_at k n e))
  by false e = inr (λ same. false≢true (sym e ∙ ap (is_at (place_cmp k)) same ∙ tied k))

module _ {X : Type 0} where
  -- what stands at a place
  abbrev pub here : List ((ℕ × ℕ) × X) → ℕ × ℕ → Option X
  here es n = lookup (is_at (place_cmp n)) es

  -- what stands at a place is this entry
  pub record IsNewEntry (k n : ℕ × ℕ) (value has : X) : Type 0 where
    pub same : n ≡ k
    pub is : has ≡ value

  -- what stands at a place stood there before, and the place is another one
  pub record IsOldEntry (es : List ((ℕ × ℕ) × X)) (k n : ℕ × ℕ) (has : X) : Type 0 where
    pub apart : n ≢ k
    pub was : here es n ≡ Some has

  here_or_there : (b : Bool) (es : List ((ℕ × ℕ) × X)) (k n : ℕ × ℕ) (value has : X) → (n ≡ k → b ≡ true) → (b ≡ true → n ≡ k)
      → cond b (Some value) (here es n) ≡ Some has → IsNewEntry k n value has ⊎ IsOldEntry es k n has
  here_or_there true es k n value has back same is = inl (record { same = same refl; is = let e : has ≡ value = cc in e })
  here_or_there false es k n value has back same is = inr (record { apart = λ e. false≢true (back e); was = is })

  pub after_insert : (es : List ((ℕ × ℕ) × X)) (k : ℕ × ℕ) (value : X) (n : ℕ × ℕ) (has : X)
      → here (insert_entry place_cmp es k value) n ≡ Some has → IsNewEntry k n value has ⊎ IsOldEntry es k n has
  after_insert es k value n has is =
      here_or_there (is_at (place_cmp n) k) es k n value has (λ e. ap (λ z. is_at (place_cmp z) k) e ∙ tied k) (equal_at n k)
      (sym (found_in place_total k value n es) ∙ is)

  pub after_set : (es : List ((ℕ × ℕ) × X)) (k : ℕ × ℕ) (was value : X) (n : ℕ × ℕ) (has : X) → here es k ≡ Some was
      → here (set_value (is_at (place_cmp k)) es value) n ≡ Some has → IsNewEntry k n value has ⊎ IsOldEntry es k n has
  after_set es k was value n has stands is =
      here_or_there (is_at (place_cmp k) n) es k n value has (λ e. ap (is_at (place_cmp k)) e ∙ tied k) (λ t. sym (equal_at k n t))
      (sym (found_set place_total es k was value n stands) ∙ is)

  there_only : (b : Bool) (es : List ((ℕ × ℕ) × X)) (k n : ℕ × ℕ) (has : X) → (n ≡ k → b ≡ true)
      → cond b None (here es n) ≡ Some has → IsOldEntry es k n has
  there_only true es k n has back is = absurd (none-some has is)
  there_only false es k n has back is = record { apart = λ e. false≢true (back e); was = is }

  pub after_removal : (es : List ((ℕ × ℕ) × X)) (k n : ℕ × ℕ) (has : X) → IsStrictlySortedBy place_cmp (keys_of es)
      → here (remove_entry (is_at (place_cmp k)) es) n ≡ Some has → IsOldEntry es k n has
  after_removal es k n has sorted is =
      there_only (is_at (place_cmp k) n) es k n has (λ e. ap (is_at (place_cmp k)) e ∙ tied k) (sym (found_without place_total es k n sorted) ∙ is)

  -- ---- what is there still

  pub at_inserted : (es : List ((ℕ × ℕ) × X)) (k : ℕ × ℕ) (value : X) → here (insert_entry place_cmp es k value) k ≡ Some value
  at_inserted = at_key_inserted place_total equal_at

  pub at_set : (es : List ((ℕ × ℕ) × X)) (k : ℕ × ℕ) (was value : X) → here es k ≡ Some was → here (set_value (is_at (place_cmp k)) es value) k ≡ Some value
  at_set = at_key_set place_total equal_at

  pub still_inserted : (es : List ((ℕ × ℕ) × X)) (k : ℕ × ℕ) (value : X) (n : ℕ × ℕ) (has : X) → here es k ≡ None
      → here es n ≡ Some has → here (insert_entry place_cmp es k value) n ≡ Some has
  still_inserted es k value n has free is =
      by_key_inserted place_total equal_at es k value n (λ e. none-some has (sym free ∙ ap (here es) (sym e) ∙ is)) ∙ is

  pub still_set : (es : List ((ℕ × ℕ) × X)) (k : ℕ × ℕ) (was value : X) (n : ℕ × ℕ) → here es k ≡ Some was → n ≢ k
      → here (set_value (is_at (place_cmp k)) es value) n ≡ here es n
  still_set = by_key_set place_total equal_at

  pub still_without : (es : List ((ℕ × ℕ) × X)) (k n : ℕ × ℕ) → IsStrictlySortedBy place_cmp (keys_of es) → n ≢ k
      → here (remove_entry (is_at (place_cmp k)) es) n ≡ here es n
  still_without = by_key_removed place_total equal_at
