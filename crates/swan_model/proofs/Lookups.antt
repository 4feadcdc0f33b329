-- What is found in a list of entries: what holds of each entry holds of one that is found, and what is found after one came in, was changed, or
-- went out, for any order of keys, for one in which a key ties with itself alone, and for keys that are numbers. And the keys of the entries
-- that pass a test.
use Rattle.std.proofs.Common.{◌≡◌, ◌≢◌, ℕ, Bool, true, false, cond, Option, None, Some, List, [], ◌∷◌, filter, refl, sym, ap, ◌∙◌, arith}
use Rattle.std.proofs.lemmas.Bool.{and_parts, false_from_ne_true, false≢true}
use Rattle.std.proofs.lemmas.Bool.Decides.{nat_tests}
use Rattle.std.proofs.lemmas.Cmp.{alike_right, eq_by_cmp_equiv, nat_cmp_total, tied_itself}
use Rattle.std.proofs.lemmas.Map.{lookup-set_value, lookup-remove_entry}
use Rattle.std.proofs.lemmas.Map.Keys.{IsDistinct-from_sorted}
use Rattle.std.proofs.lemmas.Option.{none-some, same_Some}
use Rattle.std.specs.BTreeMap.{is_at, insert_entry}
use Rattle.std.specs.Cmp.{IsTotalOrder}
use Rattle.std.specs.List.{list_all}
use Rattle.std.specs.List.Sorted.{IsStrictlySortedBy}
use Rattle.std.specs.Map.{lookup, set_value, remove_entry, keys_of}
use Rattle.std.specs.Ordering.{nat_cmp, is_eq, match_ordering, eq_by_cmp}
use Rattle.std.specs.declared.cmp.Ordering.{Ordering}
use Rattle.std.specs.declared.cmp.Ordering.TheVariants.{Less, Equal, Greater}
use Rattle.swan_model.proofs.Elements.{some_is}

-- ---- numbers as keys

pub tied : (k n : ℕ) → k ≡ n → is_at (nat_cmp k) n ≡ true
tied k n e = grind (arith, nat_tests)

pub untied : (k n : ℕ) → n ≢ k → is_at (nat_cmp k) n ≡ false
untied k n apart = grind (arith, nat_tests)

pub equal_at : (k n : ℕ) → is_at (nat_cmp k) n ≡ true → k ≡ n
equal_at k n h = grind (arith, nat_tests)

-- ---- choices one after the other

-- two choices in the other order, where both never hold
swapped : {A : Type 0} (a b : Bool) (x y z : A) → (a ≡ true → b ≡ true → ⊥) → cond a x (cond b y z) ≡ cond b y (cond a x z)
swapped true true x y z never = absurd (never refl refl)
swapped true false x y z never = refl
swapped false b x y z never = refl

-- a choice that hides the one below it
hidden : {A : Type 0} (a b : Bool) (x y z : A) → a ≡ b → cond a x z ≡ cond b x (cond a y z)
hidden true true x y z e = refl
hidden true false x y z e = absurd (false≢true (sym e))
hidden false true x y z e = absurd (false≢true e)
hidden false false x y z e = refl

-- ---- keys

-- the keys of the entries whose keys pass a test are the keys that pass it
pub keys_filtered : {K X : Type 0} (p : K → Bool) (es : List (K × X)) → keys_of (filter (λ e. p e.0) es) ≡ filter p (keys_of es)
keys_filtered p [] = refl
keys_filtered p (e ∷ es) = by (p e.0) (keys_filtered p es) where
  by : (b : Bool) → keys_of (filter (λ e. p e.0) es) ≡ filter p (keys_of es)
      → keys_of (cond b (e ∷ filter (λ e. p e.0) es) (filter (λ e. p e.0) es)) ≡ cond b (e.0 ∷ filter p (keys_of es)) (filter p (keys_of es))
  by true rest = ap (◌∷◌ e.0) rest
  by false rest = rest

-- ---- tests of entries

-- what each entry passes, one that is found passes, where keys that tie are the same
module _ {K X : Type 0} (cmp : K → K → Ordering) (equal : (k n : K) → is_at (cmp k) n ≡ true → k ≡ n) (p : K × X → Bool) where
  pub found_passes : (es : List (K × X)) (k : K) (x : X) → list_all p es ≡ true → lookup (is_at (cmp k)) es ≡ Some x → p (k, x) ≡ true
  found_passes [] k x all found = absurd (none-some x found)
  found_passes (e ∷ es) k x all found = by (is_at (cmp k) e.0) refl found (found_passes es k x (and_parts (p e) (list_all p es) all).1) where
    by : (b : Bool) → is_at (cmp k) e.0 ≡ b → cond b (Some e.1) (lookup (is_at (cmp k)) es) ≡ Some x
        → (lookup (is_at (cmp k)) es ≡ Some x → p (k, x) ≡ true) → p (k, x) ≡ true
    by true is h rest =
        let value : e.1 ≡ x = same_Some e.1 x h in
        let key : e.0 ≡ k = sym (equal k e.0 is) in
        let same : (k, x) ≡ e = λ i. (sym key i, sym value i) in
        ap p same ∙ (and_parts (p e) (list_all p es) all).0
    by false is h rest = rest h

-- ---- any order of keys

is_tie : (o : Ordering) → is_eq o ≡ true → o ≡ Equal
is_tie Less h = absurd (false≢true h)
is_tie Equal h = refl
is_tie Greater h = absurd (false≢true h)

module _ {K : Type 0} {cmp : K → K → Ordering} (total : IsTotalOrder cmp) where
  -- keys that tie with one key are found alike
  pub one_key : (k x y : K) → is_at (cmp k) x ≡ true → is_at (cmp k) y ≡ eq_by_cmp cmp x y
  one_key k x y h = ap is_eq (total.congr k x y (is_tie (cmp k x) h))

  module _ {X : Type 0} where
    -- an entry that comes in is found at its key, and all others as before
    pub found_in : (k : K) (v : X) (n : K) (es : List (K × X))
        → lookup (is_at (cmp n)) (insert_entry cmp es k v) ≡ cond (is_at (cmp n) k) (Some v) (lookup (is_at (cmp n)) es)
    found_in k v n [] = refl
    found_in k v n (e ∷ es) = by (cmp k e.0) refl (found_in k v n es) where
      by : (o : Ordering) → cmp k e.0 ≡ o
          → lookup (is_at (cmp n)) (insert_entry cmp es k v) ≡ cond (is_at (cmp n) k) (Some v) (lookup (is_at (cmp n)) es)
          → lookup (is_at (cmp n)) (match_ordering o ((k, v) ∷ e ∷ es) ((e.0, v) ∷ es) (e ∷ insert_entry cmp es k v))
          ≡ cond (is_at (cmp n) k) (Some v) (lookup (is_at (cmp n)) (e ∷ es))
      by Less is rest = refl
      by Equal is rest = hidden (is_at (cmp n) e.0) (is_at (cmp n) k) (Some v) (Some e.1) (lookup (is_at (cmp n)) es)
          (ap is_eq (sym (alike_right total k e.0 n is)))
      by Greater is rest = ap (cond (is_at (cmp n) e.0) (Some e.1)) rest
          ∙ swapped (is_at (cmp n) e.0) (is_at (cmp n) k) (Some e.1) (Some v) (lookup (is_at (cmp n)) es)
          (λ a b. false≢true (sym (ap is_eq is) ∙ sym (one_key n k e.0 b) ∙ a))

    -- an entry that is changed is found as it is now, and all others as before
    pub found_set : (es : List (K × X)) (k : K) (was v : X) (n : K) → lookup (is_at (cmp k)) es ≡ Some was
        → lookup (is_at (cmp n)) (set_value (is_at (cmp k)) es v) ≡ cond (is_at (cmp k) n) (Some v) (lookup (is_at (cmp n)) es)
    found_set es k was v n e =
        lookup-set_value (eq_by_cmp_equiv total) (is_at (cmp k)) (one_key k) n v es (some_is (lookup (is_at (cmp k)) es) was e)

    -- an entry that goes out isn't found, and all others as before
    pub found_without : (es : List (K × X)) (k n : K) → IsStrictlySortedBy cmp (keys_of es)
        → lookup (is_at (cmp n)) (remove_entry (is_at (cmp k)) es) ≡ cond (is_at (cmp k) n) None (lookup (is_at (cmp n)) es)
    found_without es k n sorted =
        lookup-remove_entry (eq_by_cmp_equiv total) (is_at (cmp k)) (one_key k) n es (IsDistinct-from_sorted cmp (keys_of es) sorted)

-- ---- any order in which only a key itself ties with it

module _ {K : Type 0} {cmp : K → K → Ordering} (total : IsTotalOrder cmp) (equal : (k n : K) → is_at (cmp k) n ≡ true → k ≡ n) where
  -- a key ties with itself
  pub key_tied : (k : K) → is_at (cmp k) k ≡ true
  key_tied k = ap is_eq (tied_itself total k)

  -- a key ties with no other one
  pub key_untied : (k n : K) → n ≢ k → is_at (cmp k) n ≡ false
  key_untied k n apart = false_from_ne_true (is_at (cmp k) n) (λ is. apart (sym (equal k n is)))

  module _ {X : Type 0} where
    -- what is found at a key
    abbrev at_key : List (K × X) → K → Option X
    at_key es n = lookup (is_at (cmp n)) es

    -- an entry that came in is found at its key
    pub at_key_inserted : (es : List (K × X)) (k : K) (v : X) → at_key (insert_entry cmp es k v) k ≡ Some v
    at_key_inserted es k v = found_in total k v k es ∙ ap (λ b. cond b (Some v) (at_key es k)) (key_tied k)

    -- what is found at other keys than that of an entry that came in was found there before
    pub by_key_inserted : (es : List (K × X)) (k : K) (v : X) (n : K) → n ≢ k → at_key (insert_entry cmp es k v) n ≡ at_key es n
    by_key_inserted es k v n apart = found_in total k v n es ∙ ap (λ b. cond b (Some v) (at_key es n)) (key_untied n k (λ e. apart (sym e)))

    -- an entry that was changed is found as it is now
    pub at_key_set : (es : List (K × X)) (k : K) (was v : X) → at_key es k ≡ Some was → at_key (set_value (is_at (cmp k)) es v) k ≡ Some v
    at_key_set es k was v e = found_set total es k was v k e ∙ ap (λ b. cond b (Some v) (at_key es k)) (key_tied k)

    -- what is found at other keys than that of an entry that was changed was found there before
    pub by_key_set : (es : List (K × X)) (k : K) (was v : X) (n : K) → at_key es k ≡ Some was → n ≢ k
        → at_key (set_value (is_at (cmp k)) es v) n ≡ at_key es n
    by_key_set es k was v n e apart = found_set total es k was v n e ∙ ap (λ b. cond b (Some v) (at_key es n)) (key_untied k n apart)

    -- an entry that went out isn't found
    pub at_key_removed : (es : List (K × X)) (k : K) → IsStrictlySortedBy cmp (keys_of es) → at_key (remove_entry (is_at (cmp k)) es) k ≡ None
    at_key_removed es k sorted = found_without total es k k sorted ∙ ap (λ b. cond b None (at_key es k)) (key_tied k)

    -- what is found at other keys than that of an entry that went out was found there before
    pub by_key_removed : (es : List (K × X)) (k n : K) → IsStrictlySortedBy cmp (keys_of es) → n ≢ k
        → at_key (remove_entry (is_at (cmp k)) es) n ≡ at_key es n
    by_key_removed es k n sorted apart = found_without total es k n sorted ∙ ap (λ b. cond b None (at_key es n)) (key_untied k n apart)

-- ---- entries by numbers

module _ {X : Type 0} where
  -- what is found at a number
  abbrev pub at_number : List (ℕ × X) → ℕ → Option X
  at_number es n = lookup (is_at (nat_cmp n)) es

  pub at_inserted : (es : List (ℕ × X)) (k : ℕ) (v : X) → at_number (insert_entry nat_cmp es k v) k ≡ Some v
  at_inserted = at_key_inserted nat_cmp_total equal_at

  pub by_inserted : (es : List (ℕ × X)) (k : ℕ) (v : X) (n : ℕ) → n ≢ k → at_number (insert_entry nat_cmp es k v) n ≡ at_number es n
  by_inserted = by_key_inserted nat_cmp_total equal_at

  pub at_set : (es : List (ℕ × X)) (k : ℕ) (was v : X) → at_number es k ≡ Some was → at_number (set_value (is_at (nat_cmp k)) es v) k ≡ Some v
  at_set = at_key_set nat_cmp_total equal_at

  pub by_set : (es : List (ℕ × X)) (k : ℕ) (was v : X) (n : ℕ) → at_number es k ≡ Some was → n ≢ k
      → at_number (set_value (is_at (nat_cmp k)) es v) n ≡ at_number es n
  by_set = by_key_set nat_cmp_total equal_at

  pub at_removed : (es : List (ℕ × X)) (k : ℕ) → IsStrictlySortedBy nat_cmp (keys_of es) → at_number (remove_entry (is_at (nat_cmp k)) es) k ≡ None
  at_removed = at_key_removed nat_cmp_total equal_at

  pub by_removed : (es : List (ℕ × X)) (k n : ℕ) → IsStrictlySortedBy nat_cmp (keys_of es) → n ≢ k
      → at_number (remove_entry (is_at (nat_cmp k)) es) n ≡ at_number es n
  by_removed = by_key_removed nat_cmp_total equal_at
