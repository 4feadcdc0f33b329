-- A key that goes to its place among rising keys.
use Rattle.std.proofs.Common.{◌≡◌, ℕ, zero, suc, ◌<◌, ◌≤◌, List, [], ◌∷◌, length, get_or, refl, sym, ap, subst, ◌∙◌, ◌-◌, ◌⊎◌, inl, inr, arith}
use Rattle.std.proofs.lemmas.Bool.{cases_lt, ltb-true}
use Rattle.std.proofs.lemmas.List.Sorted.{searched}
use Rattle.std.proofs.lemmas.Map.Keys.{below_from_sorted, non_decreasing_from_sorted}
use Rattle.std.proofs.lemmas.Option.{get_or_from_slice_get, slice_get-get_or}
use Rattle.std.specs.BTreeSet.{insert_key}
use Rattle.std.specs.Cmp.{IsTotalOrder, nat_cmp_is}
use Rattle.std.specs.List.{AllByRecursion, insert}
use Rattle.std.specs.List.Sorted.{IsBinarySearchResult, IsStrictlySortedBy}
use Rattle.std.specs.Ordering.{match_ordering, nat_cmp, ordering_reverse}
use Rattle.std.specs.Prelude.{true, nat_lt, Option, None, Some, Result, Ok, Err, IfNone, IfSome, MatchOption, slice_get}
use Rattle.std.specs.Result.{result_err}
use Rattle.std.specs.declared.cmp.Ordering.{Ordering}
use Rattle.std.specs.declared.cmp.Ordering.TheVariants.{Less, Equal, Greater}

-- ---- they still rise

module _ {K : Type 0} {cmp : K → K → Ordering} (total : IsTotalOrder cmp) where
  above_first : (k first : K) (ks : List K) → cmp k first ≡ Less → AllByRecursion (λ y. cmp first y ≡ Less) ks → AllByRecursion (λ y. cmp k y ≡ Less) ks
  above_first k first [] less all = tt
  above_first k first (next ∷ ks) less all = (total.trans k first next less all.0, above_first k first ks less all.1)

  all_inserted : (P : K → Type 0) (ks : List K) (k : K) → AllByRecursion P ks → P k → AllByRecursion P (insert_key cmp ks k)
  all_inserted P [] k all one = (one, tt)
  all_inserted P (first ∷ ks) k all one = by_case (cmp k first) (all_inserted P ks k all.1 one)
    where
      by_case : (o : Ordering) → AllByRecursion P (insert_key cmp ks k) → AllByRecursion P (match_ordering o (k ∷ first ∷ ks) (first ∷ ks) (first ∷ insert_key cmp ks k))
      by_case Less rest = (one, all)
      by_case Equal rest = all
      by_case Greater rest = (all.0, rest)

  pub insert_rises : (ks : List K) (k : K) → IsStrictlySortedBy cmp ks → IsStrictlySortedBy cmp (insert_key cmp ks k)
  unfolding IsStrictlySortedBy
  insert_rises [] k rise = (tt, tt)
  insert_rises (first ∷ ks) k rise = by_case (cmp k first) refl (insert_rises ks k rise.1)
    where
      by_case : (o : Ordering) → cmp k first ≡ o → IsStrictlySortedBy cmp (insert_key cmp ks k)
          → IsStrictlySortedBy cmp (match_ordering o (k ∷ first ∷ ks) (first ∷ ks) (first ∷ insert_key cmp ks k))
      by_case Less is rest = ((is, above_first k first ks is rise.0), rise)
      by_case Equal is rest = rise
      by_case Greater is rest =
          (all_inserted (λ y. cmp first y ≡ Less) ks k rise.0 (total.antisymm first k ∙ ap ordering_reverse is), rest)

-- ---- where a number goes

pub placed : (xs : List ℕ) (x i : ℕ) → i ≤ length xs → ((k : ℕ) → k < i → get_or xs k 0 < x) → ((k : ℕ) → i ≤ k → k < length xs → x < get_or xs k 0)
    → insert_key nat_cmp xs x ≡ insert xs i x
placed [] x zero within below above = refl
placed [] x (suc i) within below above = absurd (omega arith)
placed (y ∷ xs) x zero within below above =
    ap (λ o. match_ordering o (x ∷ y ∷ xs) (y ∷ xs) (y ∷ insert_key nat_cmp xs x)) (sym (nat_cmp_is x y Less (above 0 (omega arith) (omega arith))))
placed (y ∷ xs) x (suc i) within below above =
    ap (λ o. match_ordering o (x ∷ y ∷ xs) (y ∷ xs) (y ∷ insert_key nat_cmp xs x)) (sym (nat_cmp_is x y Greater (below 0 (omega arith))))
    ∙ ap (λ ys. y ∷ ys) (placed xs x i (omega arith) (λ k l. below (suc k) (omega arith)) (λ k l m. above (suc k) (omega arith) (omega arith)))

-- a number that is there
pub found : (xs : List ℕ) (x i : ℕ) → IsStrictlySortedBy nat_cmp xs → i < length xs → get_or xs i 0 ≡ x → insert_key nat_cmp xs x ≡ xs
unfolding IsStrictlySortedBy
found [] x i rise within is = absurd (omega arith)
found (y ∷ xs) x zero rise within is =
    ap (λ o. match_ordering o (x ∷ y ∷ xs) (y ∷ xs) (y ∷ insert_key nat_cmp xs x)) (sym (nat_cmp_is x y Equal (sym is)))
found (y ∷ xs) x (suc i) rise within is =
    ap (λ o. match_ordering o (x ∷ y ∷ xs) (y ∷ xs) (y ∷ insert_key nat_cmp xs x)) (sym (nat_cmp_is x y Greater (subst (λ n. y < n) is (below_from_sorted (y ∷ xs) 0 (suc i) 0 rise (omega arith) within))))
    ∙ ap (λ ys. y ∷ ys) (found xs x i rise.1 (omega arith) is)

-- a number above the last one
pub at_end : (xs : List ℕ) (x : ℕ) → IsStrictlySortedBy nat_cmp xs
    → MatchOption (slice_get xs (length xs - 1)) (true ≡ true) (λ last. true ≡ nat_lt last x) → insert_key nat_cmp xs x ≡ insert xs (length xs) x
at_end xs x rise past = by (slice_get xs (length xs - 1)) refl past
  where
    below : (last : ℕ) → slice_get xs (length xs - 1) ≡ Some last → last < x → (k : ℕ) → k < length xs → get_or xs k 0 < x
    below last is less k l = by_case (cases_lt k (length xs - 1))
      where
        at_last : get_or xs (length xs - 1) 0 ≡ last
        at_last = get_or_from_slice_get xs (length xs - 1) last 0 is

        by_case : (k < length xs - 1) ⊎ (length xs - 1 ≤ k) → get_or xs k 0 < x
        by_case (inl fewer) = omega (arith, below_from_sorted xs k (length xs - 1) 0 rise fewer (omega arith), at_last, less)
        by_case (inr more) = let e : k ≡ length xs - 1 = omega arith in omega (arith, ap (λ n. get_or xs n 0) e, at_last, less)

    by : (last : Option ℕ) → slice_get xs (length xs - 1) ≡ last → MatchOption last (true ≡ true) (λ n. true ≡ nat_lt n x) → insert_key nat_cmp xs x ≡ insert xs (length xs) x
    by None none past = placed xs x (length xs) (omega arith) (λ k l. absurd (cc (sym none ∙ slice_get-get_or xs (length xs - 1) 0 (omega (arith, l))))) (λ k l m. absurd (omega arith))
    by (Some last) is past = placed xs x (length xs) (omega arith) (below last is (ltb-true last x (sym past))) (λ k l m. absurd (omega arith))

-- ---- what a search says

module _ (xs : List ℕ) (x : ℕ) (rise : IsStrictlySortedBy nat_cmp xs) where
  pub search_finds : (r : Result ℕ ℕ) → IsBinarySearchResult (λ y. nat_cmp y x) xs r → IfNone (result_err r) (insert_key nat_cmp xs x ≡ xs)
  search_finds (Ok i) is = let at = searched xs x (Ok i) is (λ i j. non_decreasing_from_sorted xs rise i j 0) in found xs x i rise at.0 at.1
  search_finds (Err i) is = tt

  pub search_places : (r : Result ℕ ℕ) → IsBinarySearchResult (λ y. nat_cmp y x) xs r → IfSome (result_err r) (λ i. insert_key nat_cmp xs x ≡ insert xs i x)
  search_places (Ok i) is = tt
  search_places (Err i) is = let at = searched xs x (Err i) is (λ i j. non_decreasing_from_sorted xs rise i j 0) in placed xs x i at.0 at.1 at.2

pub none_rise : IsStrictlySortedBy nat_cmp []
unfolding IsStrictlySortedBy
none_rise = tt
