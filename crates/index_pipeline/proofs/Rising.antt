-- The index as a set: its pairs rise, and are those that stand on the lines.
use Rattle.std.proofs.Common.{◌≡◌, ℕ, zero, suc, ◌+◌, ◌<◌, Some, List, [], ◌∷◌, ◌++◌, length, map, refl, sym, ap, subst, ◌∙◌, arith, inl, inr}
use Rattle.std.proofs.lemmas.Cmp.{nat_cmp_total, nat_list_cmp_total}
use Rattle.std.proofs.lemmas.Map.Lookups.{exact_bytes, exact_unsigned}
use Rattle.std.specs.BTreeSet.{insert_key}
use Rattle.std.specs.Cmp.{IsTotalOrder, on_total, then_total}
use Rattle.std.specs.Cmp.Lexicographic.{slice_cmp}
use Rattle.std.specs.List.{Contains, fold, slice_index_or}
use Rattle.std.specs.List.Sorted.{IsStrictlySortedBy}
use Rattle.std.specs.Ordering.{match_ordering, nat_cmp, ordering_then}
use Rattle.std.specs.Prelude.{◌⊎◌, ◌↔◌, slice_get}
use Rattle.std.specs.declared.cmp.Ordering.{Ordering}
use Rattle.std.specs.declared.cmp.Ordering.TheVariants.{Less, Equal, Greater}
use Rattle.index_pipeline.specs.Index.{index_pairs, pairs_from}
use Rattle.index_pipeline.specs.Members.{StandsOn}
use Rattle.index_pipeline.specs.Pairs.{Pair, pair_order}
use Rattle.index_pipeline.specs.Words.{words}
use Rattle.index_pipeline.proofs.SortedLists.{insert_rises}

-- ---- the order of pairs

pair_total : IsTotalOrder pair_order
pair_total = then_total (on_total (λ (pair : Pair). pair.word) nat_list_cmp_total) (on_total (λ (pair : Pair). pair.line) nat_cmp_total)

-- pairs that neither comes before are one
same_pair : (a b : Pair) → pair_order a b ≡ Equal → a ≡ b
same_pair a b is = by_case (slice_cmp nat_cmp a.word b.word) refl is
  where
    by_case : (o : Ordering) → slice_cmp nat_cmp a.word b.word ≡ o → ordering_then o (nat_cmp a.line b.line) ≡ Equal → a ≡ b
    by_case Less words_are rest = absurd (cc)
    by_case Equal words_are rest =
        ap {B = Pair} (λ w. record { word = w; line = a.line }) (exact_bytes a.word b.word words_are) ∙ ap {B = Pair} (λ n. record { word = b.word; line = n }) (exact_unsigned a.line b.line rest)
    by_case Greater words_are rest = absurd (cc)

-- ---- it rises

fold_rises : (pairs got : List Pair) → IsStrictlySortedBy pair_order got → IsStrictlySortedBy pair_order (fold (insert_key pair_order) got pairs)
fold_rises [] got rise = rise
fold_rises (pair ∷ pairs) got rise = fold_rises pairs (insert_key pair_order got pair) (insert_rises pair_total got pair rise)

none_rise : IsStrictlySortedBy pair_order []
unfolding IsStrictlySortedBy
none_rise = tt

pub rises : (ls : List (List ℕ)) → IsStrictlySortedBy pair_order (index_pairs ls)
rises ls = fold_rises (pairs_from 1 ls) [] none_rise

-- ---- members of lists, by recursion

module _ {X : Type 0} (x : X) where
  abbrev Has : List X → Type 0
  Has [] = ⊥
  Has (y ∷ ys) = (y ≡ x) ⊎ Has ys

  contains_it : (xs : List X) → Has xs → Contains xs x
  contains_it [] h = absurd h
  contains_it (y ∷ ys) (inl e) = (0, omega arith, e)
  contains_it (y ∷ ys) (inr h) = let at = contains_it ys h in let below = at.1 in (suc at.0, omega arith, at.2)

  has_at : (xs : List X) (k : ℕ) → k < length xs → slice_index_or xs k x ≡ x → Has xs
  has_at [] k below is = absurd (omega arith)
  has_at (y ∷ ys) zero below is = inl is
  has_at (y ∷ ys) (suc k) below is = inr (has_at ys k (omega arith) is)

  has_it : (xs : List X) → Contains xs x → Has xs
  has_it xs at = has_at xs at.0 at.1 at.2

  of_both : (xs ys : List X) → Has (xs ++ ys) → Has xs ⊎ Has ys
  of_both [] ys h = inr h
  of_both (z ∷ xs) ys (inl e) = inl (inl e)
  of_both (z ∷ xs) ys (inr h) = elim (of_both xs ys h) [ inl l ↦ inl (inr l) | inr r ↦ inr r ]

  in_left : (xs ys : List X) → Has xs → Has (xs ++ ys)
  in_left [] ys h = absurd h
  in_left (z ∷ xs) ys (inl e) = inl e
  in_left (z ∷ xs) ys (inr h) = inr (in_left xs ys h)

  in_right : (xs ys : List X) → Has ys → Has (xs ++ ys)
  in_right [] ys h = h
  in_right (z ∷ xs) ys h = inr (in_right xs ys h)

-- ---- what is in a set

module _ (p : Pair) where
  of_inserted : (ks : List Pair) (k : Pair) → Has p (insert_key pair_order ks k) → (k ≡ p) ⊎ Has p ks
  of_inserted [] k h = h
  of_inserted (first ∷ ks) k h = by_case (pair_order k first) (of_inserted ks k) h
    where
      by_case : (o : Ordering) → (Has p (insert_key pair_order ks k) → (k ≡ p) ⊎ Has p ks)
          → Has p (match_ordering o (k ∷ first ∷ ks) (first ∷ ks) (first ∷ insert_key pair_order ks k)) → (k ≡ p) ⊎ Has p (first ∷ ks)
      by_case Less rest h = h
      by_case Equal rest h = inr h
      by_case Greater rest (inl e) = inr (inl e)
      by_case Greater rest (inr h) = elim (rest h) [ inl e ↦ inl e | inr l ↦ inr (inr l) ]

  in_inserted : (ks : List Pair) (k : Pair) → (k ≡ p) ⊎ Has p ks → Has p (insert_key pair_order ks k)
  in_inserted [] k h = h
  in_inserted (first ∷ ks) k h = by_case (pair_order k first) refl (in_inserted ks k) h
    where
      by_case : (o : Ordering) → pair_order k first ≡ o → ((k ≡ p) ⊎ Has p ks → Has p (insert_key pair_order ks k))
          → (k ≡ p) ⊎ Has p (first ∷ ks) → Has p (match_ordering o (k ∷ first ∷ ks) (first ∷ ks) (first ∷ insert_key pair_order ks k))
      by_case Less is rest h = h
      by_case Equal is rest (inl e) = inl (sym (same_pair k first is) ∙ e)
      by_case Equal is rest (inr h) = h
      by_case Greater is rest (inl e) = inr (rest (inl e))
      by_case Greater is rest (inr (inl e)) = inl e
      by_case Greater is rest (inr (inr h)) = inr (rest (inr h))

  of_set : (pairs got : List Pair) → Has p (fold (insert_key pair_order) got pairs) → Has p got ⊎ Has p pairs
  of_set [] got h = inl h
  of_set (pair ∷ pairs) got h = elim (of_set pairs (insert_key pair_order got pair) h) [
    | inl l ↦ elim (of_inserted got pair l) [ inl e ↦ inr (inl e) | inr m ↦ inl m ]
    | inr r ↦ inr (inr r)
  ]

  in_set : (pairs got : List Pair) → Has p got ⊎ Has p pairs → Has p (fold (insert_key pair_order) got pairs)
  in_set [] got (inl h) = h
  in_set [] got (inr h) = absurd h
  in_set (pair ∷ pairs) got (inl h) = in_set pairs (insert_key pair_order got pair) (inl (in_inserted got pair (inr h)))
  in_set (pair ∷ pairs) got (inr (inl e)) = in_set pairs (insert_key pair_order got pair) (inl (in_inserted got pair (inl e)))
  in_set (pair ∷ pairs) got (inr (inr h)) = in_set pairs (insert_key pair_order got pair) (inr h)

  -- ---- which pairs lines have

  abbrev paired : ℕ → List ℕ → Pair
  paired n word = record { word = word; line = n }

  of_line : (n : ℕ) (ws : List (List ℕ)) → Has p (map (paired n) ws) → (p.line ≡ n) × Has p.word ws
  of_line n [] h = absurd h
  of_line n (w ∷ ws) (inl e) = (sym (ap {B = ℕ} (λ (q : Pair). q.line) e), inl (ap {B = List ℕ} (λ (q : Pair). q.word) e))
  of_line n (w ∷ ws) (inr h) = let rest = of_line n ws h in (rest.0, inr rest.1)

  in_line : (n : ℕ) (ws : List (List ℕ)) → p.line ≡ n → Has p.word ws → Has p (map (paired n) ws)
  in_line n [] is h = absurd h
  in_line n (w ∷ ws) is (inl e) = inl (ap (paired n) e ∙ ap {B = Pair} (λ m. record { word = p.word; line = m }) (sym is))
  in_line n (w ∷ ws) is (inr h) = inr (in_line n ws is h)

  -- the pair stands on a line of these, the first of which has this number
  abbrev StandsFrom : ℕ → List (List ℕ) → Type 0
  StandsFrom n ls = (before : ℕ) × (line : List ℕ) × (slice_get ls before ≡ Some line) × Has p.word (words line) × (p.line ≡ before + n)

  of_lines : (n : ℕ) (ls : List (List ℕ)) → Has p (pairs_from n ls) → StandsFrom n ls
  of_lines n [] h = absurd h
  of_lines n (l ∷ ls) h = elim (of_both p (map (paired n) (words l)) (pairs_from (n + 1) ls) h) [
    | inl here ↦ (let at = of_line n (words l) here in (0, l, refl, at.1, at.0 ∙ (let e : n ≡ 0 + n = omega arith in e)))
    | inr later ↦ (let at = of_lines (n + 1) ls later in (suc at.0, at.1, at.2, at.3, at.4 ∙ (let e : at.0 + (n + 1) ≡ suc at.0 + n = omega arith in e)))
  ]

  in_lines : (n : ℕ) (ls : List (List ℕ)) (before : ℕ) (line : List ℕ) → slice_get ls before ≡ Some line → Has p.word (words line) → p.line ≡ before + n → Has p (pairs_from n ls)
  in_lines n [] zero line is word number = absurd (cc)
  in_lines n [] (suc before) line is word number = absurd (cc)
  in_lines n (l ∷ ls) zero line is word number =
      let same : l ≡ line = cc in
      in_left p (map (paired n) (words l)) (pairs_from (n + 1) ls) (in_line n (words l) (omega (arith, number)) (subst (λ k. Has p.word (words k)) (sym same) word))
  in_lines n (l ∷ ls) (suc before) line is word number =
      in_right p (map (paired n) (words l)) (pairs_from (n + 1) ls) (in_lines (n + 1) ls before line is word (omega (arith, number)))

  pub members : (ls : List (List ℕ)) → Contains (index_pairs ls) p ↔ StandsOn ls p
  members ls = (
    λ at. elim (of_set (pairs_from 1 ls) [] (has_it p (index_pairs ls) at)) [
      | inl h ↦ absurd h
      | inr h ↦ (let st = of_lines 1 ls h in record { before = st.0; line = st.1; is_line = st.2; is_word = contains_it p.word (words st.1) st.3; is_number = st.4 })
    ],
    λ st. contains_it p (index_pairs ls) (in_set (pairs_from 1 ls) [] (inr (in_lines 1 ls st.before st.line st.is_line (has_it p.word (words st.line) st.is_word) st.is_number))),
  )
