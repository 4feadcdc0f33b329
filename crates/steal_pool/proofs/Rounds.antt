-- In each round each seat gets to know one more of the others.
use Rattle.std.proofs.Common.{◌≡◌, ◌≢◌, ℕ, zero, suc, ◌+◌, ◌-◌, ◌%◌, ◌<◌, ◌≤◌, List, [], ◌∷◌, ◌++◌, length, drop, take, get_or, map, All, refl, sym, ap, ◌∙◌, subst, arith}
use Rattle.std.proofs.Math.Nat.{mod-eq_of_lt, mod-eq-sub-mod}
use Rattle.std.proofs.Math.Seq.{map-set_same}
use Rattle.std.proofs.lemmas.List.{get_or_append_left, get_or-append-add, get_or-drop, get_or-take, length-append, length-drop, length-take-le, length-map, take_all}
use Rattle.std.proofs.lemmas.Option.{get_or_from_slice_get, slice_get-get_or, slice_get-map, slice_get_within, same_Some}
use Rattle.std.specs.Option.{option_map}
use Rattle.std.specs.Prelude.{Some, slice_get, slice_index_or, slice_set}
use Rattle.swan_model.proofs.Lists.{get-set_same, take_next}
use mathlib.Core.Logic.{dite}
use native.Mathlib.Decide.{ℕ_discrete, dec_lt}
use Rattle.steal_pool.specs.Seats.{HasMet, HaveNext, others_of}

module _ {X : Type 0} where
  get-set_other : (xs : List X) (n i : ℕ) (x : X) → i ≢ n → slice_get (slice_set xs n x) i ≡ slice_get xs i
  get-set_other [] n i x ne = refl
  get-set_other (y ∷ ys) zero zero x ne = absurd (ne refl)
  get-set_other (y ∷ ys) zero (suc i) x ne = refl
  get-set_other (y ∷ ys) (suc n) zero x ne = refl
  get-set_other (y ∷ ys) (suc n) (suc i) x ne = get-set_other ys n i x (λ e. ne (ap suc e))

module _ {X : Type 0} (all : List X) where
  -- the others of one stand in a ring behind it
  other_at : (i k : ℕ) (d : X) → i < length all → k + 1 < length all → get_or (others_of all i) k d ≡ get_or all ((i + 1 + k) % length all) d
  other_at i k d here less = let many = length-drop (i + 1) all in dite (dec_lt (i + 1 + k) (length all))
      (λ below. get_or_append_left (drop (i + 1) all) (take i all) d k (omega arith) ∙ get_or-drop (i + 1) all k d ∙ ap (λ n. get_or all n d) (sym (mod-eq_of_lt below)))
      (λ past. let j : ℕ = i + 1 + k - length all in
      let place : k ≡ length (drop (i + 1) all) + j = omega arith in
      let wraps : (i + 1 + k) % length all ≡ j = mod-eq-sub-mod (omega arith) ∙ mod-eq_of_lt (omega arith) in
      ap (λ n. get_or (others_of all i) n d) place ∙ get_or-append-add (drop (i + 1) all) (take i all) j d ∙ get_or-take i all j d (omega arith) ∙ ap (λ n. get_or all n d) (sym wraps))

  others_many : (i : ℕ) → i < length all → length (others_of all i) + 1 ≡ length all
  others_many i here = let many = length-append (drop (i + 1) all) (take i all) in let behind = length-drop (i + 1) all in let before = length-take-le i all (omega arith) in omega arith

  -- in a round, those before this one know one more
  pub record KnowUpTo (knowns : List (List X)) (round done : ℕ) : Type 0 where
    pub before : (i : ℕ) → i < done → i < length all → slice_get knowns i ≡ Some (take (round + 1) (others_of all i))
    pub after : (i : ℕ) → done ≤ i → i < length all → slice_get knowns i ≡ Some (take round (others_of all i))

  pub begins_round : (knowns : List (List X)) (round : ℕ) → HaveNext all round knowns → KnowUpTo knowns round 0
  begins_round knowns round have = record { before = λ i less here. absurd (omega arith); after = λ i le here. have i here }

  pub ends_round : (knowns : List (List X)) (round done : ℕ) → length all ≤ done → KnowUpTo knowns round done → HaveNext all (round + 1) knowns
  ends_round knowns round done past know i here = know.before i (omega arith) here

  pub meets : (knowns more : List (List X)) (round done : ℕ) → done < length all → round + 1 < length all → KnowUpTo knowns round done → HasMet all done ((done + 1 + round) % length all) knowns more → KnowUpTo more round (done + 1)
  meets knowns more round done here less know has =
      let many = others_many done here in
      let from : ℕ = (done + 1 + round) % length all in
      let other_is : slice_get (others_of all done) round ≡ Some has.other =
      slice_get-get_or (others_of all done) round has.other (omega arith) ∙ ap Some (other_at done round has.other here less ∙ get_or_from_slice_get all from has.other has.other has.stands) in
      let met_is : has.met ≡ take round (others_of all done) = same_Some has.met (take round (others_of all done)) (sym has.had ∙ know.after done (omega arith) here) in
      let one_more : slice_get more done ≡ Some (take (round + 1) (others_of all done)) =
      ap (λ l. slice_get l done) has.now ∙ get-set_same knowns done (has.met ++ has.other ∷ []) (slice_get_within knowns done has.met has.had)
      ∙ ap Some (ap (λ l. l ++ has.other ∷ []) met_is ∙ sym (take_next (others_of all done) round has.other other_is)) in
      let at_other : (i : ℕ) → i ≢ done → slice_get more i ≡ slice_get knowns i =
      λ i ne. ap (λ l. slice_get l i) has.now ∙ get-set_other knowns done i (has.met ++ has.other ∷ []) ne in
      record {
        before = λ i earlier within. dite (ℕ_discrete i done)
            (λ now. subst (λ n. slice_get more n ≡ Some (take (round + 1) (others_of all n))) (sym now) one_more)
            (λ ne. at_other i ne ∙ know.before i (omega arith) within);
        after = λ i later within. at_other i (λ e. absurd (omega arith)) ∙ know.after i (omega arith) within;
      }

  -- the same by a list and a length that are the same
  pub meets_next : (now : List X) (n : ℕ) → now ≡ all → n ≡ length all → (knowns more : List (List X)) (round done : ℕ) → done < n → round + 1 < n → KnowUpTo knowns round done → HasMet now done ((done + 1 + round) % n) knowns more → KnowUpTo more round (done + 1)
  meets_next now n is many knowns more round done here less know has =
      meets knowns more round done (omega arith) (omega arith) know (subst (λ (x : List X × ℕ). HasMet x.0 done ((done + 1 + round) % x.1) knowns more) (λ i. (is i, many i)) has)

  pub all_known : (knowns : List (List X)) (count : ℕ) → length all ≤ count + 1 → HaveNext all count knowns → (i : ℕ) → i < length all → slice_get knowns i ≡ Some (others_of all i)
  all_known knowns count most have i here = let many = others_many i here in have i here ∙ ap Some (take_all count (others_of all i) (omega arith))

module _ {S X : Type 0} (f : S → X) where
  -- what stands in a list at a place, by f
  pub stands_by : (xs : List S) (i : ℕ) (d : S) → i < length xs → slice_get (map f xs) i ≡ Some (f (get_or xs i d))
  stands_by xs i d here = slice_get-map f xs i ∙ ap (option_map f) (slice_get-get_or xs i d here)

  pub all_stand : (y : X) (xs : List S) → All (λ x. f x ≡ y) xs → (i : ℕ) → i < length (map f xs) → slice_get (map f xs) i ≡ Some y
  all_stand y [] are i here = absurd (omega arith)
  all_stand y (x ∷ xs) are i here = let within : i < length (x ∷ xs) = omega (arith, length-map (x ∷ xs) f) in stands_by (x ∷ xs) i x within ∙ ap Some (are i x within)

  pub each_by : (xs : List S) (i : ℕ) (x : S) (y : X) → slice_get xs i ≡ Some x → slice_get (map f xs) i ≡ Some y → f x ≡ y
  each_by xs i x y is told = same_Some (f x) y (sym (slice_get-map f xs i ∙ ap (option_map f) is) ∙ told)

  -- one that f can't tell from the one in its place
  pub same_by : (xs : List S) (i : ℕ) (y d : S) → f y ≡ f (slice_index_or xs i d) → map f (slice_set xs i y) ≡ map f xs
  same_by xs i y d same = map-set_same f xs i y d same

  -- the front that is one longer ends with what stands there
  pub noted : (all : List X) (xs : List S) → map f xs ≡ all → (i : ℕ) (d : S) → i < length xs → d ≡ slice_index_or xs i d → take (i + 1) all ≡ take i all ++ f d ∷ []
  noted all xs is i d here at = take_next all i (f d) (ap (λ l. slice_get l i) (sym is) ∙ stands_by xs i d here ∙ ap (λ x. Some (f x)) (sym at))
