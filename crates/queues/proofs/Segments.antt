-- The elements of a list from one index up to another.
use Rattle.std.proofs.Common.{◌≡◌, ℕ, ◌+◌, ◌-◌, ◌<◌, ◌≤◌, List, [], ◌∷◌, ◌++◌, length, take, drop, Some, refl, sym, ap, ◌∙◌, arith, length-take, length-drop, take-add, take_at, drop-drop}
use Rattle.std.proofs.lemmas.List.{drop-take}
use Rattle.std.specs.Prelude.{slice_get}
use Rattle.swan_model.proofs.Elements.{taken_stands}
use Rattle.swan_model.proofs.Lists.{take_next, get-drop}

abbrev pub segment : {X : Type 0} → (from upto : ℕ) → List X → List X
segment from upto xs = take (upto - from) (drop from xs)

-- what a list begins with
pub segment_front : {X : Type 0} (front back : List X) → segment 0 (length front) (front ++ back) ≡ front
segment_front front back =
    let long : length front - 0 ≡ length front = omega arith in
    ap (λ n. take n (front ++ back)) long ∙ take_at front back (length front) refl

module _ {X : Type 0} (xs : List X) (from upto : ℕ) where
  -- an empty one ends where it begins
  pub segment_empty : from ≤ upto → upto ≤ length xs → [] ≡ segment from upto xs → upto ≡ from
  segment_empty order within empty =
      let none : length (segment from upto xs) ≡ 0 = ap length (sym empty) in
      omega (arith, none, length-take (upto - from) (drop from xs), length-drop from xs)

  pub segment_none : from ≡ upto → segment from upto xs ≡ []
  segment_none same =
      let zero_long : upto - from ≡ 0 = omega arith in
      ap (λ n. take n (drop from xs)) zero_long

  -- the first element of one
  pub segment_first : (x : X) → slice_get (segment from upto xs) 0 ≡ Some x → (from < upto) × (slice_get xs from ≡ Some x)
  segment_first x is =
      let both = taken_stands (upto - from) (drop from xs) 0 x is in
      let long = both.0 in
      (omega (arith, long), sym (get-drop from xs) ∙ both.1)

  -- and the others
  pub segment_rest : from < upto → drop 1 (segment from upto xs) ≡ segment (from + 1) upto xs
  segment_rest order =
      let long : upto - from ≡ 1 + (upto - (from + 1)) = omega arith in
      ap (λ n. drop 1 (take n (drop from xs))) long
      ∙ drop-take 1 (upto - (from + 1)) (drop from xs)
      ∙ ap (take (upto - (from + 1))) (drop-drop 1 from xs)

  -- one more element at its end
  pub segment_more : (x : X) → from ≤ upto → slice_get xs upto ≡ Some x → segment from (upto + 1) xs ≡ segment from upto xs ++ x ∷ []
  segment_more x order is =
      let long : upto + 1 - from ≡ (upto - from) + 1 = omega arith in
      let there : from + (upto - from) ≡ upto = omega arith in
      let here : drop (upto - from) (drop from xs) ≡ drop upto xs = drop-drop (upto - from) from xs ∙ ap (λ n. drop n xs) there in
      ap (λ n. take n (drop from xs)) long
      ∙ take-add (upto - from) 1 (drop from xs)
      ∙ ap (λ ys. segment from upto xs ++ take 1 ys) here
      ∙ ap (λ ys. segment from upto xs ++ ys) (take_next (drop upto xs) 0 x (get-drop upto xs ∙ is))

-- one after another
pub segment_joined : {X : Type 0} (xs : List X) (from between upto : ℕ) → from ≤ between → between ≤ upto → segment from between xs ++ segment between upto xs ≡ segment from upto xs
segment_joined xs from between upto first second =
    let long : upto - from ≡ (between - from) + (upto - between) = omega arith in
    let there : from + (between - from) ≡ between = omega arith in
    let here : drop (between - from) (drop from xs) ≡ drop between xs = drop-drop (between - from) from xs ∙ ap (λ n. drop n xs) there in
    ap (λ ys. segment from between xs ++ take (upto - between) ys) (sym here)
    ∙ sym (take-add (between - from) (upto - between) (drop from xs))
    ∙ ap (λ n. take n (drop from xs)) (sym long)
