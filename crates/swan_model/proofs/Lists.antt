-- Lists: their last element, what stands within them, their parts, and when two of numbers are equal.
use Rattle.std.proofs.Common.{◌≡◌, ℕ, zero, suc, ◌<◌, List, [], ◌∷◌, ◌++◌, length, Some, refl, sym, ap, arith, ◌∙◌, ◌+◌, take, drop, None, ◌≤◌}
use Rattle.std.proofs.lemmas.Bool.Decides.{same_from_decides}
use Rattle.std.proofs.lemmas.List.{drop_more, take_more}
use Rattle.std.proofs.lemmas.Option.{get_or_from_slice_get, slice_get_within}
use Rattle.std.proofs.lemmas.Slice.Eq.{bytes_eq-Decides}
use Rattle.std.specs.Prelude.{slice_get, slice_set}
use Rattle.std.specs.Str.{bytes_eq}

-- a list is empty, or it has a last element
pub record HasLast (xs : List ℕ) : Type 0 where
  pub front : List ℕ
  pub last : ℕ
  pub is : xs ≡ front ++ last ∷ []
  pub shorter : suc (length front) ≡ length xs

pub last_of : (x : ℕ) (xs : List ℕ) → HasLast (x ∷ xs)
last_of x [] = record { front = []; last = x; is = refl; shorter = refl }
last_of x (y ∷ ys) =
    let rest = last_of y ys in
    record { front = x ∷ rest.front; last = rest.last; is = ap (λ p. x ∷ p) rest.is; shorter = ap suc rest.shorter }

pub some_within : {X : Type 0} (xs : List X) (n : ℕ) → n < length xs → (x : X) × (slice_get xs n ≡ Some x)
some_within [] n less = absurd (omega arith)
some_within (x ∷ xs) zero less = (x, refl)
some_within (x ∷ xs) (suc n) less = some_within xs n (omega arith)

-- what stands in a list at the index at which it was set
pub get-set_same : {X : Type 0} (xs : List X) (n : ℕ) (x : X) → n < length xs → slice_get (slice_set xs n x) n ≡ Some x
get-set_same [] n x within = absurd (omega arith)
get-set_same (y ∷ xs) zero x within = refl
get-set_same (y ∷ xs) (suc n) x within = get-set_same xs n x (omega arith)

-- the parts of two lists that are the same
pub same_parts : {X : Type 0} (x y : X) (xs ys : List X) → x ∷ xs ≡ y ∷ ys → (x ≡ y) × (xs ≡ ys)
same_parts x y xs ys same = (cc, cc)

-- one list of numbers is another one where that one is this one
pub bytes_eq-sym : (a b : List ℕ) → bytes_eq a b ≡ bytes_eq b a
bytes_eq-sym a b =
    let forth = bytes_eq-Decides a b in
    let back = bytes_eq-Decides b a in
    same_from_decides (bytes_eq a b) (bytes_eq b a) forth (λ h. sym (back.0 h), λ e. back.1 (sym e))

-- what stands in the first of two lists, and after it
pub get-before : {X : Type 0} (xs ys : List X) (n : ℕ) → n < length xs → slice_get (xs ++ ys) n ≡ slice_get xs n
get-before [] ys n within = absurd (omega arith)
get-before (x ∷ xs) ys zero within = refl
get-before (x ∷ xs) ys (suc n) within = get-before xs ys n (omega arith)

pub get-after : {X : Type 0} (xs ys : List X) (n : ℕ) → slice_get (xs ++ ys) (length xs + n) ≡ slice_get ys n
get-after [] ys n = let e : 0 + n ≡ n = omega arith in ap (slice_get ys) e
get-after (x ∷ xs) ys n =
    let e : suc (length xs) + n ≡ suc (length xs + n) = omega arith in
    ap (slice_get (x ∷ (xs ++ ys))) e ∙ get-after xs ys n

-- the element at an index: it ends the front that is one longer, and begins what is left from there
pub take_next : {X : Type 0} (xs : List X) (i : ℕ) (x : X) → slice_get xs i ≡ Some x → take (i + 1) xs ≡ take i xs ++ x ∷ []
take_next xs i x is = take_more xs i x (slice_get_within xs i x is) ∙ ap (λ y. take i xs ++ y ∷ []) (get_or_from_slice_get xs i x x is)

pub drop_next : {X : Type 0} (xs : List X) (i : ℕ) (x : X) → slice_get xs i ≡ Some x → drop i xs ≡ x ∷ drop (i + 1) xs
drop_next xs i x is = drop_more xs i x (slice_get_within xs i x is) ∙ ap (λ y. y ∷ drop (i + 1) xs) (get_or_from_slice_get xs i x x is)

pub get-drop : {X : Type 0} (n : ℕ) (xs : List X) → slice_get (drop n xs) 0 ≡ slice_get xs n
get-drop zero xs = refl
get-drop (suc n) [] = refl
get-drop (suc n) (x ∷ xs) = get-drop n xs

-- where nothing stands at an index, the list ends before it
pub past_none : {X : Type 0} (xs : List X) (i : ℕ) → slice_get xs i ≡ None → length xs ≤ i
past_none [] i is = omega arith
past_none (x ∷ xs) zero is = absurd (cc)
past_none (x ∷ xs) (suc i) is = let rest = past_none xs i is in omega (arith, rest)
