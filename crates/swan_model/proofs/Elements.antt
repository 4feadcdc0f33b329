-- What stands in a list: what is found there, and what holds of all of it.
use Rattle.std.proofs.Common.{◌≡◌, ◌⊎◌, inl, inr, ℕ, zero, suc, ◌+◌, Bool, true, false, cond, List, [], ◌∷◌, ◌++◌, length, map, take, Option, Some, None, refl, sym, ap, ◌∙◌, arith, eqb, IsSome, is_none, is_some, subst, map-id, ◌||◌, ◌<◌, All}
use Rattle.std.proofs.lemmas.Option.{same_Some, none-some, slice_get_within}
use Rattle.std.proofs.lemmas.Bool.{and_from, and_parts, false_from_ne_true, or_left, or_right, eqb-true, or_cases, both_ways, cond-false}
use Rattle.std.proofs.lemmas.List.Elements.{All-pop, All-push, All-same}
use Rattle.std.proofs.lemmas.List.Folds.{list_any-append, find-append}
use Rattle.std.specs.List.{find, list_all, list_any}
use Rattle.std.specs.Option.{option_map, option_or}
use Rattle.std.specs.Prelude.{slice_get, slice_set, filter}
use Rattle.swan_model.proofs.Lists.{get-before}

-- two answers are the same where each is true as the other is
pub answers_same : (a b : Bool) → (a ≡ true → b ≡ true) → (b ≡ true → a ≡ true) → a ≡ b
answers_same true b to back = sym (to refl)
answers_same false b to back = sym (false_from_ne_true b (λ is. absurd (by (back is))))
  where
    by : false ≡ true → ⊥
    by is = absurd (cc)

pub option_cases : {X : Type 0} (o : Option X) → (o ≡ None) ⊎ ((x : X) × (o ≡ Some x))
option_cases None = inl refl
option_cases (Some x) = inr (x, refl)

pub none_is : {X : Type 0} (o : Option X) → is_none o ≡ true → o ≡ None
none_is None is = refl
none_is (Some x) is = absurd (cc)

pub some_of : {X : Type 0} (o : Option X) → is_some o ≡ true → (x : X) × (o ≡ Some x)
some_of None is = absurd (cc)
some_of (Some x) is = (x, refl)

pub some_is : {X : Type 0} (o : Option X) (x : X) → o ≡ Some x → IsSome o
some_is o x is = subst IsSome (sym is) refl

-- an answer that nothing stands in for is itself
pub or_none : {X : Type 0} (o : Option X) → option_or o None ≡ o
or_none None = refl
or_none (Some x) = refl

-- two answers of one look-up are the same
pub one_answer : {X : Type 0} (o : Option X) (x y : X) → o ≡ Some x → o ≡ Some y → x ≡ y
one_answer o x y is also = same_Some x y (sym is ∙ also)

-- what is found
pub record IsFound {X : Type 0} (test : X → Bool) (xs : List X) (x : X) : Type 0 where
  pub index : ℕ
  pub stands : slice_get xs index ≡ Some x
  pub passes : test x ≡ true

found-later : {X : Type 0} (test : X → Bool) (y : X) (xs : List X) (x : X) → IsFound test xs x → IsFound test (y ∷ xs) x
found-later test y xs x found = record { index = suc found.index; stands = found.stands; passes = found.passes }

pub found_is : {X : Type 0} (test : X → Bool) (xs : List X) (x : X) → find test xs ≡ Some x → IsFound test xs x
found_is test [] x is = absurd (cc)
found_is test (y ∷ xs) x is = by (test y) refl is (λ later. found_is test xs x later)
  where
    by : (b : Bool) → test y ≡ b → cond b (Some y) (find test xs) ≡ Some x → (find test xs ≡ Some x → IsFound test xs x) → IsFound test (y ∷ xs) x
    by true passes is rest =
        let same : y ≡ x = same_Some y x is in
        record { index = 0; stands = is; passes = ap test (sym same) ∙ passes }
    by false fails is rest = found-later test y xs x (rest is)

-- where an element that stands in a list passes a test, one is found
pub find_some : {X : Type 0} (test : X → Bool) (xs : List X) (i : ℕ) (x : X) → slice_get xs i ≡ Some x → test x ≡ true → (y : X) × (find test xs ≡ Some y)
find_some test [] i x is passes = absurd (cc)
find_some test (z ∷ xs) zero x is passes = (z, ap (λ b. cond b (Some z) (find test xs)) (ap test (same_Some z x is) ∙ passes))
find_some {X = X} test (z ∷ xs) (suc i) x is passes = by (test z) (find_some test xs i x is passes)
  where
    by : (b : Bool) → (y : X) × (find test xs ≡ Some y) → (y : X) × (cond b (Some z) (find test xs) ≡ Some y)
    by true rest = (z, refl)
    by false rest = rest

-- what holds of all
pub all_each : {X : Type 0} (test : X → Bool) (xs : List X) (i : ℕ) (x : X) → list_all test xs ≡ true → slice_get xs i ≡ Some x → test x ≡ true
all_each test [] i x all is = absurd (cc)
all_each test (y ∷ xs) zero x all is =
    let same : y ≡ x = same_Some y x is in
    ap test (sym same) ∙ (and_parts (test y) (list_all test xs) all).0
all_each test (y ∷ xs) (suc i) x all is = all_each test xs i x (and_parts (test y) (list_all test xs) all).1 is

pub all_from : {X : Type 0} (test : X → Bool) (xs : List X) → ((i : ℕ) (x : X) → slice_get xs i ≡ Some x → test x ≡ true) → list_all test xs ≡ true
all_from test [] each = refl
all_from test (x ∷ xs) each =
    and_from (test x) (list_all test xs) (each 0 x refl) (all_from test xs (λ i y is. each (suc i) y is))

-- what holds of one
pub any_found : {X : Type 0} (test : X → Bool) (xs : List X) → list_any test xs ≡ true → (x : X) × IsFound test xs x
any_found test [] is = absurd (cc)
any_found test (x ∷ xs) is = elim (or_cases (test x) (list_any test xs) is) [
  | inl here ↦ (x, record { index = 0; stands = refl; passes = here })
  | inr there ↦ let found = any_found test xs there in (found.0, found-later test x xs found.0 found.1)
]

pub any_number : (n : ℕ) (ns : List ℕ) → list_any (eqb n) ns ≡ true → (i : ℕ) × (slice_get ns i ≡ Some n)
any_number n ns is =
    let found = any_found (eqb n) ns is in
    (found.1.index, found.1.stands ∙ ap Some (sym (eqb-true n found.0 found.1.passes)))

-- where one passes a test, one passes a weaker test, also once each was changed
pub any_changed : {X Y : Type 0} (test : X → Bool) (other : Y → Bool) (make : X → Y) → ((x : X) → test x ≡ true → other (make x) ≡ true) → (xs : List X) → list_any test xs ≡ true → list_any other (map make xs) ≡ true
any_changed test other make passes [] is = absurd (cc)
any_changed test other make passes (x ∷ xs) is = elim (or_cases (test x) (list_any test xs) is) [
  | inl here ↦ or_left (other (make x)) (list_any other (map make xs)) (passes x here)
  | inr there ↦ or_right (other (make x)) (list_any other (map make xs)) (any_changed test other make passes xs there)
]

pub any_weaker : {X : Type 0} (test other : X → Bool) → ((x : X) → test x ≡ true → other x ≡ true) → (xs : List X) → list_any test xs ≡ true → list_any other xs ≡ true
any_weaker test other passes xs is =
    ap (list_any other) (sym (map-id xs)) ∙ any_changed test other (λ x. x) passes xs is

-- an element more at the end that fails a test changes nothing of it, and where it passes one passes
pub any_before : {X : Type 0} (test : X → Bool) (xs : List X) (x : X) → test x ≡ false → list_any test (xs ++ x ∷ []) ≡ list_any test xs
any_before test [] x fails = ap (λ b. b || false) fails
any_before test (y ∷ xs) x fails = ap (λ b. test y || b) (any_before test xs x fails)

pub any_last : {X : Type 0} (test : X → Bool) (xs : List X) (x : X) → test x ≡ true → list_any test (xs ++ x ∷ []) ≡ true
any_last test xs x passes = list_any-append test xs (x ∷ []) ∙ or_right (list_any test xs) (test x || false) (or_left (test x) false passes)

pub any_either : {X : Type 0} (test : X → Bool) (xs : List X) (x : X) → list_any test (xs ++ x ∷ []) ≡ true → (list_any test xs ≡ true) ⊎ (test x ≡ true)
any_either test xs x is = elim (or_cases (list_any test xs) (test x || false) (sym (list_any-append test xs (x ∷ [])) ∙ is)) [
  | inl before ↦ inl before
  | inr last ↦ elim (or_cases (test x) false last) [ inl passes ↦ inr passes | inr never ↦ absurd (cc) ]
]

-- of all that pass a first test
pub filtered_each : {X : Type 0} (first test : X → Bool) (xs : List X) (i : ℕ) (x : X) → list_all test (filter first xs) ≡ true → slice_get xs i ≡ Some x → first x ≡ true → test x ≡ true
filtered_each first test [] i x all is passes = absurd (cc)
filtered_each first test (y ∷ xs) zero x all is passes =
    let same : y ≡ x = same_Some y x is in
    let yes : first y ≡ true = ap first same ∙ passes in
    let whole : list_all test (y ∷ filter first xs) ≡ true = ap (λ b. list_all test (cond b (y ∷ filter first xs) (filter first xs))) (sym yes) ∙ all in
    ap test (sym same) ∙ (and_parts (test y) (list_all test (filter first xs)) whole).0
filtered_each first test (y ∷ xs) (suc i) x all is passes = filtered_each first test xs i x (by (first y) all) is passes
  where
    by : (b : Bool) → list_all test (cond b (y ∷ filter first xs) (filter first xs)) ≡ true → list_all test (filter first xs) ≡ true
    by true all = (and_parts (test y) (list_all test (filter first xs)) all).1
    by false all = all

pub filtered_from : {X : Type 0} (first test : X → Bool) (xs : List X) → ((i : ℕ) (x : X) → slice_get xs i ≡ Some x → first x ≡ true → test x ≡ true) → list_all test (filter first xs) ≡ true
filtered_from first test [] each = refl
filtered_from first test (x ∷ xs) each = by (first x) refl (filtered_from first test xs (λ i y is passes. each (suc i) y is passes))
  where
    by : (b : Bool) → first x ≡ b → list_all test (filter first xs) ≡ true → list_all test (cond b (x ∷ filter first xs) (filter first xs)) ≡ true
    by true passes rest = and_from (test x) (list_all test (filter first xs)) (each 0 x refl passes) rest
    by false fails rest = rest

-- what holds of all, of an element more at the end too
pub all_pushed : {X : Type 0} (P : X → Type 0) (xs more : List X) (x : X) → more ≡ xs ++ x ∷ [] → All P xs → P x → All P more
all_pushed P xs more x is all one = All-same P more (xs ++ x ∷ []) is (All-push P xs x all one)

pub all_popped : {X : Type 0} (P : X → Type 0) (xs left : List X) (x : X) → xs ≡ left ++ x ∷ [] → All P xs → All P left × P x
all_popped P xs left x is all = All-pop P xs left (Some x) is all

-- what stands among the first elements stands in the list
pub taken_stands : {X : Type 0} (n : ℕ) (xs : List X) (i : ℕ) (x : X) → slice_get (take n xs) i ≡ Some x → (i < n) × (slice_get xs i ≡ Some x)
taken_stands zero xs i x is = absurd (cc)
taken_stands (suc n) [] i x is = absurd (cc)
taken_stands (suc n) (y ∷ xs) zero x is = (omega arith, is)
taken_stands (suc n) (y ∷ xs) (suc i) x is = let rest = taken_stands n xs i x is in (omega (arith, rest.0), rest.1)

-- what stands in one list after another stands in the first of them or in the second
pub append_cases : {X : Type 0} (xs ys : List X) (i : ℕ) (x : X) → slice_get (xs ++ ys) i ≡ Some x → (slice_get xs i ≡ Some x) ⊎ ((j : ℕ) × (i ≡ length xs + j) × (slice_get ys j ≡ Some x))
append_cases [] ys i x is = let none : i ≡ 0 + i = omega arith in inr (i, none, is)
append_cases (y ∷ xs) ys zero x is = inl is
append_cases (y ∷ xs) ys (suc i) x is = elim (append_cases xs ys i x is) [
  | inl first ↦ inl first
  | inr rest ↦ let more : suc i ≡ suc (length xs) + rest.0 = omega (arith, rest.1) in inr (rest.0, more, rest.2)
]

-- an element more
pub more_cases : {X : Type 0} (xs : List X) (x : X) (i : ℕ) (y : X) → slice_get (xs ++ x ∷ []) i ≡ Some y → (slice_get xs i ≡ Some y) ⊎ ((i ≡ length xs) × (y ≡ x))
more_cases xs x i y is = elim (append_cases xs (x ∷ []) i y is) [
  | inl before ↦ inl before
  | inr last ↦ inr (by last.0 last.1 last.2)
]
  where
    by : (j : ℕ) → i ≡ length xs + j → slice_get (x ∷ []) j ≡ Some y → (i ≡ length xs) × (y ≡ x)
    by zero at is = (omega (arith, at), sym (same_Some x y is))
    by (suc j) at is = absurd (cc)

-- what stands in a list in which one element was replaced is the new element, or stands elsewhere
pub set_cases : {X : Type 0} (xs : List X) (n : ℕ) (x y : X) (i : ℕ) (z : X) → slice_get xs n ≡ Some x → slice_get (slice_set xs n y) i ≡ Some z → ((i ≡ n) × (z ≡ y)) ⊎ ((i ≡ n → ⊥) × (slice_get xs i ≡ Some z))
set_cases [] n x y i z found is = absurd (cc)
set_cases (w ∷ xs) zero x y zero z found is = inl (refl, cc)
set_cases (w ∷ xs) zero x y (suc i) z found is = inr (λ same. absurd (omega arith), is)
set_cases (w ∷ xs) (suc n) x y zero z found is = inr (λ same. absurd (omega arith), is)
set_cases (w ∷ xs) (suc n) x y (suc i) z found is = elim (set_cases xs n x y i z found is) [
  | inl new ↦ inl (ap suc new.0, new.1)
  | inr old ↦ inr (λ same. old.0 (omega arith), old.1)
]

pub before_more : {X : Type 0} (xs : List X) (x : X) (i : ℕ) (y : X) → slice_get xs i ≡ Some y → slice_get (xs ++ x ∷ []) i ≡ Some y
before_more xs x i y is = get-before xs (x ∷ []) i (slice_get_within xs i y is) ∙ is

pub last_more : {X : Type 0} (xs : List X) (x : X) → slice_get (xs ++ x ∷ []) (length xs) ≡ Some x
last_more [] x = refl
last_more (z ∷ xs) x = last_more xs x

abbrev pub one_if : Bool → ℕ
one_if b = cond b 1 0

pub first-passes : {X : Type 0} (test : X → Bool) (x : X) (xs : List X) → length (filter test (x ∷ xs)) ≡ one_if (test x) + length (filter test xs)
first-passes test x xs = by (test x) where
  by : (b : Bool) → length (cond b (x ∷ filter test xs) (filter test xs)) ≡ one_if b + length (filter test xs)
  by true = omega arith
  by false = omega arith

pub filtered_more : {X : Type 0} (test : X → Bool) (xs : List X) (n : ℕ) (x : X) → slice_get xs n ≡ Some x → length (filter test (take (n + 1) xs)) ≡ length (filter test (take n xs)) + one_if (test x)
filtered_more {X = X} test xs n x is =
    let one : n + 1 ≡ suc n = omega arith in
    ap (λ k. length (filter test (take k xs))) one ∙ by xs n is
  where
    by : (xs : List X) (n : ℕ) → slice_get xs n ≡ Some x → length (filter test (take (suc n) xs)) ≡ length (filter test (take n xs)) + one_if (test x)
    by [] n is = absurd (cc)
    by (y ∷ ys) zero is =
        let same : y ≡ x = same_Some y x is in
        let shown = ap (λ z. one_if (test z)) same in
        omega (arith, first-passes test y [], shown)
    by (y ∷ ys) (suc n) is = omega (arith, first-passes test y (take (suc n) ys), first-passes test y (take n ys), by ys n is)

-- look-ups in lists that were changed
pub find_map : {X : Type 0} (test : X → Bool) (g : X → X) → ((x : X) → test (g x) ≡ test x) → (xs : List X) → find test (map g xs) ≡ option_map g (find test xs)
find_map test g same [] = refl
find_map test g same (x ∷ xs) = ap (λ b. cond b (Some (g x)) (find test (map g xs))) (same x) ∙ by (test x) (find_map test g same xs)
  where
    by : (b : Bool) → find test (map g xs) ≡ option_map g (find test xs) → cond b (Some (g x)) (find test (map g xs)) ≡ option_map g (cond b (Some x) (find test xs))
    by true rest = refl
    by false rest = rest

pub mapped_is : {X Y : Type 0} (g : X → Y) (o : Option X) (y : Y) → option_map g o ≡ Some y → (x : X) × (o ≡ Some x) × (g x ≡ y)
mapped_is g None y is = absurd (cc)
mapped_is g (Some x) y is = (x, refl, same_Some (g x) y is)

-- what is found once an element is added at the end
module _ {X : Type 0} (test : X → Bool) (xs : List X) (x : X) where
  pub found_before : (y : X) → find test xs ≡ Some y → find test (xs ++ x ∷ []) ≡ Some y
  found_before y is = find-append test xs (x ∷ []) ∙ ap (λ o. option_or o (find test (x ∷ []))) is

  pub found_last : find test xs ≡ None → test x ≡ true → find test (xs ++ x ∷ []) ≡ Some x
  found_last none passes =
      find-append test xs (x ∷ []) ∙ ap (λ o. option_or o (find test (x ∷ []))) none ∙ ap (λ b. cond b (Some x) None) passes

  pub found_unless : test x ≡ false → find test (xs ++ x ∷ []) ≡ find test xs
  found_unless fails = find-append test xs (x ∷ []) ∙ ap (λ b. option_or (find test xs) (cond b (Some x) None)) fails ∙ or_none (find test xs)

  pub found_cases : (y : X) → find test (xs ++ x ∷ []) ≡ Some y → (find test xs ≡ Some y) ⊎ ((find test xs ≡ None) × (test x ≡ true) × (x ≡ y))
  found_cases y is = by (find test xs) (test x) refl refl (sym (find-append test xs (x ∷ [])) ∙ is)
    where
      by : (o : Option X) (b : Bool) → find test xs ≡ o → test x ≡ b → option_or o (cond b (Some x) None) ≡ Some y → (find test xs ≡ Some y) ⊎ ((find test xs ≡ None) × (test x ≡ true) × (x ≡ y))
      by (Some z) b found passes is = inl (found ∙ is)
      by None true found passes is = inr (found, passes, same_Some x y is)
      by None false found passes is = absurd (cc)

  pub found_none : find test (xs ++ x ∷ []) ≡ None → find test xs ≡ None
  found_none none = elim (option_cases (find test xs)) [
    | inl is ↦ is
    | inr some ↦ absurd (none-some some.0 (sym none ∙ found_before some.0 some.1))
  ]

-- what stands among those that pass a test passes, and stands in the list
pub filtered_stands : {X : Type 0} (test : X → Bool) (xs : List X) (i : ℕ) (x : X) → slice_get (filter test xs) i ≡ Some x → IsFound test xs x
filtered_stands test [] i x is = absurd (cc)
filtered_stands test (y ∷ xs) i x is = by (test y) refl i is (λ j there. found-later test y xs x (filtered_stands test xs j x there))
  where
    by : (b : Bool) → test y ≡ b → (i : ℕ) → slice_get (cond b (y ∷ filter test xs) (filter test xs)) i ≡ Some x → ((j : ℕ) → slice_get (filter test xs) j ≡ Some x → IsFound test (y ∷ xs) x) → IsFound test (y ∷ xs) x
    by true passes zero is later = record { index = 0; stands = is; passes = ap test (sym (same_Some y x is)) ∙ passes }
    by true passes (suc j) is later = later j is
    by false fails j is later = later j is

-- what is found is found among those that pass a first test, which each that would be found passes
pub find_kept : {X : Type 0} (first test : X → Bool) → ((x : X) → test x ≡ true → first x ≡ true) → (xs : List X) → find test (filter first xs) ≡ find test xs
find_kept first test only [] = refl
find_kept {X = X} first test only (x ∷ xs) = by (first x) refl (find_kept first test only xs)
  where
    by : (a : Bool) → first x ≡ a → find test (filter first xs) ≡ find test xs → find test (cond a (x ∷ filter first xs) (filter first xs)) ≡ cond (test x) (Some x) (find test xs)
    by true passes rest = ap (λ o. cond (test x) (Some x) o) rest
    by false fails rest =
        let not : test x ≡ false = false_from_ne_true (test x) (λ is. both_ways (first x) fails (only x is)) in
        rest ∙ sym (cond-false (test x) (Some x) (find test xs) not)
