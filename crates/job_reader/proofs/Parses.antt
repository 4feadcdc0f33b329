-- What std parses of the text of a number.
use Rattle.std.proofs.Common.{◌≡◌, ℕ, ◌<◌, ◌≤◌, ◌^◌, Bool, true, false, cond, List, [], ◌∷◌, length, Some, None, Result, Ok, Err, IsUtf8, refl, sym, ap, subst, zero, suc, lit<, ◌∙◌, arith}
use Rattle.std.specs.Prelude.{◌&&◌, nat_lt, nat_le, ℤ, pos, neg_ℤ, OkIff}
use Rattle.std.specs.List.{list_all}
use Rattle.std.specs.Char.{is_ascii_digit}
use Rattle.std.specs.Int.{w64}
use Rattle.std.specs.Str.Parse.{ParsesSigned, digits_value}
use Rattle.std.specs.Result.{result_ok}
use Rattle.std.proofs.lemmas.Str.{IsUtf8-from_ascii}
use Rattle.std.proofs.lemmas.Str.Ascii.{IsAscii-cons}
use Rattle.std.proofs.lemmas.Str.Parse.{IsDigitsTest, IsNumeralModel, numerals_by_value, parse_signed_digits, parse_signed_minus}
use Rattle.std.proofs.lemmas.Bool.{and_from, and_parts, and_right, lt-ltb, le-ltb, le-leb, leb-true, ltb-true, false_from_ne_true}
use Rattle.std.proofs.Common.{rules}
use Rattle.job_reader.specs.Atoms.{is_natural, plain_number, negative_number}
use Rattle.job_reader.proofs.Ascii.{natural_is_ascii}

tells_digits : IsDigitsTest (λ ds. list_all is_ascii_digit ds ≡ true)
tells_digits = search rules

pub own : IsNumeralModel (λ ds. list_all is_ascii_digit ds ≡ true) (digits_value 10)
own = numerals_by_value (λ ds. list_all is_ascii_digit ds ≡ true) tells_digits

pub natural_digits : (text : List ℕ) → is_natural text ≡ true → (list_all is_ascii_digit text ≡ true) × (0 < length text)
natural_digits [] is = cc
natural_digits (byte ∷ bytes) is = ((and_parts (list_all is_ascii_digit (byte ∷ bytes)) _ is).0, omega arith)

-- a choice by two tests
pub if_both : {A : Type 0} (a b : Bool) (x y : A) → a ≡ true → b ≡ true → cond (a && b) x y ≡ x
if_both true true x y p q = refl
if_both true false x y p q = cc
if_both false _ x y p q = cc

pub if_not_second : {A : Type 0} (a b : Bool) (x y : A) → b ≡ false → cond (a && b) x y ≡ y
if_not_second true true x y q = cc
if_not_second true false x y q = refl
if_not_second false _ x y q = refl

pub if_not_first : {A : Type 0} (a b : Bool) (x y : A) → a ≡ false → cond (a && b) x y ≡ y
if_not_first true _ x y p = cc
if_not_first false _ x y p = refl

plain_of : {E : Type 0} (text : List ℕ) (r : Result ℤ E) → is_natural text ≡ true → 0 < length text → OkIff r ((0 < length text) × (digits_value 10 text < 2 ^ 63)) (pos (digits_value 10 text)) → result_ok r ≡ plain_number text
plain_of text (Ok n) is more h =
    ap (λ x. Some x) h.1 ∙ sym (if_both (is_natural text) (nat_lt (digits_value 10 text) (2 ^ 63)) _ _ is (lt-ltb _ _ h.0.1))
plain_of text (Err e) is more h =
    sym (if_not_second (is_natural text) (nat_lt (digits_value 10 text) (2 ^ 63)) _ _ (false_from_ne_true _ (λ fits. h (more, ltb-true _ _ fits))))

pub plain_is : {E : Type 0} (text : List ℕ) (r : Result ℤ E) → is_natural text ≡ true → ParsesSigned w64 10 text r → result_ok r ≡ plain_number text
plain_is text r is h =
    let digits = natural_digits text is in
    plain_of text r is digits.1 (parse_signed_digits own w64 text r h digits.0)

neg_is_zero : (v : ℕ) → neg_ℤ (pos v) ≡ pos 0 → v ≡ 0
neg_is_zero zero is = refl
neg_is_zero (suc v) is = cc

is_above : (v : ℕ) → (v ≡ 0 → ⊥) → 0 < v
is_above v isnt = omega arith

-- the number of digits after a minus, by what was parsed
negative_of : {E : Type 0} (digits : List ℕ) (r : Result ℤ E) → is_natural digits ≡ true → OkIff r ((list_all is_ascii_digit digits ≡ true) × (0 < length digits) × (digits_value 10 digits ≤ 2 ^ 63)) (neg_ℤ (pos (digits_value 10 digits))) → (n : ℤ) → result_ok r ≡ Some n → (n ≡ pos 0 → ⊥) → negative_number digits ≡ Some n
negative_of digits (Err e) is h n some isnt = cc
negative_of digits (Ok m) is h n some isnt =
    let v = digits_value 10 digits in
    let same : n ≡ neg_ℤ (pos v) = cc in
    let above : 0 < v = is_above v (λ zero. isnt (same ∙ ap (λ k. neg_ℤ (pos k)) zero)) in
    if_both (is_natural digits && nat_lt 0 v) (nat_le v (2 ^ 63)) _ _ (and_from _ _ is (lt-ltb _ _ above)) (le-leb _ _ h.0.2) ∙ ap (λ x. Some x) (sym same)

negative_zero : {E : Type 0} (digits : List ℕ) (r : Result ℤ E) → OkIff r ((list_all is_ascii_digit digits ≡ true) × (0 < length digits) × (digits_value 10 digits ≤ 2 ^ 63)) (neg_ℤ (pos (digits_value 10 digits))) → (n : ℤ) → result_ok r ≡ Some n → n ≡ pos 0 → negative_number digits ≡ None
negative_zero digits (Err e) h n some is = cc
negative_zero digits (Ok m) h n some is =
    let v = digits_value 10 digits in
    let zero : v ≡ 0 = neg_is_zero v cc in
    if_not_first (is_natural digits && nat_lt 0 v) (nat_le v (2 ^ 63)) _ _ (and_right (is_natural digits) (nat_lt 0 v) (le-ltb 0 v (omega arith)))

negative_none : {E : Type 0} (digits : List ℕ) (r : Result ℤ E) → (list_all is_ascii_digit digits ≡ true) × (0 < length digits) → OkIff r ((list_all is_ascii_digit digits ≡ true) × (0 < length digits) × (digits_value 10 digits ≤ 2 ^ 63)) (neg_ℤ (pos (digits_value 10 digits))) → result_ok r ≡ None → negative_number digits ≡ None
negative_none digits (Ok m) all h none = cc
negative_none digits (Err e) all h none =
    let v = digits_value 10 digits in
    if_not_second (is_natural digits && nat_lt 0 v) (nat_le v (2 ^ 63)) _ _ (false_from_ne_true _ (λ fits. h (all.0, all.1, leb-true _ _ fits)))

module _ {E : Type 0} (text digits : List ℕ) (r : Result ℤ E) (split : text ≡ 45 ∷ digits) (is : is_natural digits ≡ true) (h : ParsesSigned w64 10 text r) where
  parsed : OkIff r ((list_all is_ascii_digit digits ≡ true) × (0 < length digits) × (digits_value 10 digits ≤ 2 ^ 63)) (neg_ℤ (pos (digits_value 10 digits)))
  parsed = parse_signed_minus own w64 (45 ∷ digits) r (subst (λ bytes. ParsesSigned w64 10 bytes r) split h) refl

  pub negative_is : (n : ℤ) → result_ok r ≡ Some n → (n ≡ pos 0 → ⊥) → negative_number digits ≡ Some n
  negative_is = negative_of digits r is parsed

  pub negative_is_zero : (n : ℤ) → result_ok r ≡ Some n → n ≡ pos 0 → negative_number digits ≡ None
  negative_is_zero = negative_zero digits r parsed

  pub negative_isnt : result_ok r ≡ None → negative_number digits ≡ None
  negative_isnt = negative_none digits r (natural_digits digits is) parsed

-- a minus and digits are a text of ASCII
pub minus_is_text : (text digits : List ℕ) → text ≡ 45 ∷ digits → is_natural digits ≡ true → IsUtf8 text
minus_is_text text digits split is =
    subst IsUtf8 (sym split) (IsUtf8-from_ascii (45 ∷ digits) (IsAscii-cons 45 digits (lit< tt) (natural_is_ascii digits is)))
