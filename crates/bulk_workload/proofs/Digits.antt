-- The decimal text of a number, as a token of a job and as a line of an input.
use Rattle.std.proofs.Common.{◌≡◌, ℕ, ◌<◌, ◌≤◌, ◌^◌, true, false, List, [], ◌∷◌, get_or, Ok, refl, ap, ◌∙◌, arith}
use Rattle.std.specs.Prelude.{◌==◌, ◌&&◌, ◌||◌, not, nat_lt, nat_le, pos, codes, bytes_eq}
use Rattle.std.specs.Char.{is_ascii_digit}
use Rattle.std.specs.Fmt.{decimal}
use Rattle.std.specs.List.{list_all}
use Rattle.std.specs.Str.Parse.{digits_value}
use Rattle.std.proofs.lemmas.Bool.{and_from, and_parts, cond-true, cond-false, leb-true, le-leb, ne_eqb, lt-ltb}
use Rattle.std.proofs.lemmas.Fmt.{digits_decimal, digits_value-decimal, first_decimal}
use Rattle.job_reader.specs.Atoms.{as_number, atom, is_alone, is_natural, negative_number, plain_number}
use Rattle.job_reader.specs.Characters.{is_allowed}
use Rattle.job_reader.specs.declared.atom.Atom.TheVariants as atoms
use Rattle.job_reader.proofs.Parses.{own}

-- digits that begin with 1 to 9, and their number
pub record AreDigits (number : ℕ) (byte : ℕ) (bytes : List ℕ) : Type 0 where
  pub digits : list_all is_ascii_digit (byte ∷ bytes) ≡ true
  pub first : 48 < byte
  pub value : digits_value 10 (byte ∷ bytes) ≡ number

digit_le : (byte : ℕ) → is_ascii_digit byte ≡ true → (48 ≤ byte) × (byte ≤ 57)
digit_le byte is = let parts = and_parts (nat_le 48 byte) (nat_le byte 57) is in (leb-true 48 byte parts.0, leb-true byte 57 parts.1)

pub no_space : (bytes : List ℕ) → list_all is_ascii_digit bytes ≡ true → list_all (λ b. not (b == 32)) bytes ≡ true
no_space [] are = refl
no_space (byte ∷ bytes) are =
    let parts = and_parts (is_ascii_digit byte) (list_all is_ascii_digit bytes) are in
    let isnt : (byte == 32) ≡ false = ne_eqb byte 32 (λ is. let low = (digit_le byte parts.0).0 in omega arith) in
    ap (λ b. not b && list_all (λ c. not (c == 32)) bytes) isnt ∙ no_space bytes parts.1

pub may_stand : (bytes : List ℕ) → list_all is_ascii_digit bytes ≡ true → list_all is_allowed bytes ≡ true
may_stand [] are = refl
may_stand (byte ∷ bytes) are =
    let parts = and_parts (is_ascii_digit byte) (list_all is_ascii_digit bytes) are in
    let range = digit_le byte parts.0 in
    let low : nat_le 32 byte ≡ true = le-leb 32 byte (omega (arith, range.0)) in
    let high : nat_le byte 126 ≡ true = le-leb byte 126 (omega (arith, range.1)) in
    ap (λ b. (b && nat_le byte 126) && list_all is_allowed bytes) low ∙ ap (λ b. b && list_all is_allowed bytes) high ∙ may_stand bytes parts.1

pub all_digits : (n : ℕ) → n < 2 ^ 64 → list_all is_ascii_digit (decimal n) ≡ true
all_digits n fits = digits_decimal own n fits

-- the text of a number that isn't 0 is such digits
pub of_decimal : (n : ℕ) → 0 < n → n < 2 ^ 64 → (byte : ℕ) × (bytes : List ℕ) × (decimal n ≡ byte ∷ bytes) × AreDigits n byte bytes
of_decimal n above fits = by_text (decimal n) (all_digits n fits) (first_decimal n above fits) (digits_value-decimal own n fits)
  where
    by_text : (text : List ℕ) → list_all is_ascii_digit text ≡ true → 48 < get_or text 0 0 → digits_value 10 text ≡ n → (byte : ℕ) × (bytes : List ℕ) × (text ≡ byte ∷ bytes) × AreDigits n byte bytes
    by_text [] are first value = absurd (omega arith)
    by_text (byte ∷ bytes) are first value = (byte, bytes, refl, record { digits = are; first = first; value = value })

-- they are a number, and no quote and no sign of equality begins them
pub is_atom : (n byte : ℕ) (bytes : List ℕ) → AreDigits n byte bytes → n < 2 ^ 63 → atom (byte ∷ bytes) ≡ Ok (atoms.Int (pos n))
is_atom n byte bytes are fits =
    let parts = and_parts (is_ascii_digit byte) (list_all is_ascii_digit bytes) are.digits in
    let first = are.first in
    let high = (digit_le byte parts.0).1 in
    let quote : (byte == 34) ≡ false = ne_eqb byte 34 (λ is. omega arith) in
    let minus : (byte == 45) ≡ false = ne_eqb byte 45 (λ is. omega arith) in
    let zero : (byte == 48) ≡ false = ne_eqb byte 48 (λ is. omega arith) in
    let small : nat_lt (digits_value 10 (byte ∷ bytes)) (2 ^ 63) ≡ true = ap (λ v. nat_lt v (2 ^ 63)) are.value ∙ lt-ltb n (2 ^ 63) fits in
    let natural : is_natural (byte ∷ bytes) ≡ true =
    and_from (list_all is_ascii_digit (byte ∷ bytes)) (not (byte == 48) || is_alone bytes) are.digits (ap (λ b. not b || is_alone bytes) zero) in
    cond-false (byte == 34) _ _ quote
    ∙ cond-true (is_ascii_digit byte || (byte == 45)) _ _ (ap (λ b. b || (byte == 45)) parts.0)
    ∙ ap as_number (cond-false (byte == 45) (negative_number bytes) (plain_number (byte ∷ bytes)) minus)
    ∙ ap as_number (cond-true (is_natural (byte ∷ bytes) && nat_lt (digits_value 10 (byte ∷ bytes)) (2 ^ 63)) _ _ (and_from (is_natural (byte ∷ bytes)) (nat_lt (digits_value 10 (byte ∷ bytes)) (2 ^ 63)) natural small))
    ∙ ap (λ v. Ok (atoms.Int (pos v))) are.value

pub isnt_equals : (n byte : ℕ) (bytes : List ℕ) → AreDigits n byte bytes → bytes_eq (byte ∷ bytes) (codes "=") ≡ false
isnt_equals n byte bytes are =
    let parts = and_parts (is_ascii_digit byte) (list_all is_ascii_digit bytes) are.digits in
    let high = (digit_le byte parts.0).1 in
    let isnt : (byte == 61) ≡ false = ne_eqb byte 61 (λ is. omega arith) in
    ap (λ b. b && bytes_eq bytes []) isnt
