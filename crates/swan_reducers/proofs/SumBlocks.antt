-- The fold of a block by the reducer of sums: numbers are added in 128 bits, and made a part once, at the end.
use Rattle.std.proofs.Common.{◌≡◌, ℕ, zero, suc, ◌+◌, ◌^◌, ◌≤◌, ◌<◌, Bool, true, false, cond, nat_eq, nat_lt, nat_le, ◌&&◌, Option, Some, None, List, [], ◌∷◌, refl, ap, ◌∙◌, arith, rules, tests}
use Rattle.std.proofs.lemmas.Bool.{leb-true}
use Rattle.std.proofs.lemmas.Int.{SFits-int_wrap, fits_signed_from_abs, ints}
use Rattle.std.specs.Prelude.{ℤ, pos, negsuc, neg_ℤ, ◌+ℤ◌, FitsSigned, option_map, unsigned_abs}
use Rattle.std.specs.Int.{w128, int_wrap}
use Rattle.std.specs.Str.Parse.{digits_value}
use Rattle.job_reader.specs.Atoms.{is_natural, negative_number, number, plain_number}
use Rattle.swan_reducers.specs.LineFolds.{joined_lines, with_part}
use Rattle.swan_reducers.specs.SumLaws.{summed-is}
use Rattle.swan_reducers.specs.Sums.{added_number, lines_summed, number_part, sum_part, summed}

below_of : (n most : ℕ) → nat_lt n most ≡ true → n ≤ most
below_of n most is = let e : n < most = search (rules, tests) in omega arith

abs_neg : (n : ℕ) → unsigned_abs (neg_ℤ (pos n)) ≡ n
abs_neg zero = refl
abs_neg (suc n) = refl

plain_most : (text : List ℕ) (z : ℤ) → plain_number text ≡ Some z → unsigned_abs z ≤ 2 ^ 63
plain_most text z is = by_case (is_natural text) (nat_lt (digits_value 10 text) (2 ^ 63)) refl is
  where
    by_case : (a b : Bool) → nat_lt (digits_value 10 text) (2 ^ 63) ≡ b → cond (a && b) (Some (pos (digits_value 10 text))) None ≡ Some z → unsigned_abs z ≤ 2 ^ 63
    by_case true true few is = let e : pos (digits_value 10 text) ≡ z = cc in omega (arith, ap unsigned_abs e, below_of (digits_value 10 text) (2 ^ 63) few)
    by_case true false few is = absurd (cc)
    by_case false b few is = absurd (cc)

negative_most : (text : List ℕ) (z : ℤ) → negative_number text ≡ Some z → unsigned_abs z ≤ 2 ^ 63
negative_most text z is = by_case (is_natural text) (nat_lt 0 (digits_value 10 text)) (nat_le (digits_value 10 text) (2 ^ 63)) refl is
  where
    by_case : (a b c : Bool) → nat_le (digits_value 10 text) (2 ^ 63) ≡ c → cond (a && b && c) (Some (neg_ℤ (pos (digits_value 10 text)))) None ≡ Some z → unsigned_abs z ≤ 2 ^ 63
    by_case true true true few is =
        let e : neg_ℤ (pos (digits_value 10 text)) ≡ z = cc in
        omega (arith, ap unsigned_abs e, abs_neg (digits_value 10 text), leb-true (digits_value 10 text) (2 ^ 63) few)
    by_case true true false few is = absurd (cc)
    by_case true false c few is = absurd (cc)
    by_case false b c few is = absurd (cc)

-- a line's number fits 64 bits
pub number_most : (line : List ℕ) (z : ℤ) → number line ≡ Some z → unsigned_abs z ≤ 2 ^ 63
number_most [] z is = absurd (cc)
number_most (byte ∷ bytes) z is = by_case (nat_eq byte 45) is
  where
    by_case : (b : Bool) → cond b (negative_number bytes) (plain_number (byte ∷ bytes)) ≡ Some z → unsigned_abs z ≤ 2 ^ 63
    by_case true is = negative_most bytes z is
    by_case false is = plain_most (byte ∷ bytes) z is

pub abs_add : (a b : ℤ) → unsigned_abs (a +ℤ b) ≤ unsigned_abs a + unsigned_abs b
abs_add (pos a) (pos b) = omega arith
abs_add (pos a) (negsuc b) = grind (arith, ints)
abs_add (negsuc a) (pos b) = grind (arith, ints)
abs_add (negsuc a) (negsuc b) = omega arith

pub fits : (z : ℤ) → unsigned_abs z < 2 ^ 127 → FitsSigned w128 z
fits z small = fits_signed_from_abs w128 z small

-- the part of the sum is what the lines' parts make
sums_on : (sum : ℤ) (ls : List (List ℕ)) → FitsSigned w128 sum → joined_lines number_part summed (sum_part sum) ls ≡ sum_part (lines_summed sum ls)
sums_on sum [] small = refl
sums_on sum (line ∷ ls) small = by_case (number line) refl (λ z. sums_on z ls)
  where
    by_case : (at : Option ℤ) → number line ≡ at → ((z : ℤ) → FitsSigned w128 z → joined_lines number_part summed (sum_part z) ls ≡ sum_part (lines_summed z ls))
        → joined_lines number_part summed (with_part summed (sum_part sum) (option_map sum_part at)) ls ≡ sum_part (lines_summed (added_number sum at) ls)
    by_case None is rest = rest sum small
    by_case (Some n) is rest =
        let most = number_most line n is in
        ap (λ v. joined_lines number_part summed v ls) (summed-is sum n small (fits n (omega (arith, most))))
        ∙ rest (int_wrap w128 (sum +ℤ n)) (SFits-int_wrap w128 (sum +ℤ n))

pub block_sum : (ls : List (List ℕ)) → joined_lines number_part summed (sum_part (pos 0)) ls ≡ sum_part (lines_summed (pos 0) ls)
block_sum ls = sums_on (pos 0) ls (search rules)
