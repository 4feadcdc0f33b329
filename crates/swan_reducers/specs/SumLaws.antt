-- The reducer of sums keeps the laws.
use Rattle.std.proofs.Common.{◌≡◌, ℕ, ◌^◌, ◌<◌, Bool, true, false, nat_eq, ◌&&◌, Option, Some, None, List, length, refl, sym, ap, ◌∙◌, arith, rules, tests}
use Rattle.std.proofs.lemmas.Int.{SFits-int_wrap, int_wrap-add_left, int_wrap-add_right, int_wrap_fits, of_z-to_z, to_z-of_z}
use Rattle.std.proofs.Math.Facts.{Fits-of_z, sfits_to_z}
use Rattle.std.proofs.Math.IntN.{+ℤ_assoc, +ℤ_idl, +ℤ_idr}
use Rattle.std.specs.Prelude.{ℤ, pos, ◌+ℤ◌, FitsSigned, option_map}
use Rattle.std.specs.Int.{w128, cast_signed, cast_unsigned, from_be_bytes, int_wrap, to_be_bytes}
use Rattle.std.specs.List.{list_all}
use Rattle.job_reader.specs.Atoms.{number}
use Rattle.swan_reducers.specs.Lawful.{IsLawfulReducer}
use Rattle.swan_reducers.specs.SumBytes.{bytes_are_bytes, bytes_back, length-bytes, number_back, number_below}
use Rattle.swan_reducers.specs.Sums.{is_byte, is_sum_part, number_part, sum_of, sum_part, summed}

unsigned_below : (z : ℤ) → FitsSigned w128 z → cast_unsigned w128 z < 2 ^ 128
unsigned_below z fits = omega (arith, Fits-of_z fits)

-- a sum that fits 128 bits is that of its part
pub sum_back : (z : ℤ) → FitsSigned w128 z → sum_of (sum_part z) ≡ z
sum_back z fits = ap (cast_signed w128) (number_back (cast_unsigned w128 z) (unsigned_below z fits)) ∙ to_z-of_z w128 z fits

len_of : (part : List ℕ) → is_sum_part part ≡ true → length part ≡ 16
len_of part is = first (nat_eq (length part) 16) refl is
  where
    first : (b : Bool) → nat_eq (length part) 16 ≡ b → (b && list_all is_byte part) ≡ true → length part ≡ 16
    first true is all = search (rules, tests)
    first false is all = absurd (cc)

all_of : (part : List ℕ) → is_sum_part part ≡ true → list_all is_byte part ≡ true
all_of part is = second (nat_eq (length part) 16) is
  where
    second : (b : Bool) → (b && list_all is_byte part) ≡ true → list_all is_byte part ≡ true
    second true all = all
    second false all = absurd (cc)

part_is : (part : List ℕ) → length part ≡ 16 → list_all is_byte part ≡ true → is_sum_part part ≡ true
part_is part is all =
    let e : nat_eq (length part) 16 ≡ true = search (rules, tests) in
    ap (λ b. b && list_all is_byte part) e ∙ all

pub sums_are_parts : (z : ℤ) → is_sum_part (sum_part z) ≡ true
sums_are_parts z = part_is (sum_part z) (length-bytes 16 (cast_unsigned w128 z)) (bytes_are_bytes 16 (cast_unsigned w128 z))

part_back : (part : List ℕ) → is_sum_part part ≡ true → sum_part (sum_of part) ≡ part
part_back part is =
    ap (to_be_bytes w128) (of_z-to_z w128 (from_be_bytes w128 part) (number_below part (len_of part is) (all_of part is)))
    ∙ bytes_back part (len_of part is) (all_of part is)

sum_fits : (part : List ℕ) → is_sum_part part ≡ true → FitsSigned w128 (sum_of part)
sum_fits part is =
    let below : from_be_bytes w128 part < 2 ^ 128 = number_below part (len_of part is) (all_of part is) in
    rw (← int_wrap_whole (from_be_bytes w128 part) below) (SFits-int_wrap w128 (sum_of part))
  where
    int_wrap_whole : (n : ℕ) → n < 2 ^ 128 → int_wrap w128 (cast_signed w128 n) ≡ cast_signed w128 n
    int_wrap_whole n fits = int_wrap_fits w128 (cast_signed w128 n) (sfits_to_z (search rules))

-- sums are joined by their sum
pub summed-is : (a b : ℤ) → FitsSigned w128 a → FitsSigned w128 b → summed (sum_part a) (sum_part b) ≡ sum_part (int_wrap w128 (a +ℤ b))
summed-is a b fits also = ap (λ z. sum_part (int_wrap w128 (z +ℤ sum_of (sum_part b)))) (sum_back a fits) ∙ ap (λ z. sum_part (int_wrap w128 (a +ℤ z))) (sum_back b also)

regroup : (a b c : List ℕ) → is_sum_part a ≡ true → is_sum_part b ≡ true → is_sum_part c ≡ true → summed (summed a b) c ≡ summed a (summed b c)
regroup a b c part_a part_b part_c =
    let x = sum_of a in
    let y = sum_of b in
    let z = sum_of c in
    ap (λ s. sum_part (int_wrap w128 (s +ℤ z))) (sum_back (int_wrap w128 (x +ℤ y)) (SFits-int_wrap w128 (x +ℤ y)))
    ∙ ap sum_part (int_wrap-add_left w128 (x +ℤ y) z ∙ ap (int_wrap w128) (+ℤ_assoc x y z) ∙ sym (int_wrap-add_right w128 x (y +ℤ z)))
    ∙ sym (ap (λ s. sum_part (int_wrap w128 (x +ℤ s))) (sum_back (int_wrap w128 (y +ℤ z)) (SFits-int_wrap w128 (y +ℤ z))))

before : (part : List ℕ) → is_sum_part part ≡ true → summed (sum_part (pos 0)) part ≡ part
before part is =
    ap (λ s. sum_part (int_wrap w128 (s +ℤ sum_of part))) (sum_back (pos 0) (search rules))
    ∙ ap (λ s. sum_part (int_wrap w128 s)) (+ℤ_idl (sum_of part))
    ∙ ap sum_part (int_wrap_fits w128 (sum_of part) (sum_fits part is))
    ∙ part_back part is

after : (part : List ℕ) → is_sum_part part ≡ true → summed part (sum_part (pos 0)) ≡ part
after part is =
    ap (λ s. sum_part (int_wrap w128 (sum_of part +ℤ s))) (sum_back (pos 0) (search rules))
    ∙ ap (λ s. sum_part (int_wrap w128 s)) (+ℤ_idr (sum_of part))
    ∙ ap sum_part (int_wrap_fits w128 (sum_of part) (sum_fits part is))
    ∙ part_back part is

line_gives : (line part : List ℕ) → number_part line ≡ Some part → is_sum_part part ≡ true
line_gives line part is = by_case (number line) is
  where
    by_case : (n : Option ℤ) → option_map sum_part n ≡ Some part → is_sum_part part ≡ true
    by_case None is = absurd (cc)
    by_case (Some z) is = let e : sum_part z ≡ part = cc in ap is_sum_part (sym e) ∙ sums_are_parts z

pub sums_are_lawful : IsLawfulReducer is_sum_part (sum_part (pos 0)) number_part summed
sums_are_lawful = record {
  zero_is_part = sums_are_parts (pos 0);
  lines_give_parts = line_gives;
  joins_are_parts = λ left right l r. sums_are_parts (int_wrap w128 (sum_of left +ℤ sum_of right));
  joins_regroup = regroup;
  zero_before = before;
  zero_after = after;
}
