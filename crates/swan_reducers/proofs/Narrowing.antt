-- Sums that fit 64 bits, and sums that don't.
use Rattle.std.proofs.Common.{◌≡◌, ◌^◌, ◌<◌, Bool, true, false, cond, Some, None, refl, ap, arith, rules, tests}
use Rattle.std.specs.Prelude.{ℤ, pos, negsuc, FitsSigned}
use Rattle.std.specs.Int.{w64}
use Rattle.swan_model.specs.Values.{fits_64}
use Rattle.swan_reducers.specs.Sums.{narrowed}

fits : (sum : ℤ) → FitsSigned w64 sum → fits_64 sum ≡ true
fits (pos n) is = let e : n < 2 ^ 63 = omega (arith, is.sfits) in search (rules, tests)
fits (negsuc n) is = let e : n < 2 ^ 63 = omega (arith, is.sfits) in search (rules, tests)

fitted : (sum : ℤ) → fits_64 sum ≡ true → FitsSigned w64 sum
fitted (pos n) at = let e : n < 2 ^ 63 = search (rules, tests) in record { sfits = e }
fitted (negsuc n) at = let e : n < 2 ^ 63 = search (rules, tests) in record { sfits = e }

fits_not : (sum : ℤ) → (FitsSigned w64 sum → ⊥) → fits_64 sum ≡ false
fits_not sum is = by_case (fits_64 sum) refl
  where
    by_case : (b : Bool) → fits_64 sum ≡ b → b ≡ false
    by_case true at = absurd (is (fitted sum at))
    by_case false at = refl

pub narrowed_fits : (sum : ℤ) → FitsSigned w64 sum → narrowed sum ≡ Some sum
narrowed_fits sum is = ap (λ b. cond b (Some sum) None) (fits sum is)

pub narrowed_not : (sum : ℤ) → (FitsSigned w64 sum → ⊥) → narrowed sum ≡ None
narrowed_not sum is = ap (λ b. cond b (Some sum) None) (fits_not sum is)
