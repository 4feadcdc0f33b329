-- Origins: each is its own, and none is that of a later step.
use Rattle.std.proofs.Common.{◌≡◌, ℕ, ◌<◌, ◌≤◌, true, refl, arith, false}
use Rattle.std.proofs.lemmas.Bool.{eqb-true, ne_eqb}
use Rattle.swan_model.specs.declared.origin.Origin.{Origin}
use Rattle.swan_model.specs.declared.origin.Origin.TheVariants.{Root, Step}
use Rattle.swan_model.specs.Told.{is_same}
use Rattle.swan_model.proofs.Paths.{same_part}

-- it isn't the origin of what a step from n on makes
abbrev pub IsOld : ℕ → Origin → Type 0
IsOld n (Root i) = Unit {0}
IsOld n (Step k) = k < n

pub is_same-self : (o : Origin) → is_same o o ≡ true
is_same-self (Root i) = same_part i
is_same-self (Step n) = same_part n

pub old-differs : (n m : ℕ) (o : Origin) → IsOld n o → n ≤ m → is_same o (Step m) ≡ false
old-differs n m (Root i) old later = refl
old-differs n m (Step k) old later = ne_eqb k m (λ same. absurd (omega arith))

pub old-later : (n m : ℕ) (o : Origin) → IsOld n o → n ≤ m → IsOld m o
old-later n m (Root i) old later = tt
old-later n m (Step k) old later = omega arith

-- origins that are the same are equal
pub is_same-equal : (o p : Origin) → is_same o p ≡ true → o ≡ p
is_same-equal (Root i) (Root j) is = let e = eqb-true i j is in cc
is_same-equal (Step m) (Step n) is = let e = eqb-true m n is in cc
is_same-equal (Root i) (Step n) is = absurd (cc)
is_same-equal (Step m) (Root j) is = absurd (cc)
