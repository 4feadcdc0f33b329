-- Lists of which each element stands where it stood, as something that it may have become.
use Rattle.std.proofs.Common.{◌≡◌, ℕ, zero, suc, List, [], ◌∷◌, ◌++◌, Option, Some, None, subst}
use Rattle.std.specs.Prelude.{IfSome, IsSomeAnd, slice_get, slice_set}
use Rattle.serial_elision.specs.Laws.{EachStill}

at-same : {A : Type 0} (R : A → A → Type 0) → ((x : A) → R x x) → (at : Option A) → IfSome at (λ x. IsSomeAnd at (R x))
at-same R same None = tt
at-same R same (Some x) = same x

at-more : {A : Type 0} (R : A → A → Type 0) → ((x y z : A) → R x y → R y z → R x z) → (first second third : Option A) → IfSome first (λ x. IsSomeAnd second (R x)) → IfSome second (λ y. IsSomeAnd third (R y)) → IfSome first (λ x. IsSomeAnd third (R x))
at-more R more None second third to_second to_third = tt
at-more R more (Some x) None third to_second to_third = absurd to_second
at-more R more (Some x) (Some y) None to_second to_third = absurd to_third
at-more R more (Some x) (Some y) (Some z) to_second to_third = more x y z to_second to_third

pub still-same : {A : Type 0} (R : ℕ → A → A → Type 0) → ((i : ℕ) (x : A) → R i x x) → (xs : List A) → EachStill R xs xs
still-same R same xs = λ i. at-same (R i) (same i) (slice_get xs i)

pub still-more : {A : Type 0} (R : ℕ → A → A → Type 0) → ((i : ℕ) (x y z : A) → R i x y → R i y z → R i x z) → (xs ys zs : List A) → EachStill R xs ys → EachStill R ys zs → EachStill R xs zs
still-more R more xs ys zs first second =
    λ i. at-more (R i) (more i) (slice_get xs i) (slice_get ys i) (slice_get zs i) (first i) (second i)

-- what is added at the end changes nothing that stood
pub still-append : {A : Type 0} (R : ℕ → A → A → Type 0) → ((i : ℕ) (x : A) → R i x x) → (xs ys : List A) (i : ℕ) → IfSome (slice_get xs i) (λ x. IsSomeAnd (slice_get (xs ++ ys) i) (R i x))
still-append R same [] ys i = tt
still-append R same (x ∷ xs) ys zero = same zero x
still-append R same (x ∷ xs) ys (suc i) = still-append (λ j. R (suc j)) (λ j. same (suc j)) xs ys i

-- one element becomes what it may become, and the others stay
pub still-set : {A : Type 0} (R : ℕ → A → A → Type 0) → ((i : ℕ) (x : A) → R i x x) → (xs : List A) (n : ℕ) (x y : A) → slice_get xs n ≡ Some x → R n x y → (i : ℕ) → IfSome (slice_get xs i) (λ z. IsSomeAnd (slice_get (slice_set xs n y) i) (R i z))
still-set R same [] n x y found becomes i = tt
still-set R same (z ∷ zs) zero x y found becomes zero =
    let is : x ≡ z = cc in subst (λ first. R zero first y) is becomes
still-set R same (z ∷ zs) zero x y found becomes (suc i) = at-same (R (suc i)) (same (suc i)) (slice_get zs i)
still-set R same (z ∷ zs) (suc n) x y found becomes zero = same zero z
still-set R same (z ∷ zs) (suc n) x y found becomes (suc i) =
    still-set (λ j. R (suc j)) (λ j. same (suc j)) zs n x y found becomes i
