-- What stands in a part of what a function makes of a list.
use Rattle.std.proofs.Common.{◌≡◌, ℕ, zero, suc, ◌<◌, List, [], ◌∷◌, map, take, Some, refl, arith}
use Rattle.std.specs.Prelude.{slice_get}

pub get-take-map : {X Y : Type 0} (f : X → Y) (k : ℕ) (xs : List X) (i : ℕ) (y : Y) → slice_get (take k (map f xs)) i ≡ Some y → (i < k) × (x : X) × (slice_get xs i ≡ Some x) × (f x ≡ y)
get-take-map f zero xs i y is = absurd (cc)
get-take-map f (suc k) [] i y is = absurd (cc)
get-take-map f (suc k) (x ∷ xs) zero y is = (omega arith, x, refl, cc)
get-take-map f (suc k) (x ∷ xs) (suc i) y is = let found = get-take-map f k xs i y is in (omega (arith, found.0), found.1, found.2, found.3)
