-- The order of frames and their places.
use Rattle.std.proofs.Common.{◌≡◌, ℕ, ◌≤◌, Option, Some, None, IsSome, refl, arith}
use Rattle.std.proofs.lemmas.Bool.Decides.{nat_tests}
use Rattle.std.specs.BTreeMap.Range.{IsLeBy}
use Rattle.swan_model.specs.Versions.{place_cmp}

pub from_zero : (frame place : ℕ) → IsLeBy place_cmp (frame, 0) (frame, place)
from_zero frame place = grind (arith, nat_tests)

pub no_later : (frame owner place other : ℕ) → owner ≡ frame → IsLeBy place_cmp (owner, place) (frame, other) → place ≤ other
no_later frame owner place other same h = grind (arith, nat_tests)

pub owner_from : (frame owner place other : ℕ) → IsLeBy place_cmp (frame, 0) (owner, place) → IsLeBy place_cmp (owner, place) (frame, other) → owner ≡ frame
owner_from frame owner place other from upto = grind (arith, nat_tests)

-- what isn't there isn't found
pub is_none : {X : Type 0} (o : Option X) → (IsSome o → ⊥) → o ≡ None
is_none None none = refl
is_none (Some x) none = absurd (none refl)
