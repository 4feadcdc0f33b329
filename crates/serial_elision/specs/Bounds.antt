-- Why the numbers of an activation fit: each place and each child costs a unit of fuel.
use Rattle.std.specs.Prelude.{ℕ, ◌+◌, ◌^◌, ◌<◌, ◌≤◌, All, List, length}
use Rattle.swan_model.specs.SerialState.{Activation}
use Rattle.swan_model.specs.declared.plan.TheConstants.{FUEL_MOST, ROOTS_MOST}

-- this many places and children go with this much fuel
pub record IsWithin (places children fuel : ℕ) : Type 0 where
  pub holds : places + fuel ≤ ROOTS_MOST + FUEL_MOST
  pub spawned : children + fuel ≤ FUEL_MOST

-- an activation that has paid for a step may have one more place, or one more child
pub record HasPaid {L : Type 0} (a : Activation L) : Type 0 where
  pub holds : length a.holdings + a.fuel < ROOTS_MOST + FUEL_MOST
  pub spawned : a.children + a.fuel < FUEL_MOST

-- each of these may have one more failed child
abbrev pub MayFail : {L : Type 0} → List (Activation L) → Type 0
MayFail stack = All (λ a. a.failed + 1 < 2 ^ 64) stack
