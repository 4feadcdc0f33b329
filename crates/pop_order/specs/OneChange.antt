-- What a call changes of what is known by numbers.
use Rattle.std.specs.Prelude.{◌≡◌, ◌≢◌, ℕ, Option}

-- Of one number it is this then, and of all others it is as before.
pub record IsOnlyChange {A : Type 0} (before after : ℕ → Option A) (number : ℕ) (now : Option A) : Type 0 where
  pub changed : after number ≡ now
  pub others : (other : ℕ) → other ≢ number → after other ≡ before other
