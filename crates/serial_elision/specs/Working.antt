-- The state some steps later.
use Rattle.std.specs.Prelude.{ℕ, zero, suc}
use Rattle.swan_model.specs.declared.body.Body.{Ghosts}
use Rattle.swan_model.specs.SerialState.{State}
use Rattle.swan_model.specs.SerialStep.{step}

module _ {B L : Type 0} (G : Ghosts B L) where
  -- the state after n more steps
  abbrev pub after_steps : B → State L → ℕ → State L
  after_steps body s zero = s
  after_steps body s (suc n) = step G body (after_steps body s n)
