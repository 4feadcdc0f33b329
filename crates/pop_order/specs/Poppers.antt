-- What the search for an older popping sibling finds.
use Rattle.std.specs.Prelude.{◌≡◌, ℕ, true, List}
use Rattle.swan_model.specs.SerialState.{Holding}
use Rattle.swan_model.specs.declared.rights.Mode.TheVariants.{Pop}
use Rattle.pop_order.specs.Children.{ChildEntry, has}
use Rattle.pop_order.specs.Frames.{lets_use}

-- a child of a parent that the set has for a queue which the holdings let pop
pub record IsAmong (set : List ChildEntry) (parent : ℕ) (holdings : List Holding) (number : ℕ) : Type 0 where
  pub queue : ℕ
  pub popped : lets_use holdings queue Pop ≡ true
  pub known : has set parent queue number ≡ true
