-- The givers of queues, below which all that push to them stand: a set of pairs of a queue and a frame.
use Rattle.std.specs.Prelude.{◌≡◌, ℕ, true, false, List}
use Rattle.pop_order.specs.Children.{ChildEntry, has}
use Rattle.pop_order.specs.NumberPairs.{NumberPair, IsWithoutPair}

-- The set after a child of a frame went out of the pushers of a queue: the frame stays in as long as it has
-- another one there.
pub data IsGiverSettled (pushers : List ChildEntry) (parent queue : ℕ) (before after : List NumberPair) : Type 0 where
  stays : (child : ℕ) → has pushers parent queue child ≡ true → after ≡ before → IsGiverSettled pushers parent queue before after
  goes : ((child : ℕ) → has pushers parent queue child ≡ false) → IsWithoutPair before queue parent after
      → IsGiverSettled pushers parent queue before after
