-- What a slot keeps, as contracts see it.
use Rattle.std.specs.Prelude.{ℕ}
use Rattle.swan_model.specs.declared.value.Value.{Value}
use Rattle.ring_segments.specs.Tags.{SegmentId}

-- an item with its index on the list that a segment owes
pub record IndexedItem : Type 0 where
  pub item : Value
  pub index : ℕ
  pub of : SegmentId
