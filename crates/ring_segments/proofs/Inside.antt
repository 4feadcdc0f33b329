-- Before the end of a segment.
use Rattle.std.proofs.Common.{◌≡◌, ℕ, ◌+◌, ◌<◌, arith, subst}
use Rattle.swan_model.specs.declared.value.Value.{Value}
use Rattle.ring_segments.specs.Tags.{SegmentId, HasRoomFor, IsInside, IsItem}

pub inside_of : (id : SegmentId) (most index : ℕ) → HasRoomFor id most → index < most → IsInside id index
inside_of id most index room less s is = let h = room s is in omega arith

pub room_for : (id : SegmentId) (index : ℕ) (item : Value) → IsItem id index item → HasRoomFor id (index + 1)
room_for id index item stands s is = let h = (stands s is).1 in omega arith

pub item_at : (id other : SegmentId) (index place : ℕ) (item : Value) → IsItem id index item → id ≡ other → index ≡ place → IsItem other place item
item_at id other index place item stands same there = subst (λ (x : SegmentId × ℕ). IsItem x.0 x.1 item) (λ i. (same i, there i)) stands
