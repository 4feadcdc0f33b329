use Rattle.std.proofs.Common.{rules, ◌≡◌, ℕ, refl, sym, subst}
use Rattle.std.specs.Arc.{arc_value}
use Rattle.swan_model.specs.declared.value.Value.{Value}
use Rattle.ring_segments.specs.Ends.{ProducerState}
use Rattle.ring_segments.specs.Seating.{id_of}
use Rattle.ring_segments.specs.Sits.{producer_state}
use Rattle.ring_segments.specs.Tags.{SegmentId, IsItem}
use Rattle.ring_segments.specs.declared.ring.Ring.{Ring}
use Rattle.ring_segments.specs.declared.rule.SeatView.{SeatView}
use Rattle.ring_segments.proofs.Inside.{item_at, room_for}
use Rattle.ring_segments.proofs.producer.Producer.push.Goals as goal

-- the item that the producer owes next, in the words of its fields
owed_next : (ring : Ring) (v : SeatView SegmentId) (p : ProducerState) (pushed : ℕ) (item : Value) → producer_state ring v ≡ p → v.pushed ≡ pushed → IsItem p.of.id p.pushed item → IsItem (id_of ring.about) pushed item
owed_next ring v p pushed item is count owed = subst (λ (n : ℕ). IsItem (id_of ring.about) n item) count (subst (λ (q : ProducerState). IsItem q.of.id q.pushed item) (sym is) owed)

pub new-entry-requires : goal.new-entry-requires
new-entry-requires c = let owed = owed_next (arc_value c.self.inside.ring) c.self.inside.seat.me.0 _ c.self.inside.pushed c.args.item c.self.view_is c.self.invariant.0.count c.requires in
    item_at (id_of (arc_value c.self.inside.ring).about) c.of.result.means _ _ c.args.item owed (search rules) refl

pub invariant_of-self-2 : goal.invariant_of-self-2
invariant_of-self-2 c = let owed = owed_next (arc_value c.self.inside.ring) c.self.inside.seat.me.0 _ c.self.inside.pushed c.args.item c.self.view_is c.self.invariant.0.count c.requires in
    (search rules, search rules, room_for _ _ c.args.item owed)
