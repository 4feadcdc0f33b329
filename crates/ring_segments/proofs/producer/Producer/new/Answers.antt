use Rattle.std.specs.Arc.{arc_value}
use Rattle.ring_segments.specs.Seating.{id_of}
use Rattle.ring_segments.proofs.Opening.{room_for_none}
use Rattle.ring_segments.proofs.producer.Producer.new.Goals as goal

pub invariant_of-result : goal.invariant_of-result
invariant_of-result c = (c.requires.0, c.requires.1, room_for_none (id_of (arc_value c.args.ring).about))
