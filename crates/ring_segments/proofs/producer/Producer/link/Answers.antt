use Rattle.std.proofs.Common.{ℕ, sym, subst}
use Rattle.std.specs.Arc.{arc_value}
use Rattle.ring_segments.specs.Ends.{ProducerState}
use Rattle.ring_segments.specs.Seating.{id_of}
use Rattle.ring_segments.specs.Tags.{OwesRest}
use Rattle.ring_segments.proofs.producer.Producer.link.Goals as goal

pub new-requires-clause-next : goal.new-requires-clause-next
new-requires-clause-next c = let ring = arc_value c.self.inside.ring in (
  c.requires.fresh,
  subst (λ (n : ℕ). OwesRest (id_of ring.about) n c.args.next.of.id) c.self.invariant.0.count
      (subst (λ (p : ProducerState). OwesRest p.of.id p.pushed c.args.next.of.id) (sym c.self.view_is) c.requires.rest),
)
