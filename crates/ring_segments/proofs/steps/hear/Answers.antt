use Rattle.std.proofs.Common.{arith, ap, ◌∙◌}
use Rattle.ring_segments.proofs.Keeps.{learns, hears}
use Rattle.ring_segments.proofs.steps.hear.Goals as goal

pub join_seat-requires : goal.join_seat-requires
join_seat-requires c = let w = c.requires.seat in (w.sits.table, c.requires.note.0, c.requires.note.1, omega (arith, w.sits.made.words), learns _ _ _ _ _ _ _ _ _)

pub load-tail-requires : goal.load-tail-requires
load-tail-requires c = let w = c.requires.seat in (c.join_seat.ensures.0 ∙ w.sits.table, omega (arith, w.sits.made.words), hears _ _ _ _ _ _ _ _ _ (ap (λ m. m.0.pops) c.join_seat.ensures.2 ∙ w.pops))
