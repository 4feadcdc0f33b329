use Rattle.std.proofs.Common.{arith}
use Rattle.ring_segments.proofs.Keeps.{last_notes}
use Rattle.ring_segments.proofs.steps.note_last.Goals as goal

pub split_seat-requires : goal.split_seat-requires
split_seat-requires c = let w = c.requires in (w.sits.table, omega (arith, w.sits.made.words), last_notes _ _ _ _ _ _ _ w.pushes)
