use Rattle.std.proofs.Common.{rules, arith}
use Rattle.ring_segments.proofs.Keeps.{opens, splits}
use Rattle.ring_segments.proofs.Opening.{room_for_none}
use Rattle.ring_segments.proofs.ring.segment.Goals as goal

pub vacant-requires : goal.vacant-requires
vacant-requires c = opens _ _ _ _ _ (omega (arith, c.requires.size.0)) (room_for_none _)

pub split_seat-second-requires : goal.split_seat-second-requires
split_seat-second-requires c = (search rules, search rules, splits _ _ _ _ _ _ _ (search rules) (search rules))
