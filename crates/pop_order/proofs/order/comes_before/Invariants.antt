use Rattle.std.proofs.Common.{◌+◌}
use Rattle.pop_order.proofs.Meeting.{IsMeeting}
use Rattle.pop_order.proofs.order.comes_before.Given as goal

abbrev pub invariant-loop-left : goal.invariant-loop-left
invariant-loop-left l = IsMeeting l.frames.entries l.number l.other l.left l.right l.left_child l.right_child

abbrev pub decreases-loop-left : goal.decreases-loop-left
decreases-loop-left l = l.left + l.right
