use Rattle.std.proofs.Common.{◌-◌, ◌^◌}
use Rattle.pop_order.specs.Walk.{IsFirstOf}
use Rattle.pop_order.proofs.Walks.{IsSeen}
use Rattle.pop_order.proofs.walk.first_earlier.Given as goal

abbrev pub invariant-loop-giver : goal.invariant-loop-giver
invariant-loop-giver l = IsFirstOf l.frames.entries l.queue l.frame (IsSeen l.pushers l.givers l.queue l.from) l.found

abbrev pub decreases-loop-giver : goal.decreases-loop-giver
decreases-loop-giver l = 2 ^ 64 - l.from
