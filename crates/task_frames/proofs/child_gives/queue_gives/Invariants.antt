use Rattle.std.proofs.Common.{◌≡◌, take}
use Rattle.task_frames.specs.Giving.{queue_rights}
use Rattle.task_frames.proofs.child_gives.queue_gives.Given as goal

abbrev pub invariant-loop-holding : goal.invariant-loop-holding
invariant-loop-holding l = l.gives.items ≡ queue_rights (take l.holding-index l.holdings)
