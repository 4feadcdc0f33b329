use Rattle.std.proofs.Common.{◌≡◌, take}
use Rattle.task_frames.proofs.frame.same_parts.Given as goal

abbrev pub invariant-loop-at : goal.invariant-loop-at
invariant-loop-at l = take l.at l.parts ≡ take l.at l.others
