use Rattle.std.proofs.Common.{ℕ, length}
use Rattle.object_versions.specs.Ending.{IsForgetting}
use Rattle.object_versions.proofs.ending.forget_all.Given as goal

abbrev pub invariant-loop-at : goal.invariant-loop-at
invariant-loop-at l = (made : ℕ) → IsForgetting l.fn.places.entries l.fn.places.entries l.fn.nodes l.fn.nodes made l.frame
    → IsForgetting l.fn.places.entries l.places.entries l.fn.nodes l.nodes made l.frame

abbrev pub decreases-loop-at : goal.decreases-loop-at
decreases-loop-at l = length l.places.entries
