use Rattle.std.proofs.Common.{ℕ}
use Rattle.object_versions.specs.Ending.{IsPaidBelow, IsSettling}
use Rattle.object_versions.proofs.Debts.{debts}
use Rattle.object_versions.proofs.ending.settle_all.Given as goal

abbrev pub invariant-loop-debt : goal.invariant-loop-debt
invariant-loop-debt l =
    IsPaidBelow l.places.entries l.frame l.from
    × ((made : ℕ) → IsSettling l.fn.places.entries l.fn.places.entries l.fn.nodes l.fn.nodes made l.frame
    → IsSettling l.fn.places.entries l.places.entries l.fn.nodes l.nodes made l.frame)

abbrev pub decreases-loop-debt : goal.decreases-loop-debt
decreases-loop-debt l = debts l.places.entries
