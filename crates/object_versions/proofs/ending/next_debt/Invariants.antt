use Rattle.object_versions.specs.Ending.{IsPaid}
use Rattle.object_versions.proofs.Walk.{IsWalk}
use Rattle.object_versions.proofs.ending.next_debt.Given as goal

abbrev pub invariant-loop-owner : goal.invariant-loop-owner
invariant-loop-owner l =
    (goal.iterator-loop-owner).can_next l.owner-iterator ×
    (goal.iterator-loop-owner).is_finite l.owner-iterator ×
    IsWalk l.places.entries l.owner-iterator l.frame IsPaid
