use Rattle.object_versions.proofs.Awaited.{NoneOwes}
use Rattle.object_versions.proofs.Walk.{IsWalk}
use Rattle.object_versions.proofs.waiting.first_awaited.Given as goal

abbrev pub invariant-loop-owner : goal.invariant-loop-owner
invariant-loop-owner l =
    (goal.iterator-loop-owner).can_next l.owner-iterator ×
    (goal.iterator-loop-owner).is_finite l.owner-iterator ×
    IsWalk l.places.entries l.owner-iterator l.frame (NoneOwes l.nodes)
