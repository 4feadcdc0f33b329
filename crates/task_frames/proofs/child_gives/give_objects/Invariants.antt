use Rattle.std.proofs.Common.{◌≡◌}
use Rattle.task_frames.specs.Giving.{AreMade, GivesObjects}
use Rattle.task_frames.proofs.child_gives.give_objects.Given as goal

abbrev pub invariant-loop-give : goal.invariant-loop-give
invariant-loop-give l =
    ((may : GivesObjects l.initial.versions l.parent l.child l.gives) → AreMade may.s may.r l.initial.versions l.versions may.giver l.child l.gives l.give-index)
    × (l.place ≡ l.give-index)
