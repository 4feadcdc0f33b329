use Rattle.std.proofs.Common.{◌-◌, ◌^◌, ◌≤◌}
use Rattle.swan_model.specs.declared.rights.Mode.TheVariants.{Push}
use Rattle.pop_order.specs.Frames.{Frames}
use Rattle.pop_order.specs.Kept.{AreBelowParents, HasHolders}
use Rattle.pop_order.proofs.Walks.{IsDown}
use Rattle.pop_order.proofs.walk.first_under.Given as goal

abbrev pub invariant-loop-oldest : goal.invariant-loop-oldest
invariant-loop-oldest l = record {
  at_least : l.giver ≤ l.node;
  down : (frames : Frames) → AreBelowParents frames → HasHolders frames Push l.queue l.pushers → IsDown frames l.pushers l.queue l.giver l.node;
}

abbrev pub decreases-loop-oldest : goal.decreases-loop-oldest
decreases-loop-oldest l = 2 ^ 64 - l.node
