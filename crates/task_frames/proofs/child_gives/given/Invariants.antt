use Rattle.std.proofs.Common.{◌≡◌, drop, length}
use Rattle.swan_model.specs.SerialStep.{given}
use Rattle.serial_elision.proofs.Spawns.{ahead}
use Rattle.task_frames.proofs.child_gives.given.Given as goal

abbrev pub invariant-loop-give : goal.invariant-loop-give
invariant-loop-give l =
    (ahead l.held.items (given l.holdings (drop l.give-index l.give-items)) ≡ given l.holdings l.give-items)
    × (length l.held.items ≡ l.give-index)
