use Rattle.std.proofs.Common.{◌≡◌, drop, length}
use Rattle.swan_model.specs.SerialStep.{given}
use Rattle.serial_elision.proofs.Spawns.{ahead}
use Rattle.serial_elision.proofs.spawn.given.Given as goal

abbrev pub invariant-loop-give : goal.invariant-loop-give
invariant-loop-give g l =
    (ahead l.holdings.items (given l.parent.holdings (drop l.give-index l.give-items)) ≡ given l.parent.holdings l.give-items)
    × (length l.holdings.items ≡ l.give-index)
