use Rattle.std.proofs.Common.{◌≡◌, drop}
use Rattle.swan_model.specs.SerialStep.{cells_with_zeros}
use Rattle.serial_elision.proofs.store.Store.zero.Given as goal

abbrev pub invariant-loop-holding : goal.invariant-loop-holding
invariant-loop-holding l =
    (cells_with_zeros l.self.cells (drop l.holding-index l.holdings) ≡ cells_with_zeros l.initial.self.cells l.holdings)
    × (l.self.queues ≡ l.initial.self.queues)
