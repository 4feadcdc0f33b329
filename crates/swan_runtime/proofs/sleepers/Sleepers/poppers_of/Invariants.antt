use Rattle.std.proofs.Common.{◌≡◌, take}
use Rattle.swan_runtime.specs.Beds.{poppers_of}
use Rattle.swan_runtime.proofs.sleepers.Sleepers.poppers_of.Given as goal

abbrev pub invariant-loop-holding : goal.invariant-loop-holding
invariant-loop-holding g l = l.poppers.items ≡ poppers_of l.self (take l.holding-index l.holdings)
