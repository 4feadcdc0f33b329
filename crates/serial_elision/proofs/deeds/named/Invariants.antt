use Rattle.std.proofs.Common.{◌≡◌, take}
use Rattle.swan_model.specs.Script.{gives_of}
use Rattle.serial_elision.proofs.deeds.named.Given as goal

abbrev pub invariant-loop-holding : goal.invariant-loop-holding
invariant-loop-holding l = l.gives ≡ gives_of l.store (take l.holding-index l.holdings)
