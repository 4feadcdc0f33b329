use Rattle.std.proofs.Common.{◌≡◌, take}
use Rattle.serial_elision.proofs.recorded.copied.Given as goal

abbrev pub invariant-loop-value : goal.invariant-loop-value
invariant-loop-value l = l.again ≡ take l.value-index l.values
