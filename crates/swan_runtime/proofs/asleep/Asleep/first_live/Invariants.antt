use Rattle.std.proofs.Common.{◌≡◌, None, take}
use Rattle.std.specs.List.{find}
use Rattle.swan_runtime.specs.Beds.{is_live}
use Rattle.swan_runtime.proofs.asleep.Asleep.first_live.Given as goal

abbrev pub invariant-loop-number : goal.invariant-loop-number
invariant-loop-number g l = find (is_live l.self) (take l.number-index l.numbers) ≡ None
