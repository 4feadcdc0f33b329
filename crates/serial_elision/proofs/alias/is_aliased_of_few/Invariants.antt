use Rattle.std.proofs.Common.{◌≡◌, length}
use Rattle.swan_model.specs.Rights.{is_aliased}
use Rattle.serial_elision.proofs.alias.is_aliased_of_few.Given as goal

abbrev pub invariant-loop-give : goal.invariant-loop-give
invariant-loop-give l = is_aliased l.rest ≡ is_aliased l.gives

abbrev pub decreases-loop-give : goal.decreases-loop-give
decreases-loop-give l = length l.rest
