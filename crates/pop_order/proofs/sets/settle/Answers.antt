use Rattle.std.proofs.Common.{refl}
use Rattle.pop_order.specs.Givers.{stays}
use Rattle.pop_order.proofs.sets.settle.Goals as goal

pub returns-in-Some : goal.returns-in-Some
returns-in-Some c = stays c.in-Some._child c.in-Some.ensures.oldest.known refl
