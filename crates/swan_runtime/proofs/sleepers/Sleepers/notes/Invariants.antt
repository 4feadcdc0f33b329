use Rattle.std.proofs.Common.{take}
use Rattle.swan_runtime.specs.Beds.{HasSameSleepers, IsNoted}
use Rattle.swan_runtime.proofs.sleepers.Sleepers.notes.Given as goal

abbrev pub invariant-loop-holding : goal.invariant-loop-holding
invariant-loop-holding g l = record {
  notes : IsNoted l.fn.self l.self l.child (take l.holding-index l.holdings);
  sleepers : HasSameSleepers l.fn.self l.self;
}
