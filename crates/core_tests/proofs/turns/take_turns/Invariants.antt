use Rattle.std.proofs.Common.{◌≡◌}
use Rattle.core_tests.specs.Pools.{MayAllCome}
use Rattle.core_tests.proofs.turns.take_turns.Given as goal

abbrev pub invariant-loop-index : goal.invariant-loop-index
invariant-loop-index g l = record {
  plan : l.core.plan ≡ l.fn.core.plan;
  run : l.core.run ≡ l.fn.core.run;
  frames : MayAllCome g.Q.Ends.LocalEnds.run l.core l.frames.items;
}
