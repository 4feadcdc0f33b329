use Rattle.std.proofs.Common.{◌≡◌}
use Rattle.core_tests.specs.Pools.{MayAllCome}
use Rattle.core_tests.proofs.orders.take_turns_by_chance.Given as goal

abbrev pub invariant-loop-turn : goal.invariant-loop-turn
invariant-loop-turn g l = record {
  plan : l.core.plan ≡ l.fn.core.plan;
  frames : MayAllCome g.Q.Ends.LocalEnds.run l.core l.frames.items;
}
