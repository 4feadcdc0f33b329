use Rattle.std.proofs.Common.{◌≡◌, true, drop}
use Rattle.turn_tests.specs.Steps.{allows_steps}
use Rattle.turn_tests.proofs.harness.takes.Given as goal

abbrev pub invariant-loop-index : goal.invariant-loop-index
invariant-loop-index l = record { may : allows_steps l.turns (drop l.index l.steps) ≡ true }
