use Rattle.std.proofs.Common.{◌≡◌, true, drop}
use Rattle.version_tests.specs.Steps.{allows_steps}
use Rattle.version_tests.proofs.harness.follow.Given as goal

abbrev pub invariant-loop-index : goal.invariant-loop-index
invariant-loop-index l = record { may : allows_steps l.versions (drop l.index l.steps) ≡ true }
