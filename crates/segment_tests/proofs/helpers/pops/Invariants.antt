use Rattle.std.proofs.Common.{◌≡◌}
use Rattle.segment_tests.proofs.helpers.pops.Given as goal

abbrev pub invariant-loop-number : goal.invariant-loop-number
invariant-loop-number l = l.consumer.of ≡ l.initial.consumer.of
