use Rattle.std.proofs.Common.{◌≡◌}
use Rattle.segment_tests.proofs.threads.pop_a_thousand.Given as goal

abbrev pub invariant-loop-number : goal.invariant-loop-number
invariant-loop-number l = l.consumer.of ≡ l.initial.consumer.of

abbrev pub invariant-loop : goal.invariant-loop
invariant-loop l = l.consumer.of ≡ l.initial.consumer.of
