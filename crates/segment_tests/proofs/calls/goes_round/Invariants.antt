use Rattle.std.proofs.Common.{◌≡◌}
use Rattle.std.specs.Prelude.{None}
use Rattle.segment_tests.proofs.calls.goes_round.Given as goal

abbrev pub invariant-loop : goal.invariant-loop
invariant-loop l = l.producer.of.id.name ≡ None
