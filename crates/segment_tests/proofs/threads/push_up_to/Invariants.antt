use Rattle.std.proofs.Common.{◌≡◌}
use Rattle.std.specs.Prelude.{None}
use Rattle.segment_tests.proofs.threads.push_up_to.Given as goal

abbrev pub invariant-loop : goal.invariant-loop
invariant-loop l = record { name : l.producer.of.id.name ≡ None; same : l.producer.of ≡ l.initial.producer.of }
