use Rattle.std.proofs.Common.{◌≡◌}
use Rattle.std.specs.Prelude.{None}
use Rattle.segment_tests.proofs.calls.push_all_first.Given as goal

abbrev pub invariant-loop-number : goal.invariant-loop-number
invariant-loop-number l = record { name : l.producer.of.id.name ≡ None; same : l.producer.of ≡ l.initial.producer.of; pushed : l.producer.pushed ≡ l.number }
