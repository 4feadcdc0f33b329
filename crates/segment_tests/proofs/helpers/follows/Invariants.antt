use Rattle.std.proofs.Common.{◌≡◌, ◌≤◌}
use Rattle.std.specs.Prelude.{None}
use Rattle.segment_tests.proofs.helpers.follows.Given as goal

abbrev pub invariant-loop-step : goal.invariant-loop-step
invariant-loop-step l = record { name : l.producer.of.id.name ≡ None; segment : l.consumer.of ≡ l.producer.of; same : l.producer.of ≡ l.initial.producer.of; done : l.done ≤ l.step-index }
