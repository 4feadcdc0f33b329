use Rattle.std.proofs.Common.{◌≡◌}
use Rattle.std.specs.Prelude.{None}
use Rattle.segment_tests.proofs.helpers.fill.Given as goal

abbrev pub invariant-loop-many : goal.invariant-loop-many
invariant-loop-many l = record { name : l.producer.of.id.name ≡ None; same : l.producer.of ≡ l.initial.producer.of }
