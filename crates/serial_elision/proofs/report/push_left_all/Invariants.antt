use Rattle.std.proofs.Common.{◌≡◌, ◌++◌, drop, flat_map}
use Rattle.std.specs.List.{zip}
use Rattle.swan_model.specs.Texts.{left_line}
use Rattle.serial_elision.proofs.report.push_left_all.Given as goal

abbrev pub invariant-loop-index : goal.invariant-loop-index
invariant-loop-index l =
    l.report ++ flat_map (λ q. left_line q.0.shown q.0.name q.1) (zip (drop l.index l.names) (drop l.index l.queues))
    ≡ l.initial.report ++ flat_map (λ q. left_line q.0.shown q.0.name q.1) (zip l.names l.queues)
