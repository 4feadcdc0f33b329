use Rattle.std.proofs.Common.{◌≡◌, ◌++◌, drop, flat_map}
use Rattle.std.specs.List.{zip}
use Rattle.swan_model.specs.Texts.{items_shown}
use Rattle.serial_elision.proofs.output.push_queues.Given as goal

abbrev pub invariant-loop-index : goal.invariant-loop-index
invariant-loop-index l =
    l.out ++ flat_map (λ q. items_shown q.0.shown q.1) (zip (drop l.index l.names) (drop l.index l.queues))
    ≡ l.initial.out ++ flat_map (λ q. items_shown q.0.shown q.1) (zip l.names l.queues)
