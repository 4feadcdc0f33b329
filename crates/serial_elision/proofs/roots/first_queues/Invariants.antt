use Rattle.std.proofs.Common.{◌≡◌, ◌++◌, length}
use Rattle.std.specs.Vec.Iter.{into_iter_items}
use Rattle.swan_model.specs.Elision.{first_queues}
use Rattle.serial_elision.proofs.roots.first_queues.Given as goal

abbrev pub invariant-loop-root : goal.invariant-loop-root
invariant-loop-root l =
    (goal.iterator-loop-root).can_next l.root-iterator
    × (goal.iterator-loop-root).is_finite l.root-iterator
    × (l.queues.items ++ first_queues (length l.queues.items) (into_iter_items l.root-iterator) ≡ first_queues 0 l.fn.roots)
