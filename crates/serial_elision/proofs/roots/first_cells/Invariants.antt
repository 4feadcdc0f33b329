use Rattle.std.proofs.Common.{◌≡◌, ◌++◌, length}
use Rattle.std.specs.Vec.Iter.{into_iter_items}
use Rattle.swan_model.specs.Elision.{first_cells}
use Rattle.serial_elision.proofs.roots.first_cells.Given as goal

abbrev pub invariant-loop-value : goal.invariant-loop-value
invariant-loop-value l =
    (goal.iterator-loop-value).can_next l.value-iterator
    × (goal.iterator-loop-value).is_finite l.value-iterator
    × (l.cells.items ++ first_cells (length l.cells.items) (into_iter_items l.value-iterator) ≡ first_cells 0 l.fn.values)
