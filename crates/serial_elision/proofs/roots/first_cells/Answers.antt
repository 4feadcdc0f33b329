use Rattle.std.proofs.Common.{arith, length, ◌≤◌}
use Rattle.swan_model.proofs.RootLists.{le-first_cells}
use Rattle.serial_elision.proofs.roots.first_cells.Goals as goal

pub overflow_cast-number : goal.overflow_cast-number
overflow_cast-number c =
    let most : length c.loop-value.cells.items ≤ length c.args.values = le-first_cells _ _ _ c.loop-value.invariant.2 in omega arith
