use Rattle.std.proofs.Common.{arith, length, ◌≤◌}
use Rattle.swan_model.proofs.RootLists.{le-first_queues}
use Rattle.serial_elision.proofs.roots.first_queues.Goals as goal

pub overflow_cast-number : goal.overflow_cast-number
overflow_cast-number c =
    let most : length c.loop-root.queues.items ≤ length c.args.roots = le-first_queues _ _ _ c.loop-root.invariant.2 in omega arith
