use Rattle.std.proofs.Common.{◌≡◌, ◌++◌, length}
use Rattle.queue_book.proofs.node.ChunkNode.move_to.Given as goal

abbrev pub invariant-loop-item : goal.invariant-loop-item
invariant-loop-item l = l.items ++ l.own.items ≡ l.initial.items ++ l.initial.own.items

abbrev pub decreases-loop-item : goal.decreases-loop-item
decreases-loop-item l = length l.own.items
