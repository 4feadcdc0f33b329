use Rattle.std.proofs.Common.{◌≡◌, map, take}
use Rattle.serial_elision.proofs.recorded.lists_of.Given as goal

abbrev pub invariant-loop-queue : goal.invariant-loop-queue
invariant-loop-queue l = l.lists ≡ map (λ queue. queue.items) (take l.queue-index l.queues)
