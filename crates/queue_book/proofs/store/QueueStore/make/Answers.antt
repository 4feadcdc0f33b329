use Rattle.std.proofs.Common.{arith}
use Rattle.queue_book.proofs.store.QueueStore.make.Goals as goal

pub overflow_cast-queue : goal.overflow_cast-queue
overflow_cast-queue c = record { fits = let room = c.requires.room in let len = c.len-queue.ensures in omega (arith, room, len) }

pub put-requires : goal.put-requires
put-requires c = c.requires.active
