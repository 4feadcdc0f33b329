use denote.Param.Send.{sendable}
use Rattle.std.proofs.Crossing.{crosses}
use Rattle.steal_pool.proofs.Crosses.{seat_send}
use Rattle.steal_pool.proofs.tests.one_puts.Goals as goal

pub join-requires-send-F : goal.join-requires-send-F
join-requires-send-F g c κs within = search (seat_send, crosses, sendable) depth 60 fits 20000
