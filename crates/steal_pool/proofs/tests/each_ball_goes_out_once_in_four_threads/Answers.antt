use denote.Param.Send.{sendable}
use Rattle.std.proofs.Crossing.{crosses}
use Rattle.steal_pool.proofs.Crosses.{seat_send}
use Rattle.steal_pool.proofs.tests.each_ball_goes_out_once_in_four_threads.Goals as goal

pub join-got-requires-send-F : goal.join-got-requires-send-F
join-got-requires-send-F g c = search (seat_send, crosses, sendable) depth 60 fits 20000
