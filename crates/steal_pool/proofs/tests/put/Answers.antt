use denote.Param.Send.{sendable}
use Rattle.steal_pool.proofs.tests.put.Goals as goal

pub put-requires : goal.put-requires
put-requires g = search sendable depth 20
