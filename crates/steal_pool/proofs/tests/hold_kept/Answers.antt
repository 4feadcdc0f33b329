use denote.Param.Send.{sendable}
use Rattle.steal_pool.proofs.tests.hold_kept.Goals as goal

pub keep-requires : goal.keep-requires
keep-requires g = search sendable depth 20
