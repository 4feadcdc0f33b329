use Rattle.steal_pool.proofs.Keeps.{takes_at}
use Rattle.steal_pool.proofs.stealing.steal_frame.Goals as goal

pub steal_as-requires-clause-takes : goal.steal_as-requires-clause-takes
steal_as-requires-clause-takes g c = takes_at _ _ _ c.requires.1
