use Rattle.steal_pool.proofs.Keeps.{puts_at}
use Rattle.steal_pool.proofs.deque.push_frame.Goals as goal

pub push_as-requires-clause-pushes : goal.push_as-requires-clause-pushes
push_as-requires-clause-pushes g c = puts_at _ _ _ _ c.requires.0 c.requires.1
