use Rattle.steal_pool.proofs.Keeps.{takes_at}
use Rattle.steal_pool.proofs.deque.pop_frame.Goals as goal

pub pop_as-requires-clause-fifo : goal.pop_as-requires-clause-fifo
pop_as-requires-clause-fifo g c = λ _. takes_at _ _ _ c.requires.stage.1
