use Rattle.steal_pool.proofs.Keeps.{forks_at}
use Rattle.steal_pool.proofs.deque.new_thief.Goals as goal

pub another-pass-requires : goal.another-pass-requires
another-pass-requires g c = forks_at _ _ _ c.requires.1
