use Rattle.std.proofs.Common.{rules}
use Rattle.std.specs.Prelude.{Some}
use Rattle.steal_pool.proofs.Keeps.{labels_at, opens_at, opens_full_at}
use Rattle.steal_pool.proofs.deque.own_like.Goals as goal

pub push_as-requires-clause-pushes : goal.push_as-requires-clause-pushes
push_as-requires-clause-pushes g c = labels_at _ _ 0 _ _ (search rules)

pub pop_as-requires-clause-fifo : goal.pop_as-requires-clause-fifo
pop_as-requires-clause-fifo g c = λ _. let r = c.in-Ok.ensures.rule.0 in opens_at _ _ _ _ (Some r.0) r.2

pub pop_as-requires-clause-empty : goal.pop_as-requires-clause-empty
pop_as-requires-clause-empty g c = let r = c.in-Ok.ensures.rule.0 in opens_full_at _ _ _ _ (Some r.0) r.2
