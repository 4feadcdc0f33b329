use Rattle.std.proofs.Common.{◌≡◌, map, vec_len, All}
use Rattle.steal_pool.specs.Seats.{HaveNext, IsNewSeat, known, own_deque}
use Rattle.steal_pool.proofs.opening.pool.Given as goal

abbrev pub invariant-loop-round : goal.invariant-loop-round
invariant-loop-round g l = (vec_len l.seats ≡ l.fn.workers) × All (λ seat. IsNewSeat (g.T.Named.name l.fn.like) seat) l.seats.items
    × HaveNext (map own_deque l.seats.items) l.round (map known l.seats.items)
