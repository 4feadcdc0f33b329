use Rattle.std.proofs.Common.{◌≡◌, ◌≤◌, [], vec_len, vec_capacity, All}
use Rattle.steal_pool.specs.Seats.{IsNewSeat, known}
use Rattle.steal_pool.proofs.opening.seats_alone.Given as goal

abbrev pub invariant-loop-turn : goal.invariant-loop-turn
invariant-loop-turn g l = (vec_len l.seats ≡ l._turn) × (l.fn.count ≤ vec_capacity l.seats) × All (λ seat. IsNewSeat (g.T.Named.name l.fn.like) seat) l.seats.items
    × All (λ seat. known seat ≡ []) l.seats.items
