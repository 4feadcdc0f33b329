use Rattle.std.proofs.Common.{◌≡◌, ◌-◌, ◌≤◌, map, vec_len, All}
use Rattle.steal_pool.specs.Seats.{IsNewSeat, known, own_deque}
use Rattle.steal_pool.proofs.Rounds.{KnowUpTo}
use Rattle.steal_pool.proofs.opening.introduce_all.Given as goal

abbrev pub invariant-loop-thief : goal.invariant-loop-thief
invariant-loop-thief g l = (vec_len l.seats ≡ vec_len l.initial.seats) × (l.thief ≤ vec_len l.seats) × All (λ seat. IsNewSeat (g.T.Named.name l.fn.like) seat) l.seats.items
    × (map own_deque l.seats.items ≡ map own_deque l.initial.seats.items)
    × KnowUpTo (map own_deque l.initial.seats.items) (map known l.seats.items) l.round l.thief

abbrev pub decreases-loop-thief : goal.decreases-loop-thief
decreases-loop-thief g l = vec_len l.initial.seats - l.thief
