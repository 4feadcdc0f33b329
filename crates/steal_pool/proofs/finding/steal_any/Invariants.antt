use Rattle.std.proofs.Common.{◌≡◌, ◌-◌, ◌≤◌, map, sum_by, take, vec_len, All}
use Rattle.steal_pool.specs.Peers.{peer_deque, stolen_from}
use Rattle.steal_pool.proofs.finding.steal_any.Given as goal

abbrev pub invariant-loop-i : goal.invariant-loop-i
invariant-loop-i g l = (vec_len l.peers ≡ vec_len l.initial.peers) × (l.i ≤ vec_len l.peers) × All (λ p. p.name ≡ l.fn.name) l.peers.items
    × (sum_by stolen_from l.peers.items ≡ sum_by stolen_from l.initial.peers.items)
    × (map peer_deque l.peers.items ≡ map peer_deque l.initial.peers.items)
    × (l.tried ≡ take l.i (map peer_deque l.initial.peers.items))

abbrev pub decreases-loop-i : goal.decreases-loop-i
decreases-loop-i g l = vec_len l.initial.peers - l.i
