-- What clauses say of the other seats.
use Rattle.std.specs.Prelude.{ℕ, List, map, sum_by}
use Rattle.crossbeam_deque.specs.Handles.{stealer_deque, view}
use Rattle.steal_pool.specs.Deques.{Deque}
use Rattle.steal_pool.specs.declared.peer.Peer.{Peer}
use Rattle.steal_pool.specs.declared.peers.Peers.{Peers}

module _ {T N : Type 0} where
  -- its deque
  abbrev pub peer_deque : Peer T N → Deque
  peer_deque peer = stealer_deque peer.stealer

  -- their deques, in order
  abbrev pub deques_of : Peers T N → List Deque
  deques_of peers = map peer_deque peers.seats.items

  -- how many frames were stolen from this one
  abbrev pub stolen_from : Peer T N → ℕ
  stolen_from peer = (view peer.pass).taken

  -- how many were stolen from all of them
  abbrev pub stolen_by : Peers T N → ℕ
  stolen_by peers = sum_by stolen_from peers.seats.items
