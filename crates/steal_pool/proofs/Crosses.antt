-- A seat may move to another thread, where frames may.
use denote.RattleType.{RattleType}
use denote.Param.Send.{IsSend, struct_send, recorded_send, sendable}
use denote.Struct.Declared.{shape}
use Rattle.std.proofs.Crossing.{crosses}
use Rattle.std.proofs.alloc.Global.TheSendSync as heap
use Rattle.std.below.std_heap.proofs.GlobalAllocator.TheSendSync as frees
use Rattle.crossbeam_deque.below.atomic_blocks.proofs.rows.shared.Seat.TheSendSync as seat
use Rattle.crossbeam_deque.below.atomic_blocks.proofs.rows.shared.Rows.TheSendSync as rows
use Rattle.named_lock.specs.declared.named.Named.{Ghosts}
use Rattle.steal_pool.specs.contracts.peer.Peer
use Rattle.steal_pool.specs.contracts.parcel.Parcel
use Rattle.steal_pool.specs.contracts.seat.PoolSeat
use Rattle.steal_pool.specs.contracts.kept.NamedFrame

module _ (T N : RattleType) (g : Ghosts T.Denot N.Denot) (sent : IsSend T) where
  parcel_send : IsSend (Parcel.the_row T N g)
  parcel_send = recorded_send (Parcel.the_field T N g).row _ _ (Parcel.the_type T N g).to_one (search (sent, crosses, sendable) depth 60 fits 20000)

  peer_send : IsSend (Peer.the_row T N g)
  peer_send = recorded_send (Peer.the_field T N g).row _ _ (Peer.the_type T N g).to_one (struct_send (shape (Peer.the_type T N g)) (
    search (parcel_send, rows.the_send, rows.the_sync, heap.the_send, heap.the_sync, frees.the_frees, crosses, sendable) depth 60 fits 20000,
    (search (parcel_send, seat.the_send, heap.the_send, frees.the_frees, crosses, sendable) depth 60 fits 20000, (search (crosses, sendable) depth 60 fits 20000, tt)),
  ))

  kept_send : IsSend (NamedFrame.the_row T N g)
  kept_send = recorded_send (NamedFrame.the_field T N g).row _ _ (NamedFrame.the_type T N g).to_one (struct_send (shape (NamedFrame.the_type T N g)) (search (sent, crosses, sendable) depth 60 fits 20000, (search (crosses, sendable) depth 60 fits 20000, tt)))

  pub seat_send : IsSend (PoolSeat.the_row T N g)
  seat_send = recorded_send (PoolSeat.the_field T N g).row _ _ (PoolSeat.the_type T N g).to_one (struct_send (shape (PoolSeat.the_type T N g)) (
    search (parcel_send, seat.the_send, rows.the_send, rows.the_sync, heap.the_send, heap.the_sync, frees.the_frees, crosses, sendable) depth 60 fits 20000,
    (search (kept_send, crosses, sendable) depth 60 fits 20000, (search (peer_send, crosses, sendable) depth 60 fits 20000, (search (crosses, sendable) depth 60 fits 20000, tt))),
  ))
