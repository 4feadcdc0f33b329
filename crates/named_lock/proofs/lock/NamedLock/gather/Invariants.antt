use Rattle.std.proofs.Common.{◌≡◌, ◌+◌, ◌<◌, vec_len, All, true, false, ◌⊎◌}
use Rattle.named_lock.specs.Seats.{IsSeatOf, Sits, lock_id, lock_name, any_saw_done}
use Rattle.named_lock.proofs.lock.NamedLock.gather.Given as goal

abbrev pub invariant-loop-seat : goal.invariant-loop-seat
invariant-loop-seat g l = Sits (lock_id l.fn.self) (lock_name l.fn.self) l.last.me.0.parts false l.last × (0 < l.last.me.0.parts) × (l.last.me.0.parts + vec_len l.seats ≡ l.initial.last.me.0.parts + vec_len l.fn.seats)
    × All (IsSeatOf l.fn.self false) l.seats.items × (l.initial.last.me.0.saw_done ≡ true ⊎ any_saw_done l.fn.seats.items ≡ true → l.last.me.0.saw_done ≡ true ⊎ any_saw_done l.seats.items ≡ true)

abbrev pub decreases-loop-seat : goal.decreases-loop-seat
decreases-loop-seat g l = goal.left-loop-seat g l
