use Rattle.std.proofs.Common.{◌≡◌, ◌+◌, ◌-◌, [], vec_len, vec_capacity, All, ◌≤◌}
use Rattle.named_lock.specs.Rule.{seated}
use Rattle.named_lock.specs.Seats.{IsNewSeatOf, lock_id, lock_name}
use Rattle.named_lock.proofs.lock.NamedLock.deal.Given as goal

abbrev pub invariant-loop-made : goal.invariant-loop-made
invariant-loop-made g l = (vec_len l.all + 1 ≡ l.made) × (l.fn.seats ≤ vec_capacity l.all) × All (IsNewSeatOf l.fn.self) l.all.items
    × (l.first.table_id ≡ lock_id l.fn.self) × (l.first.me ≡ (seated (l.fn.seats - (l.made - 1)) (lock_name l.fn.self), []))
