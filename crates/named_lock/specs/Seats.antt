-- What clauses say of a lock, of its seats, and of a state that is held.
use Rattle.std.specs.Prelude.{◌≡◌, ℕ, Bool, true, false, ◌||◌, List, [], ◌∷◌, Option, Some, None, cond}
use Rattle.atomic_table.specs.declared.shared.Seat.{Seat}
use Rattle.atomic_table.specs.Seated.{TableId}
use Rattle.named_lock.specs.declared.rule.View.{View}
use Rattle.named_lock.specs.declared.sign.Sign.{Sign}
use Rattle.named_lock.specs.declared.sign.Sign.TheVariants.{Runs, Done, Stopped}
use Rattle.named_lock.specs.declared.lock.NamedLock.{NamedLock}
use Rattle.named_lock.specs.declared.seat.LockSeat.{LockSeat}
use Rattle.named_lock.specs.declared.held.Held.{Held}

abbrev pub is_done : Sign → Bool
is_done Runs = false
is_done Done = true
is_done Stopped = false

abbrev pub is_stopped : Sign → Bool
is_stopped Runs = false
is_stopped Done = false
is_stopped Stopped = true

-- what a seat knows once it has met this sign
abbrev pub view_after_sign : {N : Type 0} → View N → Sign → View N
view_after_sign v sign = record v { sign = sign; saw_done = v.saw_done || is_done sign; saw_stopped = v.saw_stopped || is_stopped sign }

module _ {S N : Type 0} where
  -- which lock it is, its name, and the number of its seats
  abbrev pub lock_id : NamedLock S N → TableId
  lock_id lock = lock.table.shared.table_id

  abbrev pub lock_name : NamedLock S N → N
  lock_name lock = lock.table.shared.key.name

  abbrev pub lock_seats : NamedLock S N → ℕ
  lock_seats lock = lock.table.shared.key.seats

  -- what a seat knows
  abbrev pub knows : LockSeat S N → View N
  knows seat = seat.seat.me.0

  -- a seat of a lock that stands for so many, and holds the state or doesn't: then it has an empty slot in its hand
  abbrev pub Sits : TableId → N → (parts : ℕ) → (holds : Bool) → Seat (Option S) (View N) → Type 0
  Sits table name parts holds s =
      (s.table_id ≡ table) × (s.me.0.parts ≡ parts) × (s.me.0.name ≡ Some name) × (s.me.0.holding ≡ holds) × (s.me.1 ≡ cond holds ((0, None) ∷ []) [])

  -- it is a seat of this lock, and holds the state or doesn't
  abbrev pub IsSeatOf : NamedLock S N → Bool → LockSeat S N → Type 0
  IsSeatOf lock holds seat = Sits (lock_id lock) (lock_name lock) 1 holds seat.seat

  -- it is a seat of this lock that knows nothing yet
  abbrev pub IsNewSeatOf : NamedLock S N → LockSeat S N → Type 0
  IsNewSeatOf lock seat = IsSeatOf lock false seat
      × (knows seat ≡ record { parts = 1; name = Some (lock_name lock); holding = false; owes_done = false; saw_done = false; saw_stopped = false; sign = Runs; holds = 0; lost = 0; stops = 0 })

  -- it is this seat, whatever it has learnt since
  abbrev pub IsSameSeat : (old new : LockSeat S N) → Type 0
  IsSameSeat old new = (new.seat.table_id ≡ old.seat.table_id) × (new.seat.id ≡ old.seat.id)

  -- it was this seat that took the state
  abbrev pub IsHeldBy : LockSeat S N → Held S N → Type 0
  IsHeldBy seat held = (held.by.value.table_id ≡ seat.seat.table_id) × (held.by.value.id ≡ seat.seat.id)

  -- A seat that has seen the sign Done, or Stopped, finds it so.
  abbrev pub FindsAgain : (old new : LockSeat S N) → Type 0
  FindsAgain old new = ((knows old).saw_done ≡ true → (knows new).sign ≡ Done) × ((knows old).saw_stopped ≡ true → (knows new).sign ≡ Stopped)

  -- some seat has seen the sign Done
  abbrev pub any_saw_done : List (LockSeat S N) → Bool
  any_saw_done [] = false
  any_saw_done (seat ∷ seats) = (knows seat).saw_done || any_saw_done seats
