-- What holds of a lock between any two steps, and what each step tells the seat that takes it.
-- One word is 0 where the state is in its slot, and else a seat holds it. Another is the sign: 0 is Runs, 1 Done and 2
-- Stopped. The words beside them are 0 for good, and keep the two a cache line apart, and from what lies around the table.
use Rattle.std.specs.Prelude.{◌≡◌, ◌≢◌, ℕ, zero, suc, ◌+◌, ◌-◌, ◌<◌, ◌≤◌, Bool, true, false, ◌||◌, List, [], ◌∷◌, Option, Some, None}
use mathlib.Core.Option.{Option as Maybe, some}
use lib.ListN.{get_elem?}
use Rattle.atomic_table.specs.Table.{State, Me, Step, rest}
use Rattle.named_lock.specs.declared.rule.View.{View}
use Rattle.named_lock.specs.declared.sign.Sign.{Sign}
use Rattle.named_lock.specs.declared.sign.Sign.TheVariants.{Runs, Done, Stopped}
use Rattle.named_lock.specs.Seats.{view_after_sign}

abbrev pub lock_words : (word sign : ℕ) → List ℕ
lock_words word sign =
    0 ∷ 0 ∷ 0 ∷ 0 ∷ 0 ∷ 0 ∷ 0 ∷ 0 ∷ word ∷ 0 ∷ 0 ∷ 0 ∷ 0 ∷ 0 ∷ 0 ∷ 0 ∷ sign ∷ 0 ∷ 0 ∷ 0 ∷ 0 ∷ 0 ∷ 0 ∷ 0 ∷ []

-- the sign that a word is
abbrev pub sign_of : ℕ → Sign
sign_of zero = Runs
sign_of (suc zero) = Done
sign_of (suc (suc n)) = Stopped

-- the sign once a stop has found this word
abbrev pub sign_after_stop : ℕ → Sign
sign_after_stop zero = Stopped
sign_after_stop (suc n) = sign_of (suc n)

module _ {N : Type 0} where
  -- a seat that stands for so many, and has done nothing
  abbrev pub seated : ℕ → N → View N
  seated parts name = record { parts = parts; name = Some name; holding = false; owes_done = false; saw_done = false; saw_stopped = false; sign = Runs; holds = 0; lost = 0; stops = 0 }

  -- what is left of a seat that another took in
  abbrev pub spent : View N
  spent = record { parts = 0; name = None; holding = false; owes_done = false; saw_done = false; saw_stopped = false; sign = Runs; holds = 0; lost = 0; stops = 0 }

  -- a seat that stands for several is cut in two, and the second stands for one
  abbrev pub rest_of : View N → View N
  rest_of v = record v { parts = v.parts - 1 }

  abbrev pub one_of : View N → View N
  one_of v = record { parts = 1; name = v.name; holding = false; owes_done = false; saw_done = v.saw_done; saw_stopped = v.saw_stopped; sign = Runs; holds = 0; lost = 0; stops = 0 }

  -- a seat takes in another
  abbrev pub view_after_join : View N → View N → View N
  view_after_join v w = record v { parts = v.parts + w.parts; saw_done = v.saw_done || w.saw_done; saw_stopped = v.saw_stopped || w.saw_stopped }

  -- how many seats all of them stand for
  abbrev pub total : List (View N) → ℕ
  total [] = 0
  total (v ∷ vs) = v.parts + total vs

  -- what the seat of number j knows is so
  abbrev pub IsTrueView : (word sign : ℕ) → N → (holder j : ℕ) → View N → Type 0
  IsTrueView word sign name holder j v =
      (0 < v.parts → v.name ≡ Some name)
      × (v.holding ≡ true → (j ≡ holder) × (0 < v.parts) × (word ≢ 0) × (sign ≡ 1 → v.owes_done ≡ true))
      × (v.saw_done ≡ true → sign ≡ 1)
      × (v.saw_stopped ≡ true → sign ≡ 2)

module _ {S N : Type 0} (name : S → N) (done : S → Bool) where
  -- a lock of this name with so many seats: its words, what is in its slot, and what its seats know
  pub record IsLock (named : N) (seats word sign : ℕ) (home : Maybe (Option S)) (views : List (View N)) : Type 0 where
    pub holder : ℕ
    pub small : sign ≤ 2
    pub sum : total views ≡ seats
    pub free : word ≡ 0 → (x : S) × (home ≡ some (Some x)) × (name x ≡ named) × (sign ≡ 1 → done x ≡ true)
    pub taken : word ≢ 0 → (v : View N) × (get_elem? views holder ≡ some v) × (v.holding ≡ true)
    pub each : (j : ℕ) (v : View N) → get_elem? views j ≡ some v → IsTrueView word sign named holder j v

  abbrev pub IsRuled : N → ℕ → State (Option S) (View N) → Type 0
  IsRuled named seats s = (word : ℕ) × (sign : ℕ) × (home : Maybe (Option S)) × (s.words ≡ lock_words word sign) × (s.homes ≡ home ∷ []) × IsLock named seats word sign home s.views

  abbrev pub took : Step (Option S) → Me (Option S) (View N) → ℕ → Me (Option S) (View N) → Type 0
  took st m found m' =
      (found ≡ 0 → (x : S) × (m' ≡ (record m.0 { holding = true; owes_done = done x; holds = m.0.holds + 1 }, (0, Some x) ∷ m.1)) × (m.0.name ≡ Some (name x)) × (m.0.saw_done ≡ true → done x ≡ true))
      × (found ≢ 0 → m' ≡ (record m.0 { lost = m.0.lost + 1 }, m.1))

  -- the seat that stands for all finds the state in its slot
  abbrev pub closed : Step (Option S) → Me (Option S) (View N) → ℕ → Me (Option S) (View N) → Type 0
  closed st m found m' = (found ≡ 0) × took st m found m'

module _ {S N : Type 0} where
  abbrev pub gave : Step (Option S) → Me (Option S) (View N) → ℕ → Me (Option S) (View N) → Type 0
  gave st m found m' = m' ≡ (record m.0 { holding = false; owes_done = false }, rest m.1)

  abbrev pub finished : Step (Option S) → Me (Option S) (View N) → ℕ → Me (Option S) (View N) → Type 0
  finished st m found m' =
      (found < 2 → m' ≡ (record (view_after_sign m.0 Done) { owes_done = true }, m.1))
      × (2 ≤ found → m' ≡ (record (view_after_sign m.0 Stopped) { owes_done = true }, m.1))

  abbrev pub stopped : Step (Option S) → Me (Option S) (View N) → ℕ → Me (Option S) (View N) → Type 0
  stopped st m found m' = m' ≡ (record (view_after_sign m.0 (sign_after_stop found)) { stops = m.0.stops + 1 }, m.1)

  abbrev pub looked : Step (Option S) → Me (Option S) (View N) → ℕ → Me (Option S) (View N) → Type 0
  looked st m found m' = (found ≤ 2) × (m' ≡ (view_after_sign m.0 (sign_of found), m.1)) × (m.0.saw_done ≡ true → found ≡ 1) × (m.0.saw_stopped ≡ true → found ≡ 2)
