-- The rule of a ring with one producer and one consumer, and what each step tells.
-- The first word of the table counts what was popped, and the last one what was pushed; the words between them are spare.
-- The item i stands in the slot i % size.
use Rattle.std.specs.Prelude.{◌≡◌, ℕ, ◌+◌, ◌%◌, ◌<◌, ◌≤◌, Bool, true, false, List, [], ◌∷◌, length, max, Option, Some, None}
use Rattle.std.specs.Option.{ForSome}
use mathlib.Core.Option.{Option as Maybe, some}
use lib.ListN.{get_elem?}
use Rattle.atomic_table.specs.Table.{State, Me, Step, rest}
use Rattle.ring_segments.specs.declared.rule.SeatView.{SeatView}
use Rattle.ring_segments.specs.Ends.{first_told}

abbrev pub words_of : (head tail : ℕ) → List ℕ
words_of head tail = head ∷ 0 ∷ 0 ∷ 0 ∷ 0 ∷ 0 ∷ 0 ∷ 0 ∷ tail ∷ []

-- ---- views

module _ {O : Type 0} where
  -- a view that is no end's, and that knows so many items to be pushed
  abbrev pub idle_view : (known : ℕ) → (all : Option ℕ) → SeatView O
  idle_view known all = record {
    pushes = false;
    pops = false;
    pushed = 0;
    popped = 0;
    putting = false;
    taking = false;
    sealed = false;
    looks = 0;
    misses = 0;
    found = 0;
    known = known;
    all = all;
    owner = None;
  }

  -- the first seat is both ends
  abbrev pub opening_view : O → SeatView O
  opening_view owner = record (idle_view 0 None) { pushes = true; pops = true; owner = Some owner }

  abbrev pub producer_of : SeatView O → SeatView O
  producer_of v = record v { pops = false }

  abbrev pub consumer_of : SeatView O → SeatView O
  consumer_of v = record v { pushes = false }

  -- a note keeps what was pushed
  abbrev pub note_view : SeatView O → SeatView O
  note_view v = idle_view v.pushed None

  -- no push follows
  abbrev pub sealed_of : SeatView O → SeatView O
  sealed_of v = record v { sealed = true }

  -- and then a note keeps all that is ever pushed
  abbrev pub last_note_view : SeatView O → SeatView O
  last_note_view v = idle_view v.pushed (Some v.pushed)

  abbrev pub spent : SeatView O
  spent = idle_view 0 None

  abbrev pub view_after_learn : SeatView O → SeatView O → SeatView O
  view_after_learn v w = record v { known = max v.known w.known; all = first_told w.all v.all }

  -- a look at the tail, which counts
  abbrev pub view_after_look : SeatView O → ℕ → SeatView O
  view_after_look v found = record v { known = found; looks = v.looks + 1 }

  abbrev pub view_after_miss : SeatView O → ℕ → SeatView O
  view_after_miss v found = record (view_after_look v found) { misses = v.misses + 1 }

-- ---- the rule

-- what stands in the words, and what the two ends are at
pub record RingState : Type 0 where
  pub head : ℕ
  pub tail : ℕ
  -- the seats of the ends
  pub writer : ℕ
  pub reader : ℕ
  -- whether a slot is out with an end
  pub putting : Bool
  pub taking : Bool
  -- no push follows
  pub sealed : Bool

-- what a seat knows is so
abbrev pub SeatKnows : {O : Type 0} → O → RingState → ℕ → SeatView O → Type 0
SeatKnows owner p j v =
    (v.pushes ≡ true → (j ≡ p.writer) × (v.pushed ≡ p.tail) × (v.putting ≡ p.putting) × (v.sealed ≡ p.sealed) × (v.owner ≡ Some owner) × (v.found ≤ p.head))
    × (v.pops ≡ true → (j ≡ p.reader) × (v.popped ≡ p.head) × (v.taking ≡ p.taking) × (v.owner ≡ Some owner))
    × (v.known ≤ p.tail)
    × ForSome v.all (λ n. (n ≡ p.tail) × (p.sealed ≡ true))

module _ {E O : Type 0} (index : E → ℕ) (of : E → O) (HasRoom : O → ℕ → Type 0) (owner : O) (size : ℕ) where
  -- head and tail are at most one turn apart, and no more is pushed than the segment has room for
  pub record AreCounts (p : RingState) : Type 0 where
    pub some_size : 0 < size
    pub order : p.head ≤ p.tail
    pub room : p.tail ≤ p.head + size
    pub puts : p.putting ≡ true → p.tail < p.head + size
    pub takes : p.taking ≡ true → p.head < p.tail
    pub inside : HasRoom owner p.tail

  -- between head and tail the items stand in their slots, save one that is out; the other slots are free
  pub record AreSlots (p : RingState) (homes : List (Maybe (Option E))) : Type 0 where
    pub count : length homes ≡ size
    pub full : (i : ℕ) → p.head ≤ i → i < p.tail → ¬ ((p.taking ≡ true) × (i ≡ p.head))
        → (e : E) × (get_elem? homes (i % size) ≡ some (some (Some e))) × (index e ≡ i) × (of e ≡ owner)
    pub free : (i : ℕ) → p.tail ≤ i → i < p.head + size → ¬ ((p.putting ≡ true) × (i ≡ p.tail))
        → (x : Option E) × (get_elem? homes (i % size) ≡ some (some x))

  pub record IsRing (s : State (Option E) (SeatView O)) : Type 0 where
    pub at : RingState
    pub words : s.words ≡ words_of at.head at.tail
    pub counts : AreCounts at
    pub slots : AreSlots at s.homes
    pub each : (j : ℕ) (v : SeatView O) → get_elem? s.views j ≡ some v → SeatKnows owner at j v

-- ---- what a step tells

module _ {E O : Type 0} where
  -- The head was read. Where a slot is free, the next one came; or else the ring was full.
  abbrev pub saw_head : Step (Option E) → Me (Option E) (SeatView O) → ℕ → Me (Option E) (SeatView O) → Type 0
  saw_head st m found m' =
      (found ≤ m.0.pushed)
      × (m.0.pushed < found + st.slots → (x : Option E) × (m' ≡ (record m.0 { putting = true; looks = m.0.looks + 1; found = found }, (m.0.pushed % st.slots, x) ∷ m.1)))
      × (found + st.slots ≤ m.0.pushed → (m.0.pushed ≡ found + st.slots) × (m' ≡ (record m.0 { looks = m.0.looks + 1; misses = m.0.misses + 1; found = found }, m.1)))
      × (m.0.found ≤ found)

  -- the item went into its slot, and the tail went on
  abbrev pub put : Step (Option E) → Me (Option E) (SeatView O) → ℕ → Me (Option E) (SeatView O) → Type 0
  put st m found m' = m' ≡ (record m.0 { putting = false; pushed = m.0.pushed + 1 }, rest m.1)

  -- the slot went back without its item, and the head went on
  abbrev pub took : Step (Option E) → Me (Option E) (SeatView O) → ℕ → Me (Option E) (SeatView O) → Type 0
  took st m found m' = m' ≡ (record m.0 { taking = false; popped = m.0.popped + 1 }, rest m.1)

module _ {O : Type 0} (HasRoom : O → ℕ → Type 0) where
  -- what a consumer knows, against the tail that it found
  abbrev pub Bounds : SeatView O → ℕ → Type 0
  Bounds v found =
      (v.popped ≤ found) × (v.known ≤ found) × ForSome v.all (λ n. n ≡ found) × ForSome v.owner (λ o. HasRoom o found)

  module _ {E : Type 0} where
    -- the tail was read, and no more
    abbrev pub saw_tail : Step (Option E) → Me (Option E) (SeatView O) → ℕ → Me (Option E) (SeatView O) → Type 0
    saw_tail st m found m' =
        Bounds m.0 found
        × (m.0.popped < found → m' ≡ (view_after_look m.0 found, m.1))
        × (found ≤ m.0.popped → m' ≡ (view_after_miss m.0 found, m.1))

    -- the tail was read after a note was learnt
    abbrev pub heard : Step (Option E) → Me (Option E) (SeatView O) → ℕ → Me (Option E) (SeatView O) → Type 0
    heard st m found m' = Bounds m.0 found × (m' ≡ (record m.0 { looks = m.0.looks + 1 }, m.1))

    -- The tail was read. Where an item is there, its slot came with it; or else the ring was empty.
    abbrev pub reached : (E → ℕ) → (E → O) → Step (Option E) → Me (Option E) (SeatView O) → ℕ → Me (Option E) (SeatView O) → Type 0
    reached index of st m found m' =
        Bounds m.0 found
        × (m.0.popped < found → (e : E) × (m' ≡ (record (view_after_look m.0 found) { taking = true }, (m.0.popped % st.slots, Some e) ∷ m.1)) × (index e ≡ m.0.popped) × (m.0.owner ≡ Some (of e)))
        × (found ≤ m.0.popped → m' ≡ (view_after_miss m.0 found, m.1))
