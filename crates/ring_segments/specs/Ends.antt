-- The ends of a segment, links and notes, as contracts see them.
use Rattle.std.specs.Prelude.{◌≡◌, ℕ, ◌+◌, ◌≤◌, ◌⊎◌, Option, Some, None, max}
use Rattle.std.specs.Option.{ForSome}
use Rattle.atomic_table.specs.Seated.{TableId}
use Rattle.swan_model.specs.Values.{COUNT_MOST}
use Rattle.ring_segments.specs.Tags.{SegmentId}

-- what the first tells, or else the second
abbrev pub first_told : Option ℕ → Option ℕ → Option ℕ
first_told (Some n) other = Some n
first_told None other = other

-- what a segment shows at each of its ends
pub record SegmentShown : Type 0 where
  pub id : SegmentId
  -- the caller's own number for it
  pub key : ℕ
  -- how many items its ring takes
  pub size : ℕ
  -- what no other segment has
  pub table : TableId

pub record ProducerState : Type 0 where
  pub of : SegmentShown
  -- how many items it has pushed
  pub pushed : ℕ
  -- how often it has looked how much was popped, and how often the ring was full then
  pub looks : ℕ
  pub fulls : ℕ
  -- and how much it found at its last look
  pub found : ℕ

pub record ConsumerState : Type 0 where
  pub of : SegmentShown
  -- how many items it has popped
  pub popped : ℕ
  -- so many, at least, it knows to have been pushed: what it found at its last look, or what a note told since then
  pub known : ℕ
  -- how many are ever pushed, where it has learnt that
  pub all : Option ℕ
  -- how often it has looked how much was pushed, and how often the ring was empty then
  pub looks : ℕ
  pub empties : ℕ

pub record LinkState : Type 0 where
  pub of : SegmentShown
  -- how many items its spent producer has pushed
  pub pushed : ℕ
  -- the consumer of the next segment
  pub next : ConsumerState

pub record NoteState : Type 0 where
  pub table : TableId
  -- how many items its producer had pushed
  pub keeps : ℕ
  -- how many it ever pushes, where the note came from a link, so that no push follows
  pub all : Option ℕ

abbrev pub new_producer : SegmentShown → ProducerState
new_producer of = record { of = of; pushed = 0; looks = 0; fulls = 0; found = 0 }

abbrev pub new_consumer : SegmentShown → ConsumerState
new_consumer of = record { of = of; popped = 0; known = 0; all = None; looks = 0; empties = 0 }

-- a push after which there is one item more, which found so many popped
abbrev pub after_push : ProducerState → (popped : ℕ) → ProducerState
after_push old popped = record old { pushed = old.pushed + 1; looks = old.looks + 1; found = popped }

-- A push was refused: it looked once, and found that as many items as the ring takes were pushed and not popped.
pub record WasFull (old new : ProducerState) : Type 0 where
  pub state : new ≡ record old { looks = old.looks + 1; fulls = old.fulls + 1; found = new.found }
  pub risen : old.found ≤ new.found
  pub full : old.pushed ≡ new.found + old.of.size

-- A push was refused: the ring was full; or its count has no next number.
abbrev pub WasRefused : ProducerState → ProducerState → Type 0
WasRefused old new =
    WasFull old new ⊎ ((old.pushed ≡ COUNT_MOST) × (new ≡ old))

-- a look that found so many items pushed
abbrev pub after_look : ConsumerState → (pushed : ℕ) → ConsumerState
after_look old pushed = record old { known = pushed; looks = old.looks + 1 }

-- A look found the ring empty, so nothing is known to be pushed that isn't popped.
pub record WasEmpty (old new : ConsumerState) : Type 0 where
  pub state : new ≡ record (after_look old old.popped) { empties = old.empties + 1 }
  pub known : old.known ≤ old.popped

-- after a pop that gave an item
abbrev pub after_pop : ConsumerState → (pushed : ℕ) → ConsumerState
after_pop old pushed = record (after_look old pushed) { popped = old.popped + 1 }

-- the note that a producer, and that a spent producer, gives
abbrev pub note_of : SegmentShown → ℕ → NoteState
note_of of pushed = record { table = of.table; keeps = pushed; all = None }

abbrev pub last_note_of : SegmentShown → ℕ → NoteState
last_note_of of pushed = record { table = of.table; keeps = pushed; all = Some pushed }

-- what is known after a note
abbrev pub after_learn : ConsumerState → NoteState → ConsumerState
after_learn old note =
    record old { known = max old.known note.keeps; all = first_told note.all old.all; looks = old.looks + 1 }

-- no more was popped than is ever pushed, where that is known
abbrev pub HasNotPassed : ConsumerState → Type 0
HasNotPassed c = ForSome c.all (λ n. c.popped ≤ n)

abbrev pub link_of : ProducerState → ConsumerState → LinkState
link_of producer next = record { of = producer.of; pushed = producer.pushed; next = next }
