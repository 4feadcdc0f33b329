-- A segment, and the seats of its ends, as the code has them.
use Rattle.std.specs.Prelude.{◌≡◌, ℕ, ◌<◌, true, false, [], Option, Some}
use Rattle.atomic_table.specs.declared.shared.Seat.{Seat}
use Rattle.ring_segments.specs.declared.rule.SeatView.{SeatView}
use Rattle.ring_segments.specs.declared.ring.Ring.{Ring}
use Rattle.ring_segments.specs.Ends.{SegmentShown, ProducerState, ConsumerState, NoteState}
use Rattle.ring_segments.specs.Entries.{IndexedItem}
use Rattle.ring_segments.specs.Seating.{id_of}
use Rattle.ring_segments.specs.Tags.{SegmentId}

abbrev pub RingSeat : Type 0
RingSeat = Seat (Option IndexedItem) (SeatView SegmentId)

-- a segment whose table was made for it
pub record HasTable (ring : Ring) : Type 0 where
  pub words : ring.table.shared.table_id.words ≡ 9
  pub slots : ring.table.shared.table_id.slots ≡ ring.about.size
  pub some_size : 0 < ring.about.size

-- a seat of the segment, with no slot
pub record Sits (ring : Ring) (seat : RingSeat) : Type 0 where
  pub made : HasTable ring
  pub table : seat.table_id ≡ ring.table.shared.table_id
  pub owner : seat.me.0.owner ≡ Some (id_of ring.about)
  pub empty : seat.me.1 ≡ []

-- the seat of a producer that has pushed so many items
pub record IsPushing (ring : Ring) (seat : RingSeat) (pushed : ℕ) : Type 0 where
  pub sits : Sits ring seat
  pub pushes : seat.me.0.pushes ≡ true
  pub idle : seat.me.0.putting ≡ false
  pub count : seat.me.0.pushed ≡ pushed

-- the seat of a consumer that has popped so many
pub record IsPopping (ring : Ring) (seat : RingSeat) (popped : ℕ) : Type 0 where
  pub sits : Sits ring seat
  pub pops : seat.me.0.pops ≡ true
  pub idle : seat.me.0.taking ≡ false
  pub count : seat.me.0.popped ≡ popped

-- what an end of the segment shows of it
abbrev pub shown_of : Ring → SegmentShown
shown_of ring = record { id = id_of ring.about; key = ring.about.key; size = ring.about.size; table = ring.table.shared.table_id }

abbrev pub producer_state : Ring → SeatView SegmentId → ProducerState
producer_state ring v = record { of = shown_of ring; pushed = v.pushed; looks = v.looks; fulls = v.misses; found = v.found }

abbrev pub consumer_state : Ring → SeatView SegmentId → ConsumerState
consumer_state ring v = record {
  of = shown_of ring;
  popped = v.popped;
  known = v.known;
  all = v.all;
  looks = v.looks;
  empties = v.misses;
}

abbrev pub note_state : RingSeat → NoteState
note_state seat = record { table = seat.table_id; keeps = seat.me.0.known; all = seat.me.0.all }
