-- Segments and the seats of their ends, as the code has them.
use Rattle.std.specs.Prelude.{Option}
use Rattle.atomic_table.specs.Table.{State}
use Rattle.ring_segments.specs.declared.rule.About.{About}
use Rattle.ring_segments.specs.declared.rule.SeatView.{SeatView}
use Rattle.ring_segments.specs.Entries.{IndexedItem}
use Rattle.ring_segments.specs.Tags.{HasRoomFor, SegmentId, tag_of}
use Rattle.ring_segments.specs.Words.{IsRing, opening_view}

abbrev pub id_of : About → SegmentId
id_of about = record { name = about.name; tag = tag_of about.tag }

-- the rule of a segment's table
abbrev pub IsRingOf : About → State (Option IndexedItem) (SeatView SegmentId) → Type 0
IsRingOf about = IsRing (λ e. e.index) (λ e. e.of) HasRoomFor (id_of about) about.size

abbrev pub first_view : About → SeatView SegmentId
first_view about = opening_view (id_of about)
