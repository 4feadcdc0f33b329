-- Renamed objects, as plain data. Each frame has a version of each of its objects. A version has a value, or it is
-- owed by a frame, which settles it when it ends. Where a child is given an object to write, its parent gets a
-- new version, which the child owes. So nobody who writes an object waits for those who read it.
use Rattle.std.specs.Prelude.{◌≡◌, ℕ, ◌+◌, ◌==◌, ◌&&◌, ◌||◌, not, Bool, true, Option, Some, None, List, [], map, filter, find, if◌then◌else◌, unwrap_or}
use Rattle.std.specs.BTreeMap.{is_at, insert_entry}
use Rattle.std.specs.Map.{lookup, set_value}
use Rattle.std.specs.Option.{option_map}
use Rattle.std.specs.Ordering.{nat_cmp, ordering_then}
use Rattle.std.specs.declared.cmp.Ordering.{Ordering}
use Rattle.swan_model.specs.declared.rights.Mode.{Mode}
use Rattle.swan_model.specs.declared.rights.Mode.TheVariants.{In, Out, InOut}
use Rattle.swan_model.specs.declared.value.Kind.{Kind}
use Rattle.swan_model.specs.declared.value.Value.{Value}
use Rattle.swan_model.specs.Rights.{allows}
use Rattle.swan_model.specs.Values.{kind_of, zero_of}

-- a version: its value, or the frame that owes it
pub data Version : Type 0 where
  settled : Value → Version
  owed : (frame : ℕ) → Version

-- what a frame has of an object
pub record Placed : Type 0 where
  -- which object it is, by the number of objects that were made before
  pub object : ℕ
  -- the kind of the object's first value
  pub kind : Kind
  -- how the frame may use it
  pub mode : Mode
  -- the frame that still owes the version that it was given to read, where one does
  pub given : Option ℕ
  pub present : Version

-- by frame and place, in rising order
abbrev pub Places : Type 0
Places = List ((ℕ × ℕ) × Placed)

pub record VersionState : Type 0 where
  pub places : Places
  -- how many objects were made
  pub made : ℕ

-- frames and their places in order: by the frame, and then by the place
abbrev pub place_cmp : ℕ × ℕ → ℕ × ℕ → Ordering
place_cmp a b = ordering_then (nat_cmp a.0 b.0) (nat_cmp a.1 b.1)

-- what a frame has at a place
abbrev pub placed_at : VersionState → ℕ → ℕ → Option Placed
placed_at state frame place = lookup (is_at (place_cmp (frame, place))) state.places

abbrev pub with_placed : VersionState → ℕ → ℕ → Placed → VersionState
with_placed state frame place placed = record state { places = insert_entry place_cmp state.places (frame, place) placed }

-- the version that a frame has at a place is another one now
abbrev pub with_present : VersionState → ℕ → ℕ → Placed → Version → VersionState
with_present state frame place placed version =
    record state { places = set_value (is_at (place_cmp (frame, place))) state.places (record placed { present = version }) }

abbrev pub new_versions : VersionState
new_versions = record { places = []; made = 0 }

-- after a frame made an object with this value: it may read and write it
abbrev pub objects_after_create : VersionState → (frame place : ℕ) → Value → VersionState
objects_after_create state frame place value =
    let object : Placed = record { object = state.made; kind = kind_of value; mode = InOut; given = None; present = settled value } in
    record (with_placed state frame place object) { made = state.made + 1 }

-- the frame that owes a version, where one does
abbrev pub owing : Version → Option ℕ
owing (settled value) = None
owing (owed frame) = Some frame

-- What a child gets of its parent's object: to read, the parent's version, and else a version of its own, which has the
-- zero of the object's kind.
abbrev pub got : Placed → Mode → Placed
got object Out = record object { mode = Out; given = None; present = settled (zero_of object.kind) }
got object mode = record object { mode = mode; given = owing object.present }

-- the version that a parent has then: where the child may write, one that the child owes
abbrev pub left_with : Placed → (child : ℕ) → Mode → Version
left_with object child mode = if allows mode Out then owed child else object.present

abbrev pub given_from : VersionState → (parent place child child_place : ℕ) → Mode → Option Placed → VersionState
given_from state parent place child child_place mode None = state
given_from state parent place child child_place mode (Some object) =
    with_placed (with_present state parent place object (left_with object child mode)) child child_place (got object mode)

-- after a parent gave a child the object at its place, by this mode
abbrev pub after_access : VersionState → (parent place child child_place : ℕ) → Mode → VersionState
after_access state parent place child child_place mode =
    given_from state parent place child child_place mode (placed_at state parent place)

abbrev pub written_at : VersionState → (frame place : ℕ) → Value → Option Placed → VersionState
written_at state frame place value None = state
written_at state frame place value (Some object) = with_present state frame place object (settled value)

-- after a frame wrote the object at a place
abbrev pub after_write : VersionState → (frame place : ℕ) → Value → VersionState
after_write state frame place value = written_at state frame place value (placed_at state frame place)

-- whether a frame may write this object at this place
abbrev pub may_write : (frame object : ℕ) → (ℕ × ℕ) × Placed → Bool
may_write frame object entry = (entry.0.0 == frame) && ((entry.1.object == object) && allows entry.1.mode Out)

-- The version of an object that a frame leaves when it ends: its present one, where it may write the object.
abbrev pub left_by : VersionState → (frame object : ℕ) → Option Version
left_by state frame object = option_map (λ entry. entry.1.present) (find (may_write frame object) state.places)

-- a version of an object once a frame has ended: what the frame leaves, where it owed this one
abbrev pub settle : VersionState → (frame object : ℕ) → Version → Version
settle state frame object (settled value) = settled value
settle state frame object (owed other) =
    if other == frame then unwrap_or (left_by state frame object) (owed other) else owed other

-- whether a frame still owes what another was given to read, once this one has ended
abbrev pub still_owing : ℕ → Option ℕ → Option ℕ
still_owing frame None = None
still_owing frame (Some other) = if other == frame then None else Some other

abbrev pub settle_placed : VersionState → ℕ → Placed → Placed
settle_placed state frame object = record object {
  given = still_owing frame object.given;
  present = settle state frame object.object object.present;
}

-- whether a place is still kept once a frame has ended: those of the root are
abbrev pub stays : ℕ → (ℕ × ℕ) × Placed → Bool
stays frame entry = (frame == 0) || not (entry.0.0 == frame)

-- after a frame has ended, whose versions all have their values
abbrev pub objects_after_finish : VersionState → ℕ → VersionState
objects_after_finish state frame =
    record state { places = map (λ entry. (entry.0, settle_placed state frame entry.1)) (filter (stays frame) state.places) }

-- ---- what the calls ask for, and what they answer

-- a frame has an object at this place, and may use it by this mode
pub record Holds (state : VersionState) (frame place : ℕ) (mode : Mode) : Type 0 where
  pub object : Placed
  pub stands : placed_at state frame place ≡ Some object
  pub may : allows object.mode mode ≡ true

-- A frame that has an object already may be given it once more only to read, and only where it has it to read alone.
pub record MayGet (state : VersionState) (child object : ℕ) (mode : Mode) : Type 0 where
  pub alone : (place : ℕ) (has : Placed) → placed_at state child place ≡ Some has → has.object ≡ object → (has.mode ≡ In) × (mode ≡ In)

-- each version that a frame has at a place has its value
pub record IsSettled (state : VersionState) (frame : ℕ) : Type 0 where
  pub values : (place : ℕ) (object : Placed) → placed_at state frame place ≡ Some object → (value : Value) × (object.present ≡ settled value)

-- at this place the frame was given a version to read that another one still owes
pub record Awaits (state : VersionState) (frame place owing : ℕ) : Type 0 where
  pub object : Placed
  pub stands : placed_at state frame place ≡ Some object
  pub owes : object.given ≡ Some owing
