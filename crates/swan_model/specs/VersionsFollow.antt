-- Renamed objects that follow a script and a reading. What they have at a frame is what the elision has at the
-- frame's point, whatever other frames have done by then.
use Rattle.std.specs.Prelude.{◌≡◌, ◌≢◌, ℕ, ◌⊎◌, ◌≤◌, ◌<◌, not, Bool, true, false, Option, Some, None, List, [], ◌∷◌, ◌++◌, IsTrue, map, filter, length, slice_get}
use Rattle.std.specs.List.Sorted.{IsStrictlySortedBy}
use Rattle.std.specs.Map.{keys_of}
use Rattle.std.specs.Option.{option_map, option_and_then}
use Rattle.swan_model.specs.declared.origin.Origin.{Origin}
use Rattle.swan_model.specs.declared.origin.Origin.TheVariants.{Root, Step}
use Rattle.swan_model.specs.declared.rights.Mode.{Mode}
use Rattle.swan_model.specs.declared.rights.Mode.TheVariants.{In, Out}
use Rattle.swan_model.specs.declared.script.Deed.{Deed}
use Rattle.swan_model.specs.declared.script.Deed.TheVariants as deed
use Rattle.swan_model.specs.declared.script.OriginGive.{OriginGive}
use Rattle.swan_model.specs.declared.script.Script.{Script}
use Rattle.swan_model.specs.declared.value.Value.{Value}
use Rattle.swan_model.specs.Granted.{holds, may_use}
use Rattle.swan_model.specs.Nested.{HasTasks}
use Rattle.swan_model.specs.Readings.{end_time, next_deed}
use Rattle.swan_model.specs.Rights.{allows, is_queue_mode}
use Rattle.swan_model.specs.SerialTime.{Progress, Reading, frame_of, is_done, point, time}
use Rattle.swan_model.specs.Told.{cell, first_value}
use Rattle.swan_model.specs.Values.{kind_of, zero_of}
use Rattle.swan_model.specs.Versions.{Version, settled, owed, Placed, VersionState, place_cmp, owing, placed_at}

-- A version is right for an object at a time where it is settled by the value that the object has then; or where it is owed,
-- the frame that owes it ends by then, and the object has then what it had at that end. (Of a frame that the reading doesn't
-- have yet nothing is said.)
abbrev pub IsVersionAt : Script → Reading → Origin → ℕ → Version → Type 0
IsVersionAt s r origin t (settled value) = cell s origin t ≡ Some value
IsVersionAt s r origin t (owed frame) =
    (owing : Progress) → frame_of r frame ≡ Some owing
    → (end_time s owing.path ≤ t) × (cell s origin (end_time s owing.path) ≡ cell s origin t)

-- what is said of an object of this origin, which a frame of the reading has at a place
pub record FollowsAt (s : Script) (r : Reading) (frame : Progress) (object : Placed) (origin : Origin) : Type 0 where
  -- the present version is what the elision has at the frame's point
  pub present : IsVersionAt s r origin (point s frame) object.present
  -- a version that it was given to read, and that is still owed, is what the elision has where the frame begins
  pub given : (number : ℕ) → object.given ≡ Some number → IsVersionAt s r origin (time s frame.path 0) (owed number)
  -- a present version that is owed is that one, or a child of the frame owes it
  pub owed_by : (number : ℕ) (owing : Progress) → object.present ≡ owed number → frame_of r number ≡ Some owing
      → (object.given ≡ Some number) ⊎ ((index : ℕ) × (owing.path ≡ frame.path ++ index ∷ []))
  -- the frame holds it so in the script too
  pub held : may_use (holds s frame.path (point s frame)) object.mode origin ≡ true
  -- its kind is that of its first value
  pub first : Value
  pub begins : first_value s origin ≡ Some first
  pub kind : object.kind ≡ kind_of first

-- The renamed objects follow a script and a reading.
pub record ObjectsFollow (s : Script) (r : Reading) (state : VersionState) : Type 0 where
  -- the frames of the reading are tasks of the script, each with the spawn of its own done
  pub tasks : HasTasks s r
  -- the root is frame 0
  pub root : (frame : Progress) × (frame_of r 0 ≡ Some frame) × (frame.path ≡ [])
  -- the reading has the objects that were made
  pub objects : length r.objects ≡ state.made
  -- a root object has the number of its place in the plan; one that a step made was made by a step that is done
  pub roots : (object index : ℕ) → slice_get r.objects object ≡ Some (Root index) → object ≡ index
  pub made : (object n : ℕ) → slice_get r.objects object ≡ Some (Step n) → IsTrue (is_done s r n)
  pub different : (object other n : ℕ) → slice_get r.objects object ≡ Some (Step n) → slice_get r.objects other ≡ Some (Step n) → object ≡ other
  -- each frame has of its objects what the elision has at the frame's point
  pub follows : (number place : ℕ) (frame : Progress) (object : Placed) (origin : Origin) → frame_of r number ≡ Some frame
      → placed_at state number place ≡ Some object → slice_get r.objects object.object ≡ Some origin → FollowsAt s r frame object origin
  -- the places are those of objects that were made, and each stands once
  pub known : (number place : ℕ) (object : Placed) → placed_at state number place ≡ Some object → object.object < state.made
  pub sorted : IsStrictlySortedBy place_cmp (keys_of state.places)
  -- an object that stands at two places of a frame may only be read there
  pub alone : (number place other : ℕ) (a b : Placed) → placed_at state number place ≡ Some a → placed_at state number other ≡ Some b
      → place ≢ other → a.object ≡ b.object → (a.mode ≡ In) × (b.mode ≡ In)
  -- who owes a version may write the object
  pub owing : (number place frame : ℕ) (object : Placed) → placed_at state number place ≡ Some object
      → (object.present ≡ owed frame) ⊎ (object.given ≡ Some frame)
      → (other : ℕ) × (has : Placed) × (placed_at state frame other ≡ Some has) × (has.object ≡ object.object) × (allows has.mode Out ≡ true)

-- ---- the accesses of one child

-- one of them: the place of the parent, that of the child, and the mode
pub record Access : Type 0 where
  pub place : ℕ
  pub child_place : ℕ
  pub mode : Mode

-- what an access gives, named by what made it
abbrev pub object_give : Reading → VersionState → ℕ → Access → Option OriginGive
object_give r state parent access =
    option_map (λ origin. record { origin = origin; mode = access.mode })
    (option_and_then (λ object. slice_get r.objects object.object) (placed_at state parent access.place))

-- whether a give is one of an object
abbrev pub is_object_give : OriginGive → Bool
is_object_give give = not (is_queue_mode give.mode)

-- The parent's next entry spawns a child and gives it these objects, in this order.
pub record NextSpawnGivesObjects (s : Script) (r : Reading) (state : VersionState) (parent : Progress) (accesses : List Access) : Type 0 where
  pub gives : List OriginGive
  pub next : next_deed s parent ≡ Some (deed.Spawn gives)
  pub objects : map (object_give r state parent.number) accesses ≡ map Some (filter is_object_give gives)

-- a child that the reading and the objects don't have yet
pub record IsNewFrame (r : Reading) (state : VersionState) (child : ℕ) : Type 0 where
  pub unread : frame_of r child ≡ None
  pub bare : (place : ℕ) → placed_at state child place ≡ None

-- What a child has by an access before its first step: a version that is what the elision has at the spawn; or, where it may only
-- write, one of its own with the zero of the object's kind.
abbrev pub Begins : Script → Reading → Origin → ℕ → Mode → Placed → Type 0
Begins s r origin t Out object = (object.present ≡ settled (zero_of object.kind)) × (object.given ≡ None)
Begins s r origin t mode object = IsVersionAt s r origin t object.present × (object.given ≡ owing object.present)

-- An access that was made for a child: the child has the parent's object, and where it may write it, it owes what the parent has.
pub record IsAccessMade (s : Script) (r : Reading) (state : VersionState) (parent : Progress) (child : ℕ) (access : Access) : Type 0 where
  pub above : Placed
  pub stands : placed_at state parent.number access.place ≡ Some above
  pub held : allows above.mode access.mode ≡ true
  pub owes : allows access.mode Out ≡ true → above.present ≡ owed child
  pub object : Placed
  pub got : placed_at state child access.child_place ≡ Some object
  pub same : object.object ≡ above.object
  pub kind : object.kind ≡ above.kind
  pub mode : object.mode ≡ access.mode
  pub origin : Origin
  pub known : slice_get r.objects object.object ≡ Some origin
  pub begins : Begins s r origin (point s parent) access.mode object

-- The parent is about to spawn a child: of the accesses that its next entry stands for, these are made and these are left. Other
-- frames may go on meanwhile. Of the child nothing is said yet, nor of what it owes.
pub record IsGiving (s : Script) (r : Reading) (state : VersionState) (parent : Progress) (child : ℕ) (made left : List Access) : Type 0 where
  pub follows : ObjectsFollow s r state
  pub unread : frame_of r child ≡ None
  pub spawn : NextSpawnGivesObjects s r state parent (made ++ left)
  pub each : (i : ℕ) (access : Access) → slice_get made i ≡ Some access → IsAccessMade s r state parent child access
  -- the child has nothing else, and owes nothing else
  pub all : (place : ℕ) (object : Placed) → placed_at state child place ≡ Some object
      → (i : ℕ) × (access : Access) × (slice_get made i ≡ Some access) × (access.child_place ≡ place)
  pub owed_by : (number place : ℕ) (object : Placed) → placed_at state number place ≡ Some object → object.present ≡ owed child
      → (number ≡ parent.number)
      × ((i : ℕ) × (access : Access) × (slice_get made i ≡ Some access) × (access.place ≡ place) × (allows access.mode Out ≡ true))
  -- and nobody was given to read what it owes
  pub ungiven : (number place : ℕ) (object : Placed) → placed_at state number place ≡ Some object → object.given ≢ Some child

-- whether a deed changes what the objects keep by itself; a spawn is told to them by its accesses, and isn't one of these
abbrev pub is_object_deed : Deed → Bool
is_object_deed (deed.MakeObject value) = true
is_object_deed (deed.Write origin value) = true
is_object_deed _ = false
