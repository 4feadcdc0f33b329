-- What the calls and the laws say of renamed objects that follow a script and a reading, and of their places.
use Rattle.std.specs.Prelude.{◌≡◌, ◌≢◌, ◌⊎◌, ℕ, ◌∷◌, ◌++◌, ◌<◌, true, List, [], None, Some, length, slice_get}
use Rattle.swan_model.specs.declared.origin.Origin.{Origin}
use Rattle.swan_model.specs.declared.rights.Mode.{Mode}
use Rattle.swan_model.specs.declared.rights.Mode.TheVariants.{Out}
use Rattle.swan_model.specs.declared.script.Deed.TheVariants as deed
use Rattle.swan_model.specs.declared.script.Script.{Script}
use Rattle.swan_model.specs.declared.value.Value.{Value}
use Rattle.swan_model.specs.Lawful.{IsLawful}
use Rattle.swan_model.specs.Readings.{next_deed}
use Rattle.swan_model.specs.Rights.{allows}
use Rattle.swan_model.specs.SerialTime.{Progress, Reading, frame_of, times}
use Rattle.swan_model.specs.Versions.{Awaits, Placed, VersionState, owed, placed_at}
use Rattle.swan_model.specs.VersionsFollow.{Access, IsGiving, ObjectsFollow}

-- ---- places

-- another place, of this frame or of another one
abbrev pub IsElsewhere : (other at frame place : ℕ) → Type 0
IsElsewhere other at frame place = (other ≢ frame) ⊎ (at ≢ place)

-- the frame waits for no version that it was given to read
abbrev pub WaitsForNone : VersionState → (number : ℕ) → Type 0
WaitsForNone state number = (place owing : ℕ) → ¬ Awaits state number place owing

-- the frame has the object at a place where it may write it
abbrev pub MayWrite : VersionState → (number object : ℕ) → Type 0
MayWrite state number object = (place : ℕ) × (has : Placed) × (placed_at state number place ≡ Some has) × (has.object ≡ object) × (allows has.mode Out ≡ true)

-- no child of the frame has a place
abbrev pub ChildrenHaveNone : VersionState → Reading → Progress → Type 0
ChildrenHaveNone state r frame =
    (number index : ℕ) (child : Progress) → frame_of r number ≡ Some child → child.path ≡ frame.path ++ index ∷ [] → (place : ℕ) → placed_at state number place ≡ None

-- a frame's object at one place, that a child gets at another one
abbrev pub access_of : (place child_place : ℕ) → Mode → Access
access_of place child_place mode = record { place = place; child_place = child_place; mode = mode }

-- ---- which ones

-- what holds of renamed objects that follow a lawful script and a reading, and of the frame of this number
abbrev pub OnFollowing : VersionState → (number : ℕ) → (Script → Reading → Progress → Type 0) → Type 0
OnFollowing state number Holds =
    (s : Script) (r : Reading) (frame : Progress) → IsLawful s → ObjectsFollow s r state → frame_of r number ≡ Some frame → Holds s r frame

-- and meanwhile, as another frame gives a third one its objects: some of the accesses are made, and some are left
abbrev pub OnMeanwhile : VersionState → (number : ℕ)
    → (Script → Reading → Progress → (giver : Progress) → (child : ℕ) → (made left : List Access) → Type 0) → Type 0
OnMeanwhile state number Holds =
    (s : Script) (r : Reading) (frame giver : Progress) (child : ℕ) (made left : List Access) → IsLawful s
    → number ≢ giver.number → number ≢ child → IsGiving s r state giver child made left → frame_of r number ≡ Some frame → Holds s r frame giver child made left

-- by its next entry the frame writes this value to the object that it has at a place, where it may write it
abbrev pub NextWrites : Script → Reading → VersionState → (number place : ℕ) → Value → Progress → Type 0
NextWrites s r state number place value frame =
    (object : Placed) × (origin : Origin) × (placed_at state number place ≡ Some object) × (allows object.mode Out ≡ true)
    × (slice_get r.objects object.object ≡ Some origin) × (next_deed s frame ≡ Some (deed.Write origin value))

-- what holds as a frame gives a child one of its objects: some of the accesses are made, this one is next, and some are left
abbrev pub OnAccess : VersionState → (parent child : ℕ) → Access
    → (Script → Reading → (giver : Progress) → (made left : List Access) → Type 0) → Type 0
OnAccess state parent child access Holds =
    (s : Script) (r : Reading) (giver : Progress) (made left : List Access) → IsLawful s → frame_of r parent ≡ Some giver
    → IsGiving s r state giver child made (access ∷ left) → Holds s r giver made left

-- and where this is the last one
abbrev pub OnLastAccess : VersionState → (parent child : ℕ) → Access
    → (Script → Reading → (giver : Progress) → (made : List Access) → Type 0) → Type 0
OnLastAccess state parent child access Holds =
    (s : Script) (r : Reading) (giver : Progress) (made : List Access) → IsLawful s → frame_of r parent ≡ Some giver
    → IsGiving s r state giver child made (access ∷ []) → Holds s r giver made

-- and meanwhile, as another frame gives another child its objects
abbrev pub OnOtherGiving : Script → Reading → VersionState → (parent child : ℕ)
    → ((giver : Progress) → (other : ℕ) → (made left : List Access) → Type 0) → Type 0
OnOtherGiving s r state parent child Holds =
    (giver : Progress) (other : ℕ) (made left : List Access) → frame_of r giver.number ≡ Some giver → parent ≢ giver.number → child ≢ other
    → IsGiving s r state giver other made left → Holds giver other made left

-- A frame that has an entry left has a version, or was given one to read, that another one owes.
abbrev pub OnAwaited : (Script → Reading → Progress → (owing : ℕ) → Type 0) → Type 0
OnAwaited Holds =
    (s : Script) (r : Reading) (state : VersionState) (n place owing : ℕ) (frame : Progress) (object : Placed)
    → IsLawful s → ObjectsFollow s r state → frame_of r n ≡ Some frame → frame.done < length (times s frame.path)
    → placed_at state n place ≡ Some object → (object.present ≡ owed owing) ⊎ (object.given ≡ Some owing) → Holds s r frame owing
