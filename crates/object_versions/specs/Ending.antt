-- How what a frame owes is settled, and what it has is forgotten, where it ends.
use Rattle.std.specs.Prelude.{◌≡◌, ℕ, ◌<◌, ◌≤◌, ◌+◌, ◌==◌, Bool, not, Some, None, filter}
use Rattle.slab.specs.Slab.{Slab}
use Rattle.swan_model.specs.declared.value.Value.{Value}
use Rattle.swan_model.specs.Versions.{settled, settle, IsSettled}
use Rattle.object_versions.specs.declared.node.Node.{Node}
use Rattle.object_versions.specs.declared.placed_object.PlacedObject.{PlacedObject}
use Rattle.object_versions.specs.Store.{PlaceEntries, place_at, told_at, version_at, object_at, versions_of, uses}
use Rattle.object_versions.specs.Whole.{IsWhole}

-- ---- settling

-- at this place a frame has this version, and for it it owes that one
pub record IsDebt (entries : PlaceEntries) (frame place present owed : ℕ) : Type 0 where
  pub has : PlacedObject
  pub stands : place_at entries frame place ≡ Some has
  pub has_present : has.present ≡ present
  pub owes : has.owes ≡ Some owed

-- nothing is owed for this place,
abbrev pub IsPaid : PlacedObject → Type 0
IsPaid has = has.owes ≡ None

-- nor for any place of a frame that is lower than this one,
abbrev pub IsPaidBelow : PlaceEntries → (frame from : ℕ) → Type 0
IsPaidBelow entries frame from = (place : ℕ) (has : PlacedObject) → place < from → place_at entries frame place ≡ Some has → IsPaid has

-- nor for any place of it
abbrev pub IsAllPaid : PlaceEntries → (frame : ℕ) → Type 0
IsAllPaid entries frame = (place : ℕ) (has : PlacedObject) → place_at entries frame place ≡ Some has → IsPaid has

-- Some of the versions that a frame owed have got the frame's values, and it owes them no more. `before` and `start` are what was kept when it
-- began to end.
pub record IsSettling (before now : PlaceEntries) (start nodes : Slab Node) (made frame : ℕ) : Type 0 where
  pub began : IsWhole before start made (λ _. 0)
  pub ready : IsSettled (versions_of before start made) frame
  pub whole : IsWhole now nodes made (λ _. 0)
  -- of what contracts see of places nothing has changed yet
  pub same : versions_of now start made ≡ versions_of before start made
  pub fewer : (key : ℕ) → uses key now ≤ uses key before
  pub objects : (key : ℕ) → 0 < uses key now → object_at nodes key ≡ object_at start key
  -- to settle what is left comes to the same as to settle all at the start
  pub versions : (key : ℕ) → 0 < uses key now
      → settle (versions_of before start made) frame (object_at start key) (version_at nodes key)
      ≡ settle (versions_of before start made) frame (object_at start key) (version_at start key)
  -- what had a value has it still
  pub stay : (key : ℕ) (value : Value) → 0 < uses key now → version_at start key ≡ settled value → version_at nodes key ≡ settled value

-- ---- forgetting

-- some who referred to keys do no more
pub record IsReleased (entries : PlaceEntries) (old new : Slab Node) (made : ℕ) (later : ℕ → ℕ) : Type 0 where
  pub whole : IsWhole entries new made later
  pub same : (key : ℕ) → 0 < uses key entries + later key → told_at new key ≡ told_at old key

-- whether a key is one of another frame
abbrev pub is_other : ℕ → (ℕ × ℕ) → Bool
is_other frame key = not (key.0 == frame)

-- the entries of the other frames
abbrev pub of_others : ℕ → PlaceEntries → PlaceEntries
of_others frame entries = filter (λ e. is_other frame e.0) entries

-- some of the places of a frame that owes nothing were forgotten
pub record IsForgetting (before now : PlaceEntries) (old new : Slab Node) (made frame : ℕ) : Type 0 where
  pub whole : IsWhole now new made (λ _. 0)
  pub paid : IsAllPaid now frame
  pub others : of_others frame now ≡ of_others frame before
  pub same : (key : ℕ) → 0 < uses key now → told_at new key ≡ told_at old key
