-- What is true of kept versions at all times.
use Rattle.std.specs.Prelude.{◌≡◌, ◌≢◌, ℕ, ◌<◌, ◌+◌, true, Option, Some}
use Rattle.std.specs.List.Sorted.{IsStrictlySortedBy}
use Rattle.std.specs.Map.{keys_of}
use Rattle.slab.specs.Slab.{Slab, get}
use Rattle.swan_model.specs.declared.rights.Mode.{Mode}
use Rattle.swan_model.specs.declared.rights.Mode.TheVariants.{In, Out}
use Rattle.swan_model.specs.Rights.{allows}
use Rattle.swan_model.specs.Versions.{VersionState, owed, place_cmp}
use Rattle.object_versions.specs.declared.node.Node.{Node}
use Rattle.object_versions.specs.declared.placed_object.PlacedObject.{PlacedObject}
use Rattle.object_versions.specs.declared.store.VersionStore.{VersionStore}
use Rattle.object_versions.specs.Store.{PlaceEntries, place_at, version_at, object_at, KeepsOwed, uses, uses_in, versions_of}

-- Each version counts exactly those who refer to it, and is there only while someone does.
pub record IsCounted (nodes : Slab Node) (count : ℕ → ℕ) : Type 0 where
  pub exact : (key : ℕ) → uses_in (get nodes key) ≡ count key
  pub live : (key : ℕ) (node : Node) → get nodes key ≡ Some node → 0 < node.uses

-- a version that a frame owes for a place of it
pub record IsOwing (nodes : Slab Node) (frame : ℕ) (place : PlacedObject) (key : ℕ) : Type 0 where
  pub same : object_at nodes key ≡ place.object
  pub may : allows place.mode Out ≡ true
  pub by : version_at nodes key ≡ owed frame

-- a place and its versions, which are all of its object
pub record IsFit (nodes : Slab Node) (made frame : ℕ) (place : PlacedObject) : Type 0 where
  pub known : place.object < made
  pub present : object_at nodes place.present ≡ place.object
  pub given : (key : ℕ) → place.given ≡ Some key → object_at nodes key ≡ place.object
  -- what was given to read may be read
  pub reads : (key : ℕ) → place.given ≡ Some key → allows place.mode In ≡ true
  pub owes : (key : ℕ) → place.owes ≡ Some key → IsOwing nodes frame place key

-- a place of a frame which owes a version
pub record HasOwing (entries : PlaceEntries) (key frame : ℕ) : Type 0 where
  pub place : ℕ
  pub has : PlacedObject
  pub stands : place_at entries frame place ≡ Some has
  pub owes : has.owes ≡ Some key

-- All of it. In mid-call, `held` says how often the code itself refers to a key.
pub record IsWhole (entries : PlaceEntries) (nodes : Slab Node) (made : ℕ) (held : ℕ → ℕ) : Type 0 where
  pub sorted : IsStrictlySortedBy place_cmp (keys_of entries)
  pub counted : IsCounted nodes (λ key. uses key entries + held key)
  pub fits : (frame place : ℕ) (has : PlacedObject) → place_at entries frame place ≡ Some has → IsFit nodes made frame has
  -- a version that a frame owes is owed for a place of that frame
  pub owing : (key frame : ℕ) → 0 < uses key entries → version_at nodes key ≡ owed frame → HasOwing entries key frame
  -- an object that stands at two places of a frame may only be read there
  pub alone : (frame place other : ℕ) (a b : PlacedObject) → place_at entries frame place ≡ Some a → place_at entries frame other ≡ Some b
      → place ≢ other → a.object ≡ b.object → (a.mode ≡ In) × (b.mode ≡ In)

-- ---- by the store itself, between two calls

-- nobody but places refers to a version
abbrev pub IsAtRest : VersionStore → (made : ℕ) → Type 0
IsAtRest store made = IsWhole store.places.entries store.nodes made (λ _. 0)

-- what a frame has at a place
abbrev pub kept_at : VersionStore → (frame place : ℕ) → Option PlacedObject
kept_at store frame place = place_at store.places.entries frame place

-- what is seen of it
abbrev pub seen_of : VersionStore → (made : ℕ) → VersionState
seen_of store made = versions_of store.places.entries store.nodes made

-- what was at rest is so afterwards, however many objects were made
abbrev pub StaysAtRest : (before after : VersionStore) → Type 0
StaysAtRest before after = (made : ℕ) → IsAtRest before made → IsAtRest after made

-- and this is seen of it then
abbrev pub Becomes : (before after : VersionStore) → (VersionState → VersionState) → Type 0
Becomes before after change = (made : ℕ) → IsAtRest before made → seen_of after made ≡ change (seen_of before made)

-- ---- what a write and a gift ask

-- At this place a frame has a version that nobody else has, and of what it was given it keeps only what is still owed.
pub record HasOwn (entries : PlaceEntries) (nodes : Slab Node) (frame place : ℕ) : Type 0 where
  pub has : PlacedObject
  pub stands : place_at entries frame place ≡ Some has
  pub alone : uses_in (get nodes has.present) ≡ 1
  pub given : KeepsOwed nodes has.given

-- a frame that has the object already may get it once more only to read, and only where it reads it there too
pub record MayGetAt (entries : PlaceEntries) (child object : ℕ) (mode : Mode) : Type 0 where
  pub alone : (place : ℕ) (has : PlacedObject) → place_at entries child place ≡ Some has → has.object ≡ object → (has.mode ≡ In) × (mode ≡ In)
