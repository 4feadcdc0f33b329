-- How versions are kept: in a slab, each under a key, with the object that it is a version of and how often places
-- refer to it. A place refers to the version that its frame was given, to the present one, and to the one that it owes.
use Rattle.std.specs.Prelude.{ℕ, ◌+◌, ◌-◌, ◌==◌, nat_lt, Option, Some, None, IsSome, List, map, sum_by, if◌then◌else◌}
use Rattle.std.specs.BTreeMap.{is_at}
use Rattle.std.specs.Map.{lookup, values_of}
use Rattle.slab.specs.Slab.{Slab, get}
use Rattle.swan_model.specs.Versions.{Version, settled, owed, owing, Placed, VersionState, place_cmp}
use Rattle.object_versions.specs.declared.node.Node.{Node}
use Rattle.object_versions.specs.declared.node.NodeState.{NodeState}
use Rattle.object_versions.specs.declared.node.NodeState.TheVariants.{Settled, Owed}
use Rattle.object_versions.specs.declared.placed_object.PlacedObject.{PlacedObject}

-- what is kept of each place, by frame and place in rising order
abbrev pub PlaceEntries : Type 0
PlaceEntries = List ((ℕ × ℕ) × PlacedObject)

-- what is kept of a frame's place
abbrev pub place_at : PlaceEntries → ℕ → ℕ → Option PlacedObject
place_at entries frame place = lookup (is_at (place_cmp (frame, place))) entries

-- ---- what places and keys stand for

abbrev pub version_of : NodeState → Version
version_of (Settled value) = settled value
version_of (Owed frame) = owed frame

-- the object of a node and its version; where there is no node, it does not matter which
abbrev pub told_of : Option Node → ℕ × Version
told_of None = (0, owed 0)
told_of (Some node) = (node.object, version_of node.state)

abbrev pub told_at : Slab Node → ℕ → ℕ × Version
told_at nodes key = told_of (get nodes key)

abbrev pub version_at : Slab Node → ℕ → Version
version_at nodes key = (told_at nodes key).1

abbrev pub object_at : Slab Node → ℕ → ℕ
object_at nodes key = (told_at nodes key).0

-- the frame that still owes what was given, where one does
abbrev pub given_of : Slab Node → Option ℕ → Option ℕ
given_of nodes None = None
given_of nodes (Some key) = owing (version_at nodes key)

-- of what was given only what a frame still owes is kept
abbrev pub KeepsOwed : Slab Node → Option ℕ → Type 0
KeepsOwed nodes given = IsSome given → IsSome (given_of nodes given)

abbrev pub placed_of : Slab Node → PlacedObject → Placed
placed_of nodes place = record {
  object = place.object;
  kind = place.kind;
  mode = place.mode;
  given = given_of nodes place.given;
  present = version_at nodes place.present;
}

abbrev pub seen : Slab Node → (ℕ × ℕ) × PlacedObject → (ℕ × ℕ) × Placed
seen nodes entry = (entry.0, placed_of nodes entry.1)

-- the renamed objects that are kept so
abbrev pub versions_of : PlaceEntries → Slab Node → ℕ → VersionState
versions_of entries nodes made = record { places = map (seen nodes) entries; made = made }

-- ---- how often places refer to a key

abbrev pub one : ℕ → ℕ → ℕ
one key other = if key == other then 1 else 0

abbrev pub one_of : ℕ → Option ℕ → ℕ
one_of key None = 0
one_of key (Some other) = one key other

abbrev pub uses_of : ℕ → PlacedObject → ℕ
uses_of key place = one key place.present + (one_of key place.given + one_of key place.owes)

abbrev pub uses : ℕ → PlaceEntries → ℕ
uses key entries = sum_by (uses_of key) (values_of entries)

abbrev pub uses_in : Option Node → ℕ
uses_in None = 0
uses_in (Some node) = node.uses

-- ---- what becomes of a node

-- with a use less, or given up
abbrev pub after_release : Node → Option Node
after_release node = if nat_lt 1 node.uses then Some (record node { uses = node.uses - 1 }) else None
