-- Which versions a frame waits for.
use Rattle.std.specs.Prelude.{◌≡◌, ℕ, Some}
use Rattle.slab.specs.Slab.{Slab}
use Rattle.swan_model.specs.Versions.{owed}
use Rattle.object_versions.specs.declared.node.Node.{Node}
use Rattle.object_versions.specs.declared.placed_object.PlacedObject.{PlacedObject}
use Rattle.object_versions.specs.Store.{PlaceEntries, place_at, version_at}

-- at this place the frame was given a version that another one owes
pub record AwaitsAt (entries : PlaceEntries) (nodes : Slab Node) (frame place owing : ℕ) : Type 0 where
  pub has : PlacedObject
  pub key : ℕ
  pub stands : place_at entries frame place ≡ Some has
  pub given : has.given ≡ Some key
  pub owes : version_at nodes key ≡ owed owing
