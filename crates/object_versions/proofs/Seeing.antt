-- What contracts see of kept versions.
use Rattle.std.proofs.Common.{◌≡◌, ℕ, ◌<◌, Option, None, Some, [], ◌∷◌, map, refl, sym, ap, ◌∙◌, arith}
use Rattle.std.proofs.lemmas.Option.{none-some}
use Rattle.std.proofs.lemmas.List.Sums.{sum_by-cons}
use Rattle.std.proofs.lemmas.Map.Made.{lookup-map_values}
use Rattle.std.specs.BTreeMap.{is_at, insert_entry}
use Rattle.std.specs.Map.{set_value, values_of}
use Rattle.std.specs.Option.{option_map}
use Rattle.slab.specs.Slab.{Slab}
use Rattle.swan_model.specs.Versions.{Version, owing, Placed, place_cmp, placed_at}
use Rattle.object_versions.specs.declared.node.Node.{Node}
use Rattle.object_versions.specs.declared.placed_object.PlacedObject.{PlacedObject}
use Rattle.object_versions.specs.Store.{PlaceEntries, place_at, told_at, version_at, given_of, placed_of, seen, versions_of, uses_of, uses}
use Rattle.object_versions.proofs.Commuting.{each_insert, each_set}
use Rattle.object_versions.proofs.Counts.{uses_at, present_used, given_used}
use Rattle.object_versions.proofs.Steps.{told_version}

-- who sees the same of each of its keys is seen as before
pub placed_same : (old new : Slab Node) (has : PlacedObject) → ((k : ℕ) → 0 < uses_of k has → told_at new k ≡ told_at old k) → placed_of new has ≡ placed_of old has
placed_same old new has same = record_same (by has.given refl) where
  by : (o : Option ℕ) → has.given ≡ o → given_of new has.given ≡ given_of old has.given
  by None is = ap (given_of new) is ∙ sym (ap (given_of old) is)
  by (Some key) is = ap (given_of new) is
      ∙ ap owing (told_version _ _ (same key (given_used has key is)))
      ∙ sym (ap (given_of old) is)

  record_same : given_of new has.given ≡ given_of old has.given → placed_of new has ≡ placed_of old has
  record_same given = λ i. record {
    object = has.object;
    kind = has.kind;
    mode = has.mode;
    given = given i;
    present = told_version _ _ (same has.present (present_used has)) i;
  }

pub seen_same : (old new : Slab Node) (entries : PlaceEntries) → ((k : ℕ) → 0 < uses k entries → told_at new k ≡ told_at old k) → map (seen new) entries ≡ map (seen old) entries
seen_same old new [] same = refl
seen_same old new (e ∷ es) same =
    let first = placed_same old new e.1 (λ k h. let sums = sum_by-cons (uses_of k) e.1 (values_of es) in same k (omega (arith, sums))) in
    let rest = seen_same old new es (λ k h. let sums = sum_by-cons (uses_of k) e.1 (values_of es) in same k (omega (arith, sums))) in
    λ i. (e.0, first i) ∷ rest i

pub versions_same : (old new : Slab Node) (entries : PlaceEntries) (made : ℕ) → ((k : ℕ) → 0 < uses k entries → told_at new k ≡ told_at old k)
    → versions_of entries new made ≡ versions_of entries old made
versions_same old new entries made same = let e = seen_same old new entries same in λ i. record { places = e i; made = made }

pub seen_at : (entries : PlaceEntries) (nodes : Slab Node) (made frame place : ℕ) → placed_at (versions_of entries nodes made) frame place ≡ option_map (placed_of nodes) (place_at entries frame place)
seen_at entries nodes made frame place = lookup-map_values (placed_of nodes) (is_at (place_cmp (frame, place))) entries

pub seen_some : (entries : PlaceEntries) (nodes : Slab Node) (made frame place : ℕ) (has : PlacedObject) → place_at entries frame place ≡ Some has
    → placed_at (versions_of entries nodes made) frame place ≡ Some (placed_of nodes has)
seen_some entries nodes made frame place has stands = seen_at entries nodes made frame place ∙ ap (option_map (placed_of nodes)) stands

-- what is kept of what contracts see at a place
pub record IsKept (entries : PlaceEntries) (nodes : Slab Node) (frame place : ℕ) (object : Placed) : Type 0 where
  pub has : PlacedObject
  pub stands : place_at entries frame place ≡ Some has
  pub is : object ≡ placed_of nodes has

pub kept_of : (entries : PlaceEntries) (nodes : Slab Node) (made frame place : ℕ) (object : Placed) → placed_at (versions_of entries nodes made) frame place ≡ Some object
    → IsKept entries nodes frame place object
kept_of entries nodes made frame place object stands = by (place_at entries frame place) refl where
  by : (o : Option PlacedObject) → place_at entries frame place ≡ o → IsKept entries nodes frame place object
  by None is = absurd (none-some object (sym (seen_at entries nodes made frame place ∙ ap (option_map (placed_of nodes)) is) ∙ stands))
  by (Some has) is =
      let same : Some object ≡ Some (placed_of nodes has) = sym stands ∙ seen_some entries nodes made frame place has is in
      let e : object ≡ placed_of nodes has = cc in
      record { has = has; stands = is; is = e }

pub free_of : (entries : PlaceEntries) (nodes : Slab Node) (made frame place : ℕ) → placed_at (versions_of entries nodes made) frame place ≡ None → place_at entries frame place ≡ None
free_of entries nodes made frame place free = by (place_at entries frame place) refl where
  by : (o : Option PlacedObject) → place_at entries frame place ≡ o → place_at entries frame place ≡ None
  by None is = is
  by (Some has) is = absurd (none-some (placed_of nodes has) (sym free ∙ seen_some entries nodes made frame place has is))

-- an object comes to a place
pub seen_insert : (entries : PlaceEntries) (nodes : Slab Node) (frame place : ℕ) (has : PlacedObject)
    → map (seen nodes) (insert_entry place_cmp entries (frame, place) has) ≡ insert_entry place_cmp (map (seen nodes) entries) (frame, place) (placed_of nodes has)
seen_insert entries nodes frame place has = each_insert (placed_of nodes) entries (frame, place) has

-- a place has another version
pub seen_set : (entries : PlaceEntries) (nodes : Slab Node) (frame place : ℕ) (has : PlacedObject)
    → map (seen nodes) (set_value (is_at (place_cmp (frame, place))) entries has) ≡ set_value (is_at (place_cmp (frame, place))) (map (seen nodes) entries) (placed_of nodes has)
seen_set entries nodes frame place has = each_set (placed_of nodes) (is_at (place_cmp (frame, place))) entries has

module _ (entries : PlaceEntries) (old new : Slab Node) (same : (k : ℕ) → 0 < uses k entries → told_at new k ≡ told_at old k) (f p : ℕ) (was : PlacedObject)
    (stands : place_at entries f p ≡ Some was) where
  pub same_there : placed_of new was ≡ placed_of old was
  same_there = placed_same old new was (λ k h. let most = uses_at entries k f p was stands in same k (omega arith))

  placed_set : (key : ℕ) (version : Version) → version_at new key ≡ version → placed_of new (record was { present = key }) ≡ record (placed_of old was) { present = version }
  placed_set key version is = λ i. record {
    object = was.object;
    kind = was.kind;
    mode = was.mode;
    given = (same_there i).given;
    present = is i;
  }

  -- a place has another version, which contracts see
  pub seen_present : (key : ℕ) (version : Version) → version_at new key ≡ version
      → map (seen new) (set_value (is_at (place_cmp (f, p))) entries (record was { present = key }))
      ≡ set_value (is_at (place_cmp (f, p))) (map (seen old) entries) (record (placed_of old was) { present = version })
  seen_present key version is =
      let rest = seen_same old new entries same in
      let here = placed_set key version is in
      seen_set entries new f p (record was { present = key }) ∙ (λ i. set_value (is_at (place_cmp (f, p))) (rest i) (here i))
