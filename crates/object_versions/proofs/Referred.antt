-- Where places refer to a key, there is a version.
use Rattle.std.proofs.Common.{◌≡◌, ℕ, ◌+◌, ◌<◌, Option, None, Some, IsSome, refl, sym, ap, ◌∙◌, subst, arith, ⊎_elim}
use Rattle.std.proofs.lemmas.Bool.{cases_eq}
use Rattle.slab.specs.Slab.{Slab, get, Updates}
use Rattle.swan_model.specs.declared.value.Value.{Value}
use Rattle.swan_model.specs.Versions.{settled}
use Rattle.object_versions.specs.declared.node.Node.{Node}
use Rattle.object_versions.specs.declared.placed_object.PlacedObject.{PlacedObject}
use Rattle.object_versions.specs.Store.{PlaceEntries, place_at, told_of, version_at, uses_of, uses}
use Rattle.object_versions.specs.Whole.{IsWhole}
use Rattle.object_versions.proofs.Counts.{used, uses_at, present_used, given_used, owes_used}
use Rattle.swan_model.proofs.Elements.{some_is}

no_value : (o : Option Node) (value : Value) → o ≡ None → (told_of o).1 ≡ settled value → ⊥
no_value o value none is = let owes : (told_of o).1 ≡ (told_of None).1 = ap (λ n. (told_of n).1) none in absurd (cc)

-- a version that has a value is there
pub settled_there : (nodes : Slab Node) (key : ℕ) (value : Value) → version_at nodes key ≡ settled value → IsSome (get nodes key)
settled_there nodes key value is = by (get nodes key) refl where
  by : (o : Option Node) → get nodes key ≡ o → IsSome (get nodes key)
  by None none = absurd (no_value (get nodes key) value none is)
  by (Some node) there = some_is (get nodes key) node there

-- a version that someone refers to is there
pub referred_there : (entries : PlaceEntries) (nodes : Slab Node) (made : ℕ) (held : ℕ → ℕ) (key : ℕ) → IsWhole entries nodes made held → 0 < uses key entries + held key
    → IsSome (get nodes key)
referred_there entries nodes made held key whole some =
    let found = used nodes (λ k. uses k entries + held k) key whole.counted some in
    some_is (get nodes key) found.node found.is

module _ (entries : PlaceEntries) (nodes : Slab Node) (made frame place : ℕ) (has : PlacedObject) (whole : IsWhole entries nodes made (λ _. 0)) (stands : place_at entries frame place ≡ Some has) where
  used_there : (key : ℕ) → 0 < uses_of key has → IsSome (get nodes key)
  used_there key here = let most = uses_at entries key frame place has stands in referred_there entries nodes made (λ _. 0) key whole (omega (arith, most, here))

  pub present_there : IsSome (get nodes has.present)
  present_there = used_there has.present (present_used has)

  pub given_there : (key : ℕ) → has.given ≡ Some key → IsSome (get nodes key)
  given_there key is = used_there key (given_used has key is)

  pub owes_there : (key : ℕ) → has.owes ≡ Some key → IsSome (get nodes key)
  owes_there key is = used_there key (owes_used has key is)

-- what is there stays there where a version is made or changed
pub still_there : (old new : Slab Node) (key k : ℕ) (node : Node) → Updates old new key (Some node) → IsSome (get old k) → IsSome (get new k)
still_there old new key k node change there = ⊎_elim
    (λ e. some_is (get new k) node (ap (get new) e ∙ change.changed))
    (λ apart. let P : Option Node → Type 0 = λ o. IsSome o in subst P (sym (change.others k apart)) there)
    (cases_eq k key)

pub still_shared : (old new : Slab Node) (key k more : ℕ) → ((node : Node) → get old key ≡ Some node → Updates old new key (Some (record node { uses = node.uses + more })))
    → IsSome (get old key) → IsSome (get old k) → IsSome (get new k)
still_shared old new key k more change shared there = by (get old key) refl shared where
  by : (o : Option Node) → get old key ≡ o → IsSome o → IsSome (get new k)
  by None is none = absurd (cc)
  by (Some node) is some = still_there old new key k (record node { uses = node.uses + more }) (change node is) there
