-- An object is made.
use Rattle.std.proofs.Common.{◌≡◌, ◌⊎◌, ℕ, ◌+◌, ◌<◌, None, Some, map, sym, ap, ◌∙◌, subst, arith, ⊎_elim}
use Rattle.std.proofs.lemmas.Bool.{cases_eq}
use Rattle.std.specs.BTreeMap.{insert_entry}
use Rattle.std.specs.Map.{keys_of}
use Rattle.std.specs.List.Sorted.{IsStrictlySortedBy}
use Rattle.slab.specs.Slab.{Slab, get, Updates}
use Rattle.swan_model.specs.declared.rights.Mode.TheVariants.{InOut}
use Rattle.swan_model.specs.declared.value.Kind.{Kind}
use Rattle.swan_model.specs.declared.value.Value.{Value}
use Rattle.swan_model.specs.Values.{kind_of}
use Rattle.swan_model.specs.Versions.{settled, owed, place_cmp, objects_after_create}
use Rattle.object_versions.specs.declared.node.Node.{Node}
use Rattle.object_versions.specs.declared.node.NodeState.TheVariants.{Settled}
use Rattle.object_versions.specs.declared.placed_object.PlacedObject.{PlacedObject}
use Rattle.object_versions.specs.Store.{PlaceEntries, place_at, told_at, version_at, placed_of, seen, versions_of, one, uses_of}
use Rattle.object_versions.specs.Whole.{IsFit, HasOwing, IsWhole}
use Rattle.object_versions.proofs.Counts.{one_self, one_other, told_here}
use Rattle.object_versions.proofs.Steps.{more_made, come_in}
use Rattle.object_versions.proofs.References.{IsHeldNow, made_whole, made_told}
use Rattle.object_versions.proofs.Seeing.{seen_same, seen_insert}
use Rattle.object_versions.proofs.Differ.{settled_not-owed}

module _ (entries : PlaceEntries) (old new : Slab Node) (made f p key : ℕ) (kind : Kind) (first : Value) (first_kind : kind ≡ kind_of first) (whole : IsWhole entries old made (λ _. 0))
    (free : place_at entries f p ≡ None) (vacant : get old key ≡ None)
    (change : Updates old new key (Some (record { object = made; state = Settled first; uses = 1 }))) where
  abbrev node : Node
  node = record { object = made; state = Settled first; uses = 1 }

  abbrev pub created : PlacedObject
  created = record { object = made; kind = kind; mode = InOut; given = None; present = key; owes = None }

  abbrev after : PlaceEntries
  after = insert_entry place_cmp entries (f, p) created

  told : told_at new key ≡ (made, settled first)
  told = told_here old new key (Some node) change

  held_now : IsHeldNow (λ _. 0) (λ k. one k key) key 1
  held_now = record { here = one_self key; others = λ k apart. one_other k key apart }

  with_node : IsWhole entries new (made + 1) (λ k. one k key)
  with_node = more_made entries new made (λ k. one k key)
      (made_whole entries old new made (λ _. 0) (λ k. one k key) key node whole vacant change (omega arith) held_now)

  fit : IsFit new (made + 1) f created
  fit = record {
    known = omega arith;
    present = ap (λ t. t.0) told;
    given = λ k is. absurd (cc);
    reads = λ k is. absurd (cc);
    owes = λ k is. absurd (cc);
  }

  new_owing : (k frame : ℕ) → 0 < uses_of k created → version_at new k ≡ owed frame → HasOwing entries k frame ⊎ ((frame ≡ f) × (created.owes ≡ Some k))
  new_owing k frame h is = ⊎_elim
      (λ e. absurd (settled_not-owed first frame (sym (ap (λ t. t.1) told) ∙ ap (version_at new) (sym e) ∙ is)))
      (λ apart. let none = one_other k key apart in absurd (omega (arith, none)))
      (cases_eq k key)

  whole_after : IsStrictlySortedBy place_cmp (keys_of after) → IsWhole after new (made + 1) (λ _. 0)
  whole_after sorted = come_in entries new (made + 1) (λ k. one k key) (λ _. 0) f p created with_node free fit
      (record { alone = λ place has stands same. let known = (whole.fits f place has stands).known in absurd (omega arith) })
      new_owing (λ k. omega arith) sorted

  seen_after : versions_of after new (made + 1) ≡ objects_after_create (versions_of entries old made) f p first
  seen_after =
      let same = seen_same old new entries (λ k h. made_told entries old new made (λ _. 0) (λ k. one k key) key node whole vacant change k (omega arith)) in
      let version : version_at new key ≡ settled first = ap (λ t. t.1) told in
      let placed : placed_of new created ≡ record { object = made; kind = kind_of first; mode = InOut; given = None; present = settled first } =
      λ i. record { object = made; kind = first_kind i; mode = InOut; given = None; present = version i } in
      let places : map (seen new) after ≡ insert_entry place_cmp (map (seen old) entries) (f, p) (record { object = made; kind = kind_of first; mode = InOut; given = None; present = settled first }) =
      seen_insert entries new f p created ∙ (λ i. insert_entry place_cmp (same i) (f, p) (placed i)) in
      λ i. record { places = places i; made = made + 1 }

  module _ (later : PlaceEntries) (put : later ≡ after) where
    pub created_whole : IsStrictlySortedBy place_cmp (keys_of later) → IsWhole later new (made + 1) (λ _. 0)
    created_whole sorted =
        let P : PlaceEntries → Type 0 = λ es. IsWhole es new (made + 1) (λ _. 0) in
        let Q : PlaceEntries → Type 0 = λ es. IsStrictlySortedBy place_cmp (keys_of es) in
        subst P (sym put) (whole_after (subst Q put sorted))

    pub created_seen : versions_of later new (made + 1) ≡ objects_after_create (versions_of entries old made) f p first
    created_seen = ap (λ es. versions_of es new (made + 1)) put ∙ seen_after
