-- A parent gives a child an object to read: the child's version is the parent's.
use Rattle.std.proofs.Common.{◌≡◌, ◌⊎◌, inl, ℕ, ◌+◌, ◌<◌, None, Some, refl, map, sym, ap, ◌∙◌, subst, arith, ⊎_elim}
use Rattle.std.proofs.lemmas.Option.{same_Some}
use Rattle.std.proofs.lemmas.Bool.{cases_eq}
use Rattle.std.proofs.lemmas.Map.Steps.{set_value_same}
use Rattle.std.specs.BTreeMap.{is_at, insert_entry}
use Rattle.std.specs.Map.{set_value, keys_of}
use Rattle.std.specs.List.Sorted.{IsStrictlySortedBy}
use Rattle.slab.specs.Slab.{Slab, get, Updates}
use Rattle.swan_model.specs.declared.rights.Mode.TheVariants.{In}
use Rattle.swan_model.specs.Versions.{owed, owing, place_cmp, after_access, given_from}
use Rattle.object_versions.specs.declared.node.Node.{Node}
use Rattle.object_versions.specs.declared.placed_object.PlacedObject.{PlacedObject}
use Rattle.object_versions.specs.Store.{PlaceEntries, place_at, told_at, version_at, placed_of, seen, versions_of, one, uses_of, uses}
use Rattle.object_versions.specs.Whole.{IsFit, HasOwing, IsWhole, MayGetAt}
use Rattle.object_versions.proofs.Counts.{one_self, one_other, uses_at, present_used}
use Rattle.object_versions.proofs.Steps.{come_in}
use Rattle.object_versions.proofs.References.{shared_whole, shared_told}
use Rattle.object_versions.proofs.Seeing.{seen_same, seen_insert, seen_some}

module _ (entries later : PlaceEntries) (old new : Slab Node) (made parent pp child cp : ℕ) (was : PlacedObject)
    (whole : IsWhole entries old made (λ _. 0)) (stands : place_at entries parent pp ≡ Some was) (free : place_at entries child cp ≡ None)
    (may : MayGetAt entries child was.object In)
    (share : (node : Node) → get old was.present ≡ Some node → Updates old new was.present (Some (record node { uses = node.uses + 2 }))) where
  abbrev gets : PlacedObject
  gets = record { object = was.object; kind = was.kind; mode = In; given = Some was.present; present = was.present; owes = None }

  abbrev after : PlaceEntries
  after = insert_entry place_cmp entries (child, cp) gets

  some_use : 0 < uses was.present entries
  some_use = let most = uses_at entries was.present parent pp was stands in let here = present_used was in omega arith

  with_shared : IsWhole entries new made (λ k. one k was.present + one k was.present)
  with_shared = shared_whole entries old new made (λ _. 0) (λ k. one k was.present + one k was.present) was.present 2 whole (let some = some_use in omega (arith, some)) share
      (record {
        here = let self = one_self was.present in omega (arith, self);
        others = λ k apart. let none = one_other k was.present apart in omega (arith, none);
      })

  same : (k : ℕ) → told_at new k ≡ told_at old k
  same = shared_told entries old new made (λ _. 0) (λ k. one k was.present + one k was.present) was.present 2 whole (let some = some_use in omega (arith, some)) share

  fit : IsFit new made child gets
  fit =
      let before = with_shared.fits parent pp was stands in
      record {
        known = before.known;
        present = before.present;
        given = λ k is. ap (λ n. (told_at new n).0) (sym (same_Some was.present k is)) ∙ before.present;
        reads = λ k is. refl;
        owes = λ k is. absurd (cc);
      }

  owing_some : (k frame : ℕ) → 0 < uses_of k gets → version_at new k ≡ owed frame → HasOwing entries k frame ⊎ ((frame ≡ child) × (gets.owes ≡ Some k))
  owing_some k frame h is = ⊎_elim
      (λ e. let P : ℕ → Type 0 = λ n. 0 < uses n entries in inl (with_shared.owing k frame (subst P (sym e) some_use) is))
      (λ apart. let none = one_other k was.present apart in absurd (omega (arith, none)))
      (cases_eq k was.present)

  module _ (put : later ≡ after) (sorted : IsStrictlySortedBy place_cmp (keys_of later)) where
    pub read_whole : IsWhole later new made (λ _. 0)
    read_whole =
        let P : PlaceEntries → Type 0 = λ es. IsWhole es new made (λ _. 0) in
        let Q : PlaceEntries → Type 0 = λ es. IsStrictlySortedBy place_cmp (keys_of es) in
        subst P (sym put) (come_in entries new made (λ k. one k was.present + one k was.present) (λ _. 0) child cp gets with_shared free fit may owing_some
        (λ k. omega arith) (subst Q put sorted))

    places : map (seen new) after ≡ insert_entry place_cmp (set_value (is_at (place_cmp (parent, pp))) (map (seen old) entries) (placed_of old was)) (child, cp)
        (record (placed_of old was) { mode = In; given = owing (placed_of old was).present })
    places =
        let version : version_at new was.present ≡ version_at old was.present = ap (λ t. t.1) (same was.present) in
        let got : placed_of new gets ≡ record (placed_of old was) { mode = In; given = owing (placed_of old was).present } =
        λ i. record { object = was.object; kind = was.kind; mode = In; given = owing (version i); present = version i } in
        let rest = seen_same old new entries (λ k h. same k) in
        let unchanged = sym (set_value_same (is_at (place_cmp (parent, pp))) (map (seen old) entries) (placed_of old was) (seen_some entries old made parent pp was stands)) in
        seen_insert entries new child cp gets
        ∙ (λ i. insert_entry place_cmp (rest i) (child, cp) (got i))
        ∙ ap (λ es. insert_entry place_cmp es (child, cp) (record (placed_of old was) { mode = In; given = owing (placed_of old was).present })) unchanged

    pub read_seen : versions_of later new made ≡ after_access (versions_of entries old made) parent pp child cp In
    read_seen =
        ap (λ es. versions_of es new made) put
        ∙ (let e = places in λ i. record { places = e i; made = made })
        ∙ sym (ap (given_from (versions_of entries old made) parent pp child cp In) (seen_some entries old made parent pp was stands))
