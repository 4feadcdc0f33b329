-- A parent gives a child an object to write.
use Rattle.std.proofs.Common.{◌≡◌, ◌≢◌, ◌⊎◌, ℕ, ◌+◌, ◌<◌, true, None, Some, map, refl, sym, ap, ◌∙◌, subst, arith}
use Rattle.std.proofs.lemmas.Option.{same_Some}
use Rattle.std.specs.BTreeMap.{is_at, insert_entry}
use Rattle.std.specs.Map.{set_value, keys_of}
use Rattle.std.specs.List.Sorted.{IsStrictlySortedBy}
use Rattle.slab.specs.Slab.{Slab, get, Updates}
use Rattle.swan_model.specs.declared.rights.Mode.{Mode}
use Rattle.swan_model.specs.declared.rights.Mode.TheVariants.{Out}
use Rattle.swan_model.specs.Rights.{allows}
use Rattle.swan_model.specs.Versions.{owed, VersionState, place_cmp, with_present, with_placed, after_access, given_from, got, left_with}
use Rattle.object_versions.specs.declared.node.Node.{Node}
use Rattle.object_versions.specs.declared.placed_object.PlacedObject.{PlacedObject}
use Rattle.object_versions.specs.Store.{PlaceEntries, place_at, told_at, version_at, placed_of, seen, versions_of, one, uses_of, uses, after_release}
use Rattle.object_versions.specs.Whole.{IsFit, HasOwing, IsOwing, IsWhole, MayGetAt}
use Rattle.object_versions.proofs.Commuting.{insert_set}
use Rattle.object_versions.proofs.Lookups.{at_inserted, still_inserted}
use Rattle.object_versions.proofs.Counts.{one_self, one_other}
use Rattle.object_versions.proofs.Steps.{come_in, set_in}
use Rattle.object_versions.proofs.References.{released_whole, released_same}
use Rattle.object_versions.proofs.Seeing.{seen_insert, seen_present, seen_some, versions_same}
use Rattle.object_versions.proofs.Differ.{owed_same}

-- what stood at a place stands there once an object came to another
pub still_stands : (entries with_child : PlaceEntries) (parent pp child cp : ℕ) (was gets : PlacedObject) → place_at entries parent pp ≡ Some was → place_at entries child cp ≡ None
    → with_child ≡ insert_entry place_cmp entries (child, cp) gets → place_at with_child parent pp ≡ Some was
still_stands entries with_child parent pp child cp was gets stands free put =
    ap (λ es. place_at es parent pp) put ∙ still_inserted entries (child, cp) gets (parent, pp) was free stands

-- the version that the parent has then is owed for what the child got
pub owed_key : (middle : Slab Node) (child key : ℕ) (gets : PlacedObject) → told_at middle key ≡ (gets.object, owed child) → allows gets.mode Out ≡ true → gets.owes ≡ Some key
    → (k : ℕ) → gets.owes ≡ Some k → IsOwing middle child gets k
owed_key middle child key gets told may owes k is =
    let e : key ≡ k = same_Some key k (sym owes ∙ is) in
    record {
      same = ap (λ n. (told_at middle n).0) (sym e) ∙ ap (λ t. t.0) told;
      may = may;
      by = ap (version_at middle) (sym e) ∙ ap (λ t. t.1) told;
    }

module _ (entries with_child later : PlaceEntries) (old middle new : Slab Node) (made parent pp child cp key : ℕ) (was gets : PlacedObject)
    (differ : parent ≢ child)
    (whole : IsWhole entries middle made (λ k. one k key + uses_of k gets))
    (same : (k : ℕ) → 0 < uses k entries → told_at middle k ≡ told_at old k)
    (told : told_at middle key ≡ (was.object, owed child))
    (stands : place_at entries parent pp ≡ Some was) (free : place_at entries child cp ≡ None)
    (fit : IsFit middle made child gets) (may : MayGetAt entries child gets.object gets.mode) (owes : gets.owes ≡ Some key)
    (owing : (k frame : ℕ) → 0 < uses_of k gets → version_at middle k ≡ owed frame → HasOwing entries k frame ⊎ ((frame ≡ child) × (gets.owes ≡ Some k)))
    (put : with_child ≡ insert_entry place_cmp entries (child, cp) gets) (sorted_child : IsStrictlySortedBy place_cmp (keys_of with_child))
    (set : later ≡ set_value (is_at (place_cmp (parent, pp))) with_child (record was { present = key })) (sorted : IsStrictlySortedBy place_cmp (keys_of later))
    (release : (node : Node) → get middle was.present ≡ Some node → Updates middle new was.present (after_release node)) where
  abbrev come : PlaceEntries
  come = insert_entry place_cmp entries (child, cp) gets

  abbrev after : PlaceEntries
  after = set_value (is_at (place_cmp (parent, pp))) come (record was { present = key })

  sorted_come : IsStrictlySortedBy place_cmp (keys_of come)
  sorted_come = let Q : PlaceEntries → Type 0 = λ es. IsStrictlySortedBy place_cmp (keys_of es) in subst Q put sorted_child

  is_after : later ≡ after
  is_after = set ∙ ap (λ es. set_value (is_at (place_cmp (parent, pp))) es (record was { present = key })) put

  sorted_after : IsStrictlySortedBy place_cmp (keys_of after)
  sorted_after = let Q : PlaceEntries → Type 0 = λ es. IsStrictlySortedBy place_cmp (keys_of es) in subst Q is_after sorted

  with_gets : IsWhole come middle made (λ k. one k key)
  with_gets = come_in entries middle made (λ k. one k key + uses_of k gets) (λ k. one k key) child cp gets whole free fit may owing (λ k. refl) sorted_come

  child_owes : (frame : ℕ) → version_at middle key ≡ owed frame → HasOwing come key frame
  child_owes frame is =
      let e : child ≡ frame = owed_same child frame (sym (ap (λ t. t.1) told) ∙ is) in
      let P : ℕ → Type 0 = λ n. HasOwing come key n in
      let owing : HasOwing come key child = record { place = cp; has = gets; stands = at_inserted entries (child, cp) gets; owes = owes } in
      subst P e owing

  with_owed : IsWhole after middle made (λ k. one k was.present)
  with_owed = set_in come middle made (λ k. one k key) (λ k. one k was.present) parent pp key was with_gets
      (still_inserted entries (child, cp) gets (parent, pp) was free stands)
      (ap (λ t. t.0) told) child_owes (λ k. omega arith) sorted_after

  held : 0 < one was.present was.present
  held = let self = one_self was.present in omega (arith, self)

  one_less : one was.present was.present ≡ 0 + 1
  one_less = let self = one_self was.present in omega (arith, self)

  pub given_whole : IsWhole later new made (λ _. 0)
  given_whole =
      let P : PlaceEntries → Type 0 = λ es. IsWhole es new made (λ _. 0) in
      subst P (sym is_after)
      (released_whole after middle new made (λ k. one k was.present) (λ _. 0) was.present with_owed held release one_less (λ k apart. sym (one_other k was.present apart)))

  apart : let here : ℕ × ℕ = (parent, pp) in here ≢ (child, cp)
  apart e = differ (ap (λ (n : ℕ × ℕ). n.0) e)

  places : map (seen middle) after ≡ insert_entry place_cmp
      (set_value (is_at (place_cmp (parent, pp))) (map (seen old) entries) (record (placed_of old was) { present = owed child })) (child, cp) (placed_of middle gets)
  places =
      let changed : PlacedObject = record was { present = key } in
      let swapped : after ≡ insert_entry place_cmp (set_value (is_at (place_cmp (parent, pp))) entries changed) (child, cp) gets =
      insert_set (child, cp) (parent, pp) gets changed apart entries in
      let set_seen = seen_present entries old middle same parent pp was stands key (owed child) (ap (λ t. t.1) told) in
      ap (map (seen middle)) swapped
      ∙ seen_insert (set_value (is_at (place_cmp (parent, pp))) entries changed) middle child cp gets
      ∙ ap (λ es. insert_entry place_cmp es (child, cp) (placed_of middle gets)) set_seen

  given_seen : versions_of later new made
      ≡ with_placed (with_present (versions_of entries old made) parent pp (placed_of old was) (owed child)) child cp (placed_of middle gets)
  given_seen =
      ap (λ es. versions_of es new made) is_after
      ∙ versions_same middle new after made (λ k h. released_same after middle new made (λ k. one k was.present) (λ _. 0) was.present with_owed held release
      one_less (λ k apart. sym (one_other k was.present apart)) k (omega arith))
      ∙ (let e = places in λ i. record { places = e i; made = made })

  -- which is what the access leaves, where the child has what it gets by this mode
  pub given_access : (mode : Mode) → left_with (placed_of old was) child mode ≡ owed child → placed_of middle gets ≡ got (placed_of old was) mode
      → versions_of later new made ≡ after_access (versions_of entries old made) parent pp child cp mode
  given_access mode leaves gives =
      let state : VersionState = versions_of entries old made in
      let left = sym leaves in
      given_seen
      ∙ (λ i. with_placed (with_present state parent pp (placed_of old was) (left i)) child cp (gives i))
      ∙ sym (ap (given_from state parent pp child cp mode) (seen_some entries old made parent pp was stands))
