-- A parent that gives an object keeps, of what it was given, only what is owed still, and whoever reads the object has
-- the parent's version.
use Rattle.std.proofs.Common.{◌≡◌, ◌≢◌, ℕ, Option, None, Some, IsSome, Result, Ok, Err, OnOk, refl, sym, ap, ◌∙◌, subst, ⊎_elim}
use Rattle.std.proofs.lemmas.Option.{same_Some}
use Rattle.std.specs.BTreeMap.{is_at, insert_entry}
use Rattle.std.specs.Map.{set_value}
use Rattle.slab.specs.Slab.{Slab}
use Rattle.swan_model.specs.declared.rights.Mode.{Mode}
use Rattle.swan_model.specs.Versions.{Placed, VersionState, place_cmp, placed_at, after_access, given_from, got, left_with, with_present}
use Rattle.object_versions.specs.declared.node.Node.{Node}
use Rattle.object_versions.specs.declared.placed_object.PlacedObject.{PlacedObject}
use Rattle.object_versions.specs.Store.{PlaceEntries, place_at, KeepsOwed, placed_of, versions_of}
use Rattle.object_versions.specs.Whole.{IsWhole}
use Rattle.object_versions.proofs.Lookups.{at_inserted, at_set, still_set}
use Rattle.object_versions.proofs.Given.{still_stands}
use Rattle.object_versions.proofs.PlacesAfter.{after_placed, after_present}
use Rattle.object_versions.proofs.Seeing.{seen_some}

-- ---- what stands at both places

module _ (entries with_child : PlaceEntries) (parent pp child cp : ℕ) (was gets : PlacedObject) (stands : place_at entries parent pp ≡ Some was) (free : place_at entries child cp ≡ None)
    (put : with_child ≡ insert_entry place_cmp entries (child, cp) gets) where
  there : place_at with_child parent pp ≡ Some was
  there = still_stands entries with_child parent pp child cp was gets stands free put

  came : place_at with_child child cp ≡ Some gets
  came = ap (λ es. place_at es child cp) put ∙ at_inserted entries (child, cp) gets

  pub put_keeps : (has : PlacedObject) → place_at with_child parent pp ≡ Some has → has.given ≡ was.given
  put_keeps has is = ap (λ o. o.given) (same_Some has was (sym is ∙ there))

  pub put_shares : (has : PlacedObject) → place_at with_child child cp ≡ Some has → has.present ≡ gets.present
  put_shares has is = ap (λ o. o.present) (same_Some has gets (sym is ∙ came))

  module _ (later : PlaceEntries) (key : ℕ) (set : later ≡ set_value (is_at (place_cmp (parent, pp))) with_child (record was { present = key })) where
    pub set_keeps : (has : PlacedObject) → place_at later parent pp ≡ Some has → has.given ≡ was.given
    set_keeps has is =
        let changed : PlacedObject = record was { present = key } in
        let now = ap (λ es. place_at es parent pp) set ∙ at_set with_child (parent, pp) was changed there in
        ap (λ o. o.given) (same_Some has changed (sym is ∙ now))

    pub set_shares : parent ≢ child → (has : PlacedObject) → place_at later child cp ≡ Some has → has.present ≡ gets.present
    set_shares differ has is =
        let changed : PlacedObject = record was { present = key } in
        let now = ap (λ es. place_at es child cp) set
        ∙ still_set with_child (parent, pp) was changed (child, cp) there (λ e. differ (sym (ap (λ (n : ℕ × ℕ). n.0) e))) ∙ came in
        ap (λ o. o.present) (same_Some has gets (sym is ∙ now))

-- ---- as contracts see it

given_stays : (state : VersionState) (parent pp child cp : ℕ) (mode : Mode) (object has : Placed) → parent ≢ child → placed_at state parent pp ≡ Some object
    → placed_at (after_access state parent pp child cp mode) parent pp ≡ Some has → has.given ≡ object.given
given_stays state parent pp child cp mode object has differ stands is =
    let left = left_with object child mode in
    let now = ap (λ o. placed_at (given_from state parent pp child cp mode o) parent pp) (sym stands) ∙ is in
    ⊎_elim
    (λ x. absurd (differ x.frames))
    (λ x. ⊎_elim
    (λ y. ap (λ o. o.given) y.objects)
    (λ y. absurd (y.apart refl refl))
    (after_present state parent pp object left parent pp has stands x.was))
    (after_placed (with_present state parent pp object left) child cp (got object mode) parent pp has now)

both_ok : {T E : Type 0} (r : Result T E) (P Q R : Type 0) → (P → Q → R) → OnOk r P → OnOk r Q → OnOk r R
both_ok (Ok x) P Q R f p q = f p q
both_ok (Err e) P Q R f p q = tt

module _ {T E : Type 0} (r : Result T E) (a b c : PlaceEntries) (old own new : Slab Node) (parent pp child cp : ℕ) (mode : Mode) (left : PlacedObject) (differ : parent ≢ child)
    (whole : (made : ℕ) → IsWhole a old made (λ _. 0) → IsWhole b own made (λ _. 0)) (stands : place_at b parent pp ≡ Some left) (owed : KeepsOwed own left.given)
    (given : OnOk r ((made : ℕ) → IsWhole b own made (λ _. 0) → versions_of c new made ≡ after_access (versions_of b own made) parent pp child cp mode))
    (keeps : OnOk r ((has : PlacedObject) → place_at c parent pp ≡ Some has → has.given ≡ left.given)) where
  pub then_given_up : OnOk r ((made : ℕ) → IsWhole a old made (λ _. 0) → (has : PlacedObject) → place_at c parent pp ≡ Some has → KeepsOwed new has.given)
  then_given_up = both_ok r _ _ _
      (λ seen same made begun has is some.
      let P : Option ℕ → Type 0 = λ o. IsSome o in
      let now = ap (λ s. placed_at s parent pp) (sym (seen made (whole made begun))) ∙ seen_some c new made parent pp has is in
      let e = given_stays (versions_of b own made) parent pp child cp mode (placed_of own left) (placed_of new has) differ (seen_some b own made parent pp left stands) now in
      subst P (sym e) (owed (subst P (same has is) some)))
      given keeps
