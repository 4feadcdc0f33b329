-- A parent gives a child an object to read and write: the child's version is the parent's.
use Rattle.std.proofs.Common.{◌≡◌, ◌≢◌, ◌⊎◌, inl, inr, ℕ, ◌+◌, ◌<◌, None, Some, refl, sym, ap, ◌∙◌, subst, arith, ⊎_elim}
use Rattle.std.proofs.lemmas.Option.{same_Some}
use Rattle.std.proofs.lemmas.Bool.{cases_eq}
use Rattle.std.specs.BTreeMap.{is_at, insert_entry}
use Rattle.std.specs.Map.{set_value, keys_of}
use Rattle.std.specs.List.Sorted.{IsStrictlySortedBy}
use Rattle.slab.specs.Slab.{Slab, get, Updates}
use Rattle.swan_model.specs.declared.rights.Mode.TheVariants.{InOut}
use Rattle.swan_model.specs.Versions.{owed, owing, place_cmp, after_access, got}
use Rattle.object_versions.specs.declared.node.Node.{Node}
use Rattle.object_versions.specs.declared.node.NodeState.TheVariants.{Owed}
use Rattle.object_versions.specs.declared.placed_object.PlacedObject.{PlacedObject}
use Rattle.object_versions.specs.Store.{PlaceEntries, place_at, told_at, version_at, placed_of, versions_of, one, uses_of, uses, after_release}
use Rattle.object_versions.specs.Whole.{IsFit, HasOwing, IsWhole, MayGetAt}
use Rattle.object_versions.proofs.Counts.{one_self, one_other, told_here, uses_at, present_used, unused}
use Rattle.object_versions.proofs.References.{shared_whole, shared_told, made_whole, made_told}
use Rattle.object_versions.proofs.Given.{given_access, given_whole, owed_key}
use Rattle.object_versions.proofs.Differ.{owed_same}

module _ (entries with_child later : PlaceEntries) (old shared middle new : Slab Node) (made parent pp child cp key : ℕ) (was : PlacedObject)
    (differ : parent ≢ child) (whole : IsWhole entries old made (λ _. 0)) (stands : place_at entries parent pp ≡ Some was) (free : place_at entries child cp ≡ None)
    (may : MayGetAt entries child was.object InOut)
    (share : (node : Node) → get old was.present ≡ Some node → Updates old shared was.present (Some (record node { uses = node.uses + 2 })))
    (vacant : get shared key ≡ None) (owes : Updates shared middle key (Some (record { object = was.object; state = Owed child; uses = 2 }))) where
  abbrev gets : PlacedObject
  gets = record { object = was.object; kind = was.kind; mode = InOut; given = Some was.present; present = was.present; owes = Some key }

  abbrev owed_node : Node
  owed_node = record { object = was.object; state = Owed child; uses = 2 }

  some_use : 0 < uses was.present entries
  some_use = let most = uses_at entries was.present parent pp was stands in let here = present_used was in omega arith

  with_shared : IsWhole entries shared made (λ k. one k was.present + one k was.present)
  with_shared = shared_whole entries old shared made (λ _. 0) (λ k. one k was.present + one k was.present) was.present 2 whole (let some = some_use in omega (arith, some)) share
      (record {
        here = let self = one_self was.present in omega (arith, self);
        others = λ k apart. let none = one_other k was.present apart in omega (arith, none);
      })

  unheld : uses key entries + (one key was.present + one key was.present) ≡ 0
  unheld = unused shared (λ k. uses k entries + (one k was.present + one k was.present)) key with_shared.counted vacant

  with_key : IsWhole entries middle made (λ k. one k key + uses_of k gets)
  with_key = made_whole entries shared middle made (λ k. one k was.present + one k was.present) (λ k. one k key + uses_of k gets) key owed_node with_shared vacant owes (omega arith)
      (record {
        here = let self = one_self key in let none = unheld in omega (arith, self, none);
        others = λ k apart. let none = one_other k key apart in omega (arith, none);
      })

  told_key : told_at middle key ≡ (was.object, owed child)
  told_key = told_here shared middle key (Some owed_node) owes

  same : (k : ℕ) → 0 < uses k entries → told_at middle k ≡ told_at old k
  same k h =
      made_told entries shared middle made (λ k. one k was.present + one k was.present) (λ k. one k key + uses_of k gets) key owed_node with_shared vacant owes k (omega arith)
      ∙ shared_told entries old shared made (λ _. 0) (λ k. one k was.present + one k was.present) was.present 2 whole (let some = some_use in omega (arith, some)) share k

  fit : IsFit middle made child gets
  fit =
      let before = with_key.fits parent pp was stands in
      record {
        known = before.known;
        present = before.present;
        given = λ k is. ap (λ n. (told_at middle n).0) (sym (same_Some was.present k is)) ∙ before.present;
        reads = λ k is. refl;
        owes = owed_key middle child key gets told_key refl refl;
      }

  owing_some : (k frame : ℕ) → 0 < uses_of k gets → version_at middle k ≡ owed frame → HasOwing entries k frame ⊎ ((frame ≡ child) × (gets.owes ≡ Some k))
  owing_some k frame h is = ⊎_elim
      (λ e. inr (sym (owed_same child frame (sym (ap (λ t. t.1) told_key) ∙ ap (version_at middle) (sym e) ∙ is)), ap Some (sym e)))
      (λ apart. ⊎_elim
      (λ e. let P : ℕ → Type 0 = λ n. 0 < uses n entries in inl (with_key.owing k frame (subst P (sym e) some_use) is))
      (λ also. let none = one_other k key apart in let neither = one_other k was.present also in absurd (omega (arith, none, neither)))
      (cases_eq k was.present))
      (cases_eq k key)

  module _ (put : with_child ≡ insert_entry place_cmp entries (child, cp) gets) (sorted_child : IsStrictlySortedBy place_cmp (keys_of with_child))
      (set : later ≡ set_value (is_at (place_cmp (parent, pp))) with_child (record was { present = key })) (sorted : IsStrictlySortedBy place_cmp (keys_of later))
      (release : (node : Node) → get middle was.present ≡ Some node → Updates middle new was.present (after_release node)) where
    pub changed_whole : IsWhole later new made (λ _. 0)
    changed_whole = given_whole entries with_child later old middle new made parent pp child cp key was gets differ with_key same told_key stands free fit may refl owing_some
        put sorted_child set sorted release

    pub changed_seen : versions_of later new made ≡ after_access (versions_of entries old made) parent pp child cp InOut
    changed_seen =
        let version : version_at middle was.present ≡ version_at old was.present = ap (λ t. t.1) (same was.present some_use) in
        let gives : placed_of middle gets ≡ got (placed_of old was) InOut =
        λ i. record { object = was.object; kind = was.kind; mode = InOut; given = owing (version i); present = version i } in
        given_access entries with_child later old middle new made parent pp child cp key was gets differ with_key same told_key stands free fit may refl owing_some
        put sorted_child set sorted release InOut refl gives
