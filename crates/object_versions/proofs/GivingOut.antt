-- A parent gives a child an object to write: the child's version has the zero of the object's kind.
use Rattle.std.proofs.Common.{◌≡◌, ◌≢◌, ◌⊎◌, inr, ℕ, ◌+◌, ◌<◌, None, Some, refl, sym, ap, ◌∙◌, arith, ⊎_elim}
use Rattle.std.proofs.lemmas.Bool.{cases_eq}
use Rattle.std.specs.BTreeMap.{is_at, insert_entry}
use Rattle.std.specs.Map.{set_value, keys_of}
use Rattle.std.specs.List.Sorted.{IsStrictlySortedBy}
use Rattle.slab.specs.Slab.{Slab, get, Updates}
use Rattle.swan_model.specs.declared.rights.Mode.TheVariants.{Out}
use Rattle.swan_model.specs.declared.value.Value.{Value}
use Rattle.swan_model.specs.Values.{zero_of}
use Rattle.swan_model.specs.Versions.{settled, owed, place_cmp, after_access, got}
use Rattle.object_versions.specs.declared.node.Node.{Node}
use Rattle.object_versions.specs.declared.node.NodeState.TheVariants.{Settled, Owed}
use Rattle.object_versions.specs.declared.placed_object.PlacedObject.{PlacedObject}
use Rattle.object_versions.specs.Store.{PlaceEntries, place_at, told_at, version_at, placed_of, versions_of, one, uses_of, uses, after_release}
use Rattle.object_versions.specs.Whole.{IsFit, HasOwing, IsWhole, MayGetAt}
use Rattle.object_versions.proofs.Counts.{one_self, one_other, told_here, told_elsewhere, unused}
use Rattle.object_versions.proofs.References.{made_whole, made_told}
use Rattle.object_versions.proofs.Given.{given_access, given_whole, owed_key}
use Rattle.object_versions.proofs.Differ.{owed_same, settled_not-owed}

module _ (entries with_child later : PlaceEntries) (old first middle new : Slab Node) (made parent pp child cp key own : ℕ) (was : PlacedObject) (zero : Value)
    (differ : parent ≢ child) (whole : IsWhole entries old made (λ _. 0)) (stands : place_at entries parent pp ≡ Some was) (free : place_at entries child cp ≡ None)
    (may : MayGetAt entries child was.object Out) (is_zero : zero ≡ zero_of was.kind)
    (vacant_key : get old key ≡ None) (owes : Updates old first key (Some (record { object = was.object; state = Owed child; uses = 2 })))
    (vacant_own : get first own ≡ None) (starts : Updates first middle own (Some (record { object = was.object; state = Settled zero; uses = 1 }))) where
  abbrev gets : PlacedObject
  gets = record { object = was.object; kind = was.kind; mode = Out; given = None; present = own; owes = Some key }

  abbrev owed_node : Node
  owed_node = record { object = was.object; state = Owed child; uses = 2 }

  abbrev own_node : Node
  own_node = record { object = was.object; state = Settled zero; uses = 1 }

  with_key : IsWhole entries first made (λ k. one k key + one k key)
  with_key = made_whole entries old first made (λ _. 0) (λ k. one k key + one k key) key owed_node whole vacant_key owes (omega arith)
      (record {
        here = let self = one_self key in omega (arith, self);
        others = λ k apart. let none = one_other k key apart in omega (arith, none);
      })

  unheld : one own key ≡ 0
  unheld = let none = unused first (λ k. uses k entries + (one k key + one k key)) own with_key.counted vacant_own in omega (arith, none)

  abbrev held : ℕ → ℕ
  held k = one k key + uses_of k gets

  with_own : IsWhole entries middle made (λ k. one k key + uses_of k gets)
  with_own = made_whole entries first middle made (λ k. one k key + one k key) (λ k. one k key + uses_of k gets) own own_node with_key vacant_own starts (omega arith)
      (record {
        here = let self = one_self own in let none = unheld in omega (arith, self, none);
        others = λ k apart. let none = one_other k own apart in omega (arith, none);
      })

  told_own : told_at middle own ≡ (was.object, settled zero)
  told_own = told_here first middle own (Some own_node) starts

  key_apart : key ≢ own
  key_apart e =
      let self = one_self key in
      let none = unheld in
      let at_key : one key key ≡ 0 = ap (λ n. one n key) e ∙ none in omega (arith, self, at_key)

  told_key : told_at middle key ≡ (was.object, owed child)
  told_key = told_elsewhere first middle own (Some own_node) starts key key_apart ∙ told_here old first key (Some owed_node) owes

  same : (k : ℕ) → 0 < uses k entries → told_at middle k ≡ told_at old k
  same k h =
      made_told entries first middle made (λ k. one k key + one k key) (λ k. one k key + uses_of k gets) own own_node with_key vacant_own starts k (omega arith)
      ∙ made_told entries old first made (λ _. 0) (λ k. one k key + one k key) key owed_node whole vacant_key owes k (omega arith)

  fit : IsFit middle made child gets
  fit = record {
    known = (whole.fits parent pp was stands).known;
    present = ap (λ t. t.0) told_own;
    given = λ k is. absurd (cc);
    reads = λ k is. absurd (cc);
    owes = owed_key middle child key gets told_key refl refl;
  }

  owing : (k frame : ℕ) → 0 < uses_of k gets → version_at middle k ≡ owed frame → HasOwing entries k frame ⊎ ((frame ≡ child) × (gets.owes ≡ Some k))
  owing k frame h is = ⊎_elim
      (λ e. inr (sym (owed_same child frame (sym (ap (λ t. t.1) told_key) ∙ ap (version_at middle) (sym e) ∙ is)), ap Some (sym e)))
      (λ apart. ⊎_elim
      (λ e. absurd (settled_not-owed zero frame (sym (ap (λ t. t.1) told_own) ∙ ap (version_at middle) (sym e) ∙ is)))
      (λ also. let none = one_other k key apart in let neither = one_other k own also in absurd (omega (arith, none, neither)))
      (cases_eq k own))
      (cases_eq k key)

  module _ (put : with_child ≡ insert_entry place_cmp entries (child, cp) gets) (sorted_child : IsStrictlySortedBy place_cmp (keys_of with_child))
      (set : later ≡ set_value (is_at (place_cmp (parent, pp))) with_child (record was { present = key })) (sorted : IsStrictlySortedBy place_cmp (keys_of later))
      (release : (node : Node) → get middle was.present ≡ Some node → Updates middle new was.present (after_release node)) where
    pub out_whole : IsWhole later new made (λ _. 0)
    out_whole = given_whole entries with_child later old middle new made parent pp child cp key was gets differ with_own same told_key stands free fit may refl owing
        put sorted_child set sorted release

    pub out_seen : versions_of later new made ≡ after_access (versions_of entries old made) parent pp child cp Out
    out_seen =
        let version : version_at middle own ≡ settled (zero_of was.kind) = ap (λ t. t.1) told_own ∙ ap settled is_zero in
        let gives : placed_of middle gets ≡ got (placed_of old was) Out =
        λ i. record { object = was.object; kind = was.kind; mode = Out; given = None; present = version i } in
        given_access entries with_child later old middle new made parent pp child cp key was gets differ with_own same told_key stands free fit may refl owing
        put sorted_child set sorted release Out refl gives
