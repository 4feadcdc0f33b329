-- An object is written.
use Rattle.std.proofs.Common.{◌≡◌, ◌≢◌, ℕ, ◌+◌, ◌<◌, Option, None, Some, IsSome, sym, ap, ◌∙◌, subst, arith}
use Rattle.std.proofs.lemmas.Option.{none-some}
use Rattle.std.specs.BTreeMap.{is_at}
use Rattle.std.specs.Map.{set_value, keys_of}
use Rattle.std.specs.List.Sorted.{IsStrictlySortedBy}
use Rattle.slab.specs.Slab.{Slab, get, Updates}
use Rattle.swan_model.specs.declared.value.Value.{Value}
use Rattle.swan_model.specs.Versions.{settled, place_cmp, with_present, after_write, written_at}
use Rattle.object_versions.specs.declared.node.Node.{Node}
use Rattle.object_versions.specs.declared.node.NodeState.TheVariants.{Settled}
use Rattle.object_versions.specs.declared.placed_object.PlacedObject.{PlacedObject}
use Rattle.object_versions.specs.Store.{PlaceEntries, place_at, told_at, given_of, KeepsOwed, placed_of, versions_of, one, uses, uses_in, after_release}
use Rattle.object_versions.specs.Whole.{IsWhole, HasOwn}
use Rattle.object_versions.proofs.Lookups.{at_set}
use Rattle.object_versions.proofs.Counts.{one_self, one_other, told_here, used, HasNode, uses_at, present_used}
use Rattle.object_versions.proofs.Steps.{set_in}
use Rattle.object_versions.proofs.References.{made_whole, made_told, released_whole, released_same}
use Rattle.object_versions.proofs.Seeing.{placed_same, same_there, seen_present, seen_some, versions_same}
use Rattle.object_versions.proofs.Differ.{settled_not-owed}

module _ (entries later : PlaceEntries) (old middle new : Slab Node) (made f p key : ℕ) (was : PlacedObject) (value : Value) (whole : IsWhole entries old made (λ _. 0))
    (stands : place_at entries f p ≡ Some was) (vacant : get old key ≡ None)
    (change : Updates old middle key (Some (record { object = was.object; state = Settled value; uses = 1 })))
    (set : later ≡ set_value (is_at (place_cmp (f, p))) entries (record was { present = key }))
    (sorted : IsStrictlySortedBy place_cmp (keys_of later))
    (release : (node : Node) → get middle was.present ≡ Some node → Updates middle new was.present (after_release node)) where
  abbrev node : Node
  node = record { object = was.object; state = Settled value; uses = 1 }

  abbrev after : PlaceEntries
  after = set_value (is_at (place_cmp (f, p))) entries (record was { present = key })

  told : told_at middle key ≡ (was.object, settled value)
  told = told_here old middle key (Some node) change

  with_node : IsWhole entries middle made (λ k. one k key)
  with_node = made_whole entries old middle made (λ _. 0) (λ k. one k key) key node whole vacant change (omega arith)
      (record { here = one_self key; others = λ k apart. one_other k key apart })

  with_set : IsWhole after middle made (λ k. one k was.present)
  with_set =
      let Q : PlaceEntries → Type 0 = λ es. IsStrictlySortedBy place_cmp (keys_of es) in
      set_in entries middle made (λ k. one k key) (λ k. one k was.present) f p key was with_node stands
      (ap (λ t. t.0) told)
      (λ frame is. absurd (settled_not-owed value frame (sym (ap (λ t. t.1) told) ∙ is)))
      (λ k. omega arith) (subst Q set sorted)

  some_held : 0 < one was.present was.present
  some_held = let self = one_self was.present in omega (arith, self)

  whole_after : IsWhole after new made (λ _. 0)
  whole_after = released_whole after middle new made (λ k. one k was.present) (λ _. 0) was.present with_set some_held release
      (let self = one_self was.present in omega (arith, self)) (λ k apart. sym (one_other k was.present apart))

  pub written_whole : IsWhole later new made (λ _. 0)
  written_whole = let P : PlaceEntries → Type 0 = λ es. IsWhole es new made (λ _. 0) in subst P (sym set) whole_after

  told_old : (k : ℕ) → 0 < uses k entries → told_at middle k ≡ told_at old k
  told_old k h = made_told entries old middle made (λ _. 0) (λ k. one k key) key node whole vacant change k (omega arith)

  seen_after : versions_of after middle made ≡ after_write (versions_of entries old made) f p value
  seen_after =
      let places = seen_present entries old middle told_old f p was stands key (settled value) (ap (λ t. t.1) told) in
      let state : versions_of after middle made ≡ with_present (versions_of entries old made) f p (placed_of old was) (settled value) =
      λ i. record { places = places i; made = made } in
      state ∙ sym (ap (written_at (versions_of entries old made) f p value) (seen_some entries old made f p was stands))

  pub written_seen : versions_of later new made ≡ after_write (versions_of entries old made) f p value
  written_seen =
      ap (λ es. versions_of es new made) set
      ∙ versions_same middle new after made (λ k h. released_same after middle new made (λ k. one k was.present) (λ _. 0) was.present with_set some_held release
      (let self = one_self was.present in omega (arith, self)) (λ k apart. sym (one_other k was.present apart)) k (omega arith))
      ∙ seen_after

  -- and it is a version of the frame's own

  some_use : 0 < uses was.present entries
  some_use = let most = uses_at entries was.present f p was stands in let here = present_used was in omega arith

  found : HasNode old was.present
  found = used old (λ k. uses k entries + 0) was.present whole.counted (let some = some_use in omega (arith, some))

  another : key ≢ was.present
  another e = none-some found.node (sym vacant ∙ ap (get old) e ∙ found.is)

  released_there : Updates middle new was.present (after_release found.node)
  released_there = release found.node (change.others was.present (λ e. another (sym e)) ∙ found.is)

  stands_after : place_at after f p ≡ Some (record was { present = key })
  stands_after = at_set entries (f, p) was (record was { present = key }) stands

  same_given : given_of new was.given ≡ given_of old was.given
  same_given =
      let changed : PlacedObject = record was { present = key } in
      ap (λ o. o.given) (placed_same middle new changed (λ k h.
      let most = uses_at after k f p changed stands_after in
      released_same after middle new made (λ k. one k was.present) (λ _. 0) was.present with_set some_held release
      (let self = one_self was.present in omega (arith, self)) (λ k apart. sym (one_other k was.present apart)) k (omega (arith, most, h))))
      ∙ ap (λ o. o.given) (same_there entries old middle told_old f p was stands)

  pub written_own : KeepsOwed old was.given → HasOwn later new f p
  written_own keeps = record {
    has = record was { present = key };
    stands = ap (λ es. place_at es f p) set ∙ stands_after;
    alone = ap uses_in (released_there.others key another ∙ change.changed);
    given = λ some. let P : Option ℕ → Type 0 = λ o. IsSome o in subst P (sym same_given) (keeps some);
  }
