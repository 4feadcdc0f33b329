-- An object is written where one place alone refers to its version: the version gets the value.
use Rattle.std.proofs.Common.{◌≡◌, ◌≢◌, ℕ, ◌+◌, ◌<◌, Bool, true, false, cond, Option, None, Some, IsSome, List, [], ◌∷◌, map, refl, sym, ap, ◌∙◌, subst, arith, ⊎_elim}
use Rattle.std.proofs.lemmas.Option.{same_Some}
use Rattle.std.proofs.lemmas.Map.Steps.{set_value_same}
use Rattle.std.specs.BTreeMap.{is_at}
use Rattle.std.specs.Map.{set_value}
use Rattle.slab.specs.Slab.{Slab, get, Updates}
use Rattle.swan_model.specs.declared.value.Value.{Value}
use Rattle.swan_model.specs.Versions.{settled, owing, place_cmp, with_present, after_write, written_at}
use Rattle.object_versions.specs.declared.node.Node.{Node}
use Rattle.object_versions.specs.declared.node.NodeState.TheVariants.{Settled}
use Rattle.object_versions.specs.declared.placed_object.PlacedObject.{PlacedObject}
use Rattle.object_versions.specs.Store.{PlaceEntries, place_at, given_of, KeepsOwed, placed_of, seen, versions_of, one, one_of, uses_of, uses, uses_in}
use Rattle.object_versions.specs.Whole.{IsWhole, HasOwn}
use Rattle.object_versions.proofs.Lookups.{here, at_set, still_set, cases_place}
use Rattle.object_versions.proofs.Counts.{HasNode, one_self, one_other, used, uses_at, uses_set, present_used, owes_used}
use Rattle.object_versions.proofs.GetsValue.{update, told_other, value_now, owed_before, counted_still, fit_still}
use Rattle.object_versions.proofs.Seeing.{seen_same, seen_set, seen_some}

-- what is set twice has what was set last
set_twice : {X : Type 0} (test : ℕ × ℕ → Bool) (es : List ((ℕ × ℕ) × X)) (v w : X) → set_value test (set_value test es v) w ≡ set_value test es w
set_twice test [] v w = refl
set_twice {X} test (e ∷ es) v w = by (test e.0) refl (set_twice test es v w) where
  by : (b : Bool) → test e.0 ≡ b → set_value test (set_value test es v) w ≡ set_value test es w
      → set_value test (cond b ((e.0, v) ∷ es) (e ∷ set_value test es v)) w ≡ cond b ((e.0, w) ∷ es) (e ∷ set_value test es w)
  by true is rest = ap (λ b. cond {A = List ((ℕ × ℕ) × X)} b ((e.0, w) ∷ es) ((e.0, v) ∷ set_value test es w)) is
  by false is rest = ap (λ b. cond {A = List ((ℕ × ℕ) × X)} b ((e.0, w) ∷ set_value test es v) (e ∷ set_value test (set_value test es v) w)) is ∙ ap (λ t. e ∷ t) rest

module _ (entries : PlaceEntries) (old new : Slab Node) (made f p : ℕ) (was : PlacedObject) (value : Value) (whole : IsWhole entries old made (λ _. 0))
    (stands : place_at entries f p ≡ Some was)
    (alone : uses_in (get old was.present) ≡ 1)
    (change : (node : Node) → get old was.present ≡ Some node → Updates old new was.present (Some (record node { state = Settled value }))) where
  abbrev key : ℕ
  key = was.present

  some_use : 0 < uses was.present entries
  some_use = let most = uses_at entries was.present f p was stands in let here = present_used was in omega arith

  found : HasNode old was.present
  found = used old (λ k. uses k entries + 0) was.present whole.counted (let some = some_use in omega (arith, some))

  one_use : uses was.present entries ≡ 1
  one_use =
      let count : found.node.uses ≡ uses was.present entries + 0 = sym (ap uses_in found.is) ∙ whole.counted.exact was.present in
      let only : found.node.uses ≡ 1 = sym (ap uses_in found.is) ∙ alone in omega (arith, count, only)

  -- the places with another key at this one, so that nobody refers to the version
  abbrev elsewhere : PlaceEntries
  elsewhere = set_value (is_at (place_cmp (f, p))) entries (record was { present = was.present + 1 })

  unused_there : uses was.present elsewhere ≡ 0
  unused_there =
      let sums = uses_set entries was.present f p (was.present + 1) was stands in
      let self = one_self was.present in
      let other = one_other was.present (was.present + 1) (λ e. omega arith) in
      let one_only = one_use in
      omega (arith, sums, self, other, one_only)

  -- so no place of those refers to it
  unused_at : (frame place : ℕ) (has : PlacedObject) → place_at elsewhere frame place ≡ Some has → uses_of was.present has ≡ 0
  unused_at frame place has stands_there =
      let most = uses_at elsewhere was.present frame place has stands_there in let none = unused_there in omega (arith, most, none)

  -- and nobody owes it
  owes_apart : (frame place : ℕ) (has : PlacedObject) (k : ℕ) → place_at entries frame place ≡ Some has → has.owes ≡ Some k → k ≢ was.present
  owes_apart frame place has k is owes e = ⊎_elim
      (λ (same : (frame, place) ≡ (f, p)).
      let this : Some has ≡ Some was = sym is ∙ ap (here entries) same ∙ stands in
      let moved : PlacedObject = record was { present = was.present + 1 } in
      let own : was.owes ≡ Some was.present = ap (λ o. o.owes) (sym (same_Some has was this)) ∙ owes ∙ ap Some e in
      let some = owes_used moved was.present own in
      let none = unused_at f p moved (at_set entries (f, p) was moved stands) in
      omega (arith, some, none))
      (λ apart.
      let some = owes_used has was.present (owes ∙ ap Some e) in
      let none = unused_at frame place has (still_set entries (f, p) was (record was { present = was.present + 1 }) (frame, place) stands apart ∙ is) in
      omega (arith, some, none))
      (cases_place (frame, place) (f, p))

  pub overwritten_whole : IsWhole entries new made (λ _. 0)
  overwritten_whole = record {
    sorted = whole.sorted;
    counted = counted_still old new was.present value found change (λ k. uses k entries + 0) (λ k. uses k entries + 0) whole.counted (λ k. refl);
    fits = λ frame place other is. fit_still old new was.present value found change made frame other (λ k e. owes_apart frame place other k is e) (whole.fits frame place other is);
    owing = λ k m h is. whole.owing k m h (owed_before old new was.present value found change k m is);
    alone = whole.alone;
  }

  same_there : map (seen new) elsewhere ≡ map (seen old) elsewhere
  same_there = seen_same old new elsewhere (λ k h. told_other old new was.present value found change k (λ e.
      let P : ℕ → Type 0 = λ n. 0 < uses n elsewhere in
      let some = subst P e h in let none = unused_there in omega (arith, some, none)))

  given_apart : (k : ℕ) → was.given ≡ Some k → k ≢ was.present
  given_apart k given e =
      let most = uses_at entries was.present f p was stands in
      let self = one_self was.present in
      let here : one_of was.present was.given ≡ one was.present was.present = ap (one_of was.present) (given ∙ ap Some e) in
      let one_only = one_use in
      omega (arith, most, self, here, one_only)

  same_given : (o : Option ℕ) → was.given ≡ o → given_of new was.given ≡ given_of old was.given
  same_given None is = ap (given_of new) is ∙ sym (ap (given_of old) is)
  same_given (Some k) is = ap (given_of new) is ∙ ap owing (ap (λ t. t.1) (told_other old new was.present value found change k (given_apart k is))) ∙ sym (ap (given_of old) is)

  placed_now : placed_of new was ≡ record (placed_of old was) { present = settled value }
  placed_now =
      let given = same_given was.given refl in
      let version = value_now old new was.present value found change in
      λ i. record { object = was.object; kind = was.kind; mode = was.mode; given = given i; present = version i }

  places : map (seen new) entries ≡ set_value (is_at (place_cmp (f, p))) (map (seen old) entries) (record (placed_of old was) { present = settled value })
  places =
      let test : ℕ × ℕ → Bool = is_at (place_cmp (f, p)) in
      let moved : PlacedObject = record was { present = was.present + 1 } in
      let back : set_value test elsewhere was ≡ entries = set_twice test entries moved was ∙ set_value_same test entries was stands in
      sym (ap (map (seen new)) back)
      ∙ seen_set elsewhere new f p was
      ∙ ap (λ es. set_value test es (placed_of new was)) (same_there ∙ seen_set entries old f p moved)
      ∙ set_twice test (map (seen old) entries) (placed_of old moved) (placed_of new was)
      ∙ ap (set_value test (map (seen old) entries)) placed_now

  pub overwritten_seen : versions_of entries new made ≡ after_write (versions_of entries old made) f p value
  overwritten_seen =
      let e = places in
      let state : versions_of entries new made ≡ with_present (versions_of entries old made) f p (placed_of old was) (settled value) =
      λ i. record { places = e i; made = made } in
      state ∙ sym (ap (written_at (versions_of entries old made) f p value) (seen_some entries old made f p was stands))

  pub overwritten_own : KeepsOwed old was.given → HasOwn entries new f p
  overwritten_own keeps = record {
    has = was;
    stands = stands;
    alone = ap uses_in (update old new was.present value found change).changed ∙ sym (ap uses_in found.is) ∙ alone;
    given = λ some. let P : Option ℕ → Type 0 = λ o. IsSome o in subst P (sym (same_given was.given refl)) (keeps some);
  }
