-- A version that a frame was given, and that has its value, is given up: no contract sees it any more.
use Rattle.std.proofs.Common.{◌≡◌, ℕ, ◌+◌, ◌<◌, Option, None, Some, IsSome, Result, OnOk, map, refl, sym, ap, ◌∙◌, subst, arith}
use Rattle.std.proofs.lemmas.Bool.{false≢true}
use Rattle.std.proofs.lemmas.Map.Steps.{set_value_same}
use Rattle.std.proofs.lemmas.Result.{on_ok_weaker}
use Rattle.std.specs.BTreeMap.{is_at}
use Rattle.std.specs.Map.{set_value, keys_of}
use Rattle.std.specs.List.Sorted.{IsStrictlySortedBy}
use Rattle.slab.specs.Slab.{Slab, get, Updates}
use Rattle.swan_model.specs.declared.rights.Mode.{Mode}
use Rattle.swan_model.specs.declared.value.Value.{Value}
use Rattle.swan_model.specs.Versions.{settled, owed, owing, place_cmp, after_access}
use Rattle.object_versions.specs.declared.node.Node.{Node}
use Rattle.object_versions.specs.declared.placed_object.PlacedObject.{PlacedObject}
use Rattle.object_versions.specs.Store.{PlaceEntries, place_at, version_at, given_of, KeepsOwed, placed_of, seen, versions_of, one, one_of, uses_of, after_release}
use Rattle.object_versions.specs.Whole.{IsFit, HasOwing, IsWhole}
use Rattle.object_versions.proofs.Counts.{one_self, one_other, uses_at}
use Rattle.object_versions.proofs.Steps.{change_in}
use Rattle.object_versions.proofs.References.{released_whole, released_same}
use Rattle.object_versions.proofs.Seeing.{seen_set, seen_some, versions_same}
use Rattle.swan_model.proofs.Elements.{some_is}

module _ (entries later : PlaceEntries) (old new : Slab Node) (made f p key : ℕ) (was : PlacedObject) (value : Value) (whole : IsWhole entries old made (λ _. 0))
    (stands : place_at entries f p ≡ Some was) (given : was.given ≡ Some key) (reads : version_at old key ≡ settled value)
    (set : later ≡ set_value (is_at (place_cmp (f, p))) entries (record was { given = None })) (sorted : IsStrictlySortedBy place_cmp (keys_of later))
    (release : (node : Node) → get old key ≡ Some node → Updates old new key (after_release node)) where
  abbrev less : PlacedObject
  less = record was { given = None }

  abbrev after : PlaceEntries
  after = set_value (is_at (place_cmp (f, p))) entries less

  fit : IsFit old made f less
  fit = let before = whole.fits f p was stands in record {
    known = before.known;
    present = before.present;
    given = λ k is. absurd (cc);
    reads = λ k is. absurd (cc);
    owes = λ k is. let owes = before.owes k is in record { same = owes.same; may = owes.may; by = owes.by };
  }

  one_given : (k : ℕ) → one_of k was.given ≡ one k key
  one_given k = ap (one_of k) given

  owing_some : (k frame : ℕ) → 0 < uses_of k less → version_at old k ≡ owed frame → HasOwing entries k frame
  owing_some k frame h is = let most = uses_at entries k f p was stands in whole.owing k frame (omega (arith, most)) is

  with_less : IsWhole after old made (λ k. one k key)
  with_less =
      let Q : PlaceEntries → Type 0 = λ es. IsStrictlySortedBy place_cmp (keys_of es) in
      change_in entries old made (λ _. 0) (λ k. one k key) f p was less whole stands refl refl refl fit owing_some
      (λ k. let here = one_given k in omega (arith, here)) (subst Q set sorted)

  some_held : 0 < one key key
  some_held = let self = one_self key in omega (arith, self)

  last_held : one key key ≡ 0 + 1
  last_held = let self = one_self key in omega (arith, self)

  pub forgotten_whole : IsWhole later new made (λ _. 0)
  forgotten_whole =
      let P : PlaceEntries → Type 0 = λ es. IsWhole es new made (λ _. 0) in
      subst P (sym set) (released_whole after old new made (λ k. one k key) (λ _. 0) key with_less some_held release last_held (λ k apart. sym (one_other k key apart)))

  placed : placed_of old less ≡ placed_of old was
  placed =
      let none : None ≡ given_of old was.given = sym (ap (given_of old) given ∙ ap owing reads) in
      λ i. record { object = was.object; kind = was.kind; mode = was.mode; given = none i; present = version_at old was.present }

  seen_after : versions_of after old made ≡ versions_of entries old made
  seen_after =
      let places : map (seen old) after ≡ map (seen old) entries =
      seen_set entries old f p less
      ∙ ap (set_value (is_at (place_cmp (f, p))) (map (seen old) entries)) placed
      ∙ set_value_same (is_at (place_cmp (f, p))) (map (seen old) entries) (placed_of old was) (seen_some entries old made f p was stands) in
      λ i. record { places = places i; made = made }

  pub forgotten_seen : versions_of later new made ≡ versions_of entries old made
  forgotten_seen =
      ap (λ es. versions_of es new made) set
      ∙ versions_same old new after made (λ k h. released_same after old new made (λ k. one k key) (λ _. 0) key with_less some_held release
      last_held (λ k apart. sym (one_other k key apart)) k (omega arith))
      ∙ seen_after

-- what is left of what was given is owed
pub left_owed : (E : Type 0) (old new : Slab Node) (was left : PlacedObject) → (given_of old was.given ≡ None → left.given ≡ None)
    → (KeepsOwed old was.given → (left ≡ was) × E × (new ≡ old)) → KeepsOwed new left.given
left_owed E old new was left given_up kept = by (given_of old was.given) refl where
  by : (o : Option ℕ) → given_of old was.given ≡ o → KeepsOwed new left.given
  by None is = λ some. let P : Option ℕ → Type 0 = λ o. IsSome o in absurd (false≢true (subst P (given_up is) some))
  by (Some frame) is =
      let owes : KeepsOwed old was.given = λ _. some_is (given_of old was.given) frame is in
      let same = kept owes in
      let P : PlacedObject → Type 0 = λ o. KeepsOwed old o.given in
      let Q : Slab Node → Type 0 = λ nodes. KeepsOwed nodes left.given in
      subst Q (sym same.2) (subst P (sym same.0) owes)

-- ---- and then the object is given to a child

pub then_whole : {T E : Type 0} (r : Result T E) (a b c : PlaceEntries) (old own new : Slab Node)
    → ((made : ℕ) → IsWhole a old made (λ _. 0) → IsWhole b own made (λ _. 0))
    → OnOk r ((made : ℕ) → IsWhole b own made (λ _. 0) → IsWhole c new made (λ _. 0))
    → OnOk r ((made : ℕ) → IsWhole a old made (λ _. 0) → IsWhole c new made (λ _. 0))
then_whole r a b c old own new first then = on_ok_weaker r (λ all made whole. all made (first made whole)) then

pub then_given : {T E : Type 0} (r : Result T E) (a b c : PlaceEntries) (old own new : Slab Node) (parent place child child_place : ℕ) (mode same : Mode) → mode ≡ same
    → ((made : ℕ) → IsWhole a old made (λ _. 0) → IsWhole b own made (λ _. 0))
    → ((made : ℕ) → IsWhole a old made (λ _. 0) → versions_of b own made ≡ versions_of a old made)
    → OnOk r ((made : ℕ) → IsWhole b own made (λ _. 0) → versions_of c new made ≡ after_access (versions_of b own made) parent place child child_place mode)
    → OnOk r ((made : ℕ) → IsWhole a old made (λ _. 0) → versions_of c new made ≡ after_access (versions_of a old made) parent place child child_place same)
then_given r a b c old own new parent place child child_place mode same e first seen then = on_ok_weaker r
    (λ all made whole. all made (first made whole) ∙ ap (λ s. after_access s parent place child child_place mode) (seen made whole)
    ∙ ap (after_access (versions_of a old made) parent place child child_place) e) then
