-- Kept versions stay whole.
use Rattle.std.proofs.Common.{◌≡◌, ◌≢◌, ◌⊎◌, ℕ, zero, suc, ◌+◌, ◌<◌, None, Some, refl, sym, ap, ◌∙◌, subst, arith, ⊎_elim}
use Rattle.std.proofs.lemmas.Bool.{cases_eq}
use Rattle.std.specs.BTreeMap.{is_at, insert_entry}
use Rattle.std.specs.Map.{set_value, remove_entry, keys_of}
use Rattle.std.specs.List.Sorted.{IsStrictlySortedBy}
use Rattle.slab.specs.Slab.{Slab}
use Rattle.swan_model.specs.declared.rights.Mode.TheVariants.{In}
use Rattle.swan_model.specs.Versions.{Version, owed, place_cmp}
use Rattle.object_versions.specs.declared.node.Node.{Node}
use Rattle.object_versions.specs.declared.placed_object.PlacedObject.{PlacedObject}
use Rattle.object_versions.specs.Store.{PlaceEntries, place_at, told_at, version_at, object_at, one, uses_of, uses}
use Rattle.object_versions.specs.Whole.{IsCounted, IsFit, HasOwing, IsWhole, MayGetAt}
use Rattle.object_versions.proofs.Lookups.{here, IsNewEntry, IsOldEntry, after_insert, after_set, after_removal, at_inserted, at_set, still_inserted, still_set, still_without, cases_place}
use Rattle.object_versions.proofs.Counts.{one_other, same_count, uses_inserted, uses_changed, uses_without, uses_at, present_used, given_used, owes_used}

-- ---- the nodes change

told_object : (a b : ℕ × Version) → a ≡ b → a.0 ≡ b.0
told_object a b e = ap (λ t. t.0) e

pub told_version : (a b : ℕ × Version) → a ≡ b → a.1 ≡ b.1
told_version a b e = ap (λ t. t.1) e

pub moved_fit : (old new : Slab Node) (made frame : ℕ) (has : PlacedObject) → ((k : ℕ) → 0 < uses_of k has → told_at new k ≡ told_at old k)
    → IsFit old made frame has → IsFit new made frame has
moved_fit old new made frame has same fit = record {
  known = fit.known;
  present = told_object _ _ (same has.present (present_used has)) ∙ fit.present;
  given = λ key is. told_object _ _ (same key (given_used has key is)) ∙ fit.given key is;
  reads = fit.reads;
  owes = λ key is. let owing = fit.owes key is in let told = same key (owes_used has key is) in record {
    same = told_object _ _ told ∙ owing.same;
    may = owing.may;
    by = told_version _ _ told ∙ owing.by;
  };
}

pub moved_nodes : (entries : PlaceEntries) (old new : Slab Node) (made : ℕ) (held later : ℕ → ℕ) → IsWhole entries old made held
    → IsCounted new (λ k. uses k entries + later k) → ((k : ℕ) → 0 < uses k entries → told_at new k ≡ told_at old k)
    → IsWhole entries new made later
moved_nodes entries old new made held later whole counted same = record {
  sorted = whole.sorted;
  counted = counted;
  fits = λ frame place has stands. moved_fit old new made frame has
      (λ k h. let most = uses_at entries k frame place has stands in same k (omega arith)) (whole.fits frame place has stands);
  owing = λ key frame h is. whole.owing key frame h (sym (told_version _ _ (same key h)) ∙ is);
  alone = whole.alone;
}

-- more objects were made
pub more_made : (entries : PlaceEntries) (nodes : Slab Node) (made : ℕ) (held : ℕ → ℕ) → IsWhole entries nodes made held → IsWhole entries nodes (made + 1) held
more_made entries nodes made held whole = record {
  sorted = whole.sorted;
  counted = whole.counted;
  fits = λ frame place has stands. let fit = whole.fits frame place has stands in record {
    known = let known = fit.known in omega arith;
    present = fit.present;
    given = fit.given;
    reads = fit.reads;
    owes = fit.owes;
  };
  owing = whole.owing;
  alone = whole.alone;
}

-- ---- an object comes to a place

module _ (entries : PlaceEntries) (nodes : Slab Node) (made : ℕ) (held later : ℕ → ℕ) (f p : ℕ) (has : PlacedObject) (whole : IsWhole entries nodes made held)
    (free : place_at entries f p ≡ None) where
  abbrev after : PlaceEntries
  after = insert_entry place_cmp entries (f, p) has

  owing_still : (key frame : ℕ) → HasOwing entries key frame → HasOwing after key frame
  owing_still key frame owing = record {
    place = owing.place;
    has = owing.has;
    stands = still_inserted entries (f, p) has (frame, owing.place) owing.has free owing.stands;
    owes = owing.owes;
  }

  owing_new : (key frame : ℕ) → frame ≡ f → has.owes ≡ Some key → HasOwing after key frame
  owing_new key frame same is = record {
    place = p;
    has = has;
    stands = ap (λ n. place_at after n p) same ∙ at_inserted entries (f, p) has;
    owes = is;
  }

  owing_after : ((key frame : ℕ) → 0 < uses_of key has → version_at nodes key ≡ owed frame → HasOwing entries key frame ⊎ ((frame ≡ f) × (has.owes ≡ Some key)))
      → (key frame : ℕ) → 0 < uses key after → version_at nodes key ≡ owed frame → HasOwing after key frame
  owing_after new key frame h is = by (uses key entries) refl where
    by : (n : ℕ) → uses key entries ≡ n → HasOwing after key frame
    by zero none =
        let sums = uses_inserted entries key f p has whole.sorted free in
        ⊎_elim (owing_still key frame) (λ own. owing_new key frame own.0 own.1) (new key frame (omega arith) is)
    by (suc n) some = owing_still key frame (whole.owing key frame (omega arith) is)

  alone_after : MayGetAt entries f has.object has.mode → (frame place other : ℕ) (a b : PlacedObject) → place_at after frame place ≡ Some a → place_at after frame other ≡ Some b
      → place ≢ other → a.object ≡ b.object → (a.mode ≡ In) × (b.mode ≡ In)
  alone_after may frame place other a b left right apart same =
      ⊎_elim
      (λ (x : IsNewEntry (f, p) (frame, place) has a). ⊎_elim
      (λ (y : IsNewEntry (f, p) (frame, other) has b). absurd (apart (ap (λ (k : ℕ × ℕ). k.1) (x.same ∙ sym y.same))))
      (λ (y : IsOldEntry entries (f, p) (frame, other) b).
      let both = may.alone other b (ap (λ n. place_at entries n other) (sym (ap (λ (k : ℕ × ℕ). k.0) x.same)) ∙ y.was) (sym same ∙ ap (λ o. o.object) x.is) in
      (ap (λ o. o.mode) x.is ∙ both.1, both.0))
      (after_insert entries (f, p) has (frame, other) b right))
      (λ (x : IsOldEntry entries (f, p) (frame, place) a). ⊎_elim
      (λ (y : IsNewEntry (f, p) (frame, other) has b).
      let both = may.alone place a (ap (λ n. place_at entries n place) (sym (ap (λ (k : ℕ × ℕ). k.0) y.same)) ∙ x.was) (same ∙ ap (λ o. o.object) y.is) in
      (both.0, ap (λ o. o.mode) y.is ∙ both.1))
      (λ (y : IsOldEntry entries (f, p) (frame, other) b). whole.alone frame place other a b x.was y.was apart same)
      (after_insert entries (f, p) has (frame, other) b right))
      (after_insert entries (f, p) has (frame, place) a left)

  pub come_in : IsFit nodes made f has → MayGetAt entries f has.object has.mode
      → ((key frame : ℕ) → 0 < uses_of key has → version_at nodes key ≡ owed frame → HasOwing entries key frame ⊎ ((frame ≡ f) × (has.owes ≡ Some key)))
      → ((k : ℕ) → held k ≡ later k + uses_of k has) → IsStrictlySortedBy place_cmp (keys_of after) → IsWhole after nodes made later
  come_in fit may new counts sorted = record {
    sorted = sorted;
    counted = same_count nodes (λ k. uses k entries + held k) (λ k. uses k after + later k) whole.counted
        (λ k. let sums = uses_inserted entries k f p has whole.sorted free in let count = counts k in omega (arith, sums, count));
    fits = λ frame place other stands. ⊎_elim
        (λ (x : IsNewEntry (f, p) (frame, place) has other).
        let P : ℕ → Type 0 = λ n. IsFit nodes made n other in
        let Q : PlacedObject → Type 0 = λ o. IsFit nodes made f o in
        subst P (sym (ap (λ (k : ℕ × ℕ). k.0) x.same)) (subst Q (sym x.is) fit))
        (λ (x : IsOldEntry entries (f, p) (frame, place) other). whole.fits frame place other x.was)
        (after_insert entries (f, p) has (frame, place) other stands);
    owing = owing_after new;
    alone = alone_after may;
  }

-- ---- what is kept at a place changes

-- where what stands there now fits, and each other place does, all do
pub fits_set : (entries : PlaceEntries) (nodes : Slab Node) (made f p : ℕ) (was changed : PlacedObject) → place_at entries f p ≡ Some was → IsFit nodes made f changed
    → ((frame place : ℕ) (has : PlacedObject) → (let n : ℕ × ℕ = (frame, place) in n ≢ (f, p)) → place_at entries frame place ≡ Some has → IsFit nodes made frame has)
    → (frame place : ℕ) (has : PlacedObject) → place_at (set_value (is_at (place_cmp (f, p))) entries changed) frame place ≡ Some has → IsFit nodes made frame has
fits_set entries nodes made f p was changed stands fit others frame place has is = ⊎_elim
    (λ (x : IsNewEntry (f, p) (frame, place) changed has).
    let P : ℕ → Type 0 = λ n. IsFit nodes made n has in
    let Q : PlacedObject → Type 0 = λ o. IsFit nodes made f o in
    subst P (sym (ap (λ (k : ℕ × ℕ). k.0) x.same)) (subst Q (sym x.is) fit))
    (λ (x : IsOldEntry entries (f, p) (frame, place) has). others frame place has x.apart x.was)
    (after_set entries (f, p) was changed (frame, place) has stands is)

module _ (entries : PlaceEntries) (f p : ℕ) (was changed : PlacedObject) (stands : place_at entries f p ≡ Some was) (same_object : changed.object ≡ was.object) (same_mode : changed.mode ≡ was.mode) where
  -- what a place has now has the object and the mode of what it had
  record Had (n : ℕ × ℕ) (has : PlacedObject) : Type 0 where
    before : PlacedObject
    stood : here entries n ≡ Some before
    object : before.object ≡ has.object
    mode : before.mode ≡ has.mode

  had : (n : ℕ × ℕ) (has : PlacedObject) → here (set_value (is_at (place_cmp (f, p))) entries changed) n ≡ Some has → Had n has
  had n has is = ⊎_elim
      (λ (x : IsNewEntry (f, p) n changed has). record {
        before = was;
        stood = ap (here entries) x.same ∙ stands;
        object = sym same_object ∙ ap (λ o. o.object) (sym x.is);
        mode = sym same_mode ∙ ap (λ o. o.mode) (sym x.is);
      })
      (λ (x : IsOldEntry entries (f, p) n has). record { before = has; stood = x.was; object = refl; mode = refl })
      (after_set entries (f, p) was changed n has stands is)

  -- so an object that stands at two places of a frame may still only be read there
  pub alone_set : ((frame place other : ℕ) (a b : PlacedObject) → place_at entries frame place ≡ Some a → place_at entries frame other ≡ Some b
      → place ≢ other → a.object ≡ b.object → (a.mode ≡ In) × (b.mode ≡ In))
      → (frame place other : ℕ) (a b : PlacedObject) → place_at (set_value (is_at (place_cmp (f, p))) entries changed) frame place ≡ Some a
      → place_at (set_value (is_at (place_cmp (f, p))) entries changed) frame other ≡ Some b → place ≢ other → a.object ≡ b.object → (a.mode ≡ In) × (b.mode ≡ In)
  alone_set alone frame place other a b left right apart same =
      let x = had (frame, place) a left in
      let y = had (frame, other) b right in
      let both = alone frame place other x.before y.before x.stood y.stood apart (x.object ∙ same ∙ sym y.object) in
      (sym x.mode ∙ both.0, sym y.mode ∙ both.1)

module _ (entries : PlaceEntries) (nodes : Slab Node) (made : ℕ) (held later : ℕ → ℕ) (f p : ℕ) (was changed : PlacedObject) (whole : IsWhole entries nodes made held)
    (stands : place_at entries f p ≡ Some was) (same_object : changed.object ≡ was.object) (same_mode : changed.mode ≡ was.mode) (same_owes : changed.owes ≡ was.owes) where
  abbrev with_changed : PlaceEntries
  with_changed = set_value (is_at (place_cmp (f, p))) entries changed

  owing_kept : (k frame : ℕ) → HasOwing entries k frame → HasOwing with_changed k frame
  owing_kept k frame owing = ⊎_elim
      (λ (e : (frame, owing.place) ≡ (f, p)).
      let same : Some owing.has ≡ Some was = sym owing.stands ∙ ap (here entries) e ∙ stands in
      let is : owing.has ≡ was = cc in
      record {
        place = p;
        has = changed;
        stands = ap (λ (n : ℕ × ℕ). place_at with_changed n.0 p) e ∙ at_set entries (f, p) was changed stands;
        owes = same_owes ∙ ap (λ o. o.owes) (sym is) ∙ owing.owes;
      })
      (λ apart. record {
        place = owing.place;
        has = owing.has;
        stands = still_set entries (f, p) was changed (frame, owing.place) stands apart ∙ owing.stands;
        owes = owing.owes;
      })
      (cases_place (frame, owing.place) (f, p))

  owing_now : ((k frame : ℕ) → 0 < uses_of k changed → version_at nodes k ≡ owed frame → HasOwing entries k frame)
      → (k frame : ℕ) → 0 < uses k with_changed → version_at nodes k ≡ owed frame → HasOwing with_changed k frame
  owing_now owing k frame h is = owing_kept k frame (by (uses k entries) refl) where
    by : (n : ℕ) → uses k entries ≡ n → HasOwing entries k frame
    by zero none = let sums = uses_changed entries k f p was changed stands in owing k frame (omega (arith, sums)) is
    by (suc n) some = whole.owing k frame (omega arith) is

  pub change_in : IsFit nodes made f changed → ((k frame : ℕ) → 0 < uses_of k changed → version_at nodes k ≡ owed frame → HasOwing entries k frame)
      → ((k : ℕ) → held k + uses_of k was ≡ later k + uses_of k changed) → IsStrictlySortedBy place_cmp (keys_of with_changed) → IsWhole with_changed nodes made later
  change_in fit owing counts sorted = record {
    sorted = sorted;
    counted = same_count nodes (λ k. uses k entries + held k) (λ k. uses k with_changed + later k) whole.counted
        (λ k. let sums = uses_changed entries k f p was changed stands in let count = counts k in omega (arith, sums, count));
    fits = fits_set entries nodes made f p was changed stands fit (λ frame place has apart is. whole.fits frame place has is);
    owing = owing_now owing;
    alone = alone_set entries f p was changed stands same_object same_mode whole.alone;
  }

-- a place has another version
module _ (entries : PlaceEntries) (nodes : Slab Node) (made : ℕ) (held later : ℕ → ℕ) (f p key : ℕ) (was : PlacedObject) (whole : IsWhole entries nodes made held)
    (stands : place_at entries f p ≡ Some was) where
  fit_now : object_at nodes key ≡ was.object → IsFit nodes made f (record was { present = key })
  fit_now same = let fit = whole.fits f p was stands in record {
    known = fit.known;
    present = same;
    given = fit.given;
    reads = fit.reads;
    owes = λ k is. let owing = fit.owes k is in record { same = owing.same; may = owing.may; by = owing.by };
  }

  pub set_in : object_at nodes key ≡ was.object → ((frame : ℕ) → version_at nodes key ≡ owed frame → HasOwing entries key frame)
      → ((k : ℕ) → held k + one k was.present ≡ later k + one k key) → IsStrictlySortedBy place_cmp (keys_of (set_value (is_at (place_cmp (f, p))) entries (record was { present = key })))
      → IsWhole (set_value (is_at (place_cmp (f, p))) entries (record was { present = key })) nodes made later
  set_in same owing counts sorted = change_in entries nodes made held later f p was (record was { present = key }) whole stands refl refl refl (fit_now same)
      (λ k frame h is. ⊎_elim
      (λ e. let P : ℕ → Type 0 = λ n. HasOwing entries n frame in subst P (sym e) (owing frame (ap (version_at nodes) (sym e) ∙ is)))
      (λ apart.
      let most = uses_at entries k f p was stands in
      let none = one_other k key apart in
      whole.owing k frame (omega (arith, most, none)) is)
      (cases_eq k key))
      (λ k. let count = counts k in omega (arith, count)) sorted

-- ---- what a frame has at a place goes out

module _ (entries : PlaceEntries) (nodes : Slab Node) (made : ℕ) (held later : ℕ → ℕ) (f p : ℕ) (has : PlacedObject) (whole : IsWhole entries nodes made held)
    (stands : place_at entries f p ≡ Some has) where
  abbrev left : PlaceEntries
  left = remove_entry (is_at (place_cmp (f, p))) entries

  pub go_out : ((key : ℕ) → 0 < uses key entries → version_at nodes key ≡ owed f → ⊥) → ((k : ℕ) → later k ≡ held k + uses_of k has)
      → IsStrictlySortedBy place_cmp (keys_of left) → IsWhole left nodes made later
  go_out none counts sorted = record {
    sorted = sorted;
    counted = same_count nodes (λ k. uses k entries + held k) (λ k. uses k left + later k) whole.counted
        (λ k. let sums = uses_without entries k f p has stands in let count = counts k in omega (arith, sums, count));
    fits = λ frame place other is.
        let x = after_removal entries (f, p) (frame, place) other whole.sorted is in whole.fits frame place other x.was;
    owing = λ key frame h is.
        let sums = uses_without entries key f p has stands in
        let some : 0 < uses key entries = omega (arith, sums) in
        let owing = whole.owing key frame some is in
        let apart : (frame, owing.place) ≢ (f, p) = λ e. none key some (is ∙ ap (λ (n : ℕ × ℕ). owed n.0) e) in
        record {
          place = owing.place;
          has = owing.has;
          stands = still_without entries (f, p) (frame, owing.place) whole.sorted apart ∙ owing.stands;
          owes = owing.owes;
        };
    alone = λ frame place other a b l r apart same.
        let x = after_removal entries (f, p) (frame, place) a whole.sorted l in
        let y = after_removal entries (f, p) (frame, other) b whole.sorted r in
        whole.alone frame place other a b x.was y.was apart same;
  }
