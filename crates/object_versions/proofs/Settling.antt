-- A version that a frame owes gets the frame's value, and the frame owes it no more.
use Rattle.std.proofs.Common.{◌≡◌, ◌≢◌, ℕ, ◌+◌, ◌<◌, true, cond, ◌==◌, None, Some, IsSome, map, refl, sym, ap, ◌∙◌, subst, arith, ⊎_elim}
use Rattle.std.proofs.lemmas.Option.{none-some, same_Some}
use Rattle.std.proofs.lemmas.Bool.{cases_eq, eq-eqb}
use Rattle.std.proofs.lemmas.Map.Steps.{set_value_same}
use Rattle.std.specs.BTreeMap.{is_at}
use Rattle.std.specs.Map.{set_value, keys_of}
use Rattle.std.specs.List.Sorted.{IsStrictlySortedBy}
use Rattle.std.specs.Option.{unwrap_or}
use Rattle.slab.specs.Slab.{Slab, get, Updates}
use Rattle.swan_model.specs.declared.value.Value.{Value}
use Rattle.swan_model.specs.Versions.{VersionState, settled, owed, settle, left_by, IsSettled, place_cmp}
use Rattle.object_versions.specs.declared.node.Node.{Node}
use Rattle.object_versions.specs.declared.node.NodeState.TheVariants.{Settled}
use Rattle.object_versions.specs.declared.placed_object.PlacedObject.{PlacedObject}
use Rattle.object_versions.specs.Store.{PlaceEntries, place_at, told_at, version_at, object_at, placed_of, seen, versions_of, one, one_of, uses, after_release}
use Rattle.object_versions.specs.Whole.{IsFit, HasOwing, IsWhole}
use Rattle.object_versions.specs.Ending.{IsDebt, IsSettling}
use Rattle.object_versions.proofs.Lookups.{here, still_set}
use Rattle.object_versions.proofs.Counts.{HasNode, used, uses_at, uses_changed, one_self, one_other, present_used, owes_used}
use Rattle.object_versions.proofs.GetsValue.{told_other, value_now, same_object, owed_apart, owed_before, counted_still, fit_still}
use Rattle.object_versions.proofs.Steps.{alone_set, fits_set}
use Rattle.swan_model.proofs.Elements.{some_is}
use Rattle.object_versions.proofs.References.{released_whole, released_same}
use Rattle.object_versions.proofs.Referred.{owes_there}
use Rattle.object_versions.proofs.Seeing.{seen_set, seen_some}
use Rattle.object_versions.proofs.Listing.{left_of}
use Rattle.object_versions.proofs.Differ.{settled_not-owed, owed_same, writes_not-in}

-- what has a value is not said to be owed
pub reads_no_owing : (nodes : Slab Node) (key : ℕ) (value : Value) (frame : ℕ) → version_at nodes key ≡ settled value
    → version_at nodes key ≡ owed frame → ⊥
reads_no_owing nodes key value frame reads owes = settled_not-owed value frame (sym reads ∙ owes)

-- ---- what a place's version was where the frame began to end is what it is

module _ (before now : PlaceEntries) (start nodes : Slab Node) (made n : ℕ) (begun : IsSettling before now start nodes made n) (q : ℕ) (has : PlacedObject) (stands : place_at now n q ≡ Some has) where
  present_use : 0 < uses has.present now
  present_use = let most = uses_at now has.present n q has stands in let here = present_used has in omega arith

  began_with : (v : Value) × (version_at start has.present ≡ settled v)
  began_with =
      let P : VersionState → Type 0 = λ state. IsSettled state n in
      (subst P (sym begun.same) begun.ready).values q _ (seen_some now start made n q has stands)

  pub reads_value : (value : Value) × (version_at nodes has.present ≡ settled value)
  reads_value = (began_with.0, begun.stay has.present began_with.0 present_use began_with.1)

  pub read_at_start : (value : Value) → version_at nodes has.present ≡ settled value → version_at start has.present ≡ settled value
  read_at_start value reads = began_with.1 ∙ sym (begun.stay has.present began_with.0 present_use began_with.1) ∙ reads

-- ---- one that is owed is paid

module _ (now later : PlaceEntries) (nodes middle next : Slab Node) (made f p : ℕ) (was : PlacedObject) (key : ℕ) (value : Value)
    (whole : IsWhole now nodes made (λ _. 0)) (stands : place_at now f p ≡ Some was) (owes : was.owes ≡ Some key)
    (change : (node : Node) → get nodes key ≡ Some node → Updates nodes middle key (Some (record node { state = Settled value })))
    (set : later ≡ set_value (is_at (place_cmp (f, p))) now (record was { owes = None })) (sorted : IsStrictlySortedBy place_cmp (keys_of later))
    (release : (node : Node) → get middle key ≡ Some node → Updates middle next key (after_release node)) where
  abbrev paid : PlacedObject
  paid = record was { owes = None }

  abbrev after : PlaceEntries
  after = set_value (is_at (place_cmp (f, p))) now paid

  owes_use : 0 < uses key now
  owes_use = let most = uses_at now key f p was stands in let here = owes_used was key owes in omega arith

  found : HasNode nodes key
  found = used nodes (λ k. uses k now + 0) key whole.counted (let some = owes_use in omega (arith, some))

  gone : (k : ℕ) → uses k after + one k key ≡ uses k now
  gone k =
      let sums = uses_changed now k f p was paid stands in
      let one_more : one_of k was.owes ≡ one k key = ap (one_of k) owes in
      omega (arith, sums, one_more)

  -- the frame owes it for this place alone
  owes_apart : (frame place : ℕ) (other : PlacedObject) (k : ℕ) → (let n : ℕ × ℕ = (frame, place) in n ≢ (f, p)) → place_at now frame place ≡ Some other → other.owes ≡ Some k → k ≢ key
  owes_apart frame place other k apart is owes_too e =
      let mine = (whole.fits f p was stands).owes key owes in
      let theirs = (whole.fits frame place other is).owes key (owes_too ∙ ap Some e) in
      let same : frame ≡ f = owed_same frame f (sym theirs.by ∙ mine.by) in
      let here : place_at now f place ≡ Some other = ap (λ m. place_at now m place) (sym same) ∙ is in
      let elsewhere : place ≢ p = λ tie. apart (λ i. (same i, tie i)) in
      writes_not-in other.mode theirs.may (whole.alone f place p other was here stands elsewhere (sym theirs.same ∙ mine.same)).0

  fit_paid : IsFit nodes made f paid
  fit_paid = let fit = whole.fits f p was stands in record {
    known = fit.known;
    present = fit.present;
    given = fit.given;
    reads = fit.reads;
    owes = λ k e. absurd (none-some k e);
  }

  fit_after : (frame place : ℕ) (has : PlacedObject) → place_at after frame place ≡ Some has → IsFit middle made frame has
  fit_after = fits_set now middle made f p was paid stands (fit_still nodes middle key value found change made f paid (λ k e. absurd (none-some k e)) fit_paid)
      (λ frame place has apart is. fit_still nodes middle key value found change made frame has (λ k e. owes_apart frame place has k apart is e) (whole.fits frame place has is))

  owing_after : (k m : ℕ) → 0 < uses k after → version_at middle k ≡ owed m → HasOwing after k m
  owing_after k m some is =
      let sums = gone k in
      let owing = whole.owing k m (omega (arith, some, sums)) (owed_before nodes middle key value found change k m is) in
      let elsewhere : (m, owing.place) ≢ (f, p) = λ e.
      let this : Some owing.has ≡ Some was = sym owing.stands ∙ ap (here now) e ∙ stands in
      owed_apart nodes middle key value found change k m is
      (same_Some k key (sym owing.owes ∙ ap (λ o. o.owes) (same_Some owing.has was this) ∙ owes)) in
      record {
        place = owing.place;
        has = owing.has;
        stands = still_set now (f, p) was paid (m, owing.place) stands elsewhere ∙ owing.stands;
        owes = owing.owes;
      }

  sorted_after : IsStrictlySortedBy place_cmp (keys_of after)
  sorted_after = let Q : PlaceEntries → Type 0 = λ es. IsStrictlySortedBy place_cmp (keys_of es) in subst Q set sorted

  -- the code still refers to it, until it is released
  whole_after : IsWhole after middle made (λ k. one k key)
  whole_after = record {
    sorted = sorted_after;
    counted = counted_still nodes middle key value found change (λ k. uses k now + 0) (λ k. uses k after + one k key) whole.counted (λ k. let sums = gone k in omega (arith, sums));
    fits = fit_after;
    owing = owing_after;
    alone = alone_set now f p was paid stands refl refl whole.alone;
  }

  none_else : (k : ℕ) → k ≢ key → 0 ≡ one k key
  none_else k apart = sym (one_other k key apart)

  held_one : 0 < one key key
  held_one = let self = one_self key in omega (arith, self)

  held_here : one key key ≡ 0 + 1
  held_here = one_self key

  whole_next : IsWhole after next made (λ _. 0)
  whole_next = released_whole after middle next made (λ k. one k key) (λ _. 0) key whole_after held_one release held_here none_else

  told_next : (k : ℕ) → 0 < uses k after → told_at next k ≡ told_at middle k
  told_next k some = released_same after middle next made (λ k. one k key) (λ _. 0) key whole_after held_one release held_here none_else k (omega (arith, some))

  module _ (before : PlaceEntries) (start : Slab Node) (begun : IsSettling before now start nodes made f) (reads : version_at nodes was.present ≡ settled value) where
    abbrev state : VersionState
    state = versions_of before start made

    by_frame : version_at nodes key ≡ owed f
    by_frame = ((whole.fits f p was stands).owes key owes).by

    left : left_by state f (object_at start key) ≡ Some (settled value)
    left =
        let owing = (whole.fits f p was stands).owes key owes in
        let object : object_at start key ≡ was.object = sym (begun.objects key owes_use) ∙ owing.same in
        ap (left_by state f) object
        ∙ ap (λ s. left_by s f was.object) (sym begun.same)
        ∙ left_of now start nodes made (λ _. 0) f p was value whole stands owing.may (read_at_start before now start nodes made f begun p was stands value reads)

    settles_key : settle state f (object_at start key) (version_at middle key) ≡ settle state f (object_at start key) (version_at nodes key)
    settles_key =
        let test : (f == f) ≡ true = eq-eqb f f refl in
        let settles : settle state f (object_at start key) (owed f) ≡ settled value =
        ap (λ b. cond b (unwrap_or (left_by state f (object_at start key)) (owed f)) (owed f)) test ∙ ap (λ l. unwrap_or l (owed f)) left in
        ap (settle state f (object_at start key)) (value_now nodes middle key value found change) ∙ sym settles ∙ sym (ap (settle state f (object_at start key)) by_frame)

    settles_same : (k : ℕ) → settle state f (object_at start k) (version_at middle k) ≡ settle state f (object_at start k) (version_at nodes k)
    settles_same k = ⊎_elim
        (λ e.
        let P : ℕ → Type 0 = λ j. settle state f (object_at start j) (version_at middle j) ≡ settle state f (object_at start j) (version_at nodes j) in
        subst P (sym e) settles_key)
        (λ apart. ap (λ t. settle state f (object_at start k) t.1) (told_other nodes middle key value found change k apart))
        (cases_eq k key)

    still_used : (k : ℕ) → 0 < uses k after → 0 < uses k now
    still_used k some = let sums = gone k in omega (arith, some, sums)

    stays : (k : ℕ) (v : Value) → 0 < uses k after → version_at start k ≡ settled v → version_at next k ≡ settled v
    stays k v some is =
        let was_so = begun.stay k v (still_used k some) is in
        let apart : k ≢ key = λ e. settled_not-owed v f (sym was_so ∙ ap (version_at nodes) e ∙ by_frame) in
        ap (λ t. t.1) (told_next k some) ∙ ap (λ t. t.1) (told_other nodes middle key value found change k apart) ∙ was_so

    same_places : map (seen start) after ≡ map (seen start) now
    same_places = seen_set now start f p paid ∙ set_value_same (is_at (place_cmp (f, p))) (map (seen start) now) (placed_of start was) (seen_some now start made f p was stands)

    settling_after : IsSettling before after start next made f
    settling_after = record {
      began = begun.began;
      ready = begun.ready;
      whole = whole_next;
      same = (let e = same_places in λ i. record { places = e i; made = made }) ∙ begun.same;
      fewer = λ k. let sums = gone k in let fewer = begun.fewer k in omega (arith, sums, fewer);
      objects = λ k h. ap (λ t. t.0) (told_next k h) ∙ same_object nodes middle key value found change k ∙ begun.objects k (still_used k h);
      versions = λ k h. ap (λ t. settle state f (object_at start k) t.1) (told_next k h) ∙ settles_same k ∙ begun.versions k (still_used k h);
      stay = stays;
    }

    pub settling_next : IsSettling before later start next made f
    settling_next = let P : PlaceEntries → Type 0 = λ es. IsSettling before es start next made f in subst P (sym set) settling_after

-- ---- what a frame owes for a place, as it ends

module _ (before now : PlaceEntries) (start nodes : Slab Node) (made n place present owed : ℕ) (begun : IsSettling before now start nodes made n) (debt : IsDebt now n place present owed) where
  pub debt_reads : (value : Value) × (version_at nodes present ≡ settled value)
  debt_reads =
      let read = reads_value before now start nodes made n begun place debt.has debt.stands in
      (read.0, ap (version_at nodes) (sym debt.has_present) ∙ read.1)

  pub debt_there : IsSome (get nodes owed)
  debt_there = owes_there now nodes made n place debt.has begun.whole debt.stands owed debt.owes

  pub debt_still_there : (middle : Slab Node) (value : Value) → ((node : Node) → get nodes owed ≡ Some node → Updates nodes middle owed (Some (record node { state = Settled value })))
      → IsSome (get middle owed)
  debt_still_there middle value change =
      let most = uses_at now owed n place debt.has debt.stands in
      let here = owes_used debt.has owed debt.owes in
      let found = used nodes (λ k. uses k now + 0) owed begun.whole.counted (omega (arith, most, here)) in
      some_is (get middle owed) _ (change found.node found.is).changed

-- before the first step
pub begins : (entries : PlaceEntries) (nodes : Slab Node) (made n : ℕ) → IsWhole entries nodes made (λ _. 0) → IsSettled (versions_of entries nodes made) n
    → IsSettling entries entries nodes nodes made n
begins entries nodes made n whole ready = record {
  began = whole;
  ready = ready;
  whole = whole;
  same = refl;
  fewer = λ k. omega arith;
  objects = λ k h. refl;
  versions = λ k h. refl;
  stay = λ k v h is. is;
}
