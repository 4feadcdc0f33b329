-- What a frame has at a place after an object came to a place, or its version there was changed.
use Rattle.std.proofs.Common.{◌≡◌, ◌⊎◌, inl, inr, ℕ, Bool, true, false, cond, None, Some, List, [], ◌∷◌, refl, sym, ap, subst, ◌∙◌}
use Rattle.std.proofs.lemmas.Map.{keys-set_value}
use Rattle.std.specs.List.{AllByRecursion}
use Rattle.std.specs.List.Sorted.{IsStrictlySortedBy}
use Rattle.std.specs.Map.{set_value, keys_of}
use Rattle.std.specs.BTreeMap.{is_at, insert_entry}
use Rattle.std.specs.Ordering.{match_ordering, ordering_reverse}
use Rattle.std.specs.declared.cmp.Ordering.{Ordering}
use Rattle.std.specs.declared.cmp.Ordering.TheVariants.{Less, Equal, Greater}
use Rattle.object_versions.proofs.Lookups.{IsNewEntry, IsOldEntry, after_insert, after_set, at_inserted, equal_by, place_total, still_inserted}
use Rattle.swan_model.proofs.Lookups.{found_set}
use Rattle.swan_model.specs.declared.rights.Mode.TheVariants.{InOut}
use Rattle.swan_model.specs.declared.value.Value.{Value}
use Rattle.swan_model.specs.Values.{kind_of}
use Rattle.swan_model.specs.Versions.{Version, settled, Placed, Places, VersionState, place_cmp, placed_at, with_placed, with_present}

-- the keys stay in order
below : (k n : ℕ × ℕ) (keys : List (ℕ × ℕ)) → place_cmp k n ≡ Less → AllByRecursion (λ y. place_cmp n y ≡ Less) keys
    → AllByRecursion (λ y. place_cmp k y ≡ Less) keys
below k n [] less all = tt
below k n (key ∷ keys) less all = (place_total.trans k n key less all.0, below k n keys less all.1)

all_in : (p : ℕ × ℕ) (es : Places) (k : ℕ × ℕ) (v : Placed) → AllByRecursion (λ y. place_cmp p y ≡ Less) (keys_of es) → place_cmp p k ≡ Less
    → AllByRecursion (λ y. place_cmp p y ≡ Less) (keys_of (insert_entry place_cmp es k v))
all_in p [] k v all less = (less, tt)
all_in p (e ∷ es) k v all less = by (place_cmp k e.0) (all_in p es k v all.1 less) where
  by : (o : Ordering) → AllByRecursion (λ y. place_cmp p y ≡ Less) (keys_of (insert_entry place_cmp es k v))
      → AllByRecursion (λ y. place_cmp p y ≡ Less) (keys_of (match_ordering o ((k, v) ∷ e ∷ es) ((e.0, v) ∷ es) (e ∷ insert_entry place_cmp es k v)))
  by Less rest = (less, all)
  by Equal rest = all
  by Greater rest = (all.0, rest)

pub sorted_in : (es : Places) (k : ℕ × ℕ) (v : Placed) → IsStrictlySortedBy place_cmp (keys_of es) → IsStrictlySortedBy place_cmp (keys_of (insert_entry place_cmp es k v))
unfolding IsStrictlySortedBy
sorted_in [] k v sorted = (tt, tt)
sorted_in (e ∷ es) k v sorted = by (place_cmp k e.0) refl (sorted_in es k v sorted.1) where
  by : (o : Ordering) → place_cmp k e.0 ≡ o → IsStrictlySortedBy place_cmp (keys_of (insert_entry place_cmp es k v))
      → IsStrictlySortedBy place_cmp (keys_of (match_ordering o ((k, v) ∷ e ∷ es) ((e.0, v) ∷ es) (e ∷ insert_entry place_cmp es k v)))
  by Less is rest = ((is, below k e.0 (keys_of es) is sorted.0), sorted)
  by Equal is rest = sorted
  by Greater is rest = (all_in e.0 es k v sorted.0 (place_total.antisymm e.0 k ∙ ap ordering_reverse is), rest)

pub sorted_set : (es : Places) (k : ℕ × ℕ) (v : Placed) → IsStrictlySortedBy place_cmp (keys_of es) → IsStrictlySortedBy place_cmp (keys_of (set_value (is_at (place_cmp k)) es v))
sorted_set es k v sorted =
    let P : List (ℕ × ℕ) → Type 0 = λ keys. IsStrictlySortedBy place_cmp keys in
    subst P (sym (keys-set_value (is_at (place_cmp k)) es v)) sorted

-- ---- in the objects

-- what the maker of a new object has at its place
abbrev pub made_object : VersionState → Value → Placed
made_object state value = record { object = state.made; kind = kind_of value; mode = InOut; given = None; present = settled value }

-- what a frame has at a place is the object that came there, or what it has now
pub record IsHere (frame place : ℕ) (object : Placed) (f p : ℕ) (has : Placed) : Type 0 where
  pub frames : f ≡ frame
  pub places : p ≡ place
  pub objects : has ≡ object

-- it is what the frame had at the place before, which is another place
pub record IsThere (state : VersionState) (frame place f p : ℕ) (has : Placed) : Type 0 where
  pub apart : f ≡ frame → p ≡ place → ⊥
  pub was : placed_at state f p ≡ Some has

-- the same of a key, by its frame and its place
by_parts : (state : VersionState) (frame place f p : ℕ) (object has : Placed) → IsNewEntry (frame, place) (f, p) object has ⊎ IsOldEntry state.places (frame, place) (f, p) has
    → IsHere frame place object f p has ⊎ IsThere state frame place f p has
by_parts state frame place f p object has (inl new) = inl (record { frames = ap (λ (k : ℕ × ℕ). k.0) new.same; places = ap (λ (k : ℕ × ℕ). k.1) new.same; objects = new.is })
by_parts state frame place f p object has (inr old) = inr (record { apart = λ a b. old.apart (λ i. (a i, b i)); was = old.was })

pub after_placed : (state : VersionState) (frame place : ℕ) (object : Placed) (f p : ℕ) (has : Placed) → placed_at (with_placed state frame place object) f p ≡ Some has
    → IsHere frame place object f p has ⊎ IsThere state frame place f p has
after_placed state frame place object f p has is = by_parts state frame place f p object has (after_insert state.places (frame, place) object (f, p) has is)

pub after_present : (state : VersionState) (frame place : ℕ) (object : Placed) (version : Version) (f p : ℕ) (has : Placed) → placed_at state frame place ≡ Some object
    → placed_at (with_present state frame place object version) f p ≡ Some has
    → IsHere frame place (record object { present = version }) f p has ⊎ IsThere state frame place f p has
after_present state frame place object version f p has stands is =
    let changed : Placed = record object { present = version } in
    by_parts state frame place f p changed has (after_set state.places (frame, place) object changed (f, p) has stands is)

pub at_placed : (state : VersionState) (frame place : ℕ) (object : Placed) → placed_at (with_placed state frame place object) frame place ≡ Some object
at_placed state frame place object = at_inserted state.places (frame, place) object

pub still_placed : (state : VersionState) (frame place : ℕ) (object : Placed) (f p : ℕ) (has : Placed) → placed_at state frame place ≡ None
    → placed_at state f p ≡ Some has → placed_at (with_placed state frame place object) f p ≡ Some has
still_placed state frame place object f p has free is = still_inserted state.places (frame, place) object (f, p) has free is

-- a place is still there, with the same object and mode
pub record IsStill (state : VersionState) (f p : ℕ) (has : Placed) : Type 0 where
  pub now : Placed
  pub stands : placed_at state f p ≡ Some now
  pub object : now.object ≡ has.object
  pub mode : now.mode ≡ has.mode

pub still_present : (state : VersionState) (frame place : ℕ) (object : Placed) (version : Version) (f p : ℕ) (has : Placed) → placed_at state frame place ≡ Some object
    → placed_at state f p ≡ Some has → IsStill (with_present state frame place object version) f p has
still_present state frame place object version f p has stands is =
    by (is_at (place_cmp (frame, place)) (f, p)) refl
    (found_set place_total state.places (frame, place) object (record object { present = version }) (f, p) stands)
  where
    by : (b : Bool) → is_at (place_cmp (frame, place)) (f, p) ≡ b
        → placed_at (with_present state frame place object version) f p ≡ cond b (Some (record object { present = version })) (placed_at state f p)
        → IsStill (with_present state frame place object version) f p has
    by true tie found =
        let both = equal_by frame place f p tie in
        let same : Some object ≡ Some has = sym stands ∙ (λ i. placed_at state (both.0 i) (both.1 i)) ∙ is in
        let e : object ≡ has = cc in
        record { now = record object { present = version }; stands = found; object = ap (λ o. o.object) e; mode = ap (λ o. o.mode) e }
    by false tie found = record { now = has; stands = found ∙ is; object = refl; mode = refl }

-- and a place that is there was there
pub back_present : (state : VersionState) (frame place : ℕ) (object : Placed) (version : Version) (f p : ℕ) (has : Placed) → placed_at state frame place ≡ Some object
    → placed_at (with_present state frame place object version) f p ≡ Some has → IsStill state f p has
back_present state frame place object version f p has stands is = elim (after_present state frame place object version f p has stands is) [
  | inl here ↦ record {
    now = object;
    stands = (λ i. placed_at state (here.frames i) (here.places i)) ∙ stands;
    object = sym (ap (λ o. o.object) here.objects);
    mode = sym (ap (λ o. o.mode) here.objects);
  }
  | inr there ↦ record { now = has; stands = there.was; object = refl; mode = refl }
]
