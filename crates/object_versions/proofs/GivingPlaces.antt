-- What stands at a place after one access: the child has what it got, the parent has what is left with it, and no other place has
-- changed.
use Rattle.std.proofs.Common.{◌≡◌, ◌⊎◌, inl, inr, ℕ, Bool, true, false, cond, Option, None, Some, refl, sym, ap, ◌∙◌}
use Rattle.std.specs.BTreeMap.{is_at}
use Rattle.swan_model.specs.declared.rights.Mode.{Mode}
use Rattle.swan_model.specs.declared.rights.Mode.TheVariants.{In, Out, InOut, Push, Pop, PushPop}
use Rattle.swan_model.specs.Versions.{Version, owed, Placed, VersionState, place_cmp, placed_at, with_placed, with_present, after_access, given_from, got, left_with}
use Rattle.object_versions.proofs.Differ.{owing_owed}
use Rattle.object_versions.proofs.Lookups.{at_set, equal_by, place_total}
use Rattle.swan_model.proofs.Lookups.{found_set}
use Rattle.object_versions.proofs.PlacesAfter.{IsHere, IsThere, after_placed, after_present, at_placed, still_placed}

-- ---- what is got

pub got_mode : (object : Placed) (mode : Mode) → (got object mode).mode ≡ mode
got_mode object In = refl
got_mode object Out = refl
got_mode object InOut = refl
got_mode object Push = refl
got_mode object Pop = refl
got_mode object PushPop = refl

pub got_object : (object : Placed) (mode : Mode) → (got object mode).object ≡ object.object
got_object object In = refl
got_object object Out = refl
got_object object InOut = refl
got_object object Push = refl
got_object object Pop = refl
got_object object PushPop = refl

pub got_kind : (object : Placed) (mode : Mode) → (got object mode).kind ≡ object.kind
got_kind object In = refl
got_kind object Out = refl
got_kind object InOut = refl
got_kind object Push = refl
got_kind object Pop = refl
got_kind object PushPop = refl

-- who owes what was got owes what it was got of
pub got_present : (object : Placed) (mode : Mode) (frame : ℕ) → (got object mode).present ≡ owed frame → object.present ≡ owed frame
got_present object In frame is = is
got_present object Out frame is = absurd (cc)
got_present object InOut frame is = is
got_present object Push frame is = is
got_present object Pop frame is = is
got_present object PushPop frame is = is

pub got_given : (object : Placed) (mode : Mode) (frame : ℕ) → (got object mode).given ≡ Some frame → object.present ≡ owed frame
got_given object In frame is = owing_owed object.present frame is
got_given object Out frame is = absurd (cc)
got_given object InOut frame is = owing_owed object.present frame is
got_given object Push frame is = owing_owed object.present frame is
got_given object Pop frame is = owing_owed object.present frame is
got_given object PushPop frame is = owing_owed object.present frame is

pub got_owed : (object : Placed) (mode : Mode) (frame : ℕ) → ((got object mode).present ≡ owed frame) ⊎ ((got object mode).given ≡ Some frame) → object.present ≡ owed frame
got_owed object mode frame owes = elim owes [
  | inl present ↦ got_present object mode frame present
  | inr given ↦ got_given object mode frame given
]

-- ---- what stands after one access

-- a place that isn't the one that the child got: the parent's, with what is left there, or one where nothing has changed
pub record IsBack (state : VersionState) (parent place child child_place f p : ℕ) (object has : Placed) (version : Version) : Type 0 where
  pub apart : f ≡ child → p ≡ child_place → ⊥
  pub how : IsHere parent place (record object { present = version }) f p has ⊎ IsThere state parent place f p has

-- what stood at a place still does, but for the parent's version
pub record StillStands (now : VersionState) (parent place f p : ℕ) (has : Placed) (version : Placed → Version) : Type 0 where
  pub now_has : Placed
  pub stands : placed_at now f p ≡ Some now_has
  pub how : (now_has ≡ has) ⊎ ((f ≡ parent) × (p ≡ place) × (now_has ≡ record has { present = version has }))

module _ (state : VersionState) (parent place child child_place : ℕ) (mode : Mode) (object : Placed) (stands : placed_at state parent place ≡ Some object)
    (free : placed_at state child child_place ≡ None) where
  abbrev pub middle : VersionState
  middle = with_present state parent place object (left_with object child mode)

  abbrev pub given_now : VersionState
  given_now = with_placed middle child child_place (got object mode)

  free_still : placed_at middle child child_place ≡ None
  free_still = by (placed_at middle child child_place) refl where
    by : (o : Option Placed) → placed_at middle child child_place ≡ o → o ≡ None
    by None is = refl
    by (Some has) is = elim (after_present state parent place object (left_with object child mode) child child_place has stands is) [
      | inl here ↦
          let e : None ≡ Some object = sym free ∙ (λ i. placed_at state (here.frames i) (here.places i)) ∙ stands in absurd (cc)
      | inr there ↦ let e : None ≡ Some has = sym free ∙ there.was in absurd (cc)
    ]

  pub which : (f p : ℕ) (has : Placed) → placed_at given_now f p ≡ Some has
      → IsHere child child_place (got object mode) f p has ⊎ IsBack state parent place child child_place f p object has (left_with object child mode)
  which f p has is = elim (after_placed middle child child_place (got object mode) f p has is) [
    | inl here ↦ inl here
    | inr there ↦ inr (record { apart = there.apart; how = after_present state parent place object (left_with object child mode) f p has stands there.was })
  ]

  pub child_has : placed_at given_now child child_place ≡ Some (got object mode)
  child_has = at_placed middle child child_place (got object mode)

  pub parent_has : placed_at given_now parent place ≡ Some (record object { present = left_with object child mode })
  parent_has =
      let new : Placed = record object { present = left_with object child mode } in
      still_placed middle child child_place (got object mode) parent place new free_still (at_set state.places (parent, place) object new stands)

  pub left : (f p : ℕ) (has : Placed) → placed_at state f p ≡ Some has → StillStands given_now parent place f p has (λ was. left_with was child mode)
  left f p has is =
      by (is_at (place_cmp (parent, place)) (f, p)) refl
      (found_set place_total state.places (parent, place) object (record object { present = left_with object child mode }) (f, p) stands)
    where
      by : (b : Bool) → is_at (place_cmp (parent, place)) (f, p) ≡ b
          → placed_at middle f p ≡ cond b (Some (record object { present = left_with object child mode })) (placed_at state f p)
          → StillStands given_now parent place f p has (λ was. left_with was child mode)
      by true tie found =
          let both = equal_by parent place f p tie in
          let same : Some object ≡ Some has = sym stands ∙ (λ i. placed_at state (both.0 i) (both.1 i)) ∙ is in
          let e : object ≡ has = cc in
          let new : Placed = record object { present = left_with object child mode } in
          let last : new ≡ record has { present = left_with has child mode } = ap (λ (o : Placed). record o { present = left_with o child mode }) e in
          record {
            now_has = new;
            stands = still_placed middle child child_place (got object mode) f p new free_still found;
            how = inr (sym both.0, sym both.1, last);
          }
      by false tie found = record {
        now_has = has;
        stands = still_placed middle child child_place (got object mode) f p has free_still (found ∙ is);
        how = inl refl;
      }

  pub after_is : after_access state parent place child child_place mode ≡ given_now
  after_is = ap (given_from state parent place child child_place mode) stands
