-- What each call leaves at each place.
use Rattle.std.proofs.Common.{◌≡◌, ◌≢◌, ◌⊎◌, inl, inr, ℕ, ◌||◌, not, Bool, true, false, nat_eq, cond, Option, None, Some, refl, sym, ap, ◌∙◌}
use Rattle.std.proofs.lemmas.Bool.{eq-eqb, ne_eqb}
use Rattle.std.specs.Option.{option_map}
use Rattle.swan_model.specs.declared.rights.Mode.{Mode}
use Rattle.swan_model.specs.declared.value.Value.{Value}
use Rattle.swan_model.specs.Versions.{Placed, VersionState, settled, placed_at, with_placed, with_present, after_access, objects_after_create, objects_after_finish, after_write, given_from, got, left_with, settle_placed, written_at}
use Rattle.object_versions.proofs.FinishPlaces.{found_kept}
use Rattle.object_versions.proofs.Lookups.{at_inserted, at_set, place_total, still_set, untied}
use Rattle.swan_model.proofs.Lookups.{found_in}
use Rattle.object_versions.proofs.PlacesAfter.{made_object}

-- another frame, or another place, is another key
apart : (frame place f p : ℕ) → (f ≢ frame) ⊎ (p ≢ place) → ◌≢◌ {A = ℕ × ℕ} (f, p) (frame, place)
apart frame place f p (inl differ) same = differ (ap (λ (n : ℕ × ℕ). n.0) same)
apart frame place f p (inr differ) same = differ (ap (λ (n : ℕ × ℕ). n.1) same)

-- another place than that of an object which was put in
placed_keeps : (state : VersionState) (frame place : ℕ) (object : Placed) (f p : ℕ) → (f ≢ frame) ⊎ (p ≢ place) → placed_at (with_placed state frame place object) f p ≡ placed_at state f p
placed_keeps state frame place object f p differ =
    found_in place_total (frame, place) object (f, p) state.places
    ∙ ap (λ b. cond b (Some object) (placed_at state f p)) (untied (f, p) (frame, place) (λ e. apart frame place f p differ (sym e)))

pub create_keeps : (state : VersionState) (frame place : ℕ) (value : Value) (f p : ℕ) → (f ≢ frame) ⊎ (p ≢ place) → placed_at (objects_after_create state frame place value) f p ≡ placed_at state f p
create_keeps state frame place value f p differ = placed_keeps state frame place (made_object state value) f p differ

pub write_keeps : (state : VersionState) (frame place : ℕ) (value : Value) (f p : ℕ) → (f ≢ frame) ⊎ (p ≢ place) → placed_at (after_write state frame place value) f p ≡ placed_at state f p
write_keeps state frame place value f p differ = by (placed_at state frame place) refl where
  by : (o : Option Placed) → placed_at state frame place ≡ o → placed_at (written_at state frame place value o) f p ≡ placed_at state f p
  by None is = refl
  by (Some object) is = still_set state.places (frame, place) object (record object { present = settled value }) (f, p) is (apart frame place f p differ)

pub write_leaves : (state : VersionState) (frame place : ℕ) (value : Value) (object : Placed) → placed_at state frame place ≡ Some object
    → placed_at (after_write state frame place value) frame place ≡ Some (record object { present = settled value })
write_leaves state frame place value object stands =
    ap (λ o. placed_at (written_at state frame place value o) frame place) stands
    ∙ at_set state.places (frame, place) object (record object { present = settled value }) stands

pub access_keeps : (state : VersionState) (parent pp child cp : ℕ) (mode : Mode) (f p : ℕ) → (f ≢ parent) ⊎ (p ≢ pp) → (f ≢ child) ⊎ (p ≢ cp)
    → placed_at (after_access state parent pp child cp mode) f p ≡ placed_at state f p
access_keeps state parent pp child cp mode f p from to = by (placed_at state parent pp) refl where
  by : (o : Option Placed) → placed_at state parent pp ≡ o → placed_at (given_from state parent pp child cp mode o) f p ≡ placed_at state f p
  by None is = refl
  by (Some object) is =
      let left = left_with object child mode in
      placed_keeps (with_present state parent pp object left) child cp (got object mode) f p to
      ∙ still_set state.places (parent, pp) object (record object { present = left }) (f, p) is (apart parent pp f p from)

pub access_leaves : (state : VersionState) (parent pp child cp : ℕ) (mode : Mode) (object : Placed) → parent ≢ child → placed_at state parent pp ≡ Some object
    → placed_at (after_access state parent pp child cp mode) parent pp ≡ Some (record object { present = left_with object child mode })
access_leaves state parent pp child cp mode object differ stands =
    let left = left_with object child mode in
    ap (λ o. placed_at (given_from state parent pp child cp mode o) parent pp) stands
    ∙ placed_keeps (with_present state parent pp object left) child cp (got object mode) parent pp (inl differ)
    ∙ at_set state.places (parent, pp) object (record object { present = left }) stands

pub access_gives : (state : VersionState) (parent pp child cp : ℕ) (mode : Mode) (object : Placed) → placed_at state parent pp ≡ Some object
    → placed_at (after_access state parent pp child cp mode) child cp ≡ Some (got object mode)
access_gives state parent pp child cp mode object stands =
    ap (λ o. placed_at (given_from state parent pp child cp mode o) child cp) stands
    ∙ at_inserted (with_present state parent pp object (left_with object child mode)).places (child, cp) (got object mode)

-- ---- the end of a frame

pub finish_keeps : (state : VersionState) (ended f p : ℕ) → (f ≢ ended) ⊎ (ended ≡ 0) → placed_at (objects_after_finish state ended) f p ≡ option_map (settle_placed state ended) (placed_at state f p)
finish_keeps state ended f p (inl differ) = found_kept state ended f p ∙ by (nat_eq ended 0) (nat_eq f ended) (ne_eqb f ended differ) where
  by : (a b : Bool) → b ≡ false → option_map (settle_placed state ended) (cond (a || not b) (placed_at state f p) None) ≡ option_map (settle_placed state ended) (placed_at state f p)
  by true b is = refl
  by false true is = absurd (cc)
  by false false is = refl
finish_keeps state ended f p (inr root) =
    found_kept state ended f p
    ∙ ap (λ a. option_map (settle_placed state ended) (cond (a || not (nat_eq f ended)) (placed_at state f p) None)) (eq-eqb ended 0 root)

pub finish_forgets : (state : VersionState) (ended p : ℕ) → ended ≢ 0 → placed_at (objects_after_finish state ended) ended p ≡ None
finish_forgets state ended p other =
    found_kept state ended ended p
    ∙ ap (λ a. option_map (settle_placed state ended) (cond (a || not (nat_eq ended ended)) (placed_at state ended p) None)) (ne_eqb ended 0 other)
    ∙ ap (λ b. option_map (settle_placed state ended) (cond (not b) (placed_at state ended p) None)) (eq-eqb ended ended refl)
