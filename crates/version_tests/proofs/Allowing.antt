-- Where a step is allowed, its call is.
use Rattle.std.proofs.Common.{◌≡◌, ◌≢◌, ℕ, Bool, true, false, ◌&&◌, ◌||◌, ◌==◌, not, Option, None, Some, is_none, refl, sym, ap, subst, ◌∙◌}
use Rattle.std.specs.List.{list_all}
use Rattle.std.proofs.lemmas.Bool.{and_parts, false≢true, eq-eqb, not-true}
use Rattle.swan_model.specs.declared.rights.Mode.{Mode}
use Rattle.swan_model.specs.declared.value.Value.{Value}
use Rattle.swan_model.specs.Rights.{allows, is_in, is_queue_mode}
use Rattle.swan_model.specs.Versions.{VersionState, Version, settled, owed, owing, Placed, place_cmp, placed_at, Holds, IsSettled, MayGet}
use Rattle.object_versions.proofs.Lookups.{equal_at}
use Rattle.version_tests.specs.declared.step.Step.TheVariants.{Access, Finish}
use Rattle.version_tests.specs.Steps.{allows_step, is_settled, may_give, stands_beside}
use Rattle.swan_model.proofs.Lookups.{found_passes}
use Rattle.swan_model.proofs.Uses.{in_is}
use Rattle.swan_model.proofs.Elements.{none_is}

-- ---- tests

or_second : (a b : Bool) → (not a || b) ≡ true → a ≡ true → b ≡ true
or_second a b e f = ap (λ t. not t || b) (sym f) ∙ e

pub placed_by_test : (o : Option Placed) → not (is_none o) ≡ true → (object : Placed) × (o ≡ Some object)
placed_by_test None e = absurd (false≢true e)
placed_by_test (Some object) e = (object, refl)

value_by_test : (version : Version) → is_none (owing version) ≡ true → (value : Value) × (version ≡ settled value)
value_by_test (settled value) e = (value, refl)
value_by_test (owed frame) e = absurd (false≢true e)

-- ---- the calls

alone_by_test : (state : VersionState) (child object : ℕ) (mode : Mode) → list_all (stands_beside child object mode) state.places ≡ true
    → MayGet state child object mode
alone_by_test state child object mode all = record {
  alone = λ place has stands same.
      let passes = found_passes place_cmp equal_at (stands_beside child object mode) state.places (child, place) has all stands in
      let there : ((child == child) && (has.object == object)) ≡ true =
      ap (λ b. b && (has.object == object)) (eq-eqb child child refl) ∙ eq-eqb has.object object same in
      let both = and_parts (is_in has.mode) (is_in mode)
      (or_second ((child == child) && (has.object == object)) (is_in has.mode && is_in mode) passes there) in
      (in_is has.mode both.0, in_is mode both.1);
}

-- what a parent gives
record Gives (state : VersionState) (child : ℕ) (mode : Mode) (o : Option Placed) : Type 0 where
  object : Placed
  stands : o ≡ Some object
  may : allows object.mode mode ≡ true
  alone : MayGet state child object.object mode

gives_by_test : (state : VersionState) (child : ℕ) (mode : Mode) (o : Option Placed) → may_give state child mode o ≡ true → Gives state child mode o
gives_by_test state child mode None e = absurd (false≢true e)
gives_by_test state child mode (Some object) e =
    let both = and_parts (allows object.mode mode) (list_all (stands_beside child object.object mode) state.places) e in
    record { object = object; stands = refl; may = both.0; alone = alone_by_test state child object.object mode both.1 }

-- what is asked of an access
pub record MayAccess (state : VersionState) (parent place child child_place : ℕ) (mode : Mode) : Type 0 where
  pub differ : parent ≢ child
  pub held : Holds state parent place mode
  pub of_objects : is_queue_mode mode ≡ false
  pub free : placed_at state child child_place ≡ None
  pub alone : (object : Placed) → placed_at state parent place ≡ Some object → MayGet state child object.object mode

pub access_by_test : (state : VersionState) (parent place child child_place : ℕ) (mode : Mode)
    → allows_step state (Access parent place child child_place mode) ≡ true → MayAccess state parent place child child_place mode
access_by_test state parent place child child_place mode e =
    let may = may_give state child mode (placed_at state parent place) in
    let free = is_none (placed_at state child child_place) in
    let first = and_parts (not (parent == child)) (may && (not (is_queue_mode mode) && free)) e in
    let second = and_parts may (not (is_queue_mode mode) && free) first.1 in
    let third = and_parts (not (is_queue_mode mode)) free second.1 in
    let gives = gives_by_test state child mode (placed_at state parent place) second.0 in
    record {
      differ = λ same. false≢true (sym (ap not (eq-eqb parent child same)) ∙ first.0);
      held = record { object = gives.object; stands = gives.stands; may = gives.may };
      of_objects = not-true (is_queue_mode mode) third.0;
      free = none_is (placed_at state child child_place) third.1;
      alone = λ object stands.
          let same : gives.object ≡ object = cc (gives.stands, stands) in
          subst (λ (o : Placed). MayGet state child o.object mode) same gives.alone;
    }

pub finish_by_test : (state : VersionState) (frame : ℕ) → allows_step state (Finish frame) ≡ true → IsSettled state frame
finish_by_test state frame all = record {
  values = λ place object stands.
      let passes = found_passes place_cmp equal_at (is_settled frame) state.places (frame, place) object all stands in
      value_by_test object.present (or_second (frame == frame) (is_none (owing object.present)) passes (eq-eqb frame frame refl));
}
