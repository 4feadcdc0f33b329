-- Who waits for nothing that it was given waits for nothing later: what a frame was given is only ever forgotten.
use Rattle.std.proofs.Common.{◌≡◌, ◌≢◌, inl, inr, ℕ, Bool, true, false, nat_eq, cond, Option, None, Some, refl, sym, ap, ◌∙◌}
use Rattle.swan_model.specs.declared.rights.Mode.{Mode}
use Rattle.swan_model.specs.declared.value.Value.{Value}
use Rattle.swan_model.specs.Versions.{Placed, Version, VersionState, settled, placed_at, with_present, after_access, objects_after_create, objects_after_finish, after_write, given_from, got, left_with, still_owing, written_at}
use Rattle.object_versions.specs.Following.{WaitsForNone}
use Rattle.object_versions.proofs.FinishPlaces.{after_kept}
use Rattle.object_versions.proofs.PlacesAfter.{after_placed, after_present, made_object}

present_waits : (state : VersionState) (frame place : ℕ) (object : Placed) (version : Version) (n : ℕ) → placed_at state frame place ≡ Some object → WaitsForNone state n → WaitsForNone (with_present state frame place object version) n
present_waits state frame place object version n stands none p owing waits =
    elim (after_present state frame place object version n p waits.object stands waits.stands) [
      | inl here ↦
          let at : placed_at state n p ≡ Some object = (λ i. placed_at state (here.frames i) (here.places i)) ∙ stands in
          none p owing (record { object = object; stands = at; owes = ap (λ (x : Placed). x.given) (sym here.objects) ∙ waits.owes })
      | inr there ↦ none p owing (record { object = waits.object; stands = there.was; owes = waits.owes })
    ]

pub create_waits : (state : VersionState) (frame place : ℕ) (value : Value) (n : ℕ) → WaitsForNone state n → WaitsForNone (objects_after_create state frame place value) n
create_waits state frame place value n none p owing waits =
    elim (after_placed state frame place (made_object state value) n p waits.object waits.stands) [
      | inl here ↦ let both : None ≡ Some owing = ap (λ (x : Placed). x.given) (sym here.objects) ∙ waits.owes in cc
      | inr there ↦ none p owing (record { object = waits.object; stands = there.was; owes = waits.owes })
    ]

pub write_waits : (state : VersionState) (frame place : ℕ) (value : Value) (n : ℕ) → WaitsForNone state n → WaitsForNone (after_write state frame place value) n
write_waits state frame place value n none = by (placed_at state frame place) refl where
  by : (o : Option Placed) → placed_at state frame place ≡ o → WaitsForNone (written_at state frame place value o) n
  by None is = none
  by (Some object) is = present_waits state frame place object (settled value) n is none

pub access_waits : (state : VersionState) (parent pp child cp : ℕ) (mode : Mode) (n : ℕ) → n ≢ child → WaitsForNone state n → WaitsForNone (after_access state parent pp child cp mode) n
access_waits state parent pp child cp mode n other none = by (placed_at state parent pp) refl where
  by : (o : Option Placed) → placed_at state parent pp ≡ o → WaitsForNone (given_from state parent pp child cp mode o) n
  by None is = none
  by (Some object) is = λ p owing waits.
      let middle = with_present state parent pp object (left_with object child mode) in
      elim (after_placed middle child cp (got object mode) n p waits.object waits.stands) [
        | inl here ↦ absurd (other here.frames)
        | inr there ↦
            present_waits state parent pp object (left_with object child mode) n is none p owing (record { object = waits.object; stands = there.was; owes = waits.owes })
      ]

owed_before : (ended : ℕ) (given : Option ℕ) (owing : ℕ) → still_owing ended given ≡ Some owing → given ≡ Some owing
owed_before ended None owing is = is
owed_before ended (Some other) owing is = by (nat_eq other ended) is where
  by : (b : Bool) → ◌≡◌ {A = Option ℕ} (cond b None (Some other)) (Some owing) → Some other ≡ Some owing
  by true is = absurd (cc)
  by false is = is

pub finish_waits : (state : VersionState) (ended n : ℕ) → WaitsForNone state n → WaitsForNone (objects_after_finish state ended) n
finish_waits state ended n none p owing waits =
    let kept = after_kept state ended n p waits.object waits.stands in
    none p owing (record {
      object = kept.was;
      stands = kept.stood;
      owes = owed_before ended kept.was.given owing (ap (λ (x : Placed). x.given) (sym kept.now) ∙ waits.owes);
    })
