-- A frame whose given versions are settled, and whose children have all ended: nobody owes a version that it has.
use Rattle.std.proofs.Common.{◌≡◌, ◌≢◌, inl, inr, ℕ, None, Some, List, [], ◌∷◌, ◌++◌, refl, sym, ap, ◌∙◌, arith}
use Rattle.std.proofs.lemmas.Bool.{cases_eq}
use Rattle.std.proofs.lemmas.Option.{slice_get-get_or}
use Rattle.std.specs.Prelude.{slice_get}
use Rattle.swan_model.specs.declared.origin.Origin.{Origin}
use Rattle.swan_model.specs.declared.origin.Origin.TheVariants.{Root}
use Rattle.swan_model.specs.declared.script.Script.{Script}
use Rattle.swan_model.specs.declared.value.Value.{Value}
use Rattle.swan_model.specs.SerialTime.{Progress, Reading, frame_of}
use Rattle.swan_model.specs.Versions.{Version, settled, owed, Awaits, IsSettled, Placed, VersionState, placed_at}
use Rattle.swan_model.specs.VersionsFollow.{Access, ObjectsFollow, IsGiving}

module _ (s : Script) (r : Reading) (state : VersionState) (n : ℕ) (frame : Progress) (follows : ObjectsFollow s r state) (known : frame_of r n ≡ Some frame)
    (awaits_none : (place owing : ℕ) → Awaits state n place owing → ⊥)
    (ended : (number index : ℕ) (child : Progress) → frame_of r number ≡ Some child → child.path ≡ frame.path ++ index ∷ [] → (place : ℕ) → placed_at state number place ≡ None)
    (read : (place owing : ℕ) (object : Placed) → placed_at state n place ≡ Some object → object.present ≡ owed owing → (owner : Progress) × (frame_of r owing ≡ Some owner)) where
  -- the object of a place was made by something
  made_by : (number place : ℕ) (object : Placed) → placed_at state number place ≡ Some object → (origin : Origin) × (slice_get r.objects object.object ≡ Some origin)
  made_by number place object stands =
      let less = follows.known number place object stands in
      let count = follows.objects in
      (_, slice_get-get_or r.objects object.object (Root 0) (omega arith))

  owed_none : (place : ℕ) (object : Placed) (number : ℕ) → placed_at state n place ≡ Some object → object.present ≡ owed number → ⊥
  owed_none place object number stands owes =
      let own = follows.owing n place number object stands (inl owes) in
      let owner = read place number object stands owes in
      let origin = made_by n place object stands in
      let at = follows.follows n place frame object origin.0 known stands origin.1 in
      elim (at.owed_by number owner.0 owes owner.1) [
        | inl given ↦ awaits_none place number (record { object = object; stands = stands; owes = given })
        | inr child ↦ let e : None ≡ Some own.1 = sym (ended number child.0 owner.0 owner.1 child.1 own.0) ∙ own.2 in cc
      ]

  value_there : (place : ℕ) (object : Placed) → placed_at state n place ≡ Some object → (version : Version) → object.present ≡ version
      → (value : Value) × (object.present ≡ settled value)
  value_there place object stands (settled value) is = (value, is)
  value_there place object stands (owed number) is = absurd (owed_none place object number stands is)

  pub ended_children : IsSettled state n
  ended_children = record { values = λ place object stands. value_there place object stands object.present refl }

-- a child that is being given its objects owes no version to anybody but its giver
pub ended_meanwhile : (s : Script) (r : Reading) (state : VersionState) (n : ℕ) (frame giver : Progress) (child : ℕ) (made left : List Access)
    → IsGiving s r state giver child made left → n ≢ giver.number → frame_of r n ≡ Some frame
    → ((place owing : ℕ) → Awaits state n place owing → ⊥)
    → ((number index : ℕ) (below : Progress) → frame_of r number ≡ Some below → below.path ≡ frame.path ++ index ∷ [] → (place : ℕ) → placed_at state number place ≡ None)
    → ((place owing : ℕ) (object : Placed) → owing ≢ child → placed_at state n place ≡ Some object → object.present ≡ owed owing
    → (owner : Progress) × (frame_of r owing ≡ Some owner))
    → IsSettled state n
ended_meanwhile s r state n frame giver child made left giving other known awaits_none ended read =
    ended_children s r state n frame giving.follows known awaits_none ended all_read
  where
    all_read : (place owing : ℕ) (object : Placed) → placed_at state n place ≡ Some object → object.present ≡ owed owing → (owner : Progress) × (frame_of r owing ≡ Some owner)
    all_read place owing object stands owes = elim (cases_eq owing child) [
      | inl same ↦ absurd (other (giving.owed_by n place object stands (owes ∙ ap owed same)).0)
      | inr apart ↦ read place owing object apart stands owes
    ]
