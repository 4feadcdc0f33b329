-- Another frame makes or writes an object while a child is being given its own.
use Rattle.std.proofs.Common.{◌≡◌, ◌≢◌, inl, inr, ℕ, Option, None, Some, List, refl, sym, ap, subst, ◌∙◌}
use Rattle.std.specs.Prelude.{slice_get}
use Rattle.swan_model.specs.declared.origin.Origin.{Origin}
use Rattle.swan_model.specs.declared.script.Script.{Script}
use Rattle.swan_model.specs.declared.value.Value.{Value}
use Rattle.swan_model.specs.Readings.{gone_on, with_object}
use Rattle.swan_model.specs.SerialTime.{Progress, Reading, frame_of, point}
use Rattle.swan_model.specs.Versions.{Version, settled, owed, Placed, VersionState, placed_at, with_present, written_at, objects_after_create, after_write}
use Rattle.swan_model.specs.VersionsFollow.{Access, ObjectsFollow, IsGiving}
use Rattle.swan_model.proofs.Elements.{before_more}
use Rattle.object_versions.proofs.Differ.{settled_not-owed}
use Rattle.swan_model.proofs.MovedFrames.{gone_back}
use Rattle.object_versions.proofs.GivingKept.{IsAboveKept, IsBelowKept, IsUngiven, begins_kept, giving_kept}
use Rattle.object_versions.proofs.Lookups.{still_set}
use Rattle.object_versions.proofs.Moves.{IsSameTask, Owes, same_task}
use Rattle.object_versions.proofs.PlacesAfter.{after_placed, after_present, made_object}
use Rattle.object_versions.proofs.PlacesStay.{create_keeps}

-- ---- what doesn't change

-- a frame that the reading doesn't have isn't there once another one has gone on
pub unread_still : (r : Reading) (n number : ℕ) → frame_of r number ≡ None → frame_of (gone_on r n) number ≡ None
unread_still r n number none = by (frame_of (gone_on r n) number) refl where
  by : (o : Option Progress) → frame_of (gone_on r n) number ≡ o → o ≡ None
  by None is = refl
  by (Some now) is = let m = gone_back r n number now is in let e : None ≡ Some m.was = sym none ∙ m.stood in absurd (cc)

present_elsewhere : (state : VersionState) (frame place : ℕ) (object : Placed) (version : Version) (n p : ℕ) → placed_at state frame place ≡ Some object → frame ≢ n
    → placed_at (with_present state frame place object version) n p ≡ placed_at state n p
present_elsewhere state frame place object version n p stands apart =
    still_set state.places (frame, place) object (record object { present = version }) (n, p) stands (λ e. apart (ap (λ (k : ℕ × ℕ). k.0) (sym e)))

-- a frame that goes on, and is neither the parent nor the child, and leaves what both have
module _ (s : Script) (r after : Reading) (old new : VersionState) (giver : Progress) (child : ℕ) (made left : List Access) (giving : IsGiving s r old giver child made left)
    (follows : ObjectsFollow s after new) (unread : frame_of after child ≡ None)
    (back : (place : ℕ) (was : Placed) → placed_at old child place ≡ Some was → (number : ℕ) (now : Progress) → was.present ≡ owed number → frame_of after number ≡ Some now
    → IsSameTask r number now)
    (origins : (object : ℕ) (origin : Origin) → slice_get r.objects object ≡ Some origin → slice_get after.objects object ≡ Some origin)
    (parents : (place : ℕ) → placed_at new giver.number place ≡ placed_at old giver.number place)
    (children : (place : ℕ) → placed_at new child place ≡ placed_at old child place)
    (owed_before : (number place : ℕ) (object : Placed) → placed_at new number place ≡ Some object → object.present ≡ owed child
    → (was : Placed) × (placed_at old number place ≡ Some was) × (was.present ≡ owed child))
    (ungiven : IsUngiven new child) where
  above : (place : ℕ) (was : Placed) → placed_at old giver.number place ≡ Some was → IsAboveKept new giver.number place child was
  above place was is = record { now = was; stands = parents place ∙ is; object = refl; kind = refl; mode = refl; owes = λ owes. owes }

  below : (place : ℕ) (was : Placed) → placed_at old child place ≡ Some was → IsBelowKept s r after new child place (point s giver) was
  below place was is = record {
    now = was;
    stands = children place ∙ is;
    object = refl;
    kind = refl;
    mode = refl;
    begins = λ origin mode _. begins_kept s r after origin (point s giver) was (back place was is) mode;
  }

  pub others_leave : IsGiving s after new giver child made left
  others_leave =
      giving_kept s r after old new giver child origins above below made left giving follows unread
      (λ place object stands. (object, sym (children place) ∙ stands)) owed_before ungiven

-- ---- a new object

create_owes : (old : VersionState) (frame place : ℕ) (first : Value) (child number other : ℕ) (has : Placed) → placed_at (objects_after_create old frame place first) number other ≡ Some has → Owes has child
    → placed_at old number other ≡ Some has
create_owes old frame place first child number other has stands owes = elim (after_placed old frame place (made_object old first) number other has stands) [
  | inl here ↦ elim owes [
    | inl present ↦ absurd (settled_not-owed first child (sym (ap (λ (o : Placed). o.present) here.objects) ∙ present))
    | inr given ↦ absurd (let e : None ≡ Some child = sym (ap (λ (o : Placed). o.given) here.objects) ∙ given in cc)
  ]
  | inr there ↦ there.was
]

-- a frame made an object
pub create_giving : (old now : VersionState) (frame place : ℕ) (first : Value) → now ≡ objects_after_create old frame place first
    → (s : Script) (r : Reading) (origin : Origin) (giver : Progress) (child : ℕ) (made left : List Access) → frame ≢ giver.number → frame ≢ child
    → IsGiving s r old giver child made left → ObjectsFollow s (with_object (gone_on r frame) origin) now → IsGiving s (with_object (gone_on r frame) origin) now giver child made left
create_giving old now frame place first is = λ s r origin giver child made left not_giver not_child giving follows.
    let then : Reading = with_object (gone_on r frame) origin in
    subst (λ state. IsGiving s then state giver child made left) (sym is)
    (others_leave s r then old (objects_after_create old frame place first) giver child made left giving (subst (ObjectsFollow s then) is follows) (unread_still r frame child giving.unread)
    (λ p was stands number now owes there. same_task r frame number now (gone_back r frame number now there))
    (λ object of has. before_more r.objects origin object of has)
    (λ p. create_keeps old frame place first giver.number p (inl (λ e. not_giver (sym e))))
    (λ p. create_keeps old frame place first child p (inl (λ e. not_child (sym e))))
    (λ number other has stands owes. (has, create_owes old frame place first child number other has stands (inl owes), owes))
    (λ number other has stands given. giving.ungiven number other has (create_owes old frame place first child number other has stands (inr given)) given))

-- ---- a write

written_owes : (old : VersionState) (frame place : ℕ) (value : Value) (object : Placed) (child number other : ℕ) (has : Placed) → placed_at old frame place ≡ Some object
    → placed_at (with_present old frame place object (settled value)) number other ≡ Some has → has.present ≡ owed child → (was : Placed) × (placed_at old number other ≡ Some was) × (was.present ≡ owed child)
written_owes old frame place value object child number other has stood stands owes = elim (after_present old frame place object (settled value) number other has stood stands) [
  | inl here ↦ absurd (settled_not-owed value child (sym (ap (λ (o : Placed). o.present) here.objects) ∙ owes))
  | inr there ↦ (has, there.was, owes)
]

written_given : (old : VersionState) (frame place : ℕ) (value : Value) (object : Placed) (child : ℕ) → placed_at old frame place ≡ Some object → IsUngiven old child
    → IsUngiven (with_present old frame place object (settled value)) child
written_given old frame place value object child stood ungiven number other has stands given =
    elim (after_present old frame place object (settled value) number other has stood stands) [
      | inl here ↦ ungiven frame place object stood (sym (ap (λ (o : Placed). o.given) here.objects) ∙ given)
      | inr there ↦ ungiven number other has there.was given
    ]

-- a frame wrote an object
pub write_giving : (old now : VersionState) (frame place : ℕ) (value : Value) → now ≡ after_write old frame place value
    → (s : Script) (r : Reading) (object : Placed) (giver : Progress) (child : ℕ) (made left : List Access) → placed_at old frame place ≡ Some object → frame ≢ giver.number → frame ≢ child
    → IsGiving s r old giver child made left → ObjectsFollow s (gone_on r frame) now → IsGiving s (gone_on r frame) now giver child made left
write_giving old now frame place value is = λ s r object giver child made left stood not_giver not_child giving follows.
    let then : Reading = gone_on r frame in
    let state : VersionState = with_present old frame place object (settled value) in
    let same : now ≡ state = is ∙ ap (written_at old frame place value) stood in
    subst (λ state. IsGiving s then state giver child made left) (sym same)
    (others_leave s r then old state giver child made left giving (subst (ObjectsFollow s then) same follows) (unread_still r frame child giving.unread)
    (λ p was stands number now owes there. same_task r frame number now (gone_back r frame number now there))
    (λ object origin has. has)
    (λ p. present_elsewhere old frame place object (settled value) giver.number p stood not_giver)
    (λ p. present_elsewhere old frame place object (settled value) child p stood not_child)
    (λ number other has stands owes. written_owes old frame place value object child number other has stood stands owes)
    (written_given old frame place value object child stood giving.ungiven))
