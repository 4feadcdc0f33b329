-- The calls while a child is being given its objects, in the shape of their clauses.
use Rattle.std.proofs.Common.{◌≡◌, ◌≢◌, length, ℕ, None, Some, List, [], ◌∷◌, ◌++◌, sym, ap, subst, ◌∙◌}
use Rattle.swan_model.specs.declared.rights.Mode.{Mode}
use Rattle.swan_model.specs.declared.script.Script.{Script}
use Rattle.swan_model.specs.Lawful.{IsLawful}
use Rattle.swan_model.specs.Readings.{gone_on, next_deed, reading_after_spawn, with_object}
use Rattle.swan_model.specs.SerialTime.{Progress, Reading, frame_of, point, times}
use Rattle.swan_model.specs.Versions.{Holds, IsSettled, MayGet, Placed, VersionState, placed_at, after_access, objects_after_create, objects_after_finish, after_write}
use Rattle.swan_model.specs.VersionsFollow.{Access, ObjectsFollow, IsGiving}
use Rattle.swan_model.proofs.MovedFrames.{frame_number}
use Rattle.object_versions.specs.Following.{NextWrites}
use Rattle.object_versions.proofs.GivingAccess.{one_more_given}
use Rattle.object_versions.proofs.GivingEnds.{ends_given}
use Rattle.object_versions.proofs.GivingFinish.{finish_giving}
use Rattle.object_versions.proofs.GivingOthers.{create_giving, write_giving}
use Rattle.object_versions.proofs.CallsFollow.{create_made, finish_told, next_write_told}
use Rattle.swan_model.specs.declared.script.Deed.TheVariants as deed
use Rattle.swan_model.specs.declared.origin.Origin.TheVariants.{Step}
use Rattle.swan_model.specs.declared.value.Value.{Value}

module _ (old now : VersionState) (parent parent_place child child_place : ℕ) (mode : Mode) (held : Holds old parent parent_place mode)
    (free : placed_at old child child_place ≡ None) (alone : (object : Placed) → placed_at old parent parent_place ≡ Some object → MayGet old child object.object mode)
    (is : now ≡ after_access old parent parent_place child child_place mode)
    (s : Script) (r : Reading) (giver : Progress) (made left : List Access) (known : frame_of r parent ≡ Some giver) where
  abbrev this : Access
  this = record { place = parent_place; child_place = child_place; mode = mode }

  own : giver.number ≡ parent
  own = frame_number r.frames parent giver known

  giver_known : frame_of r giver.number ≡ Some giver
  giver_known = ap (frame_of r) own ∙ known

  abbrev giver_held : Holds old giver.number parent_place mode
  giver_held = record { object = held.object; stands = ap (λ k. placed_at old k parent_place) own ∙ held.stands; may = held.may }

  giver_after : after_access old giver.number parent_place child child_place mode ≡ now
  giver_after = ap (λ k. after_access old k parent_place child child_place mode) own ∙ sym is

  next_given : IsGiving s r old giver child made (this ∷ left) → IsGiving s r now giver child (made ++ this ∷ []) left
  next_given giving =
      subst (λ state. IsGiving s r state giver child (made ++ this ∷ []) left) giver_after
      (one_more_given s r old giver child made left this giver_known giving giver_held free (alone held.object held.stands))

pub access_giving : (old now : VersionState) (parent parent_place child child_place : ℕ) (mode : Mode) → Holds old parent parent_place mode → placed_at old child child_place ≡ None
    → ((object : Placed) → placed_at old parent parent_place ≡ Some object → MayGet old child object.object mode) → now ≡ after_access old parent parent_place child child_place mode
    → (s : Script) (r : Reading) (giver : Progress) (made left : List Access) → IsLawful s → frame_of r parent ≡ Some giver
    → IsGiving s r old giver child made ((record { place = parent_place; child_place = child_place; mode = mode }) ∷ left)
    → IsGiving s r now giver child (made ++ (record { place = parent_place; child_place = child_place; mode = mode }) ∷ []) left
access_giving old now parent parent_place child child_place mode held free alone is = λ s r giver made left lawful known giving.
    next_given old now parent parent_place child child_place mode held free alone is s r giver made left known giving

-- nothing is left to be given
pub giving_ends : (s : Script) (r : Reading) (state : VersionState) (giver : Progress) (child : ℕ) (made : List Access) → IsLawful s → frame_of r giver.number ≡ Some giver
    → IsGiving s r state giver child made [] → ObjectsFollow s (reading_after_spawn s r giver child) state
giving_ends s r state giver child made lawful known giving = ends_given s r state giver child made lawful known giving

pub access_last : (old now : VersionState) (parent parent_place child child_place : ℕ) (mode : Mode) → Holds old parent parent_place mode → placed_at old child child_place ≡ None
    → ((object : Placed) → placed_at old parent parent_place ≡ Some object → MayGet old child object.object mode) → now ≡ after_access old parent parent_place child child_place mode
    → (s : Script) (r : Reading) (giver : Progress) (made : List Access) → IsLawful s → frame_of r parent ≡ Some giver
    → IsGiving s r old giver child made ((record { place = parent_place; child_place = child_place; mode = mode }) ∷ [])
    → ObjectsFollow s (reading_after_spawn s r giver child) now
access_last old now parent parent_place child child_place mode held free alone is = λ s r giver made lawful known giving.
    let this : Access = record { place = parent_place; child_place = child_place; mode = mode } in
    let known_too = ap (frame_of r) (frame_number r.frames parent giver known) ∙ known in
    giving_ends s r now giver child (made ++ this ∷ []) lawful known_too
    (access_giving old now parent parent_place child child_place mode held free alone is s r giver made [] lawful known giving)

-- ---- other frames

pub made_giving : (old now : VersionState) (frame place : ℕ) (first : Value) → placed_at old frame place ≡ None → now ≡ objects_after_create old frame place first
    → (s : Script) (r : Reading) (maker giver : Progress) (child : ℕ) (made left : List Access) → IsLawful s → frame ≢ giver.number → frame ≢ child
    → IsGiving s r old giver child made left → frame_of r frame ≡ Some maker → next_deed s maker ≡ Some (deed.MakeObject first)
    → IsGiving s (with_object (gone_on r frame) (Step (point s maker))) now giver child made left
made_giving old now frame place first free is = λ s r maker giver child made left lawful not_giver not_child giving known next.
    create_giving old now frame place first is s r (Step (point s maker)) giver child made left not_giver not_child giving
    (create_made old now frame place first free is s r maker lawful giving.follows known next)

pub written_giving : (old now : VersionState) (frame place : ℕ) (value : Value) → now ≡ after_write old frame place value
    → (s : Script) (r : Reading) (writer giver : Progress) (child : ℕ) (made left : List Access) → IsLawful s → frame ≢ giver.number → frame ≢ child
    → IsGiving s r old giver child made left → frame_of r frame ≡ Some writer → NextWrites s r old frame place value writer
    → IsGiving s (gone_on r frame) now giver child made left
written_giving old now frame place value is = λ s r writer giver child made left lawful not_giver not_child giving known next.
    write_giving old now frame place value is s r next.0 giver child made left next.2 not_giver not_child giving
    (next_write_told old now frame place value is s r writer lawful giving.follows known next)

pub finished_giving : (old now : VersionState) (frame : ℕ) → IsSettled old frame → now ≡ objects_after_finish old frame
    → (s : Script) (r : Reading) (ended giver : Progress) (child : ℕ) (made left : List Access) → IsLawful s → frame ≢ giver.number → frame ≢ child
    → IsGiving s r old giver child made left → frame_of r frame ≡ Some ended → ended.done ≡ length (times s ended.path)
    → IsGiving s r now giver child made left
finished_giving old now frame all is = λ s r ended giver child made left lawful not_giver not_child giving known done.
    finish_giving old now frame all is s r ended giver child made left known done not_giver not_child giving
    (finish_told old now frame all is s r ended lawful giving.follows known done)
