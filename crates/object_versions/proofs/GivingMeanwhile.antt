-- While a child is being given its objects, other frames do entries of which the objects aren't told, and give and spawn children of
-- their own.
use Rattle.std.proofs.Common.{◌≡◌, ◌≢◌, inl, inr, ℕ, Bool, true, false, cond, Option, None, Some, List, [], ◌∷◌, ◌++◌, refl, sym, ap, subst, ◌∙◌}
use Rattle.swan_model.specs.declared.origin.Origin.{Origin}
use Rattle.swan_model.specs.declared.rights.Mode.{Mode}
use Rattle.swan_model.specs.declared.rights.Mode.TheVariants.{Out}
use Rattle.swan_model.specs.declared.script.Deed.{Deed}
use Rattle.swan_model.specs.declared.script.Deed.TheVariants as deed
use Rattle.swan_model.specs.declared.script.OriginGive.{OriginGive}
use Rattle.swan_model.specs.declared.script.Script.{Script}
use Rattle.swan_model.specs.Granted.{is_spawn}
use Rattle.swan_model.specs.Lawful.{IsLawful}
use Rattle.swan_model.specs.Readings.{gone_on, next_deed, reading_after_spawn}
use Rattle.swan_model.specs.Rights.{allows}
use Rattle.swan_model.specs.SerialTime.{Progress, Reading, frame_of}
use Rattle.swan_model.specs.Versions.{Holds, MayGet, owed, Placed, VersionState, placed_at, after_access}
use Rattle.swan_model.specs.VersionsFollow.{Access, ObjectsFollow, IsGiving, IsNewFrame, NextSpawnGivesObjects, is_object_deed, is_object_give}
use Rattle.swan_model.proofs.MovedFrames.{frame_number, gone_back, spawned_back}
use Rattle.object_versions.proofs.GivingAccess.{no_frame}
use Rattle.object_versions.proofs.GivingBegins.{giving_begins}
use Rattle.std.specs.Prelude.{map, filter}
use Rattle.object_versions.proofs.GivingCalls.{access_giving}
use Rattle.object_versions.proofs.GivingEnds.{ends_given}
use Rattle.object_versions.proofs.GivingOthers.{others_leave, unread_still}
use Rattle.object_versions.proofs.GivingPlaces.{after_is, got_given, got_present, which}
use Rattle.object_versions.proofs.PlacesStay.{access_keeps}
use Rattle.object_versions.proofs.Moves.{same_task}
use Rattle.object_versions.proofs.PassFollows.{others_pass}

-- another frame did an entry of which the objects aren't told
pub pass_giving : (s : Script) (r : Reading) (state : VersionState) (frame : Progress) (does : Deed) (giver : Progress) (child : ℕ) (made left : List Access) → IsLawful s
    → IsGiving s r state giver child made left → frame_of r frame.number ≡ Some frame → next_deed s frame ≡ Some does → is_object_deed does ≡ false → is_spawn does ≡ false
    → (queues : List Origin) → IsGiving s (record (gone_on r frame.number) { queues = queues }) state giver child made left
pass_giving s r state frame does giver child made left lawful giving known next other none queues =
    others_leave s r (record (gone_on r frame.number) { queues = queues }) state state giver child made left giving
    (others_pass s r state frame does lawful giving.follows known next other none queues) (unread_still r frame.number child giving.unread)
    (λ p was stands number now owes there. same_task r frame.number number now (gone_back r frame.number number now there))
    (λ object origin has. has) (λ p. refl) (λ p. refl) (λ number place object stands owes. (object, stands, owes)) giving.ungiven

-- ---- another parent gives its child an object

module _ (s : Script) (r : Reading) (state : VersionState) (parent : ℕ) (child_other : ℕ) (access : Access) (giver : Progress) (child : ℕ) (made left : List Access)
    (giving : IsGiving s r state giver child made left) (held : Holds state parent access.place access.mode) (free : placed_at state child_other access.child_place ≡ None)
    (not_giver : parent ≢ giver.number) (not_child : parent ≢ child) (giver_not : child_other ≢ giver.number) (child_not : child_other ≢ child)
    (follows : ObjectsFollow s r (after_access state parent access.place child_other access.child_place access.mode)) where
  abbrev object : Placed
  object = held.object

  abbrev now : VersionState
  now = after_access state parent access.place child_other access.child_place access.mode

  not_owed : object.present ≢ owed child
  not_owed owes = not_giver (giving.owed_by parent access.place object held.stands owes).0

  left_owed : (b : Bool) → cond b (owed child_other) object.present ≡ owed child → object.present ≡ owed child
  left_owed true owes = absurd (let e : child_other ≡ child = cc in child_not e)
  left_owed false owes = owes

  owed_before : (number place : ℕ) (has : Placed) → placed_at now number place ≡ Some has → has.present ≡ owed child → (was : Placed) × (placed_at state number place ≡ Some was) × (was.present ≡ owed child)
  owed_before number place has stands owes =
      let same = after_is state parent access.place child_other access.child_place access.mode object held.stands free in
      let at = ap (λ st. placed_at st number place) (sym same) ∙ stands in
      elim (which state parent access.place child_other access.child_place access.mode object held.stands free number place has at) [
        | inl here ↦ absurd (not_owed (got_present object access.mode child (sym (ap (λ (o : Placed). o.present) here.objects) ∙ owes)))
        | inr b ↦ elim b.how [
          | inl here ↦ absurd (not_owed (left_owed (allows access.mode Out) (sym (ap (λ (o : Placed). o.present) here.objects) ∙ owes)))
          | inr there ↦ (has, there.was, owes)
        ]
      ]

  ungiven : (number place : ℕ) (has : Placed) → placed_at now number place ≡ Some has → has.given ≢ Some child
  ungiven number place has stands given =
      let same = after_is state parent access.place child_other access.child_place access.mode object held.stands free in
      let at = ap (λ st. placed_at st number place) (sym same) ∙ stands in
      elim (which state parent access.place child_other access.child_place access.mode object held.stands free number place has at) [
        | inl here ↦ not_owed (got_given object access.mode child (sym (ap (λ (o : Placed). o.given) here.objects) ∙ given))
        | inr b ↦ elim b.how [
          | inl here ↦ giving.ungiven parent access.place object held.stands (sym (ap (λ (o : Placed). o.given) here.objects) ∙ given)
          | inr there ↦ giving.ungiven number place has there.was given
        ]
      ]

  pub access_beside : IsGiving s r now giver child made left
  access_beside =
      others_leave s r r state now giver child made left giving follows giving.unread
      (λ p was stands number frame owes there. record { was = frame; stood = there; path = refl })
      (λ object origin has. has)
      (λ p. access_keeps state parent access.place child_other access.child_place access.mode giver.number p (inl (λ e. not_giver (sym e))) (inl (λ e. giver_not (sym e))))
      (λ p. access_keeps state parent access.place child_other access.child_place access.mode child p (inl (λ e. not_child (sym e))) (inl (λ e. child_not (sym e))))
      owed_before ungiven

-- ---- another parent's spawn is done

spawn_unread : (s : Script) (r : Reading) (parent : Progress) (child_other child : ℕ) → frame_of r child ≡ None → child ≢ child_other → frame_of (reading_after_spawn s r parent child_other) child ≡ None
spawn_unread s r parent child_other child none apart = by (frame_of (reading_after_spawn s r parent child_other) child) refl where
  by : (o : Option Progress) → frame_of (reading_after_spawn s r parent child_other) child ≡ o → o ≡ None
  by None is = refl
  by (Some now) is = elim (spawned_back s r parent child_other child now is) [
    | inl m ↦ absurd (no_frame r child m.was none m.stood)
    | inr c ↦ absurd (apart c.same)
  ]

pub spawn_beside : (s : Script) (r : Reading) (state : VersionState) (parent giver : Progress) (child_other child : ℕ) (all made left : List Access) → IsLawful s
    → frame_of r parent.number ≡ Some parent → IsGiving s r state parent child_other all [] → child ≢ child_other → IsGiving s r state giver child made left
    → IsGiving s (reading_after_spawn s r parent child_other) state giver child made left
spawn_beside s r state parent giver child_other child all made left lawful known other apart giving =
    others_leave s r (reading_after_spawn s r parent child_other) state state giver child made left giving
    (ends_given s r state parent child_other all lawful known other) (spawn_unread s r parent child_other child giving.unread apart)
    (λ p was stands number now owes there. elim (spawned_back s r parent child_other number now there) [
      | inl m ↦ same_task r parent.number number now m
      | inr c ↦
          let by = other.owed_by child p was stands (owes ∙ ap owed c.same) in
          absurd (no_frame r child parent giving.unread (ap (frame_of r) by.0 ∙ known))
    ])
    (λ object origin has. has) (λ p. refl) (λ p. refl) (λ number place object stands owes. (object, stands, owes)) giving.ungiven

-- a spawn that gives no object
pub spawn_meanwhile : (s : Script) (r : Reading) (state : VersionState) (parent giver : Progress) (other child : ℕ) (gives : List OriginGive) (made left : List Access) → IsLawful s
    → frame_of r parent.number ≡ Some parent → next_deed s parent ≡ Some (deed.Spawn gives) → filter is_object_give gives ≡ [] → IsNewFrame r state other → child ≢ other
    → IsGiving s r state giver child made left → IsGiving s (reading_after_spawn s r parent other) state giver child made left
spawn_meanwhile s r state parent giver other child gives made left lawful known next none new apart giving =
    let spawn : NextSpawnGivesObjects s r state parent [] = record { gives = gives; next = next; objects = ap (map Some) (sym none) } in
    spawn_beside s r state parent giver other child [] made left lawful known (giving_begins s r state parent other [] giving.follows new spawn) apart giving

-- ---- in the shape of the call's clauses

module _ (old now : VersionState) (parent parent_place child child_place : ℕ) (mode : Mode) (held : Holds old parent parent_place mode)
    (free : placed_at old child child_place ≡ None) (alone : (object : Placed) → placed_at old parent parent_place ≡ Some object → MayGet old child object.object mode)
    (is : now ≡ after_access old parent parent_place child child_place mode) where
  abbrev this : Access
  this = record { place = parent_place; child_place = child_place; mode = mode }

  -- an access leaves what another parent is giving
  pub access_meanwhile : (s : Script) (r : Reading) (own : Progress) (done rest : List Access) → IsLawful s → frame_of r parent ≡ Some own
      → IsGiving s r old own child done (this ∷ rest)
      → (giver : Progress) (other : ℕ) (made left : List Access) → frame_of r giver.number ≡ Some giver → parent ≢ giver.number → child ≢ other
      → IsGiving s r old giver other made left → IsGiving s r now giver other made left
  access_meanwhile s r own done rest lawful known giving giver other made left giver_known not_giver apart beside =
      let follows = (access_giving old now parent parent_place child child_place mode held free alone is s r own done rest lawful known giving).follows in
      subst (λ state. IsGiving s r state giver other made left) (sym is)
      (access_beside s r old parent child this giver other made left beside held free not_giver
      (λ same. no_frame r other own beside.unread (ap (frame_of r) (sym same) ∙ known))
      (λ same. no_frame r child giver giving.unread (ap (frame_of r) same ∙ giver_known))
      apart (subst (ObjectsFollow s r) is follows))

  -- and so does the last one, by which the spawn is done
  pub last_meanwhile : (s : Script) (r : Reading) (own : Progress) (done : List Access) → IsLawful s → frame_of r parent ≡ Some own
      → IsGiving s r old own child done (this ∷ [])
      → (giver : Progress) (other : ℕ) (made left : List Access) → frame_of r giver.number ≡ Some giver → parent ≢ giver.number → child ≢ other
      → IsGiving s r old giver other made left → IsGiving s (reading_after_spawn s r own child) now giver other made left
  last_meanwhile s r own done lawful known giving giver other made left giver_known not_giver apart beside =
      let number = frame_number r.frames parent own known in
      spawn_beside s r now own giver child other (done ++ this ∷ []) made left lawful (ap (frame_of r) number ∙ known)
      (access_giving old now parent parent_place child child_place mode held free alone is s r own done [] lawful known giving)
      (λ same. apart (sym same))
      (access_meanwhile s r own done [] lawful known giving giver other made left giver_known not_giver apart beside)
