-- An object that is being given is given still once another frame has gone on, or another access was made.
use Rattle.std.proofs.Common.{◌≡◌, ◌≢◌, ℕ, Option, None, Some, List, [], ◌∷◌, ◌++◌, map, filter, refl, sym, ap, ◌∙◌, arith}
use Rattle.std.specs.Prelude.{slice_get}
use Rattle.std.specs.Option.{option_and_then, option_map}
use Rattle.swan_model.specs.declared.origin.Origin.{Origin}
use Rattle.swan_model.specs.declared.rights.Mode.{Mode}
use Rattle.swan_model.specs.declared.rights.Mode.TheVariants.{In, Out, InOut, Push, Pop, PushPop}
use Rattle.swan_model.specs.declared.script.OriginGive.{OriginGive}
use Rattle.swan_model.specs.declared.script.Script.{Script}
use Rattle.swan_model.specs.Rights.{allows}
use Rattle.swan_model.specs.SerialTime.{Progress, Reading, frame_of, point}
use Rattle.swan_model.specs.Versions.{owed, Placed, VersionState, placed_at}
use Rattle.swan_model.specs.VersionsFollow.{Access, Begins, ObjectsFollow, IsAccessMade, IsGiving, NextSpawnGivesObjects, is_object_give, object_give}
use Rattle.object_versions.proofs.Moves.{IsSameTask, version_moves}
use Rattle.object_versions.proofs.SpawnGives.{given_by}

-- nobody was given to read what this frame owes
abbrev pub IsUngiven : VersionState → ℕ → Type 0
IsUngiven state frame = (number place : ℕ) (object : Placed) → placed_at state number place ≡ Some object → object.given ≢ Some frame

-- what the parent had at a place is there still, and the child owes it still
pub record IsAboveKept (state : VersionState) (number place child : ℕ) (was : Placed) : Type 0 where
  pub now : Placed
  pub stands : placed_at state number place ≡ Some now
  pub object : now.object ≡ was.object
  pub kind : now.kind ≡ was.kind
  pub mode : now.mode ≡ was.mode
  pub owes : was.present ≡ owed child → now.present ≡ owed child

-- what the child had at a place is there still, and the child begins with it still
pub record IsBelowKept (s : Script) (r after : Reading) (state : VersionState) (child place t : ℕ) (was : Placed) : Type 0 where
  pub now : Placed
  pub stands : placed_at state child place ≡ Some now
  pub object : now.object ≡ was.object
  pub kind : now.kind ≡ was.kind
  pub mode : now.mode ≡ was.mode
  pub begins : (origin : Origin) (mode : Mode) → slice_get r.objects was.object ≡ Some origin → Begins s r origin t mode was → Begins s after origin t mode now

-- what a child begins with stays right as frames go on
pub begins_kept : (s : Script) (r after : Reading) (origin : Origin) (t : ℕ) (object : Placed)
    → ((number : ℕ) (now : Progress) → object.present ≡ owed number → frame_of after number ≡ Some now → IsSameTask r number now)
    → (mode : Mode) → Begins s r origin t mode object → Begins s after origin t mode object
begins_kept s r after origin t object back Out is = is
begins_kept s r after origin t object back In is = (version_moves s r after origin t t object.present (omega arith) refl back is.0, is.1)
begins_kept s r after origin t object back InOut is = (version_moves s r after origin t t object.present (omega arith) refl back is.0, is.1)
begins_kept s r after origin t object back Push is = (version_moves s r after origin t t object.present (omega arith) refl back is.0, is.1)
begins_kept s r after origin t object back Pop is = (version_moves s r after origin t t object.present (omega arith) refl back is.0, is.1)
begins_kept s r after origin t object back PushPop is = (version_moves s r after origin t t object.present (omega arith) refl back is.0, is.1)

-- what each of these gives it gives still
gives_kept : (was now : Access → Option OriginGive) → ((access : Access) (give : OriginGive) → was access ≡ Some give → now access ≡ Some give)
    → (accesses : List Access) (gives : List OriginGive) → map was accesses ≡ map Some gives → map now accesses ≡ map Some gives
gives_kept was now keeps [] [] same = refl
gives_kept was now keeps [] (give ∷ gives) same = absurd (cc)
gives_kept was now keeps (access ∷ accesses) [] same = absurd (cc)
gives_kept was now keeps (access ∷ accesses) (give ∷ gives) same =
    let first : was access ≡ Some give = cc in
    let rest : map was accesses ≡ map Some gives = cc in
    let one = keeps access give first in
    let more = gives_kept was now keeps accesses gives rest in
    λ i. one i ∷ more i

module _ (s : Script) (r after : Reading) (old new : VersionState) (giver : Progress) (child : ℕ)
    (origins : (object : ℕ) (origin : Origin) → slice_get r.objects object ≡ Some origin → slice_get after.objects object ≡ Some origin)
    (above : (place : ℕ) (was : Placed) → placed_at old giver.number place ≡ Some was → IsAboveKept new giver.number place child was) where
  give_kept : (access : Access) (give : OriginGive) → object_give r old giver.number access ≡ Some give → object_give after new giver.number access ≡ Some give
  give_kept access give is =
      let by = given_by r old giver.number access give is in
      let now = above access.place by.object by.stands in
      let made = ap (slice_get after.objects) now.object ∙ origins by.object.object give.origin by.made in
      let last : record { origin = give.origin; mode = access.mode } ≡ give = ap (λ m. record { origin = give.origin; mode = m }) by.mode in
      ap (λ o. option_map (λ origin. record { origin = origin; mode = access.mode }) (option_and_then (λ (object : Placed). slice_get after.objects object.object) o)) now.stands
      ∙ ap (option_map (λ origin. record { origin = origin; mode = access.mode })) made
      ∙ ap Some last

  pub next_spawn_kept : (accesses : List Access) → NextSpawnGivesObjects s r old giver accesses → NextSpawnGivesObjects s after new giver accesses
  next_spawn_kept accesses spawn = record {
    gives = spawn.gives;
    next = spawn.next;
    objects = gives_kept (object_give r old giver.number) (object_give after new giver.number) give_kept accesses (filter is_object_give spawn.gives) spawn.objects;
  }

  module _ (below : (place : ℕ) (was : Placed) → placed_at old child place ≡ Some was → IsBelowKept s r after new child place (point s giver) was) where
    pub access_kept : (access : Access) → IsAccessMade s r old giver child access → IsAccessMade s after new giver child access
    access_kept access is =
        let up = above access.place is.above is.stands in
        let down = below access.child_place is.object is.got in
        record {
          above = up.now;
          stands = up.stands;
          held = ap (λ m. allows m access.mode) up.mode ∙ is.held;
          owes = λ may. up.owes (is.owes may);
          object = down.now;
          got = down.stands;
          same = down.object ∙ is.same ∙ sym up.object;
          kind = down.kind ∙ is.kind ∙ sym up.kind;
          mode = down.mode ∙ is.mode;
          origin = is.origin;
          known = ap (slice_get after.objects) down.object ∙ origins is.object.object is.origin is.known;
          begins = down.begins is.origin access.mode is.known is.begins;
        }

    -- as another frame goes on
    pub giving_kept : (made left : List Access) → IsGiving s r old giver child made left → ObjectsFollow s after new → frame_of after child ≡ None
        → ((place : ℕ) (object : Placed) → placed_at new child place ≡ Some object → (was : Placed) × (placed_at old child place ≡ Some was))
        → ((number place : ℕ) (object : Placed) → placed_at new number place ≡ Some object → object.present ≡ owed child
        → (was : Placed) × (placed_at old number place ≡ Some was) × (was.present ≡ owed child))
        → IsUngiven new child → IsGiving s after new giver child made left
    giving_kept made left giving follows unread had owed_before ungiven = record {
      follows = follows;
      unread = unread;
      spawn = next_spawn_kept (made ++ left) giving.spawn;
      each = λ i access is. access_kept access (giving.each i access is);
      all = λ place object stands. let was = had place object stands in giving.all place was.0 was.1;
      owed_by = λ number place object stands owes.
          let was = owed_before number place object stands owes in giving.owed_by number place was.0 was.1 was.2;
      ungiven = ungiven;
    }
