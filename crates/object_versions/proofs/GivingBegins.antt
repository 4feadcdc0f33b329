-- Before the first access of a child.
use Rattle.std.proofs.Common.{◌≡◌, ◌⊎◌, inl, inr, ℕ, None, Some, List, [], map, filter, sym, ap, ◌∙◌}
use Rattle.swan_model.specs.declared.origin.Origin.{Origin}
use Rattle.swan_model.specs.declared.script.Deed.TheVariants as deed
use Rattle.swan_model.specs.declared.script.OriginGive.{OriginGive}
use Rattle.swan_model.specs.declared.script.Script.{Script}
use Rattle.swan_model.specs.Lawful.{IsLawful}
use Rattle.swan_model.specs.Readings.{next_deed, reading_after_spawn}
use Rattle.swan_model.specs.SerialTime.{Progress, Reading, frame_of}
use Rattle.swan_model.specs.Versions.{Placed, VersionState, owed, placed_at}
use Rattle.swan_model.specs.VersionsFollow.{Access, ObjectsFollow, IsGiving, IsNewFrame, NextSpawnGivesObjects, is_object_give}
use Rattle.object_versions.proofs.GivingEnds.{ends_given}
use Rattle.object_versions.proofs.PassFollows.{any_queues}

-- a child that has nothing owes nothing
nothing_owed : (s : Script) (r : Reading) (state : VersionState) (child : ℕ) → ObjectsFollow s r state → IsNewFrame r state child → (number place : ℕ) (object : Placed)
    → placed_at state number place ≡ Some object → (object.present ≡ owed child) ⊎ (object.given ≡ Some child) → ⊥
nothing_owed s r state child follows new number place object stands owes =
    let own = follows.owing number place child object stands owes in
    let e : None ≡ Some own.1 = sym (new.bare own.0) ∙ own.2 in
    absurd (cc)

pub giving_begins : (s : Script) (r : Reading) (state : VersionState) (giver : Progress) (child : ℕ) (accesses : List Access) → ObjectsFollow s r state → IsNewFrame r state child
    → NextSpawnGivesObjects s r state giver accesses → IsGiving s r state giver child [] accesses
giving_begins s r state giver child accesses follows new spawn = record {
  follows = follows;
  unread = new.unread;
  spawn = spawn;
  each = λ i access is. absurd (cc);
  all = λ place object stands. absurd (let e : None ≡ Some object = sym (new.bare place) ∙ stands in cc);
  owed_by = λ number place object stands owes. absurd (nothing_owed s r state child follows new number place object stands (inl owes));
  ungiven = λ number place object stands given. nothing_owed s r state child follows new number place object stands (inr given);
}

-- a spawn that gives no object
pub spawn_passes : (s : Script) (r : Reading) (state : VersionState) (parent : Progress) (child : ℕ) (gives : List OriginGive) → IsLawful s → ObjectsFollow s r state
    → frame_of r parent.number ≡ Some parent → next_deed s parent ≡ Some (deed.Spawn gives) → filter is_object_give gives ≡ [] → IsNewFrame r state child
    → (queues : List Origin) → ObjectsFollow s (record (reading_after_spawn s r parent child) { queues = queues }) state
spawn_passes s r state parent child gives lawful follows known next none new queues =
    let spawn : NextSpawnGivesObjects s r state parent [] = record { gives = gives; next = next; objects = ap (map Some) (sym none) } in
    any_queues s (reading_after_spawn s r parent child) state queues
    (ends_given s r state parent child [] lawful known (giving_begins s r state parent child [] follows new spawn))
