-- What a child is given: the queues among what it will hold, and the accesses to its parent's objects, one after the other.
use Rattle.std.specs.Prelude.{◌≡◌, ◌≢◌, ℕ, ◌+◌, Bool, false, List, [], ◌∷◌, Some, drop, filter, if◌then◌else◌, map, take}
use Rattle.swan_model.specs.declared.rights.Give.{Give}
use Rattle.swan_model.specs.declared.script.Script.{Script}
use Rattle.swan_model.specs.Lawful.{IsLawful}
use Rattle.swan_model.specs.QueueState.{QueueRight}
use Rattle.swan_model.specs.Rights.{is_aliased, is_queue_mode}
use Rattle.swan_model.specs.SerialState.{Holding}
use Rattle.swan_model.specs.SerialStep.{given}
use Rattle.swan_model.specs.SerialTime.{Progress, Reading, frame_of}
use Rattle.swan_model.specs.Versions.{Placed, VersionState, placed_at}
use Rattle.swan_model.specs.VersionsFollow.{Access, IsGiving}
use Rattle.task_frames.specs.Cores.{HasObjects}
use Rattle.object_versions.specs.Following.{WaitsForNone}

-- ---- queues

abbrev pub right_of : Holding → QueueRight
right_of h = record { queue = h.number; mode = h.mode }

-- the queues among what is held
abbrev pub queue_rights : List Holding → List QueueRight
queue_rights hs = map right_of (filter (λ (h : Holding). is_queue_mode h.mode) hs)

-- ---- objects

-- the access that a give of an object stands for, which is for this place of the child
abbrev pub access_of_give : ℕ → Give → Access
access_of_give place give = record { place = give.place; child_place = place; mode = give.mode }

-- one more access, but for a give of a queue
abbrev pub with_access : (of_queue : Bool) → Access → List Access → List Access
with_access of_queue access rest = if of_queue then rest else access ∷ rest

-- the accesses of a child's gives, of which the first is for this place
abbrev pub accesses_from : (place : ℕ) → List Give → List Access
accesses_from place [] = []
accesses_from place (give ∷ gives) = with_access (is_queue_mode give.mode) (access_of_give place give) (accesses_from (place + 1) gives)

-- Of a child's gives the objects among so many were given to it. The parent has the same objects at the same places, and all
-- others have what they had.
pub record AreMade (s : Script) (r : Reading) (before now : VersionState) (parent : Progress) (child : ℕ) (gives : List Give) (done : ℕ) : Type 0 where
  pub giving : IsGiving s r now parent child (accesses_from 0 (take done gives)) (accesses_from done (drop done gives))
  pub on : (place : ℕ) (object : Placed) → placed_at before parent.number place ≡ Some object
      → (same : Placed) × (placed_at now parent.number place ≡ Some same) × (same.object ≡ object.object) × (same.mode ≡ object.mode)
  pub back : (place : ℕ) (object : Placed) → placed_at now parent.number place ≡ Some object → (was : Placed) × (placed_at before parent.number place ≡ Some was)
  pub others : (m place : ℕ) → m ≢ parent.number → m ≢ child → placed_at now m place ≡ placed_at before m place
  pub count : now.made ≡ before.made
  pub waits : (m : ℕ) → m ≢ child → WaitsForNone before m → WaitsForNone now m

-- A parent may give a child the objects among these gives: its next entry of the script is the spawn that gives them, and no place
-- is given twice but to read.
pub record GivesObjects (before : VersionState) (parent child : ℕ) (gives : List Give) : Type 0 where
  pub s : Script
  pub lawful : IsLawful s
  pub r : Reading
  pub giver : Progress
  pub own : giver.number ≡ parent
  pub known : frame_of r giver.number ≡ Some giver
  pub held : List Holding
  pub has : HasObjects before giver.number held
  pub differ : giver.number ≢ child
  pub hs : List Holding
  pub given_is : given held gives ≡ Some hs
  pub alone : is_aliased gives ≡ false
  pub starts : AreMade s r before before giver child gives 0
