-- A run that opens: its root queues and its root objects, made one after the other, and what its core keeps at first.
use Rattle.std.specs.Prelude.{◌≡◌, ℕ, zero, suc, ◌+◌, ◌<◌, List, [], ◌∷◌, ◌++◌, None, Some, length, slice_get}
use Rattle.swan_model.specs.declared.origin.Origin.{Origin}
use Rattle.swan_model.specs.declared.origin.Origin.TheVariants.{Root}
use Rattle.swan_model.specs.declared.rights.Mode.TheVariants.{InOut}
use Rattle.swan_model.specs.declared.script.Script.{Script}
use Rattle.swan_model.specs.QueueFollows.{Fits, QueuesFollow}
use Rattle.swan_model.specs.QueueState.{ActiveFrame, IsUntouched, QueueState, active, planned}
use Rattle.swan_model.specs.Readings.{at_start}
use Rattle.swan_model.specs.SerialState.{Holding}
use Rattle.swan_model.specs.Versions.{Placed, VersionState, placed_at}
use Rattle.swan_model.specs.VersionsFollow.{ObjectsFollow}
use Rattle.queues.specs.Tree.{IsTree}
use Rattle.task_frames.specs.Cores.{KeptView}
use Rattle.task_frames.specs.Records.{IsOnlyLive, NumberedFrames}

-- so many queues, or objects, of the plan
abbrev pub roots_to : ℕ → List Origin
roots_to zero = []
roots_to (suc i) = roots_to i ++ Root i ∷ []

-- So many root queues are made, and nothing else.
pub record AreFirstQueues (s : Script) (state : QueueState) (i : ℕ) : Type 0 where
  pub follow : QueuesFollow s state
  pub fit : (objects : List Origin) → Fits s state (at_start (roots_to i) objects)
  pub tree : IsTree state
  pub many : length state.makers ≡ i
  pub roots : (j : ℕ) → j < i → slice_get state.makers j ≡ Some (planned j)
  pub whole : state.emptied ≡ []
  pub untouched : IsUntouched state
  pub latest : state.latest ≡ 0
  pub only : (n : ℕ) (frame : ActiveFrame) → active state n ≡ Some frame → (n ≡ 0) × (frame.parent ≡ None)

-- So many root objects are made, at places from this one on, and nothing else.
pub record AreFirstObjects (s : Script) (versions : VersionState) (first i : ℕ) : Type 0 where
  pub follow : (queues : List Origin) → ObjectsFollow s (at_start queues (roots_to i)) versions
  pub made : versions.made ≡ i
  pub each : (j : ℕ) → j < i → (object : Placed) × (placed_at versions 0 (first + j) ≡ Some object) × (object.object ≡ j) × (object.mode ≡ InOut)
  pub all : (n place : ℕ) (object : Placed) → placed_at versions n place ≡ Some object → (n ≡ 0) × ((j : ℕ) × (j < i) × (place ≡ first + j))

-- The record has the root alone, which holds this and has taken no step.
abbrev pub IsRootAlone : NumberedFrames → List Holding → Type 0
IsRootAlone live holdings = IsOnlyLive [] live 0 (Some (record { parent = None; path = []; done = 0; holdings = holdings; failed = 0 }))

-- What a core keeps at first, for a script: so many root queues and root objects, the root, which holds this, and nothing else.
pub record IsKeptAtFirst (s : Script) (queues objects : ℕ) (holdings : List Holding) (kept : KeptView) : Type 0 where
  pub name : kept.name ≡ Some s
  pub queues_are : AreFirstQueues s kept.state queues
  pub objects_are : AreFirstObjects s kept.versions queues objects
  pub reading : kept.reading ≡ at_start (roots_to queues) (roots_to objects)
  pub live : IsRootAlone kept.live holdings
  pub frames : kept.frames ≡ 1
  pub count : kept.objects ≡ objects
  pub faults : kept.faults ≡ []
