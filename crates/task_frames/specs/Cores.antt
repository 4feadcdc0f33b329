-- The core of a run: what it keeps, and what holds of it.
use Rattle.std.specs.Option.{ForSome}
use Rattle.std.specs.Prelude.{◌≡◌, ◌≢◌, ℕ, ◌+◌, ◌-◌, ◌<◌, ◌≤◌, Bool, true, false, Option, Some, None, List, [], ◌∷◌, ◌++◌, is_none, length, map, slice_get}
use Rattle.swan_model.specs.declared.body.Ask.{Ask}
use Rattle.swan_model.specs.declared.body.Body.{Ghosts}
use Rattle.swan_model.specs.declared.fault.Fault.{Fault}
use Rattle.swan_model.specs.declared.origin.Origin.{Origin}
use Rattle.swan_model.specs.declared.origin.Origin.TheVariants.{Root}
use Rattle.swan_model.specs.declared.plan.Plan.{Plan}
use Rattle.swan_model.specs.declared.script.Script.{Script}
use Rattle.swan_model.specs.QueueFollows.{Fits, QueuesFollow}
use Rattle.swan_model.specs.QueueState.{ActiveFrame, HasTurn, QueueState, active, after_back, planned}
use Rattle.swan_model.specs.Readings.{gone_on_by}
use Rattle.swan_model.specs.Rights.{is_queue_mode}
use Rattle.swan_model.specs.Script.{script}
use Rattle.swan_model.specs.SerialState.{Activation, Holding}
use Rattle.swan_model.specs.SerialTime.{Progress, Reading, frame_of, times}
use Rattle.swan_model.specs.TrueFrames.{IsTrueAlone, StandsAt, give_in, gives_at}
use Rattle.swan_model.specs.Versions.{IsSettled, Placed, VersionState, placed_at}
use Rattle.swan_model.specs.VersionsFollow.{ObjectsFollow}
use Rattle.queues.specs.Asks.{IsRecorded, LentEnds}
use Rattle.queues.specs.Tree.{IsTree}
use Rattle.serial_elision.specs.Bounds.{IsWithin}
use Rattle.serial_elision.specs.Caught.{children_by, children_by_sync, failed_children}
use Rattle.serial_elision.specs.Laws.{IsObjectOf}
use Rattle.serial_elision.specs.TaskSteps.{IsFaultOf}
use Rattle.object_versions.specs.Following.{WaitsForNone}
use Rattle.task_frames.specs.declared.stage.Stage.{Stage}
use Rattle.task_frames.specs.declared.stage.Stage.TheVariants.{Asking}
use Rattle.task_frames.specs.Frames.{IsPlan, TaskView, state_of}
use Rattle.task_frames.specs.Records.{LiveFrame, NumberedFrames, come_at, live_at}

-- what a core keeps until want of memory
pub record KeptView : Type 0 where
  -- the name of its queues, and their run
  pub name : Option Script
  pub run : List ℕ
  pub state : QueueState
  pub versions : VersionState
  -- which task, queue and object of the script each number is, and how far each frame has come
  pub reading : Reading
  pub live : NumberedFrames
  -- how many frames, and how many objects, there were so far
  pub frames : ℕ
  pub objects : ℕ
  -- in the order in which they were booked
  pub faults : List Fault

-- a core, as contracts see it
pub record CoreView (B L : Type 0) : Type 0 where
  pub plan : Plan B L
  pub run : List ℕ
  pub is_done : Bool
  pub kept : Option KeptView

-- ---- what is kept of the queues

-- The queues follow the script and the reading. The plan's queues are the first ones, and no rest was taken.
pub record AreQueues (s : Script) (r : Reading) (state : QueueState) : Type 0 where
  pub follow : QueuesFollow s state
  pub fit : Fits s state r
  pub tree : IsTree state
  pub roots : (i : ℕ) → i < length s.queues → slice_get state.makers i ≡ Some (planned i)
  pub whole : state.emptied ≡ []

-- ---- what is kept of the objects

-- a frame has its object at a place, as its holdings say
pub record IsPlacedSo (versions : VersionState) (number place : ℕ) (holding : Holding) : Type 0 where
  pub object : Placed
  pub stands : placed_at versions number place ≡ Some object
  pub same : object.object ≡ holding.number
  pub mode : object.mode ≡ holding.mode

-- A frame has versions exactly at the places at which it holds objects.
pub record HasObjects (versions : VersionState) (number : ℕ) (holdings : List Holding) : Type 0 where
  pub each : (place : ℕ) (holding : Holding) → slice_get holdings place ≡ Some holding → is_queue_mode holding.mode ≡ false
      → IsPlacedSo versions number place holding
  pub all : (place : ℕ) (object : Placed) → placed_at versions number place ≡ Some object
      → (holding : Holding) × (slice_get holdings place ≡ Some holding) × (is_queue_mode holding.mode ≡ false)

-- a root object has this number, its name, and its place at the root
pub record IsRootObject (s : Script) (r : Reading) (versions : VersionState) (i : ℕ) : Type 0 where
  pub named : slice_get r.objects i ≡ Some (Root i)
  pub object : Placed
  pub stands : placed_at versions 0 (length s.queues + i) ≡ Some object
  pub same : object.object ≡ i

-- The objects follow the script and the reading. The live frames have theirs, and nobody else has any but the root, each
-- of whose objects has its value in the end. Who has begun waits for nothing that it was given.
pub record AreObjects (s : Script) (r : Reading) (versions : VersionState) (live : NumberedFrames) (objects : ℕ) : Type 0 where
  pub follow : ObjectsFollow s r versions
  pub known : (i : ℕ) (origin : Origin) → slice_get r.objects i ≡ Some origin → IsObjectOf s origin
  pub count : versions.made ≡ objects
  pub each : (number : ℕ) (frame : LiveFrame) → live_at live number ≡ Some frame → HasObjects versions number frame.holdings
  pub begun : (number : ℕ) (frame : LiveFrame) → live_at live number ≡ Some frame → 0 < frame.done → WaitsForNone versions number
  pub gone : (number place : ℕ) (object : Placed) → live_at live number ≡ None → number ≢ 0 → placed_at versions number place ≡ Some object → ⊥
  pub roots : (i : ℕ) → i < length s.objects → IsRootObject s r versions i
  pub over : live_at live 0 ≡ None → IsSettled versions 0

-- ---- what is kept of failed children

-- A task of this path, which has taken so many steps, has spawned this one since its last Sync.
pub record IsSpawnedSince (s : Script) (path : List ℕ) (done : ℕ) (child : List ℕ) : Type 0 where
  pub index : ℕ
  pub own : child ≡ path ++ index ∷ []
  pub since : children_by_sync s path done ≤ index
  pub spawned : index < children_by s path done

-- Each live frame has the number of those children since its last Sync of which a fault is booked. A child that is live was
-- spawned since then.
pub record AreCounted (s : Script) (live : NumberedFrames) (faults : List Fault) : Type 0 where
  pub counts : (number : ℕ) (frame : LiveFrame) → live_at live number ≡ Some frame
      → frame.failed ≡ failed_children faults frame.path (children_by_sync s frame.path frame.done) (children_by s frame.path frame.done)
  pub since : (number parent : ℕ) (child frame : LiveFrame) → live_at live number ≡ Some child → child.parent ≡ Some parent → live_at live parent ≡ Some frame
      → IsSpawnedSince s frame.path frame.done child.path

-- ---- what is kept of the frames

-- no queue stands at two places
abbrev pub HasQueuesOnce : List Holding → Type 0
HasQueuesOnce holdings =
    (place other : ℕ) (a b : Holding) → slice_get holdings place ≡ Some a → slice_get holdings other ≡ Some b
    → is_queue_mode a.mode ≡ true → is_queue_mode b.mode ≡ true → a.number ≡ b.number → place ≡ other

module _ {B L : Type 0} (G : Ghosts B L) (plan : Plan B L) where
  -- A frame of the record is one of the reading, which has come as far. It holds, by what the reading tells, what its task holds
  -- at its next step.
  pub record IsAsRead (r : Reading) (number : ℕ) (frame : LiveFrame) : Type 0 where
    pub progress : frame_of r number ≡ Some (record { number = number; path = frame.path; done = frame.done })
    pub top : Activation L
    pub stands : StandsAt G plan frame.path frame.done top
    pub named : map (give_in r) frame.holdings ≡ gives_at G plan frame.path frame.done top
    pub once : HasQueuesOnce frame.holdings

  -- The record has exactly the active frames, each as the reading tells; who has begun has its turn to pop. Frames have numbers
  -- in the order of their making.
  pub record AreFrames (r : Reading) (state : QueueState) (live : NumberedFrames) (frames : ℕ) : Type 0 where
    pub told : (number : ℕ) (frame : LiveFrame) → live_at live number ≡ Some frame → IsAsRead r number frame
    pub active_is : (number : ℕ) (frame : LiveFrame) → live_at live number ≡ Some frame
        → (own : ActiveFrame) × (active state number ≡ Some own) × (own.parent ≡ frame.parent)
    pub live_is : (number : ℕ) (own : ActiveFrame) → active state number ≡ Some own → (frame : LiveFrame) × (live_at live number ≡ Some frame)
    pub turns : (number : ℕ) (frame : LiveFrame) (own : ActiveFrame) → live_at live number ≡ Some frame → active state number ≡ Some own
        → 0 < frame.done → HasTurn state own
    pub latest : state.latest < frames
    pub known : (i : ℕ) (progress : Progress) → slice_get r.frames i ≡ Some progress → progress.number < frames
    pub count : length r.frames ≡ frames

  -- a task has ended, by the reading
  pub record HasEnded (r : Reading) (path : List ℕ) : Type 0 where
    pub number : ℕ
    pub progress : Progress
    pub known : frame_of r number ≡ Some progress
    pub own : progress.path ≡ path
    pub all : progress.done ≡ length (times (script G plan) path)

  -- The booked faults are those of the tasks that have ended, each once.
  pub record AreBooked (r : Reading) (faults : List Fault) : Type 0 where
    pub only : (i : ℕ) (fault : Fault) → slice_get faults i ≡ Some fault → IsFaultOf G plan fault × HasEnded r fault.path
    pub all : (fault : Fault) → IsFaultOf G plan fault → HasEnded r fault.path → (i : ℕ) × (slice_get faults i ≡ Some fault)
    pub once : (i j : ℕ) (a b : Fault) → slice_get faults i ≡ Some a → slice_get faults j ≡ Some b → a.path ≡ b.path → i ≡ j

  -- ---- the core

  -- What a core keeps, for a plan: its queues have the plan's script as their name, and with its objects, its frames and its
  -- booked faults it follows that script and one reading. Of each live frame it knows how many children failed since the last Sync.
  pub record IsCore (kept : KeptView) : Type 0 where
    pub sound : IsPlan plan
    pub name : kept.name ≡ Some (script G plan)
    pub queues : AreQueues (script G plan) kept.reading kept.state
    pub objects : AreObjects (script G plan) kept.reading kept.versions kept.live kept.objects
    pub frames : AreFrames kept.reading kept.state kept.live kept.frames
    pub booked : AreBooked kept.reading kept.faults
    pub counted : AreCounted (script G plan) kept.live kept.faults

-- whether the root has ended
abbrev pub is_over : KeptView → Bool
is_over kept = is_none (live_at kept.live 0)

-- What a core has until want of memory is kept for its plan and its run, and it is done exactly where the root has ended.
abbrev pub IsCoreView : {B L : Type 0} → Ghosts B L → CoreView B L → Type 0
IsCoreView G core = ForSome core.kept (λ kept. IsCore G core.plan kept × (kept.run ≡ core.run) × (core.is_done ≡ is_over kept))

-- ---- frames that come to it

-- The frame stands in the record as it was given last.
pub record IsOf {B L : Type 0} (kept : KeptView) (task : TaskView B L) : Type 0 where
  pub frame : LiveFrame
  pub live : live_at kept.live task.number ≡ Some frame
  pub path : frame.path ≡ task.path
  pub done : frame.done ≡ task.since
  pub holdings : frame.holdings ≡ task.holdings

-- The frame is the one that the core gave last under its number, but for what it did by itself since.
pub record IsGiven {B L : Type 0} (kept : KeptView) (task : TaskView B L) (ends : LentEnds) : Type 0 where
  pub of : IsOf kept task
  pub lent : IsRecorded kept.state task.number ends

-- What is kept once a frame has come in: its ends are back, and all that it did by itself is done.
abbrev pub after_coming_in : {B L : Type 0} → KeptView → TaskView B L → LentEnds → KeptView
after_coming_in kept task ends = record kept {
  state = after_back kept.state task.number ends.deeds;
  reading = gone_on_by kept.reading task.number (task.done - task.since);
  live = come_at kept.live task.number task.done (live_at kept.live task.number);
}

-- a frame that has its turn to pop, and waits for nothing that it was given to read
pub record MayBegin (kept : KeptView) (number : ℕ) : Type 0 where
  pub turn : (own : ActiveFrame) → active kept.state number ≡ Some own → HasTurn kept.state own
  pub ready : WaitsForNone kept.versions number

-- a frame that is at the core: its ends are back, and what it did with them is known
pub record FrameAtCoreView (B L : Type 0) : Type 0 where
  pub task : TaskView B L
  pub stage : Stage L

-- such a frame in the middle of a step, but for what its body asks for
pub record Mid (B L : Type 0) : Type 0 where
  pub task : TaskView B L
  pub local : L
  pub at : ℕ

abbrev pub asking : {B L : Type 0} → Mid B L → Ask L → FrameAtCoreView B L
asking mid asks = record { task = mid.task; stage = Asking mid.local asks mid.at }

-- a task with one step more done
abbrev pub one_on : {B L : Type 0} → TaskView B L → TaskView B L
one_on task = record task { done = task.done + 1; since = task.done + 1 }

module _ {B L : Type 0} (G : Ghosts B L) where
  -- it is true for its plan, in the middle of a step too
  pub record IsAtCore (frame : FrameAtCoreView B L) : Type 0 where
    pub plan : IsPlan frame.task.plan
    pub alone : IsTrueAlone G frame.task.plan (state_of frame.task frame.stage)
    pub within : IsWithin (length frame.task.holdings) frame.task.children alone.top.fuel
    pub since : frame.task.since ≡ frame.task.done

  -- and the core has it, with its ends
  pub record HasIt (kept : KeptView) (frame : FrameAtCoreView B L) : Type 0 where
    pub core : IsCore G frame.task.plan kept
    pub is : IsAtCore frame
    pub of : IsOf kept frame.task
    pub back : (own : ActiveFrame) → active kept.state frame.task.number ≡ Some own → own.lent ≡ None
