-- Frames: tasks of a run out of order. What a frame is, wherever it is and whoever has it.
use Rattle.std.specs.Prelude.{◌≡◌, ℕ, ◌≤◌, ◌<◌, Bool, true, false, Option, Some, List, [], is_some, length, slice_get}
use Rattle.std.specs.Option.{ForSome}
use Rattle.swan_model.specs.declared.body.Body.{Ghosts}
use Rattle.swan_model.specs.declared.plan.Plan.{Plan}
use Rattle.swan_model.specs.declared.plan.TheConstants.{FUEL_MOST}
use Rattle.swan_model.specs.declared.script.Deed.{Deed}
use Rattle.swan_model.specs.declared.script.Deed.TheVariants as deed
use Rattle.swan_model.specs.declared.script.OriginGive.{OriginGive}
use Rattle.swan_model.specs.declared.script.Script.{Script}
use Rattle.swan_model.specs.QueueState.{LentEnd}
use Rattle.swan_model.specs.Rights.{is_queue_mode}
use Rattle.swan_model.specs.Roots.{IsWithinBounds}
use Rattle.swan_model.specs.Script.{script}
use Rattle.swan_model.specs.Segments.{segment_queue}
use Rattle.swan_model.specs.SerialState.{Activation, Holding}
use Rattle.swan_model.specs.SerialTime.{time}
use Rattle.swan_model.specs.Told.{deed_at}
use Rattle.swan_model.specs.TrueFrames.{FrameState, IsTrueAlone, StandsAt, gives_at}
use Rattle.swan_model.specs.TrueFrames as true_frames
use Rattle.queues.specs.Asks.{LentEnds}
use Rattle.queues.specs.Reads.{deeds_among}
use Rattle.serial_elision.specs.Bounds.{IsWithin}
use Rattle.task_frames.specs.declared.stage.Stage.{Stage}
use Rattle.task_frames.specs.declared.stage.Stage.TheVariants.{Ready, Asking}

-- a frame's task, as far as the frame has come
pub record TaskView (B L : Type 0) : Type 0 where
  pub plan : Plan B L
  pub number : ℕ
  pub path : List ℕ
  -- how many of the task's steps are done, and how many were when the frame was given
  pub done : ℕ
  pub since : ℕ
  pub fuel : ℕ
  -- what it holds, by place, with the run's numbers of queues and objects
  pub holdings : List Holding
  -- how many children it has spawned
  pub children : ℕ

-- the root's task before its first step, with what it holds
abbrev pub root_task : {B L : Type 0} → Plan B L → List Holding → TaskView B L
root_task plan holdings = record { plan = plan; number = 0; path = []; done = 0; since = 0; fuel = plan.fuel; holdings = holdings; children = 0 }

-- a frame, as contracts see it
pub record FrameView (B L E : Type 0) : Type 0 where
  pub task : TaskView B L
  -- how it stands to its next step; none after want of memory
  pub stage : Option (Stage L)
  -- whether its next step was found to need the core
  pub mark : Bool
  -- the ends that it has with it
  pub ends : E

-- it has its local: no want of memory was met
abbrev pub is_whole : {B L E : Type 0} → FrameView B L E → Bool
is_whole frame = is_some frame.stage

abbrev pub stage_of : {L : Type 0} → Stage L → true_frames.Stage L
stage_of (Ready local answer) = true_frames.ready local answer
stage_of (Asking local ask place) = true_frames.asking local ask place

abbrev pub state_of : {B L : Type 0} → TaskView B L → Stage L → FrameState L
state_of task stage = record { path = task.path; done = task.done; fuel = task.fuel; holdings = task.holdings; children = task.children; stage = stage_of stage }

-- a plan as it was made: its lists and its fuel are within their bounds
pub record IsPlan {B L : Type 0} (plan : Plan B L) : Type 0 where
  pub lists : IsWithinBounds plan.roots.queues plan.roots.objects
  pub fuel : plan.fuel ≤ FUEL_MOST

-- a deed that a frame can do without the core
abbrev pub is_local : Deed → Bool
is_local deed.Quiet = true
is_local (deed.Push queue value) = true
is_local (deed.Pop queue) = true
is_local (deed.Test queue) = true
is_local _ = false

-- a task's steps from one number up to another are such
pub record AreLocal (s : Script) (path : List ℕ) (from to : ℕ) : Type 0 where
  pub order : from ≤ to
  pub each : (k : ℕ) → from ≤ k → k < to → is_local (deed_at s (time s path k)) ≡ true

module _ {B L : Type 0} (G : Ghosts B L) where
  -- Ends that were lent to a frame: they have its run and its task, and its queue deeds then and now; and each end is one of
  -- the queue that the frame holds by that number.
  pub record AreEndsOf (task : TaskView B L) (name : Option Script) (ends : LentEnds) : Type 0 where
    pub named : name ≡ Some (script G task.plan)
    pub own : ends.frame ≡ task.number
    pub path : ends.path ≡ task.path
    pub before : ends.before ≡ deeds_among (script G task.plan) task.path task.since
    pub deeds : ends.deeds ≡ deeds_among (script G task.plan) task.path task.done
    pub queues : (top : Activation L) → StandsAt G task.plan task.path task.done top
        → (i place : ℕ) (end : LentEnd) (holding : Holding) (give : OriginGive) → slice_get ends.list i ≡ Some end
        → slice_get task.holdings place ≡ Some holding → is_queue_mode holding.mode ≡ true → holding.number ≡ end.queue
        → slice_get (gives_at G task.plan task.path task.done top) place ≡ Some (Some give)
        → segment_queue (script G task.plan) end.tag ≡ Some give.origin

  -- What holds of each frame that has its local: it is true for its plan, in the middle of a step too; its ends are its own;
  -- and all that it did since it was given are steps that need no core. Given with no step taken, it did nothing.
  pub record IsFrame (task : TaskView B L) (name : Option Script) (ends : LentEnds) (stage : Stage L) : Type 0 where
    pub plan : IsPlan task.plan
    pub alone : IsTrueAlone G task.plan (state_of task stage)
    -- by the fuel that it has before its next step
    pub within : IsWithin (length task.holdings) task.children alone.top.fuel
    pub since : AreLocal (script G task.plan) task.path task.since task.done
    -- the first step isn't one that it takes by itself
    pub begun : task.since ≡ 0 → task.done ≡ 0
    pub lent : AreEndsOf task name ends

  -- and of each frame, by what its ends mean
  abbrev pub IsAnyFrame : {E : Type 0} → (E → Option Script) → (E → LentEnds) → FrameView B L E → Type 0
  IsAnyFrame name ends frame = ForSome frame.stage (IsFrame frame.task (name frame.ends) (ends frame.ends))
