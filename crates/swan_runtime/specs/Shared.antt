-- What workers share under the lock: the core, the frames that nobody runs, and those that sleep.
use Rattle.std.specs.Prelude.{◌≡◌, ℕ, ◌+◌, ◌++◌, ◌∷◌, Option, Some, None, List, [], All, vec_len}
use Rattle.std.specs.BTreeMap.{is_at}
use Rattle.std.specs.Map.{lookup, values_of}
use Rattle.std.specs.Ordering.{nat_cmp}
use Rattle.swan_model.specs.declared.plan.Plan.{Plan}
use Rattle.queues.specs.declared.answers.WaitFor.{WaitFor}
use Rattle.queues.specs.declared.answers.WaitFor.TheVariants as wait
use Rattle.task_frames.specs.Cores.{CoreView}
use Rattle.task_frames.specs.Frames.{FrameView}
use Rattle.task_frames.specs.Resumes.{EndsOf}
use Rattle.swan_runtime.specs.declared.asleep.Asleep.{Asleep}
use Rattle.swan_runtime.specs.declared.sleepers.Popper.{Popper}
use Rattle.swan_runtime.specs.declared.sleepers.Sleepers.{Sleepers}

module _ {B L E : Type 0} (of : EndsOf E) (plan : Plan B L) (run : List ℕ) where
  -- The frame is one of this run of this plan.
  pub record IsOfRun (frame : FrameView B L E) : Type 0 where
    pub plan_is : frame.task.plan ≡ plan
    pub run_is : of.run frame.ends ≡ run

  -- So are all of these,
  pub record AreOfRun (frames : List (FrameView B L E)) : Type 0 where
    pub each : All IsOfRun frames

  pub record ArePoppersOfRun {Q : Type 0} (poppers : List (Popper B Q L E)) : Type 0 where
    pub each : All (λ (popper : Popper B Q L E). IsOfRun popper.frame) poppers

  -- and all that sleep under a frame,
  pub record AreSleepersOfRun {Q : Type 0} (sleepers : Sleepers B Q L E) : Type 0 where
    pub at_end : AreOfRun sleepers.at_end.items
    pub at_push : ArePoppersOfRun sleepers.at_push.items

  -- or at all.
  pub record AsleepIsOfRun {Q : Type 0} (asleep : Asleep B Q L E) : Type 0 where
    pub each : All (λ (sleepers : Sleepers B Q L E). AreSleepersOfRun sleepers) (values_of asleep.sleepers.entries)

-- Frames went to sleep, woke or were taken, and these came in from outside. All are still of the run that they were of.
pub record KeepsOfRun {B Q L E : Type 0} (of : EndsOf E) (came : List (FrameView B L E)) (before after : Asleep B Q L E) (were_ready are_ready : List (FrameView B L E)) : Type 0 where
  pub asleep : (plan : Plan B L) (run : List ℕ) → AreOfRun of plan run came → AsleepIsOfRun of plan run before → AsleepIsOfRun of plan run after
  pub ready : (plan : Plan B L) (run : List ℕ) → AreOfRun of plan run came → AsleepIsOfRun of plan run before → AreOfRun of plan run were_ready
      → AreOfRun of plan run are_ready

-- a ready frame that goes on first
pub record IsOnTop {B L E : Type 0} (frame : FrameView B L E) (ready : List (FrameView B L E)) : Type 0 where
  pub below : List (FrameView B L E)
  pub is : ready ≡ below ++ frame ∷ []

module _ {B Q L E : Type 0} where
  -- what sleeps under a live frame
  abbrev pub sleepers_at : Asleep B Q L E → ℕ → Option (Sleepers B Q L E)
  sleepers_at asleep number = lookup (is_at (nat_cmp number)) asleep.sleepers.entries

  -- how many frames sleep there
  abbrev pub sleeper_count : Option (Sleepers B Q L E) → ℕ
  sleeper_count None = 0
  sleeper_count (Some sleepers) = vec_len sleepers.at_end + vec_len sleepers.at_push

  -- A frame was let sleep that has to wait for this, and asks about this queue: until it is pushed to, where that is awaited.
  abbrev pub HasTakenIn : (before after : Sleepers B Q L E) → FrameView B L E → WaitFor → Option ℕ → Type 0
  HasTakenIn before after frame (wait.Pusher n) (Some queue) =
      (after.at_end.items ≡ before.at_end.items) × (after.at_push.items ≡ before.at_push.items ++ (record { queue = queue; frame = frame }) ∷ [])
  HasTakenIn before after frame wait_for asked =
      (after.at_end.items ≡ before.at_end.items ++ frame ∷ []) × (after.at_push.items ≡ before.at_push.items)

-- what is shared, but for who sleeps
pub record SharedView (B L E : Type 0) : Type 0 where
  pub core : CoreView B L
  -- the frames that nobody runs and that may go on; the last goes on first
  pub ready : List (FrameView B L E)

-- All frames are those of the core's run.
pub record IsShared {B Q L E : Type 0} (of : EndsOf E) (shared : SharedView B L E) (who : Asleep B Q L E) : Type 0 where
  pub ready : AreOfRun of shared.core.plan shared.core.run shared.ready
  pub asleep : AsleepIsOfRun of shared.core.plan shared.core.run who
