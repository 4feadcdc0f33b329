-- The live frames of a run on a stack, of which the top runs next.
use Rattle.std.specs.Prelude.{◌≡◌, ℕ, ◌+◌, ◌*◌, ◌<◌, Option, Some, None, List, [], ◌∷◌, ◌++◌, slice_get}
use Rattle.task_frames.specs.declared.stage.Stage.{Stage}
use Rattle.task_frames.specs.declared.stage.Stage.TheVariants.{Ready, Asking}
use Rattle.task_frames.specs.Cores.{CoreView, KeptView}
use Rattle.task_frames.specs.Frames.{FrameView}
use Rattle.task_frames.specs.Records.{LiveFrame, live_at}
use Rattle.task_frames.specs.Resumes.{EndsOf, IsGivenBy}

-- a task is below another one in the tree of tasks, by their paths
pub record IsAbove (path below : List ℕ) : Type 0 where
  pub child : ℕ
  pub rest : List ℕ
  pub is : below ≡ path ++ child ∷ rest

-- a frame stands on the stack
pub record IsOn {B L E : Type 0} (stack : List (FrameView B L E)) (number : ℕ) : Type 0 where
  pub index : ℕ
  pub frame : FrameView B L E
  pub stands : slice_get stack index ≡ Some frame
  pub same : frame.task.number ≡ number

module _ {B L E : Type 0} (of : EndsOf E) (core : CoreView B L) where
  -- Each is a frame as the core gave it last, and each stands above its ancestors.
  pub record AreStacked (stack : List (FrameView B L E)) : Type 0 where
    pub given : (index : ℕ) (frame : FrameView B L E) → slice_get stack index ≡ Some frame → IsGivenBy of core frame
    pub nested : (low high : ℕ) (a b : FrameView B L E) → low < high → slice_get stack low ≡ Some a → slice_get stack high ≡ Some b
        → IsAbove a.task.path b.task.path

  -- The stack has exactly the live frames of the core.
  pub record IsStack (stack : List (FrameView B L E)) : Type 0 where
    pub kept : KeptView
    pub keeps : core.kept ≡ Some kept
    pub stacked : AreStacked stack
    pub all : (number : ℕ) (live : LiveFrame) → live_at kept.live number ≡ Some live → IsOn stack number

-- how much fuel a frame has before its next step
abbrev pub fuel_of : {L : Type 0} → ℕ → Option (Stage L) → ℕ
fuel_of fuel None = fuel
fuel_of fuel (Some (Ready local said)) = fuel
fuel_of fuel (Some (Asking local asks place)) = fuel + 1

-- how many turns the frames of a stack can take at most, with all that they spawn
abbrev pub turns_left : {B L E : Type 0} → List (FrameView B L E) → ℕ
turns_left [] = 0
turns_left (frame ∷ frames) = 2 * fuel_of frame.task.fuel frame.stage + 1 + turns_left frames
