-- Turns of a run whose live frames stand on a stack.
use Rattle.std.specs.Prelude.{◌≡◌, ◌≢◌, ℕ, ◌+◌, true, Option, Some, List, [], ◌∷◌, ◌++◌, slice_get}
use Rattle.swan_model.specs.declared.body.Body.{Ghosts}
use Rattle.swan_model.specs.declared.script.Script.{Script}
use Rattle.task_frames.specs.declared.resumed.Resumed.{Resumed}
use Rattle.task_frames.specs.declared.resumed.Resumed.TheVariants as resumed
use Rattle.task_frames.specs.Cores.{CoreView}
use Rattle.task_frames.specs.Frames.{FrameView, IsAnyFrame, is_whole}
use Rattle.task_frames.specs.Going.{Counts, IsSameFrame}
use Rattle.task_frames.specs.Resumes.{EndsOf, IsOpened, IsResumed}

-- a stack once the frame that was its top was resumed, with the frames that came of it, a child above its parent
abbrev pub with_resumed : {B Q L E : Type 0} → List (FrameView B L E) → Resumed B Q L E → List (FrameView B L E)
with_resumed stack (resumed.Runs frame steps) = stack ++ frame ∷ []
with_resumed stack (resumed.Spawned frame spawned steps) = (stack ++ frame ∷ []) ++ spawned ∷ []
with_resumed stack (resumed.Waits frame waited) = stack ++ frame ∷ []
with_resumed stack (resumed.Ended steps) = stack
with_resumed stack (resumed.Strange frame foreign) = stack ++ frame ∷ []
with_resumed stack resumed.NoMemory = stack

module _ {B L E : Type 0} (G : Ghosts B L) (name : E → Option Script) (of : EndsOf E) where
  -- these are frames, by what their type keeps
  abbrev pub AreAnyFrames : List (FrameView B L E) → Type 0
  AreAnyFrames frames = (index : ℕ) (frame : FrameView B L E) → slice_get frames index ≡ Some frame → IsAnyFrame G name of.ends frame

module _ {B L E : Type 0} (Q : Type 0) (G : Ghosts B L) (name : E → Option Script) (of : EndsOf E) (counts : E → Counts) where
  -- The top of a stack takes some steps by itself, and is resumed. The core answers this.
  pub record IsTopResumed (before : CoreView B L) (stack : List (FrameView B L E)) (after : CoreView B L) (answer : Resumed B Q L E) : Type 0 where
    pub below : List (FrameView B L E)
    pub top : FrameView B L E
    pub is : stack ≡ below ++ top ∷ []
    pub moved : FrameView B L E
    pub steps : ℕ
    pub done : moved.task.done ≡ top.task.done + steps
    pub own : IsSameFrame name of.run of.ends counts top moved
    pub frame : IsAnyFrame G name of.ends moved
    pub whole : is_whole moved ≡ true
    pub answered : IsResumed G of before after moved answer
    pub plan : after.plan ≡ before.plan
    pub run : after.run ≡ before.run

  -- A turn: that, where memory lasts, and the stack with what came of it.
  pub record IsTurn (before : CoreView B L) (stack : List (FrameView B L E)) (after : CoreView B L) (then : List (FrameView B L E)) : Type 0 where
    pub answer : Resumed B Q L E
    pub resumed_is : IsTopResumed before stack after answer
    pub lasts : answer ≢ resumed.NoMemory
    pub then_is : then ≡ with_resumed resumed_is.below answer
    pub frames : AreAnyFrames G name of then

  -- a core and a stack, after so many turns from where the core was opened
  pub data AreStackTurns (opened : CoreView B L) : ℕ → CoreView B L → List (FrameView B L E) → Type 0 where
    at_start : (root : FrameView B L E) → IsOpened of opened root → IsAnyFrame G name of.ends root → AreStackTurns opened 0 opened (root ∷ [])
    one_more : (turns : ℕ) (before after : CoreView B L) (stack then : List (FrameView B L E)) → AreStackTurns opened turns before stack
        → IsTurn before stack after then → AreStackTurns opened (turns + 1) after then
