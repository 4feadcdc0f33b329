-- The earliest of a core's live frames, in serial order.
use Rattle.std.specs.Prelude.{◌≡◌, ◌≢◌, ℕ, Bool, true, false, Some}
use Rattle.swan_model.specs.PathOrder.{comes_before}
use Rattle.swan_model.specs.SerialTime.{Progress}
use Rattle.task_frames.specs.declared.resumed.Resumed.{Resumed}
use Rattle.task_frames.specs.declared.resumed.Resumed.TheVariants as resumed
use Rattle.task_frames.specs.Records.{LiveFrame, NumberedFrames, live_at}

-- how far a live frame has come, as the reading tells
abbrev pub progress_of : ℕ → LiveFrame → Progress
progress_of number frame = record { number = number; path = frame.path; done = frame.done }

-- a live frame that comes before all others
pub record IsEarliest (live : NumberedFrames) (number : ℕ) : Type 0 where
  pub frame : LiveFrame
  pub there : live_at live number ≡ Some frame
  pub first : (other : ℕ) (later : LiveFrame) → live_at live other ≡ Some later → other ≢ number → comes_before frame.path later.path ≡ true

-- a frame that was resumed has taken its step
abbrev pub has_stepped : {B Q L E : Type 0} → Resumed B Q L E → Bool
has_stepped (resumed.Runs frame steps) = true
has_stepped (resumed.Spawned frame spawned steps) = true
has_stepped (resumed.Ended steps) = true
has_stepped _ = false
