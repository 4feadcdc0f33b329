-- Which frames may come to a core.
use Rattle.std.specs.Prelude.{◌≡◌, ℕ, List}
use Rattle.std.specs.List.{All}
use Rattle.task_frames.specs.Cores.{CoreView}
use Rattle.task_frames.specs.Frames.{FrameView}
use Rattle.task_frames.specs.declared.resumed.Resumed.{Resumed}
use Rattle.task_frames.specs.declared.resumed.Resumed.TheVariants as resumed

module _ {B L E : Type 0} (run : E → List ℕ) (core : CoreView B L) where
  -- a frame is of the core's plan and run
  pub record MayCome (frame : FrameView B L E) : Type 0 where
    pub plan : frame.task.plan ≡ core.plan
    pub run_is : run frame.ends ≡ core.run

  -- each of them is so
  abbrev pub MayAllCome : List (FrameView B L E) → Type 0
  MayAllCome frames = All MayCome frames

module _ {B Q L E : Type 0} (run : E → List ℕ) (core : CoreView B L) where
  -- each frame that came of one that was resumed may come to the core
  abbrev pub CameSo : Resumed B Q L E → Type 0
  CameSo (resumed.Runs next steps) = MayCome run core next
  CameSo (resumed.Spawned parent new steps) = MayCome run core parent × MayCome run core new
  CameSo (resumed.Waits same waited) = MayCome run core same
  CameSo (resumed.Strange same foreign) = MayCome run core same
  CameSo (resumed.Ended steps) = Unit {0}
  CameSo resumed.NoMemory = Unit {0}
