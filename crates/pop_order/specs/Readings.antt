-- How a reading of a script sees the frames.
use Rattle.std.specs.Prelude.{◌≡◌, ℕ, ◌<◌, Some, [], ◌∷◌, ◌++◌, length}
use Rattle.swan_model.specs.declared.script.Script.{Script}
use Rattle.swan_model.specs.Nested.{spawn_time}
use Rattle.swan_model.specs.SerialTime.{Progress, Reading, times, frame_of, point}
use Rattle.pop_order.specs.Frames.{Frames}
use Rattle.pop_order.specs.Order.{IsChild}

-- a frame of the reading that has an entry left
pub record IsAt (s : Script) (r : Reading) (number : ℕ) : Type 0 where
  pub progress : Progress
  pub known : frame_of r number ≡ Some progress
  pub left : progress.done < length (times s progress.path)

-- a child is the child of this number of its parent in the reading, and its spawn is done
pub record IsSpawnedChild (s : Script) (r : Reading) (parent number : ℕ) : Type 0 where
  pub above : IsAt s r parent
  pub here : IsAt s r number
  pub index : ℕ
  pub path : here.progress.path ≡ above.progress.path ++ index ∷ []
  pub spawn : ℕ
  pub spawned : spawn_time s above.progress.path index ≡ Some spawn
  pub done : spawn < point s above.progress

-- The reading has all frames and their parents, and siblings in the order of their spawning.
pub record HasOrderOf (frames : Frames) (s : Script) (r : Reading) : Type 0 where
  pub spawned : (parent number : ℕ) → IsChild frames parent number → IsSpawnedChild s r parent number
  pub siblings : (parent older younger : ℕ) (a : IsChild frames parent older) (b : IsChild frames parent younger) → older < younger
      → (spawned parent older a).index < (spawned parent younger b).index
