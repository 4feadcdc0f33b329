-- The serial order of the frames of a tree. In serial order a child runs whole at the step at which it is
-- spawned, before its parent goes on. So a frame's next step comes after all that the frames below it have
-- still to do, and after all of its older siblings and of the frames below those.
use Rattle.std.specs.Prelude.{◌≡◌, ◌≢◌, ℕ, ◌<◌, Some}
use Rattle.pop_order.specs.Frames.{TurnFrame, Frames, frame_at}

-- an active frame with this parent
pub record IsChild (frames : Frames) (parent number : ℕ) : Type 0 where
  pub frame : TurnFrame
  pub active : frame_at frames number ≡ Some frame
  pub of : frame.parent ≡ parent

-- a number is that of the top, or its frame's parent is at the top or below it
pub data IsAtOrBelow (frames : Frames) (top : ℕ) : ℕ → Type 0 where
  at : IsAtOrBelow frames top top
  below : (parent number : ℕ) → IsChild frames parent number → IsAtOrBelow frames top parent → IsAtOrBelow frames top number

-- A frame comes before another in serial order: it is below that one, or the two are at or below two
-- children of one parent, and its own side is that of the older child.
pub data ComesBefore (frames : Frames) (number other : ℕ) : Type 0 where
  inside : number ≢ other → IsAtOrBelow frames other number → ComesBefore frames number other
  aside : (parent older younger : ℕ) → IsChild frames parent older → IsChild frames parent younger → older < younger
      → IsAtOrBelow frames older number → IsAtOrBelow frames younger other → ComesBefore frames number other
