-- What a turn costs the frames of a stack.
use Rattle.std.proofs.Common.{◌≡◌, ℕ, ◌+◌, ◌*◌, true, Option, Some, None, List, [], ◌∷◌, ◌++◌, refl, arith}
use Rattle.std.specs.Prelude.{is_some}
use Rattle.swan_model.specs.declared.body.Body.{Ghosts}
use Rattle.swan_model.specs.declared.plan.Plan.{Plan}
use Rattle.swan_model.specs.declared.script.Script.{Script}
use Rattle.swan_model.specs.SerialState.{Activation}
use Rattle.swan_model.specs.TrueFrames.{IsStageOf, StandsAt}
use Rattle.queues.specs.Asks.{LentEnds}
use Rattle.task_frames.specs.declared.stage.Stage.{Stage}
use Rattle.task_frames.specs.declared.stage.Stage.TheVariants.{Ready, Asking}
use Rattle.task_frames.specs.Frames.{FrameView, IsAnyFrame, TaskView, is_whole, stage_of}
use Rattle.swan_runtime.specs.Stacks.{fuel_of, turns_left}

-- one frame more has its own
pub left-more : {B L E : Type 0} (stack : List (FrameView B L E)) (top : FrameView B L E) → turns_left (stack ++ top ∷ []) ≡ turns_left stack + (2 * fuel_of top.task.fuel top.stage + 1)
left-more [] top = omega arith
left-more (frame ∷ frames) top = omega (arith, left-more frames top)

module _ {B L : Type 0} (G : Ghosts B L) where
  stage-fuel : (plan : Plan B L) (top : Activation L) (fuel : ℕ) (stage : Stage L) → IsStageOf G plan top fuel (stage_of stage) → fuel_of fuel (Some stage) ≡ top.fuel
  stage-fuel plan top fuel (Ready local said) is = is.1
  stage-fuel plan top fuel (Asking local asks place) is = omega (arith, is.0, is.1)

  -- how a frame stands, and what fuel it has there
  pub record HasFuel (task : TaskView B L) (fuel : ℕ) : Type 0 where
    pub top : Activation L
    pub stands : StandsAt G task.plan task.path task.done top
    pub is : fuel ≡ top.fuel
    pub children : task.children ≡ top.children

  fuel-by : {E : Type 0} (name : E → Option Script) (ends : E → LentEnds) (frame : FrameView B L E) (stage : Option (Stage L)) → frame.stage ≡ stage → is_some stage ≡ true
      → IsAnyFrame G name ends frame → HasFuel frame.task (fuel_of frame.task.fuel stage)
  fuel-by name ends frame None is whole true-frame = absurd (cc)
  fuel-by name ends frame (Some stage) is whole true-frame =
      let at = true-frame stage is in record {
        top = at.alone.top;
        stands = at.alone.stands;
        is = stage-fuel frame.task.plan at.alone.top frame.task.fuel stage at.alone.stage;
        children = at.alone.children;
      }

  pub fuel-is : {E : Type 0} (name : E → Option Script) (ends : E → LentEnds) (frame : FrameView B L E) → is_whole frame ≡ true → IsAnyFrame G name ends frame
      → HasFuel frame.task (fuel_of frame.task.fuel frame.stage)
  fuel-is name ends frame whole true-frame = fuel-by name ends frame frame.stage refl whole true-frame
