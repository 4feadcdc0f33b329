-- What a frame asks for in the step in whose middle it is.
use Rattle.std.specs.Prelude.{ℕ, Option, Some, None, List}
use Rattle.swan_model.specs.declared.body.Ask.{Ask}
use Rattle.swan_model.specs.declared.body.Ask.TheVariants as ask
use Rattle.swan_model.specs.declared.rights.Mode.TheVariants.{Push, Pop}
use Rattle.swan_model.specs.SerialState.{Holding}
use Rattle.swan_model.specs.SerialStep.{number_at}
use Rattle.task_frames.specs.declared.stage.Stage.{Stage}
use Rattle.task_frames.specs.declared.stage.Stage.TheVariants.{Ready, Asking}
use Rattle.task_frames.specs.Frames.{FrameView}

-- the queue that an ask is about, for one who holds this and may use it so
abbrev pub queue_of : {L : Type 0} → List Holding → Ask L → Option ℕ
queue_of holdings (ask.Push place value) = number_at holdings place Push
queue_of holdings (ask.Pop place) = number_at holdings place Pop
queue_of holdings (ask.Empty place) = number_at holdings place Pop
queue_of holdings _ = None

abbrev pub queue_of_stage : {L : Type 0} → List Holding → Option (Stage L) → Option ℕ
queue_of_stage holdings None = None
queue_of_stage holdings (Some (Ready local said)) = None
queue_of_stage holdings (Some (Asking local asks place)) = queue_of holdings asks

-- the queue that a frame's step in hand is about
abbrev pub asked_queue : {B L E : Type 0} → FrameView B L E → Option ℕ
asked_queue frame = queue_of_stage frame.task.holdings frame.stage
