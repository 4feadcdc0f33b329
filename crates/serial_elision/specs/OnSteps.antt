-- What the laws of tasks say: of each step of a task, and of each at which its body asks for something.
use Rattle.std.specs.Prelude.{◌≡◌, ℕ, ◌+◌, ◌<◌, ◌≤◌, Option, Some, List}
use Rattle.swan_model.specs.declared.body.Answer.{Answer}
use Rattle.swan_model.specs.declared.body.Ask.{Ask}
use Rattle.swan_model.specs.declared.body.Ask.TheVariants.{Spawn}
use Rattle.swan_model.specs.declared.body.Body.{Ghosts}
use Rattle.swan_model.specs.declared.body.Child.{Child}
use Rattle.swan_model.specs.declared.fault.FaultKind.{FaultKind}
use Rattle.swan_model.specs.declared.origin.Origin.{Origin}
use Rattle.swan_model.specs.declared.plan.Plan.{Plan}
use Rattle.swan_model.specs.declared.rights.Mode.{Mode}
use Rattle.swan_model.specs.declared.script.Deed.{Deed}
use Rattle.swan_model.specs.declared.script.OriginGive.{OriginGive}
use Rattle.swan_model.specs.Roots.{IsWithinBounds}
use Rattle.swan_model.specs.Script.{script}
use Rattle.swan_model.specs.SerialState.{Activation, Holding}
use Rattle.swan_model.specs.SerialStep.{Effect, given}
use Rattle.swan_model.specs.SerialTime.{time}
use Rattle.swan_model.specs.Told.{count, taken}
use Rattle.swan_model.specs.TrueFrames.{StandsAt, effect_at, gives_at}
use Rattle.serial_elision.specs.TaskSteps.{MeetsFault, GetsPlace, GoesOn, IsAsking, MayUseAt, Syncs}

-- the plan's lists are within their bounds, as those of each plan that is made are
abbrev pub IsBounded : {B L : Type 0} → Plan B L → Type 0
IsBounded plan = IsWithinBounds plan.roots.queues plan.roots.objects

-- A step of a plan's task: the task's path, how many steps it took before, and its activation then.
pub record TaskStep (B L : Type 0) : Type 0 where
  pub plan : Plan B L
  pub path : List ℕ
  pub k : ℕ
  pub top : Activation L

-- A step at which the body asks for something, and the local that the body leaves.
pub record AskStep (B L : Type 0) : Type 0 where
  pub of : TaskStep B L
  pub local : L

module _ {B L : Type 0} (G : Ghosts B L) where
  -- ---- which steps

  -- what holds of each step of each plan's tasks
  abbrev pub OnStep : (TaskStep B L → Type 0) → Type 0
  OnStep Holds =
      (plan : Plan B L) (path : List ℕ) (k : ℕ) (top : Activation L) → StandsAt G plan path k top
      → Holds (record { plan = plan; path = path; k = k; top = top })

  -- and of each one of a plan within its bounds
  abbrev pub OnBoundedStep : (TaskStep B L → Type 0) → Type 0
  OnBoundedStep Holds =
      (plan : Plan B L) → IsBounded plan → (path : List ℕ) (k : ℕ) (top : Activation L) → StandsAt G plan path k top
      → Holds (record { plan = plan; path = path; k = k; top = top })

  -- what holds of each step at which a body asks for this
  abbrev pub OnAsk : Ask L → (AskStep B L → Type 0) → Type 0
  OnAsk asks Holds =
      (plan : Plan B L) (path : List ℕ) (k : ℕ) (top : Activation L) (local : L) → IsAsking G plan path k top local asks
      → Holds (record { of = record { plan = plan; path = path; k = k; top = top }; local = local })

  -- and of each one of a plan within its bounds
  abbrev pub OnBoundedAsk : Ask L → (AskStep B L → Type 0) → Type 0
  OnBoundedAsk asks Holds =
      (plan : Plan B L) → IsBounded plan → (path : List ℕ) (k : ℕ) (top : Activation L) (local : L) → IsAsking G plan path k top local asks
      → Holds (record { of = record { plan = plan; path = path; k = k; top = top }; local = local })

  -- what made the object or queue that the ask is for, where the task may use the ask's place by this mode
  abbrev pub OnUse : Ask L → (place : ℕ) → Mode → (AskStep B L → Origin → Type 0) → Type 0
  OnUse asks place mode Holds = OnBoundedAsk asks (λ at. (origin : Origin) → MayUseAt G at.of.plan at.of.path at.of.k at.of.top place mode origin → Holds at origin)

  -- A spawn is asked for, with what the child gets by its gives, where its parent holds all of them so.
  abbrev pub OnSpawn : Child L → (AskStep B L → List Holding → Type 0) → Type 0
  OnSpawn child Holds = OnAsk (Spawn child) (λ at. (holdings : List Holding) → given at.of.top.holdings child.gives ≡ Some holdings → Holds at holdings)

  -- ---- what they are

  -- what the step does
  abbrev pub does_at : TaskStep B L → Effect L
  does_at at = effect_at G at.plan at.path at.k at.top

  -- the task stands so at its next step
  abbrev pub StandsNext : TaskStep B L → Activation L → Type 0
  StandsNext at next = StandsAt G at.plan at.path (at.k + 1) next

  -- what the task holds, named by what made it
  abbrev pub names_on_step : TaskStep B L → List (Option OriginGive)
  names_on_step at = gives_at G at.plan at.path at.k at.top

  -- the task goes on with this answer, and its step is this deed
  abbrev pub AnswersWith : AskStep B L → Answer → Deed → Type 0
  AnswersWith at said does = GoesOn G at.of.plan at.of.path at.of.k at.of.top at.local said does

  -- the task goes on by a Sync, and is told how many of its children failed since the last one
  abbrev pub SyncsHere : AskStep B L → Type 0
  SyncsHere at = Syncs G at.of.plan at.of.path at.of.k at.of.top at.local

  -- the task gets one place more, which it holds by this mode, and its step is this deed
  abbrev pub MakesPlace : AskStep B L → Mode → Deed → Type 0
  MakesPlace at mode does = GetsPlace G at.of.plan at.of.path at.of.k at.of.top at.local mode does

  -- the step ends the task by this fault, and is this deed
  abbrev pub EndsBy : TaskStep B L → FaultKind → Deed → Type 0
  EndsBy at kind does = MeetsFault G at.plan at.path at.k at.top kind does

  -- the queue has an item left at this step, or none
  abbrev pub IsItemLeft : TaskStep B L → Origin → Type 0
  IsItemLeft at queue = let s = script G at.plan in let t = time s at.path at.k in taken s queue t < count s queue t

  abbrev pub IsNoneLeft : TaskStep B L → Origin → Type 0
  IsNoneLeft at queue = let s = script G at.plan in let t = time s at.path at.k in count s queue t ≤ taken s queue t
