-- Steps of tasks, in the words of the script: what each ask answers, what its deed is, and what the task and its child
-- hold then. A step is named by the path of its task and by how many earlier ones the task has.
use Rattle.std.specs.Prelude.{◌≡◌, ℕ, ◌+◌, ◌-◌, ◌<◌, true, Some, None, List, [], ◌∷◌, ◌++◌, length, map, slice_get}
use Rattle.swan_model.specs.declared.body.Answer.{Answer}
use Rattle.swan_model.specs.declared.body.Answer.TheVariants as answer
use Rattle.swan_model.specs.declared.body.Ask.{Ask}
use Rattle.swan_model.specs.declared.body.Ask.TheVariants as ask
use Rattle.swan_model.specs.declared.body.Body.{Ghosts}
use Rattle.swan_model.specs.declared.body.Child.{Child}
use Rattle.swan_model.specs.declared.fault.Fault.{Fault}
use Rattle.swan_model.specs.declared.fault.FaultKind.{FaultKind}
use Rattle.swan_model.specs.declared.origin.Origin.{Origin}
use Rattle.swan_model.specs.declared.origin.Origin.TheVariants.{Step}
use Rattle.swan_model.specs.declared.plan.Plan.{Plan}
use Rattle.swan_model.specs.declared.rights.Give.{Give}
use Rattle.swan_model.specs.declared.rights.Mode.{Mode}
use Rattle.swan_model.specs.declared.rights.Mode.TheVariants.{In, Out, Push, Pop}
use Rattle.swan_model.specs.declared.script.Deed.{Deed}
use Rattle.swan_model.specs.declared.script.Deed.TheVariants as deed
use Rattle.swan_model.specs.declared.script.OriginGive.{OriginGive}
use Rattle.swan_model.specs.Rights.{allows}
use Rattle.swan_model.specs.Script.{script}
use Rattle.swan_model.specs.SerialState.{Activation, Holding, Store}
use Rattle.swan_model.specs.SerialStep.{goes_on, spawns, ends, faults, given, after_next, number_at, synced, with_answer, with_place}
use Rattle.swan_model.specs.SerialTime.{time, times}
use Rattle.swan_model.specs.Told.{deed_at}
use Rattle.swan_model.specs.TrueFrames.{StandsAt, effect_at, gives_at}

-- a parent once it has spawned this child
abbrev pub parent_activation : {L : Type 0} → Activation L → Child L → Activation L
parent_activation a child = record a { answer = answer.Nothing; fuel = a.fuel - child.fuel; children = a.children + 1 }

-- the child as it begins, with what it is given
abbrev pub child_activation : {L : Type 0} → Activation L → Child L → List Holding → Activation L
child_activation a child holdings = record { path = a.path ++ a.children ∷ []; local = child.local; answer = answer.Start; fuel = child.fuel; holdings = holdings; children = 0; failed = 0 }

module _ {B L : Type 0} (G : Ghosts B L) (plan : Plan B L) (path : List ℕ) (k : ℕ) (top : Activation L) where
  -- The task stands at this step and has fuel for it; its body leaves this local, and asks for this.
  pub record IsAsking (local : L) (asks : Ask L) : Type 0 where
    pub stands : StandsAt G plan path k top
    pub paid : 0 < top.fuel
    pub said : (local, asks) ≡ G.next plan.body top.local top.answer (top.fuel - 1)

  -- The task holds at this place what this origin made, and may use it by this mode.
  pub record MayUseAt (place : ℕ) (mode : Mode) (origin : Origin) : Type 0 where
    pub holding : Holding
    pub stands : slice_get top.holdings place ≡ Some holding
    pub may : allows holding.mode mode ≡ true
    pub named : slice_get (gives_at G plan path k top) place ≡ Some (Some (record { origin = origin; mode = holding.mode }))

  -- The ask is for the use of a place that the task may not use so, or for a child with a give that it may not give.
  abbrev pub LacksRight : Ask L → Type 0
  LacksRight (ask.Read place) = number_at top.holdings place In ≡ None
  LacksRight (ask.Write place value) = number_at top.holdings place Out ≡ None
  LacksRight (ask.Push place value) = number_at top.holdings place Push ≡ None
  LacksRight (ask.Pop place) = number_at top.holdings place Pop ≡ None
  LacksRight (ask.Empty place) = number_at top.holdings place Pop ≡ None
  LacksRight (ask.Spawn child) = given top.holdings child.gives ≡ None
  LacksRight _ = ⊥

  -- what the step does, as the script has it
  abbrev pub Does : Deed → Type 0
  Does does = deed_at (script G plan) (time (script G plan) path k) ≡ does

  -- The step leaves the task so, and it holds the same.
  pub record GoesOnAs (next : Activation L) (does : Deed) : Type 0 where
    pub store : Store
    pub effect : effect_at G plan path k top ≡ goes_on next store
    pub deed : Does does
    pub names : gives_at G plan path (k + 1) next ≡ gives_at G plan path k top

  -- The step leaves the task with this local and this answer; it holds the same.
  abbrev pub GoesOn : (local : L) (said : Answer) (does : Deed) → Type 0
  GoesOn local said does = GoesOnAs (with_answer (after_next top local) said) does

  -- The step is a Sync: it leaves the task with this local. The task is told how many of its children failed, and counts anew.
  abbrev pub Syncs : (local : L) → Type 0
  Syncs local = GoesOnAs (synced (after_next top local)) deed.Sync

  -- The step gives the task one place more, for what the step made, and the task is told which place it is.
  pub record GetsPlace (local : L) (mode : Mode) (does : Deed) : Type 0 where
    pub number : ℕ
    pub store : Store
    pub effect : effect_at G plan path k top ≡ goes_on (with_place (after_next top local) (record { mode = mode; number = number })) store
    pub deed : Does does
    pub names : gives_at G plan path (k + 1) (with_place (after_next top local) (record { mode = mode; number = number }))
        ≡ gives_at G plan path k top ++ Some (record { origin = Step (time (script G plan) path k); mode = mode }) ∷ []

  -- the step ends the task
  pub record EndsTask : Type 0 where
    pub effect : effect_at G plan path k top ≡ ends
    pub deed : Does deed.Quiet

  -- the step ends the task by this fault
  pub record MeetsFault (kind : FaultKind) (does : Deed) : Type 0 where
    pub effect : effect_at G plan path k top ≡ faults kind
    pub deed : Does does

  -- The step spawns this child; once it has ended, its parent goes on so, but for its failed children. The child holds the gives, each named by what made what stands at the give's place.
  pub record Spawns (local : L) (child : Child L) : Type 0 where
    pub holdings : List Holding
    pub held : given top.holdings child.gives ≡ Some holdings
    pub store : Store
    pub effect : effect_at G plan path k top ≡ spawns (parent_activation (after_next top local) child) (child_activation top child holdings) store
    pub gives : List OriginGive
    pub deed : Does (deed.Spawn gives)
    pub many : length gives ≡ length child.gives
    pub each : (i : ℕ) (give : Give) → slice_get child.gives i ≡ Some give
        → (origin : Origin) × MayUseAt give.place give.mode origin × (slice_get gives i ≡ Some (record { origin = origin; mode = give.mode }))
    pub names : gives_at G plan path (k + 1) (parent_activation (after_next top local) child) ≡ gives_at G plan path k top
    pub begins : gives_at G plan (top.path ++ top.children ∷ []) 0 (child_activation top child holdings) ≡ map Some gives

module _ {B L : Type 0} (G : Ghosts B L) (plan : Plan B L) where
  -- a fault is that of a task's last step, which is this fault
  pub record IsFaultOf (fault : Fault) : Type 0 where
    pub k : ℕ
    pub top : Activation L
    pub stands : StandsAt G plan fault.path k top
    pub effect : effect_at G plan fault.path k top ≡ faults fault.kind
    pub place : fault.place ≡ G.place_of plan.body top.local
    pub last : k + 1 ≡ length (times (script G plan) fault.path)
