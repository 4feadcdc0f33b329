-- What the core makes of a frame that comes to it, and what it answers.
use Rattle.std.specs.Prelude.{◌≡◌, ◌≢◌, ◌≤◌, ℕ, ◌+◌, ◌⊎◌, true, false, Some, None, List, [], ◌∷◌, ◌++◌, is_some, length}
use Rattle.std.specs.Option.{ForSome, option_map}
use Rattle.swan_model.specs.declared.body.Answer.TheVariants as answer
use Rattle.swan_model.specs.declared.body.Ask.{Ask}
use Rattle.swan_model.specs.declared.body.Ask.TheVariants as ask
use Rattle.swan_model.specs.declared.body.Body.{Ghosts}
use Rattle.swan_model.specs.declared.fault.FaultKind.{FaultKind}
use Rattle.swan_model.specs.declared.plan.Plan.{Plan}
use Rattle.swan_model.specs.declared.rights.Mode.TheVariants.{In, Out, Push, Pop}
use Rattle.swan_model.specs.declared.script.Deed.{Deed}
use Rattle.swan_model.specs.declared.script.Deed.TheVariants as deed
use Rattle.swan_model.specs.Elision.{root_holdings}
use Rattle.swan_model.specs.Granted.{is_spawn}
use Rattle.swan_model.specs.PathOrder.{comes_before}
use Rattle.swan_model.specs.QueueState.{ActiveFrame, LentEnd, QueueState, active, after_lend}
use Rattle.swan_model.specs.Rights.{allows}
use Rattle.swan_model.specs.Script.{script}
use Rattle.swan_model.specs.SerialState.{Activation, Holding}
use Rattle.swan_model.specs.SerialStep.{given, number_at}
use Rattle.swan_model.specs.SerialTime.{time, times}
use Rattle.swan_model.specs.Told.{deed_at}
use Rattle.swan_model.specs.TrueFrames.{StandsAt}
use Rattle.swan_model.specs.Versions.{Awaits, Placed, owed, placed_at}
use Rattle.queues.specs.declared.ends.LocalEnds.{Ghosts as EndsMeaning}
use Rattle.queues.specs.Asks.{LentEnds}
use Rattle.queues.specs.Tells.{IsBlockedBy, IsCause}
use Rattle.queues.specs.declared.answers.WaitFor.{WaitFor}
use Rattle.queues.specs.declared.answers.WaitFor.TheVariants as wait
use Rattle.serial_elision.specs.TaskSteps.{MeetsFault}
use Rattle.task_frames.specs.declared.stage.Stage.TheVariants.{Asking, Ready}
use Rattle.task_frames.specs.declared.resumed.Resumed.{Resumed}
use Rattle.task_frames.specs.declared.resumed.Resumed.TheVariants as resumed
use Rattle.task_frames.specs.declared.step.Step.{Step}
use Rattle.task_frames.specs.declared.step.Step.TheVariants as step
use Rattle.task_frames.specs.Cores.{MayBegin, FrameAtCoreView, CoreView, HasIt, IsCore, IsGiven, KeptView, after_coming_in}
use Rattle.object_versions.specs.Following.{WaitsForNone}
use Rattle.task_frames.specs.Frames.{FrameView, TaskView, is_whole, root_task}
use Rattle.task_frames.specs.Records.{HasNoLiveChild, IsLiveChild, IsOldestChild, LiveFrame, NumberedFrames, as_given, live_at}

-- ---- waits

-- the frame that a wait names
abbrev pub waited_for : WaitFor → ℕ
waited_for (wait.Child n) = n
waited_for (wait.Version n) = n
waited_for (wait.PopTurn n) = n
waited_for (wait.Pusher n) = n

-- it is live, and earlier in serial order than a task of this path
pub record IsLiveBefore (frames : NumberedFrames) (path : List ℕ) (number : ℕ) : Type 0 where
  pub frame : LiveFrame
  pub live : live_at frames number ≡ Some frame
  pub earlier : comes_before frame.path path ≡ true

-- a frame asks to pop from a queue that it may pop, or whether that is empty
pub data AsksOf {B L : Type 0} (frame : FrameAtCoreView B L) (queue : ℕ) : Type 0 where
  to_pop : (local : L) (place at : ℕ) → frame.stage ≡ Asking local (ask.Pop place) at
      → number_at frame.task.holdings place Pop ≡ Some queue → AsksOf frame queue
  to_test : (local : L) (place at : ℕ) → frame.stage ≡ Asking local (ask.Empty place) at
      → number_at frame.task.holdings place Pop ≡ Some queue → AsksOf frame queue

-- the oldest of those that pop what a frame may not pop yet
pub record IsFirstToBlock (state : QueueState) (number older : ℕ) : Type 0 where
  pub blocks : IsBlockedBy state number older
  pub oldest : (other : ℕ) → IsBlockedBy state number other → older ≤ other

-- what the queues answered a frame about the queue of which it asks
pub record IsToldToWait {B L : Type 0} (kept : KeptView) (frame : FrameAtCoreView B L) (wait_for : WaitFor) : Type 0 where
  pub own : ActiveFrame
  pub active_is : active kept.state frame.task.number ≡ Some own
  pub queue : ℕ
  pub asks : AsksOf frame queue
  pub cause : IsCause kept.name kept.state own queue wait_for

module _ {B L : Type 0} (G : Ghosts B L) where
  -- the deed of a task's next step
  abbrev pub deed_now : TaskView B L → Deed
  deed_now task = let s = script G task.plan in deed_at s (time s task.path task.done)

  -- it ends the task by this fault, at this place of the program, and does nothing else
  abbrev pub EndsTaskByFault : TaskView B L → (place : ℕ) → FaultKind → Type 0
  EndsTaskByFault task place kind =
      (top : Activation L) → StandsAt G task.plan task.path task.done top
      → MeetsFault G task.plan task.path task.done top kind deed.Quiet × (place ≡ G.place_of task.plan.body top.local)

  -- it is the task's last one
  abbrev pub IsLast : TaskView B L → Type 0
  IsLast task = task.done + 1 ≡ length (times (script G task.plan) task.path)

  module _ (kept : KeptView) (frame : FrameAtCoreView B L) where
    -- A version is waited for where it was given to the frame to read, before the first step; or where the frame asks to read it.
    -- Either way the frame may read it.
    pub data WaitsForVersion (number : ℕ) : Type 0 where
      at_first : (place : ℕ) → frame.task.done ≡ 0 → (awaits : Awaits kept.versions frame.task.number place number) → allows awaits.object.mode In ≡ true → WaitsForVersion number
      at_read : (local : L) (place at : ℕ) (object : Placed) → frame.stage ≡ Asking local (ask.Read place) at → number_at frame.task.holdings place In ≡ Some object.object
          → placed_at kept.versions frame.task.number place ≡ Some object → object.present ≡ owed number → WaitsForVersion number

    -- A turn to pop is waited for before the first step, where no version is, of the oldest sibling that pops what the frame pops; or
    -- where a child pops it.
    pub data WaitsForTurn (number : ℕ) : Type 0 where
      at_start : frame.task.done ≡ 0 → WaitsForNone kept.versions frame.task.number → IsFirstToBlock kept.state frame.task.number number → WaitsForTurn number
      at_pop : IsToldToWait kept frame (wait.PopTurn number) → WaitsForTurn number

    -- What is kept shows a wait.
    abbrev pub IsShown : WaitFor → Type 0
    IsShown (wait.Child n) = IsOldestChild kept.live frame.task.number n × ((deed_now frame.task ≡ deed.Sync) ⊎ IsLast frame.task)
    IsShown (wait.Version n) = WaitsForVersion n
    IsShown (wait.PopTurn n) = WaitsForTurn n
    IsShown (wait.Pusher n) = IsToldToWait kept frame (wait.Pusher n)

-- ---- a step at the core

-- The ask is for the use of a place that one who holds this may not use so, or for a child with a give that it may not give.
abbrev pub MayNotUse : {L : Type 0} → List Holding → Ask L → Type 0
MayNotUse holdings (ask.Read place) = number_at holdings place In ≡ None
MayNotUse holdings (ask.Write place value) = number_at holdings place Out ≡ None
MayNotUse holdings (ask.Push place value) = number_at holdings place Push ≡ None
MayNotUse holdings (ask.Pop place) = number_at holdings place Pop ≡ None
MayNotUse holdings (ask.Empty place) = number_at holdings place Pop ≡ None
MayNotUse holdings (ask.Spawn new) = given holdings new.gives ≡ None
MayNotUse holdings _ = ⊥

-- These frames are in the record, and among the queues, as before.
pub record OthersStay (before after : KeptView) (IsOther : ℕ → Type 0) : Type 0 where
  pub live : (other : ℕ) → IsOther other → live_at after.live other ≡ live_at before.live other
  pub active_are : (other : ℕ) → IsOther other → active after.state other ≡ active before.state other

-- They are in the record as they were given, and among the queues as before. (How many of their children failed is what the core
-- counts: `AreCounted`.)
pub record OthersStayAsGiven (before after : KeptView) (IsOther : ℕ → Type 0) : Type 0 where
  pub live : (other : ℕ) → IsOther other → option_map as_given (live_at after.live other) ≡ option_map as_given (live_at before.live other)
  pub active_are : (other : ℕ) → IsOther other → active after.state other ≡ active before.state other

-- Where the frame of this number ends, all others stay as they were given, and all but the one above it as they were.
abbrev pub OthersStayAtEnd : (before after : KeptView) (number : ℕ) → Type 0
OthersStayAtEnd before after number =
    OthersStayAsGiven before after (λ other. other ≢ number)
    × OthersStay before after (λ other. (other ≢ number) × (¬ IsLiveChild before.live other number))

-- there were so many frames more since then
abbrev pub HasMoreFrames : (before after : KeptView) (more : ℕ) → Type 0
HasMoreFrames before after more = after.frames ≡ before.frames + more

-- the same task with one step more done
abbrev pub IsOneOn : {B L : Type 0} → (before after : TaskView B L) → Type 0
IsOneOn before after = after ≡ record before { done = before.done + 1; since = before.done + 1; fuel = after.fuel; holdings = after.holdings; children = after.children }

-- a child of this task that has done nothing
pub record IsNewChildOf {B L : Type 0} (parent child : TaskView B L) : Type 0 where
  pub plan : child.plan ≡ parent.plan
  pub path : child.path ≡ parent.path ++ parent.children ∷ []
  pub done : child.done ≡ 0
  pub other : child.number ≢ parent.number

module _ {B L : Type 0} (G : Ghosts B L) (before after : KeptView) (task : TaskView B L) where
  -- What a step at the core leaves: the frame one step on; or with its child; or as it was, but for the ask of its body, with what it
  -- waits for; or it has ended. A wait for all children is over only where there is none, and so is the frame. No step is taken of a
  -- frame that may not begin. The number of a child is how many frames there were.
  abbrev pub IsStep : Step B L → Type 0
  IsStep (step.Runs next) =
      HasIt G after next × IsOneOn task next.task × (is_spawn (deed_now G task) ≡ false)
      × OthersStay before after (λ other. other ≢ task.number)
      × (deed_now G task ≡ deed.Sync → HasNoLiveChild before.live task.number) × MayBegin before task.number × HasMoreFrames before after 0
  IsStep (step.Spawned parent new) =
      HasIt G after parent × HasIt G after new × IsOneOn task parent.task × IsNewChildOf task new.task × (is_spawn (deed_now G task) ≡ true)
      × (live_at before.live new.task.number ≡ None) × OthersStay before after (λ other. (other ≢ task.number) × (other ≢ new.task.number))
      × MayBegin before task.number × (new.task.number ≡ before.frames) × HasMoreFrames before after 1
  IsStep (step.Waits same wait_for) =
      HasIt G after same × (after ≡ before) × (same.task ≡ record task { fuel = same.task.fuel })
      × IsShown G after same wait_for × IsLiveBefore after.live task.path (waited_for wait_for)
  IsStep step.Ended =
      IsCore G task.plan after × IsLast G task × (is_spawn (deed_now G task) ≡ false)
      × (live_at after.live task.number ≡ None) × OthersStayAtEnd before after task.number
      × HasNoLiveChild before.live task.number × MayBegin before task.number × HasMoreFrames before after 0

-- ---- frames that are given

-- a frame's ends: their run, and what they are
pub record EndsOf (E : Type 0) : Type 0 where
  pub run : E → List ℕ
  pub ends : E → LentEnds

-- those of a form of hyperqueues
abbrev pub ends_of : {E : Type 0} → EndsMeaning E → EndsOf E
ends_of meaning = record { run = meaning.run; ends = meaning.ends }

-- A frame was given as it stood at the core.
pub record IsGivenAs {B L E : Type 0} (of : EndsOf E) (kept : KeptView) (at : FrameAtCoreView B L) (frame : FrameView B L E) : Type 0 where
  pub task : frame.task ≡ at.task
  pub stage : frame.stage ≡ Some at.stage
  pub mark : frame.mark ≡ false
  pub run : of.run frame.ends ≡ kept.run
  pub given : IsGiven kept frame.task (of.ends frame.ends)

-- The queues have lent these ends to an active frame, and all else is as before.
pub record HasLent (before after : KeptView) (number : ℕ) : Type 0 where
  pub own : ActiveFrame
  pub active_is : active before.state number ≡ Some own
  pub list : List LentEnd
  pub after_is : after ≡ record before { state = after_lend before.state own list }

-- the frames that came of a step are at the core
abbrev pub HaveCome : {B L : Type 0} → Ghosts B L → KeptView → Step B L → Type 0
HaveCome G kept (step.Runs next) = HasIt G kept next
HaveCome G kept (step.Spawned parent new) = HasIt G kept parent × HasIt G kept new × (new.task.number ≢ parent.task.number)
HaveCome G kept (step.Waits same wait_for) = HasIt G kept same
HaveCome G kept step.Ended = Unit {0}

-- and they are tasks of this plan
abbrev pub AreOfPlan : {B L : Type 0} → Plan B L → Step B L → Type 0
AreOfPlan plan (step.Runs next) = next.task.plan ≡ plan
AreOfPlan plan (step.Spawned parent new) = (parent.task.plan ≡ plan) × (new.task.plan ≡ plan)
AreOfPlan plan (step.Waits same wait_for) = same.task.plan ≡ plan
AreOfPlan plan step.Ended = Unit {0}

module _ {B Q L E : Type 0} (of : EndsOf E) (before after : KeptView) where
  -- What is answered of a step: the frames are given that came of it, and all others are kept as before.
  abbrev pub IsAnswered : Step B L → Resumed B Q L E → Type 0
  IsAnswered (step.Runs next) (resumed.Runs frame steps) =
      (steps.count ≡ 1) × IsGivenAs of after next frame × OthersStay before after (λ other. other ≢ next.task.number) × HasMoreFrames before after 0
  IsAnswered (step.Spawned parent new) (resumed.Spawned frame spawned steps) =
      (steps.count ≡ 1) × IsGivenAs of after parent frame × IsGivenAs of after new spawned
      × OthersStay before after (λ other. (other ≢ parent.task.number) × (other ≢ new.task.number)) × HasMoreFrames before after 0
  IsAnswered (step.Waits same wait_for) (resumed.Waits frame waited) =
      (waited.wait ≡ wait_for) × IsGivenAs of after same frame × HasLent before after same.task.number
  IsAnswered step.Ended (resumed.Ended steps) = (steps.count ≡ 1) × (after ≡ before)
  IsAnswered _ _ = ⊥

-- ---- what the core answers

module _ {B L E : Type 0} (of : EndsOf E) (core : CoreView B L) (frame : FrameView B L E) where
  -- The core has given the frame last under its number. It is whole, and its mark doesn't stand.
  pub record IsGivenBy : Type 0 where
    pub kept : KeptView
    pub keeps : core.kept ≡ Some kept
    pub given : IsGiven kept frame.task (of.ends frame.ends)
    pub mark : frame.mark ≡ false
    pub whole : is_whole frame ≡ true
    pub plan : frame.task.plan ≡ core.plan
    pub run : of.run frame.ends ≡ core.run

-- A frame was given back with a wait. What the core kept once it had come in shows the wait, and the frame that the wait names is
-- live there, and earlier in serial order. Nothing has changed since then but that the frame's ends were lent anew.
pub record IsShownBy {B L E : Type 0} (G : Ghosts B L) (of : EndsOf E) (before after : CoreView B L) (frame same : FrameView B L E) (wait_for : WaitFor) : Type 0 where
  pub was : KeptView
  pub kept_was : before.kept ≡ Some was
  pub at : FrameAtCoreView B L
  pub task : at.task ≡ same.task
  pub stage : same.stage ≡ Some at.stage
  pub shows : IsShown G (after_coming_in was frame.task (of.ends frame.ends)) at wait_for
  pub earlier : IsLiveBefore (after_coming_in was frame.task (of.ends frame.ends)).live same.task.path (waited_for wait_for)
  pub kept : KeptView
  pub keeps : after.kept ≡ Some kept
  pub lent : HasLent (after_coming_in was frame.task (of.ends frame.ends)) kept same.task.number

-- the other frames are kept as before
abbrev pub OthersKept : {B L : Type 0} → (before after : CoreView B L) → (ℕ → Type 0) → Type 0
OthersKept before after IsOther = ForSome before.kept (λ kept. ForSome after.kept (λ now. OthersStay kept now IsOther))

-- and so they are where the frame of this number has ended, but the one above it may have another number of failed children
abbrev pub OthersKeptAtEnd : {B L : Type 0} → (before after : CoreView B L) → ℕ → Type 0
OthersKeptAtEnd before after number = ForSome before.kept (λ kept. ForSome after.kept (λ now. OthersStayAtEnd kept now number))

-- once the frame has come in it has its turn to pop, and waits for nothing that it was given to read
abbrev pub MayStep : {B L E : Type 0} → EndsOf E → CoreView B L → FrameView B L E → Type 0
MayStep of before frame = ForSome before.kept (λ kept. MayBegin (after_coming_in kept frame.task (of.ends frame.ends)) frame.task.number)

-- the core has no frame of this number
abbrev pub HasNone : {B L : Type 0} → CoreView B L → ℕ → Type 0
HasNone core number = ForSome core.kept (λ kept. live_at kept.live number ≡ None)

-- the core has no live child of the frame of this number
abbrev pub HasNoChildAtCore : {B L : Type 0} → CoreView B L → ℕ → Type 0
HasNoChildAtCore core number = ForSome core.kept (λ kept. HasNoLiveChild kept.live number)

-- the next new frame of the core has this number, which is how many frames there were
abbrev pub IsNextNumber : {B L : Type 0} → CoreView B L → ℕ → Type 0
IsNextNumber core number = ForSome core.kept (λ kept. number ≡ kept.frames)

-- the core had so many frames more since then
abbrev pub HasMoreFramesAtCore : {B L : Type 0} → (before after : CoreView B L) (more : ℕ) → Type 0
HasMoreFramesAtCore before after more = ForSome before.kept (λ kept. ForSome after.kept (λ now. HasMoreFrames kept now more))

module _ {B Q L E : Type 0} (G : Ghosts B L) (of : EndsOf E) (before after : CoreView B L) (frame : FrameView B L E) where
  abbrev pub IsResumed : Resumed B Q L E → Type 0
  IsResumed (resumed.Runs next steps) =
      (steps.count ≡ 1) × IsGivenBy of after next × IsOneOn frame.task next.task × (is_spawn (deed_now G frame.task) ≡ false)
      × OthersKept before after (λ other. other ≢ frame.task.number)
      × (deed_now G frame.task ≡ deed.Sync → HasNoChildAtCore before frame.task.number) × MayStep of before frame × HasMoreFramesAtCore before after 0
  IsResumed (resumed.Spawned parent new steps) =
      (steps.count ≡ 1) × IsGivenBy of after parent × IsGivenBy of after new × IsOneOn frame.task parent.task × IsNewChildOf frame.task new.task
      × (is_spawn (deed_now G frame.task) ≡ true) × HasNone before new.task.number
      × OthersKept before after (λ other. (other ≢ frame.task.number) × (other ≢ new.task.number)) × MayStep of before frame
      × IsNextNumber before new.task.number × HasMoreFramesAtCore before after 1
  IsResumed (resumed.Waits same waited) =
      IsGivenBy of after same × (same.task ≡ record frame.task { since = frame.task.done; fuel = same.task.fuel }) × IsShownBy G of before after frame same waited.wait
      × OthersKept before after (λ other. other ≢ frame.task.number) × HasMoreFramesAtCore before after 0
  IsResumed (resumed.Ended steps) =
      (steps.count ≡ 1) × (is_some after.kept ≡ true) × IsLast G frame.task × (is_spawn (deed_now G frame.task) ≡ false) × HasNone after frame.task.number
      × OthersKeptAtEnd before after frame.task.number
      × HasNoChildAtCore before frame.task.number × MayStep of before frame × HasMoreFramesAtCore before after 0
  IsResumed (resumed.Strange same foreign) =
      (same ≡ frame) × (foreign.number ≡ frame.task.number) × (after ≡ before)
      × ForSome before.kept (λ kept. ¬ IsGiven kept frame.task (of.ends frame.ends))
  IsResumed resumed.NoMemory = (after ≡ record before { kept = None })

-- Where a frame waits, the one that the wait names is live in the core, and earlier in serial order.
abbrev pub WaitsForEarlier : {B Q L E : Type 0} → CoreView B L → Resumed B Q L E → Type 0
WaitsForEarlier core (resumed.Waits same waited) = ForSome core.kept (λ kept. IsLiveBefore kept.live same.task.path (waited_for waited.wait))
WaitsForEarlier core _ = Unit {0}

-- what holds where a step was taken, or has to wait
abbrev pub OnTried : {B Q L E : Type 0} → Resumed B Q L E → Type 0 → Type 0
OnTried (resumed.Strange same foreign) Holds = Unit {0}
OnTried resumed.NoMemory Holds = Unit {0}
OnTried _ Holds = Holds

-- what holds where a step was taken that leaves its task more of them
abbrev pub OnGoneOn : {B Q L E : Type 0} → Resumed B Q L E → Type 0 → Type 0
OnGoneOn (resumed.Runs next steps) Holds = Holds
OnGoneOn (resumed.Spawned parent new steps) Holds = Holds
OnGoneOn _ Holds = Unit {0}

-- ---- the beginning

-- The root is the one frame that the core has and had, as it gave it. It has taken no step, and no fault is booked.
pub record IsOpened {B L E : Type 0} (of : EndsOf E) (core : CoreView B L) (root : FrameView B L E) : Type 0 where
  pub given : IsGivenBy of core root
  pub first : root.task.number ≡ 0
  pub alone : (kept : KeptView) → core.kept ≡ Some kept → (number : ℕ) (live : LiveFrame) → live_at kept.live number ≡ Some live → number ≡ 0
  pub count : (kept : KeptView) → core.kept ≡ Some kept → kept.frames ≡ 1
  pub task : root.task ≡ root_task core.plan (root_holdings core.plan.roots)
  pub begins : root.stage ≡ Some (Ready core.plan.root_local answer.Start)
  pub faultless : (kept : KeptView) → core.kept ≡ Some kept → kept.faults ≡ []
