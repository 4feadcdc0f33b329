-- What the calls of hyperqueues ask for. Where a run has a script, each deed of queues has to be the frame's next one
-- there.
use Rattle.swan_model.specs.declared.rights.Mode.TheVariants.{Pop}
use Rattle.swan_model.specs.declared.path.TheConstants.{PATH_MOST}
use Rattle.std.specs.Prelude.{◌≡◌, ℕ, ◌<◌, Bool, true, false, Option, Some, None, List, length, slice_get, ◌==◌, if◌then◌else◌, not}
use Rattle.std.specs.List.{list_any}
use Rattle.std.specs.Option.{ForSome}
use Rattle.swan_model.specs.declared.rights.Mode.{Mode}
use Rattle.swan_model.specs.declared.script.Script.{Script}
use Rattle.swan_model.specs.QueueState.{ActiveFrame, LentEnd, Lent, QueueRight, QueueState, active, holds_queue, HasTurn, IsActiveChild, IsOfRoot, MayAct, MayGive, CHILDREN_MOST, QUEUES_MOST}
use Rattle.swan_model.specs.Values.{COUNT_MOST}

-- a frame that may act, with room for one more queue deed
pub record MayDo (state : QueueState) (number : ℕ) : Type 0 where
  pub frame : ActiveFrame
  pub may : MayAct state number frame
  pub room : frame.deeds < COUNT_MOST

-- it may use a queue by this mode too
pub record MayUse (state : QueueState) (number queue : ℕ) (mode : Mode) : Type 0 where
  pub act : MayDo state number
  pub held : holds_queue act.frame queue mode ≡ true

-- a frame that may act may ask of a queue what it may pop
pub record MayLook (state : QueueState) (number queue : ℕ) : Type 0 where
  pub frame : ActiveFrame
  pub may : MayAct state number frame
  pub held : holds_queue frame queue Pop ≡ true

-- a child of this number may be spawned by it, and given these queues
pub record MaySpawn (state : QueueState) (parent child : ℕ) (gives : List QueueRight) : Type 0 where
  pub act : MayDo state parent
  pub newest : state.latest < child
  pub lawful : MayGive act.frame gives
  pub depth : length act.frame.path < PATH_MOST
  pub few : act.frame.children < CHILDREN_MOST

-- it has no active child, and may act
pub record MayJoin (state : QueueState) (number : ℕ) : Type 0 where
  pub frame : ActiveFrame
  pub may : MayAct state number frame
  pub alone : (child : ℕ) → ¬ IsActiveChild state number child

-- one more queue may be made
abbrev pub HasRoom : QueueState → Type 0
HasRoom state = length state.makers < QUEUES_MOST

-- the root made the queue and has finished
pub record IsRestLeft (state : QueueState) (queue : ℕ) : Type 0 where
  pub known : queue < length state.makers
  pub made : IsOfRoot (slice_get state.makers queue)
  pub over : active state 0 ≡ None

-- whether the rest of a queue was taken already
abbrev pub is_emptied : QueueState → ℕ → Bool
is_emptied state queue = list_any (λ other. other == queue) state.emptied

-- what holds of the active frame of a number
abbrev pub OnActive : QueueState → ℕ → (ActiveFrame → Type 0) → Type 0
OnActive state number Holds = (frame : ActiveFrame) → active state number ≡ Some frame → Holds frame

-- two values belong to the same run, by the name and the run that each has
abbrev pub IsSameRun : {Q : Type 0} → (Q → Option Script) → (Q → List ℕ) → (before now : Q) → Type 0
IsSameRun name run before now = (name now ≡ name before) × (run now ≡ run before)

-- what the run's script says of an active frame's next queue deed
abbrev pub OnNext : Option Script → QueueState → ℕ → (Script → ActiveFrame → Type 0) → Type 0
OnNext name state number Says = ForSome name (λ s. ForSome (active state number) (Says s))

-- where the run has a script, no older sibling is active that pops what the frame pops
abbrev pub IsOnTurn : Option Script → QueueState → ℕ → Type 0
IsOnTurn name state number = OnNext name state number (λ s f. HasTurn state f)

-- ---- ends that are lent

pub record LentEnds : Type 0 where
  -- the frame and its task
  pub frame : ℕ
  pub path : List ℕ
  -- its queue deeds when they were lent, and now
  pub before : ℕ
  pub deeds : ℕ
  pub list : List LentEnd

abbrev pub is_end_of : (queue : ℕ) → (is_producer : Bool) → LentEnd → Bool
is_end_of queue true end = if end.queue == queue then end.is_producer else false
is_end_of queue false end = if end.queue == queue then not end.is_producer else false

-- whether there is an end to push to a queue, or else to pop from it
abbrev pub has_end : LentEnds → (queue : ℕ) → (is_producer : Bool) → Bool
has_end ends queue is_producer = list_any (is_end_of queue is_producer) ends.list

abbrev pub with_deeds : LentEnds → ℕ → LentEnds
with_deeds ends deeds = record ends { deeds = deeds }

-- the ends are those that were recorded as last lent to this frame
pub record IsRecorded (state : QueueState) (number : ℕ) (ends : LentEnds) : Type 0 where
  pub frame : ActiveFrame
  pub live : active state number ≡ Some frame
  pub lent : Lent
  pub has : frame.lent ≡ Some lent
  pub own : ends.frame ≡ number
  pub deeds : ends.before ≡ lent.deeds
  pub list : ends.list ≡ lent.ends
