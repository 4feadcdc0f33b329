-- What the calls of hyperqueues answer.
use Rattle.std.specs.Prelude.{◌≡◌, ◌≢◌, ℕ, ◌<◌, ◌≤◌, true, false, Option, Some, List, drop, length, None}
use Rattle.std.specs.Option.{ForSome}
use Rattle.swan_model.specs.declared.origin.Origin.{Origin}
use Rattle.swan_model.specs.declared.script.Script.{Script}
use Rattle.swan_model.specs.declared.value.Value.{Value}
use Rattle.swan_model.specs.Lawful.{IsLawful}
use Rattle.swan_model.specs.PathOrder.{comes_before}
use Rattle.swan_model.specs.QueueFollows.{count_at, is_ripe_among, next_item, queue_origin, taken_at}
use Rattle.swan_model.specs.QueueState.{ActiveFrame, QueueState, after_deed, IsEarlierPusher, IsOlderPopper, IsPoppingChild, QueueRight, active, after_spawn}
use Rattle.swan_model.specs.Told.{pushes, taken}
use Rattle.queues.specs.declared.answers.Popped.{Popped}
use Rattle.queues.specs.declared.answers.Popped.TheVariants as popped
use Rattle.queues.specs.declared.answers.Tested.{Tested}
use Rattle.queues.specs.declared.answers.Tested.TheVariants as tested
use Rattle.queues.specs.declared.answers.WaitFor.{WaitFor}
use Rattle.queues.specs.declared.answers.WaitFor.TheVariants.{Child, Version, PopTurn, Pusher}

-- what the run's script says of a queue, where it has one
abbrev pub OnQueue : Option Script → QueueState → ℕ → (Script → Origin → Type 0) → Type 0
OnQueue name state queue Says = ForSome name (λ s. IsLawful s → ForSome (queue_origin s state queue) (Says s))

-- in serial order the frame finds an item there now, or none
abbrev pub FindsItem : ActiveFrame → Script → Origin → Type 0
FindsItem frame s queue = taken_at s frame queue < count_at s frame queue

abbrev pub FindsNone : ActiveFrame → Script → Origin → Type 0
FindsNone frame s queue = taken_at s frame queue ≡ count_at s frame queue

-- the first in serial order of the active frames that come before a frame and may push to a queue
pub record IsFirstPusher (state : QueueState) (frame : ActiveFrame) (queue number : ℕ) : Type 0 where
  pub is : IsEarlierPusher state frame queue number
  pub first : (other : ℕ) → (a : IsEarlierPusher state frame queue other) → other ≢ number → comes_before is.other.path a.other.path ≡ true

-- A wait has its cause: a child of the frame that may pop the queue is active, and it is the oldest; or where there is none, an
-- active frame that is earlier in serial order may push to it, and it is the first of those, and the next item isn't
-- ripe.
abbrev pub IsCause : Option Script → QueueState → ActiveFrame → ℕ → WaitFor → Type 0
IsCause name state frame queue (Child n) = ⊥
IsCause name state frame queue (Version n) = ⊥
IsCause name state frame queue (PopTurn n) =
    IsPoppingChild state frame.number queue n × ((other : ℕ) → IsPoppingChild state frame.number queue other → n ≤ other)
IsCause name state frame queue (Pusher n) =
    ((other : ℕ) → ¬ IsPoppingChild state frame.number queue other)
    × IsFirstPusher state frame queue n
    × OnQueue name state queue (λ s origin. is_ripe_among s state frame queue origin ≡ false)

-- An active frame has an older sibling that is active too and pops a queue which the frame pops. So it has to wait for that one
-- before it begins to pop.
pub record IsBlockedBy (state : QueueState) (number older : ℕ) : Type 0 where
  pub frame : ActiveFrame
  pub live : active state number ≡ Some frame
  pub by : IsOlderPopper state frame older

-- what a pop answers
abbrev pub IsPopped : Option Script → QueueState → ActiveFrame → ℕ → Popped → Type 0
IsPopped name state frame queue (popped.Item value) =
    OnQueue name state queue (λ s origin. (next_item s frame origin ≡ Some value) × FindsItem frame s origin)
IsPopped name state frame queue popped.Empty = OnQueue name state queue (FindsNone frame)
IsPopped name state frame queue (popped.NotYet wait) = IsCause name state frame queue wait

-- what it makes of the state: it is a deed where it is answered
abbrev pub after_pop : QueueState → ℕ → Popped → QueueState
after_pop state number (popped.NotYet wait) = state
after_pop state number answer = after_deed state number

-- what a test answers, or a look
abbrev pub IsTested : Option Script → QueueState → ActiveFrame → ℕ → Tested → Type 0
IsTested name state frame queue tested.Holds = OnQueue name state queue (FindsItem frame)
IsTested name state frame queue tested.Empty = OnQueue name state queue (FindsNone frame)
IsTested name state frame queue (tested.NotYet wait) = IsCause name state frame queue wait

abbrev pub after_test : QueueState → ℕ → Tested → QueueState
after_test state number (tested.NotYet wait) = state
after_test state number answer = after_deed state number

-- the items that are left of a queue in the end
abbrev pub rest_of : Script → Origin → List Value
rest_of s queue = drop (taken s queue (length s.entries)) (pushes s queue)

-- what is made of a state by an active frame, and nothing where it isn't active
abbrev pub with_active : (ActiveFrame → QueueState) → QueueState → Option ActiveFrame → QueueState
with_active change state None = state
with_active change state (Some frame) = change frame

-- what a spawn makes of it, where the parent is active
abbrev pub after_spawn_by : QueueState → ℕ → ℕ → List QueueRight → QueueState
after_spawn_by state parent child gives = with_active (λ f. after_spawn state f child gives) state (active state parent)
