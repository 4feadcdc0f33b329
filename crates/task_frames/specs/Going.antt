-- How a frame goes on by itself: what its ends serve, what stays as it was, and why it stops.
use Rattle.std.specs.Prelude.{◌≡◌, ℕ, ◌+◌, ◌≤◌, ◌<◌, ◌⊎◌, Bool, true, false, Option, List, IsSomeAnd}
use Rattle.std.specs.Option.{ForSome}
use Rattle.swan_model.specs.declared.body.Answer.{Answer}
use Rattle.swan_model.specs.declared.body.Answer.TheVariants as answer
use Rattle.swan_model.specs.declared.body.Ask.{Ask}
use Rattle.swan_model.specs.declared.body.Ask.TheVariants as ask
use Rattle.swan_model.specs.declared.rights.Mode.TheVariants.{Push, Pop}
use Rattle.swan_model.specs.declared.script.Script.{Script}
use Rattle.swan_model.specs.declared.value.Value.{Value}
use Rattle.swan_model.specs.Lawful.{IsLawful}
use Rattle.swan_model.specs.SerialState.{Holding}
use Rattle.swan_model.specs.SerialStep.{number_at}
use Rattle.swan_model.specs.Values.{COUNT_MOST}
use Rattle.queues.specs.Asks.{LentEnds, has_end, with_deeds}
use Rattle.queues.specs.Ends.{EndCounts, HoldsNext, IsItemNext, IsNextPop, IsNextPush, IsNextTest}
use Rattle.task_frames.specs.declared.paused.Paused.{Paused}
use Rattle.task_frames.specs.declared.paused.Paused.TheVariants.{AtCore, Budget, NoMemory}
use Rattle.task_frames.specs.declared.stage.Stage.{Stage}
use Rattle.task_frames.specs.declared.stage.Stage.TheVariants.{Ready, Asking}
use Rattle.task_frames.specs.Frames.{FrameView}

-- ---- what the ends show

-- what each end shows, by its queue and whether it pushes
abbrev pub Counts : Type 0
Counts = ℕ → Bool → EndCounts

-- An end later on: what it found has not fallen, and each item that it moved cost it a look, and so did each test that
-- found an item.
pub record IsLater (before after : EndCounts) : Type 0 where
  pub size : after.size ≡ before.size
  pub moved : before.moved ≤ after.moved
  pub tested : before.tested ≤ after.tested
  pub looks : before.looks + after.moved + after.tested ≤ after.looks + before.moved + before.tested
  pub found : before.found ≤ after.found

-- each end that there is, later on
abbrev pub AreLater : LentEnds → (before after : Counts) → Type 0
AreLater ends before after = (queue : ℕ) (is_producer : Bool) → has_end ends queue is_producer ≡ true → IsLater (before queue is_producer) (after queue is_producer)

-- It has looked more often since then than it moved items and found some by tests, so a look was for neither.
abbrev pub HasLookedInVain : (before after : EndCounts) → Type 0
HasLookedInVain before after = before.looks + after.moved + after.tested < after.looks + before.moved + before.tested

-- An end was found to take no more: a look since then was in vain and its ring is full, or its count of items has no
-- next number.
pub data WasFullSince (before after : EndCounts) : Type 0 where
  full : HasLookedInVain before after → after.moved ≡ after.found + after.size → WasFullSince before after
  counted : after.moved ≡ COUNT_MOST → WasFullSince before after

-- An end was found to have nothing: a look since then was in vain, and all that was found is popped.
pub record WasEmptySince (before after : EndCounts) : Type 0 where
  pub looked : HasLookedInVain before after
  pub empty : after.moved ≡ after.found

module _ {L : Type 0} where
  -- An ask that the ends didn't serve: it is for no work, push, pop or test, or for a queue that the frame may not use so, or
  -- the ends have no such end, or this one was found not to serve it.
  abbrev pub IsNotServed : List Holding → LentEnds → (before after : Counts) → Ask L → Type 0
  IsNotServed holdings ends before after ask.Work = ⊥
  IsNotServed holdings ends before after (ask.Push place value) =
      ForSome (number_at holdings place Push) (λ queue. (has_end ends queue true ≡ false) ⊎ WasFullSince (before queue true) (after queue true))
  IsNotServed holdings ends before after (ask.Pop place) =
      ForSome (number_at holdings place Pop) (λ queue. (has_end ends queue false ≡ false) ⊎ WasEmptySince (before queue false) (after queue false))
  IsNotServed holdings ends before after (ask.Empty place) =
      ForSome (number_at holdings place Pop) (λ queue. (has_end ends queue false ≡ false) ⊎ WasEmptySince (before queue false) (after queue false))
  IsNotServed holdings ends before after _ = Unit {0}

  -- Where the ask is for a push, a pop or a test of what the frame may use so, that is the next queue deed by the script.
  abbrev pub IsNextDeed : Option Script → List Holding → LentEnds → Ask L → Type 0
  IsNextDeed name holdings ends (ask.Push place value) = ForSome (number_at holdings place Push) (λ queue. ForSome name (λ s. IsNextPush s ends queue value))
  IsNextDeed name holdings ends (ask.Pop place) = ForSome (number_at holdings place Pop) (λ queue. ForSome name (λ s. IsNextPop s ends queue))
  IsNextDeed name holdings ends (ask.Empty place) = ForSome (number_at holdings place Pop) (λ queue. ForSome name (λ s. IsNextTest s ends queue))
  IsNextDeed name holdings ends _ = Unit {0}

  -- The answer is that to an ask that was served: nothing for work and for a push, for a pop the script's item, and for a
  -- test that the queue isn't empty, which the script says too.
  abbrev pub IsServedAnswer : Option Script → List Holding → LentEnds → Ask L → Answer → Type 0
  IsServedAnswer name holdings ends ask.Work said = said ≡ answer.Nothing
  IsServedAnswer name holdings ends (ask.Push place value) said = (said ≡ answer.Nothing) × IsSomeAnd (number_at holdings place Push) (λ queue. has_end ends queue true ≡ true)
  IsServedAnswer name holdings ends (ask.Pop place) said =
      ((item : Value) × (said ≡ answer.Item item) × ForSome name (λ s. IsLawful s → IsItemNext s ends item))
      × IsSomeAnd (number_at holdings place Pop) (λ queue. has_end ends queue false ≡ true)
  IsServedAnswer name holdings ends (ask.Empty place) said =
      ((said ≡ answer.Flag false) × ForSome name (λ s. IsLawful s → HoldsNext s ends))
      × IsSomeAnd (number_at holdings place Pop) (λ queue. has_end ends queue false ≡ true)
  IsServedAnswer name holdings ends _ said = ⊥

  -- how many queue deeds an ask is that the ends serve
  abbrev pub deeds_of : Ask L → ℕ
  deeds_of (ask.Push place value) = 1
  deeds_of (ask.Pop place) = 1
  deeds_of (ask.Empty place) = 1
  deeds_of _ = 0

-- ---- what stays

module _ {B L E : Type 0} (name : E → Option Script) (run : E → List ℕ) (ends : E → LentEnds) (counts : E → Counts) where
  -- The same frame, but for how far it has come: its steps, its fuel, and how it stands to its next step. Its ends differ
  -- in how many deeds they did, and in what they show of themselves.
  pub record IsSameFrame (before after : FrameView B L E) : Type 0 where
    pub task : after.task ≡ record before.task { done = after.task.done; fuel = after.task.fuel }
    pub name_is : name after.ends ≡ name before.ends
    pub run_is : run after.ends ≡ run before.ends
    pub ends_are : ends after.ends ≡ with_deeds (ends before.ends) (ends after.ends).deeds
    pub counts_are : AreLater (ends before.ends) (counts before.ends) (counts after.ends)

-- ---- why it stops

module _ {B L E : Type 0} (ends : E → LentEnds) (counts : E → Counts) where
  -- the frame has no fuel for its next step, or is in the middle of one that asks for what the ends didn't serve
  abbrev pub IsBeyond : (before after : FrameView B L E) → Stage L → Type 0
  IsBeyond before after (Ready local said) = after.task.fuel ≡ 0
  IsBeyond before after (Asking local asks place) = IsNotServed after.task.holdings (ends after.ends) (counts before.ends) (counts after.ends) asks

  -- The frame's next step needs the core: it is the task's first one, or one that the frame can't take by itself.
  pub data NeedsCore (before after : FrameView B L E) : Type 0 where
    at_first : after.task.done ≡ 0 → NeedsCore before after
    beyond : ForSome after.stage (IsBeyond before after) → NeedsCore before after

-- ---- what is answered

abbrev pub OnAtCore : Paused → (ℕ → Type 0) → Type 0
OnAtCore (AtCore steps) Holds = Holds steps.count
OnAtCore _ Holds = Unit {0}

abbrev pub OnBudget : Paused → (ℕ → Type 0) → Type 0
OnBudget (Budget steps) Holds = Holds steps.count
OnBudget _ Holds = Unit {0}

abbrev pub OnNoMemory : Paused → Type 0 → Type 0
OnNoMemory NoMemory Holds = Holds
OnNoMemory _ Holds = Unit {0}

-- how many steps were taken, where memory lasted
abbrev pub OnSteps : Paused → (ℕ → Type 0) → Type 0
OnSteps (AtCore steps) Holds = Holds steps.count
OnSteps (Budget steps) Holds = Holds steps.count
OnSteps NoMemory Holds = Unit {0}

abbrev pub is_at_core : Paused → Bool
is_at_core (AtCore steps) = true
is_at_core _ = false
