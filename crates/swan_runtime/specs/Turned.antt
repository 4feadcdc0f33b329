-- What a worker's turn answers, and what shows it.
use Rattle.std.specs.Prelude.{◌≡◌, ◌⊎◌, ◌==◌, ◌+◌, ◌<◌, ◌≤◌, Bool, true, false, if◌then◌else◌}
use Rattle.named_lock.specs.declared.rule.View.{View}
use Rattle.named_lock.specs.declared.sign.Sign.TheVariants.{Stopped}
use Rattle.task_frames.specs.declared.steps.Steps.{Steps}
use Rattle.swan_runtime.specs.declared.turn.Turn.{Turn}
use Rattle.swan_runtime.specs.declared.turn.Turn.TheVariants as turn

-- A frame was tried by the core: it took one step, or has to wait, or is none of the core's.
abbrev pub IsOneTry : Turn → Type 0
IsOneTry (turn.Stepped steps) = steps.count ≡ 1
IsOneTry (turn.NotYet waited) = Unit {0}
IsOneTry (turn.Strange foreign) = Unit {0}
IsOneTry _ = ⊥

-- what a frame that is tried may be answered: that, or that the run was done
abbrev pub MayBeAnswered : Turn → Type 0
MayBeAnswered turn.Done = Unit {0}
MayBeAnswered answer = IsOneTry answer

-- what a turn answers that took these steps by itself before the frame was tried
abbrev pub MayBeAnsweredWith : Steps → Turn → Turn → Type 0
MayBeAnsweredWith local (turn.Stepped steps) answer = (sum : Steps) × (answer ≡ turn.Stepped sum) × (sum.count ≡ local.count + steps.count)
MayBeAnsweredWith local turn.Done answer = answer ≡ turn.Done
MayBeAnsweredWith local tried answer = answer ≡ (if local.count == 0 then tried else turn.Stepped local)

module _ {N : Type 0} where
  -- A seat later on: it holds nothing, and it has counted more at most.
  pub record HasGoneOn (before after : View N) : Type 0 where
    pub is : after ≡ record before { owes_done = after.owes_done; holds = after.holds; lost = after.lost }
    pub holds : before.holds ≤ after.holds
    pub lost : before.lost ≤ after.lost

  -- What a worker's seat at the lock shows of an answer. A turn that took no step found the lock taken, or held it; a run is done where the
  -- seat has seen the sign Done, and stopped where it has seen it Stopped, and did so last.
  abbrev pub IsShownBySeat : (before after : View N) → Turn → Type 0
  IsShownBySeat before after (turn.Stepped steps) = 1 ≤ steps.count
  IsShownBySeat before after (turn.NotYet waited) = before.holds < after.holds
  IsShownBySeat before after turn.Busy = before.lost < after.lost
  IsShownBySeat before after turn.Idle = before.holds < after.holds
  IsShownBySeat before after (turn.Strange foreign) = before.holds < after.holds
  IsShownBySeat before after turn.Done = after.saw_done ≡ true
  IsShownBySeat before after turn.NoMemory = (after.sign ≡ Stopped) × (after.saw_stopped ≡ true)

  -- A turn was taken: it is shown by the seat. One that has seen the run stopped, in this turn or before, sees it so for good, and is answered
  -- nothing but want of memory. One that has seen it done sees it so for good too.
  pub record IsWorkersTurn (before after : View N) (answer : Turn) : Type 0 where
    pub shown : IsShownBySeat before after answer
    pub stopped : after.saw_stopped ≡ true → answer ≡ turn.NoMemory
    pub lasts : before.saw_stopped ≡ true → after.saw_stopped ≡ true
    pub lasts_done : before.saw_done ≡ true → after.saw_done ≡ true

  -- The seat has seen the run done, or stopped.
  abbrev pub HasSeenEnd : View N → Type 0
  HasSeenEnd view = (view.saw_done ≡ true) ⊎ (view.saw_stopped ≡ true)

-- whether a turn is a worker's last one
abbrev pub is_last : Turn → Bool
is_last turn.Done = true
is_last turn.NoMemory = true
is_last _ = false
