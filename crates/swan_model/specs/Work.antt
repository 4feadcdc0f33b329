-- Steps of a task's own work in a row, by its step alone: by a body's `next`, whatever the body keeps beside.
use Rattle.std.specs.Prelude.{◌≡◌, ℕ, zero, suc, ◌-◌}
use Rattle.swan_model.specs.declared.body.Answer.{Answer}
use Rattle.swan_model.specs.declared.body.Answer.TheVariants as answer
use Rattle.swan_model.specs.declared.body.Ask.{Ask}
use Rattle.swan_model.specs.declared.body.Ask.TheVariants as ask

-- what a step is told after n steps of work: the first one the answer to the last ask, and each other one nothing
abbrev pub told_after : Answer → ℕ → Answer
told_after first zero = first
told_after first (suc n) = answer.Nothing

module _ {L : Type 0} (next : L → Answer → ℕ → L × Ask L) where
  -- the local after n steps, where the first one is told this and there is so much fuel before it
  abbrev pub local_after : L → Answer → ℕ → ℕ → L
  local_after local first fuel zero = local
  local_after local first fuel (suc n) = (next (local_after local first fuel n) (told_after first n) (fuel - n - 1)).0

  -- what the step after n steps asks for
  abbrev pub ask_after : L → Answer → ℕ → ℕ → Ask L
  ask_after local first fuel n = (next (local_after local first fuel n) (told_after first n) (fuel - n - 1)).1

  -- each of the first n steps asks for work alone
  abbrev pub AreWork : L → Answer → ℕ → ℕ → Type 0
  AreWork local first fuel zero = Unit {0}
  AreWork local first fuel (suc n) = AreWork local first fuel n × (ask_after local first fuel n ≡ ask.Work)
