-- What a worker's turn answers, by what its parts found.
use Rattle.std.proofs.Common.{◌≡◌, ◌==◌, ℕ, ◌+◌, ◌<◌, ◌≤◌, Bool, true, false, true≢false, arith, if◌then◌else◌, refl, subst, sym, ◌∙◌}
use Rattle.named_lock.specs.declared.rule.View.{View}
use Rattle.task_frames.specs.declared.steps.Steps.{Steps}
use Rattle.swan_runtime.specs.declared.turn.Turn.{Turn}
use Rattle.swan_runtime.specs.declared.turn.Turn.TheVariants as turn
use Rattle.swan_runtime.specs.Turned.{IsShownBySeat, MayBeAnswered, MayBeAnsweredWith, IsWorkersTurn}

some_steps : (n : ℕ) → (n == 0) ≡ false → 1 ≤ n
some_steps n is = grind arith

one_more : (n k sum : ℕ) → k ≡ 1 → sum ≡ n + k → 1 ≤ sum
one_more n k sum one is = grind arith

module _ {N : Type 0} (before after : View N) where
  by_steps : (local : Steps) (tried answer : Turn) (b : Bool) → (local.count == 0) ≡ b → answer ≡ (if b then tried else turn.Stepped local) → IsShownBySeat before after tried
      → IsShownBySeat before after answer
  by_steps local tried answer true same is shown = subst (IsShownBySeat before after) (sym is) shown
  by_steps local tried answer false same is shown = subst (IsShownBySeat before after) (sym is) (some_steps local.count same)

  shown_so : (local : Steps) (tried answer : Turn) → MayBeAnsweredWith local tried answer → MayBeAnswered tried → before.holds < after.holds → (tried ≡ turn.Done → after.saw_done ≡ true)
      → IsShownBySeat before after answer
  shown_so local (turn.Stepped steps) answer told is held done = subst (IsShownBySeat before after) (sym told.1) (one_more local.count steps.count told.0.count is told.2)
  shown_so local (turn.NotYet waited) answer told is held done = by_steps local (turn.NotYet waited) answer (local.count == 0) refl told held
  shown_so local turn.Busy answer told is held done = absurd is
  shown_so local turn.Idle answer told is held done = absurd is
  shown_so local (turn.Strange foreign) answer told is held done = by_steps local (turn.Strange foreign) answer (local.count == 0) refl told held
  shown_so local turn.Done answer told is held done = subst (IsShownBySeat before after) (sym told) (done refl)
  shown_so local turn.NoMemory answer told is held done = absurd is

  -- A frame was tried in a hold, by a seat that then saw the run go on, or done where that was the answer.
  pub told_turn : (local : Steps) (tried answer : Turn) → MayBeAnsweredWith local tried answer → MayBeAnswered tried → before.holds < after.holds → before.saw_stopped ≡ false
      → after.saw_stopped ≡ before.saw_stopped → (tried ≡ turn.Done → after.saw_done ≡ true) → (before.saw_done ≡ true → after.saw_done ≡ true)
      → IsWorkersTurn before after answer
  told_turn local tried answer told is held runs same done lasts_done = record {
    shown = shown_so local tried answer told is held done;
    stopped = λ stopped. absurd (true≢false (sym stopped ∙ same ∙ runs));
    lasts = λ stopped. absurd (true≢false (sym stopped ∙ runs));
    lasts_done = lasts_done;
  }
