use Rattle.std.proofs.Common.{◌≡◌, ℕ, ◌⊎◌, true, take}
use Rattle.pop_order.specs.Frames.{Frames}
use Rattle.pop_order.specs.Kept.{IsKeptFor}
use Rattle.pop_order.specs.Steps.{IsShrunk, is_given}
use Rattle.pop_order.proofs.frames.take_out.Given as goal

abbrev pub invariant-loop-holding : goal.invariant-loop-holding
invariant-loop-holding l = (before after : Frames) → IsShrunk before after l.parent l.child
    → ((queue : ℕ) → IsKeptFor before l.initial.sets.poppers l.initial.sets.pushers l.initial.sets.givers queue)
    → (queue : ℕ)
    → (IsKeptFor before l.sets.poppers l.sets.pushers l.sets.givers queue ⊎ IsKeptFor after l.sets.poppers l.sets.pushers l.sets.givers queue)
    × (is_given (take l.holding-index l.holdings) queue ≡ true → IsKeptFor after l.sets.poppers l.sets.pushers l.sets.givers queue)
