use Rattle.std.proofs.Common.{ℕ, Option}
use Rattle.queues.specs.Chunks.{Chunks}
use Rattle.queue_book.specs.Chains.{AreChained}
use Rattle.queue_book.proofs.ChainWalks.{IsWalked}
use Rattle.queue_book.proofs.fronts.first_pusher.Given as goal

abbrev pub invariant-loop-turn : goal.invariant-loop-turn
invariant-loop-turn l =
    (at : ℕ → ℕ → Option ℕ) (lines : ℕ → Chunks) → AreChained at l.chains.heads.items l.chains.nodes lines
    → IsWalked l.frames l.chains.nodes l.frame l.queue l._turn (lines l.queue) l.next
