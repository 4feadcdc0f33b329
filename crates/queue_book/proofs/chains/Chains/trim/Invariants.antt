use Rattle.std.proofs.Common.{◌≡◌, ℕ, Option, length}
use Rattle.slab.specs.Slab.{slab_len}
use Rattle.queues.specs.Chunks.{Chunks}
use Rattle.queue_book.specs.Chains.{AreChained}
use Rattle.queue_book.proofs.ChainLoops.{AreTrimmed}
use Rattle.queue_book.proofs.chains.Chains.trim.Given as goal

abbrev pub invariant-loop-front : goal.invariant-loop-front
invariant-loop-front l = record {
  same : length l.self.heads.items ≡ length l.initial.self.heads.items;
  kept : (at : ℕ → ℕ → Option ℕ) (lines : ℕ → Chunks) → AreChained at l.initial.self.heads.items l.initial.self.nodes lines
      → AreTrimmed at lines l.queue l.initial.self.nodes l.self.heads.items l.self.nodes;
}

abbrev pub decreases-loop-front : goal.decreases-loop-front
decreases-loop-front l = slab_len l.self.nodes
