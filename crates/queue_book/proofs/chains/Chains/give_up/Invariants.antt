use Rattle.std.proofs.Common.{◌≡◌, ℕ, Option, None, length}
use Rattle.slab.specs.Slab.{slab_len}
use Rattle.queues.specs.Chunks.{Chunks}
use Rattle.queue_book.specs.Chains.{AreChained}
use Rattle.queue_book.proofs.ChainLoops.{AreLeft}
use Rattle.queue_book.proofs.chains.Chains.give_up.Given as goal

abbrev pub invariant-loop-node : goal.invariant-loop-node
invariant-loop-node l = record {
  same : length l.self.heads.items ≡ length l.initial.self.heads.items;
  kept : (at : ℕ → ℕ → Option ℕ) (lines : ℕ → Chunks) → AreChained at l.initial.self.heads.items l.initial.self.nodes lines
      → ((number : ℕ) → at number l.queue ≡ None) → AreLeft at lines l.queue l.initial.self.nodes l.self.heads.items l.self.nodes;
}

abbrev pub decreases-loop-node : goal.decreases-loop-node
decreases-loop-node l = slab_len l.self.nodes
