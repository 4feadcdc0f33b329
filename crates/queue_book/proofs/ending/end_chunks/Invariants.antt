use Rattle.std.proofs.Common.{◌≡◌, ℕ, Option, None, length, ◌⊎◌}
use Rattle.std.specs.BTreeMap.{btree_map_len}
use Rattle.queues.specs.Chunks.{Chunks}
use Rattle.queue_book.specs.Chains.{AreChained}
use Rattle.queue_book.specs.Ended.{own_keys, IsAlone}
use Rattle.queue_book.specs.KeptFrames.{own_chunk_in}
use Rattle.queue_book.proofs.ChainEnds.{left_lines}
use Rattle.queue_book.proofs.ending.end_chunks.Given as goal

abbrev pub invariant-loop-queue : goal.invariant-loop-queue
invariant-loop-queue l = record {
  same : length l.chains.heads.items ≡ length l.initial.chains.heads.items;
  left : (q : ℕ) → (own_chunk_in l.own_chunks.entries q ≡ None) ⊎ (own_chunk_in l.own_chunks.entries q ≡ own_chunk_in l.initial.own_chunks.entries q);
  kept : (at : ℕ → ℕ → Option ℕ) (lines : ℕ → Chunks) → AreChained (own_keys l.number l.initial.own_chunks.entries at) l.initial.chains.heads.items l.initial.chains.nodes lines
      → IsAlone l.number l.initial.own_chunks.entries at
      → AreChained (own_keys l.number l.own_chunks.entries at) l.chains.heads.items l.chains.nodes (left_lines l.number l.own_chunks.entries l.initial.own_chunks.entries lines);
}

abbrev pub decreases-loop-queue : goal.decreases-loop-queue
decreases-loop-queue l = btree_map_len l.own_chunks
