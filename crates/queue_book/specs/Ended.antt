-- The chunks of a frame's queues once it has ended.
use Rattle.std.specs.Prelude.{◌≡◌, ◌≢◌, ℕ, ◌==◌, ◌&&◌, not, true, Option, Some, None, List, [], if◌then◌else◌}
use Rattle.std.specs.Option.{option_map}
use Rattle.slab.specs.Slab.{Slab}
use Rattle.queues.specs.Chunks.{Chunks, after_close}
use Rattle.queue_book.specs.Chains.{Link, AreChained}
use Rattle.queue_book.specs.KeptFrames.{OwnChunks, own_chunk_in}
use Rattle.queue_book.specs.declared.live_frame.OwnChunk.{OwnChunk}

-- the queue that a frame made is given up where it isn't the root's
abbrev pub line_after_end : ℕ → Option OwnChunk → Chunks → Chunks
line_after_end number None chunks = chunks
line_after_end number (Some own_chunk) chunks = if own_chunk.is_maker && not (number == 0) then [] else after_close number chunks

abbrev pub lines_after_end : ℕ → OwnChunks → (ℕ → Chunks) → ℕ → Chunks
lines_after_end number own_chunks lines queue = line_after_end number (own_chunk_in own_chunks queue) (lines queue)

-- a frame's own keys are those of these chunks, and those of others are as before
abbrev pub own_keys : ℕ → OwnChunks → (ℕ → ℕ → Option ℕ) → ℕ → ℕ → Option ℕ
own_keys number own_chunks at other queue = if other == number then option_map (λ (own_chunk : OwnChunk). own_chunk.key) (own_chunk_in own_chunks queue) else at other queue

-- Where a frame that isn't the root made a queue, no other frame has a chunk of it.
abbrev pub IsAloneIn : (queue number : ℕ) → OwnChunk → (ℕ → ℕ → Option ℕ) → Type 0
IsAloneIn queue number own_chunk at = own_chunk.is_maker ≡ true → number ≢ 0 → (other : ℕ) → other ≢ number → at other queue ≡ None

-- That is so of each queue that a frame with these own chunks has.
abbrev pub IsAlone : (number : ℕ) → OwnChunks → (ℕ → ℕ → Option ℕ) → Type 0
IsAlone number own_chunks at = (queue : ℕ) (own_chunk : OwnChunk) → own_chunk_in own_chunks queue ≡ Some own_chunk → IsAloneIn queue number own_chunk at

-- A frame has these own chunks in the chains, and is alone in the queues that it made.
abbrev pub HaveOwn : (heads : List (Option ℕ)) (nodes : Slab Link) (number : ℕ) → OwnChunks → Type 0
HaveOwn heads nodes number own_chunks = (at : ℕ → ℕ → Option ℕ) × (lines : ℕ → Chunks) × AreChained (own_keys number own_chunks at) heads nodes lines × IsAlone number own_chunks at
