-- What is kept of an active frame.
use Rattle.std.specs.Prelude.{ℕ, Bool, Option, List}
use Rattle.std.specs.Map.{lookup}
use Rattle.std.specs.BTreeMap.{is_at}
use Rattle.std.specs.Ordering.{nat_cmp}
use Rattle.queue_book.specs.declared.live_frame.OwnChunk.{OwnChunk}

-- each queue that a frame has, with its own chunk there
abbrev pub OwnChunks : Type 0
OwnChunks = List (ℕ × OwnChunk)

-- the own chunk of a queue
abbrev pub own_chunk_in : OwnChunks → ℕ → Option OwnChunk
own_chunk_in own_chunks queue = lookup (is_at (nat_cmp queue)) own_chunks

pub record KeptFrame : Type 0 where
  -- how many queue deeds it has done
  pub deeds : ℕ
  -- whether its ends are lent
  pub is_lent : Bool
  pub own_chunks : OwnChunks
