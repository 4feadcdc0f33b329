-- A queue that a child is given, as it is kept.
use Rattle.std.specs.Prelude.{◌≡◌, ◌≢◌, ℕ, ◌==◌, ◌&&◌, Bool, false, Option, Some, None, List, if◌then◌else◌, is_some}
use Rattle.std.specs.List.{list_any}
use Rattle.std.specs.Option.{option_map}
use Rattle.std.specs.BTreeMap.{insert_entry}
use Rattle.std.specs.Ordering.{nat_cmp}
use Rattle.slab.specs.Slab.{Slab}
use Rattle.pop_order.specs.Frames.{Frames}
use Rattle.swan_model.specs.declared.rights.Mode.TheVariants.{Push}
use Rattle.swan_model.specs.QueueState.{QueueRight}
use Rattle.swan_model.specs.Rights.{allows}
use Rattle.queues.specs.Chunks.{Chunks, after_hand_on}
use Rattle.queue_book.specs.Chains.{Link, AreChained, in_line, put_at}
use Rattle.queue_book.specs.Ended.{own_keys}
use Rattle.queue_book.specs.KeptFrames.{KeptFrame, OwnChunks, own_chunk_in}
use Rattle.queue_book.specs.Live.{kept_of, key_at, own_chunk_at, with_own_chunk}
use Rattle.pop_order.specs.OneChange.{IsOnlyChange}
use Rattle.queues.specs.Turned.{gives_queue, AreGivenTurns}
use Rattle.queue_book.specs.declared.live_frame.OwnChunk.{OwnChunk}
use Rattle.queue_book.specs.declared.live_frames.LiveFrames.{LiveFrames}

-- The child has its parent's own chunk, and the parent a new one.
pub record IsHandedIn (before after : LiveFrames) (parent child queue : ℕ) (pushes : Bool) (own_chunks then_own_chunks : OwnChunks) (heads : List (Option ℕ)) (nodes then_nodes : Slab Link) : Type 0 where
  pub new : ℕ
  pub own_chunk : OwnChunk
  pub was : own_chunk_at before parent queue ≡ Some own_chunk
  pub parent_now : IsOnlyChange (kept_of before) (kept_of after) parent (option_map (with_own_chunk queue (record { key = new; is_maker = own_chunk.is_maker; pushes = own_chunk.pushes })) (kept_of before parent))
  pub child_now : then_own_chunks ≡ insert_entry nat_cmp own_chunks queue (record { key = own_chunk.key; is_maker = false; pushes = pushes })
  pub chained : (at : ℕ → ℕ → Option ℕ) (lines : ℕ → Chunks) → AreChained at heads nodes lines → at parent queue ≡ Some own_chunk.key → at child queue ≡ None
      → AreChained (put_at parent queue (Some new) (put_at child queue (Some own_chunk.key) at)) heads then_nodes (in_line queue (after_hand_on parent child) lines)

-- ---- queue by queue

-- whether the child may push to a queue
abbrev pub gives_push : List QueueRight → ℕ → Bool
gives_push gives queue = list_any (λ right. (right.queue == queue) && allows right.mode Push) gives

-- the chunks of the queues that were given
abbrev pub lines_after_gives : (parent child : ℕ) → List QueueRight → (ℕ → Chunks) → ℕ → Chunks
lines_after_gives parent child gives lines queue = if gives_queue gives queue then after_hand_on parent child (lines queue) else lines queue

-- a frame that differs in the keys of its own chunks alone
pub record IsMoved (before now : KeptFrame) : Type 0 where
  pub deeds : now.deeds ≡ before.deeds
  pub lent : now.is_lent ≡ before.is_lent
  pub own_chunks : (queue : ℕ) → is_some (own_chunk_in now.own_chunks queue) ≡ is_some (own_chunk_in before.own_chunks queue)
  pub makers : (queue : ℕ) (own_chunk : OwnChunk) → own_chunk_in now.own_chunks queue ≡ Some own_chunk → (old : OwnChunk) × (own_chunk_in before.own_chunks queue ≡ Some old) × (own_chunk.is_maker ≡ old.is_maker) × (own_chunk.pushes ≡ old.pushes)

-- What is kept while a child is given its queues, where it was given these by now.
pub record AreGiven (before now : LiveFrames) (parent child : ℕ) (gives : List QueueRight) (own_chunks : OwnChunks) (heads : List (Option ℕ)) (nodes now_nodes : Slab Link)
    (turns now_turns : Frames) : Type 0 where
  pub others : (other : ℕ) → other ≢ parent → kept_of now other ≡ kept_of before other
  pub moved : (kept : KeptFrame) → kept_of before parent ≡ Some kept → (one : KeptFrame) × (kept_of now parent ≡ Some one) × IsMoved kept one
  pub given : (queue : ℕ) → is_some (own_chunk_in own_chunks queue) ≡ gives_queue gives queue
  pub fresh : (queue : ℕ) (own_chunk : OwnChunk) → own_chunk_in own_chunks queue ≡ Some own_chunk → own_chunk.is_maker ≡ false
  pub pushers : (queue : ℕ) (own_chunk : OwnChunk) → own_chunk_in own_chunks queue ≡ Some own_chunk → own_chunk.pushes ≡ gives_push gives queue
  pub chained : (lines : ℕ → Chunks) → AreChained (key_at before) heads nodes lines → ((queue : ℕ) → key_at before child queue ≡ None)
      → AreChained (own_keys child own_chunks (key_at now)) heads now_nodes (lines_after_gives parent child gives lines)
  pub turned : AreGivenTurns turns now_turns parent child gives
