-- What is kept of the active frames.
use Rattle.std.specs.Prelude.{◌≡◌, ◌≢◌, ℕ, ◌==◌, ◌&&◌, Bool, true, false, Option, Some, None, [], if◌then◌else◌, slice_get, is_some}
use Rattle.std.specs.Option.{option_map, option_map_or}
use Rattle.std.specs.Map.{lookup}
use Rattle.std.specs.BTreeMap.{is_at, insert_entry}
use Rattle.std.specs.Ordering.{nat_cmp}
use Rattle.swan_model.specs.declared.rights.Mode.TheVariants.{Push}
use Rattle.swan_model.specs.QueueState.{ActiveFrame, Lent, QueueMaker, QueueState, active, holds_queue}
use Rattle.queues.specs.Tree.{has_queue, maker_path}
use Rattle.queue_book.specs.KeptFrames.{KeptFrame, own_chunk_in}
use Rattle.queue_book.specs.declared.live_frame.OwnChunk.{OwnChunk}
use Rattle.queue_book.specs.declared.live_frames.LiveFrames.{LiveFrames}

-- the frame of a number
abbrev pub kept_of : LiveFrames → ℕ → Option KeptFrame
kept_of frames number =
    if number == 0 then frames.root else (if number == frames.newest_number then frames.newest else lookup (is_at (nat_cmp number)) frames.others.entries)

-- what holds of what is kept of a frame, where it is active
abbrev pub OnKept : LiveFrames → (number : ℕ) → (KeptFrame → Type 0) → Type 0
OnKept frames number Holds = (kept : KeptFrame) → kept_of frames number ≡ Some kept → Holds kept

abbrev pub own_chunk_of : Option KeptFrame → ℕ → Option OwnChunk
own_chunk_of None queue = None
own_chunk_of (Some kept) queue = own_chunk_in kept.own_chunks queue

-- a frame's own chunk of a queue
abbrev pub own_chunk_at : LiveFrames → ℕ → ℕ → Option OwnChunk
own_chunk_at frames number queue = own_chunk_of (kept_of frames number) queue

abbrev pub key_in : Option KeptFrame → ℕ → Option ℕ
key_in None queue = None
key_in (Some kept) queue = option_map (λ (own_chunk : OwnChunk). own_chunk.key) (own_chunk_in kept.own_chunks queue)

-- the key of its node
abbrev pub key_at : LiveFrames → ℕ → ℕ → Option ℕ
key_at frames number queue = key_in (kept_of frames number) queue

-- whether a frame may push to a queue
abbrev pub is_pusher : LiveFrames → (number queue : ℕ) → Bool
is_pusher frames number queue = option_map_or (λ (own_chunk : OwnChunk). own_chunk.pushes) (own_chunk_at frames number queue) false

-- a frame with one own chunk more, or another one of a queue
abbrev pub with_own_chunk : ℕ → OwnChunk → KeptFrame → KeptFrame
with_own_chunk queue own_chunk kept = record kept { own_chunks = insert_entry nat_cmp kept.own_chunks queue own_chunk }

-- ---- what they say of the state

abbrev pub lent_of : KeptFrame → Option Lent
lent_of kept = if kept.is_lent then Some (record { deeds = kept.deeds; ends = [] }) else None

-- whether a frame's ends were lent when it had done so many deeds
abbrev pub is_lent_with : Option KeptFrame → ℕ → Bool
is_lent_with None deeds = false
is_lent_with (Some kept) deeds = kept.is_lent && (kept.deeds == deeds)

-- what is kept of an active frame: its deeds, whether its ends are lent, its queues, which of them it made, and to which of
-- them it may push
pub record IsFrameKept (state : QueueState) (kept : KeptFrame) (frame : ActiveFrame) : Type 0 where
  pub deeds : kept.deeds ≡ frame.deeds
  pub lent : frame.lent ≡ lent_of kept
  pub own_chunks : (queue : ℕ) → is_some (own_chunk_in kept.own_chunks queue) ≡ has_queue frame queue
  pub made : (queue : ℕ) (own_chunk : OwnChunk) (maker : QueueMaker) → own_chunk_in kept.own_chunks queue ≡ Some own_chunk → slice_get state.makers queue ≡ Some maker
      → own_chunk.is_maker ≡ true → frame.path ≡ maker_path maker
  pub given : (queue : ℕ) (own_chunk : OwnChunk) (maker : QueueMaker) → own_chunk_in kept.own_chunks queue ≡ Some own_chunk → slice_get state.makers queue ≡ Some maker
      → own_chunk.is_maker ≡ false → frame.path ≢ maker_path maker
  pub pushers : (queue : ℕ) (own_chunk : OwnChunk) → own_chunk_in kept.own_chunks queue ≡ Some own_chunk → own_chunk.pushes ≡ holds_queue frame queue Push

abbrev pub Agrees : QueueState → Option KeptFrame → Option ActiveFrame → Type 0
Agrees state None None = Unit {0}
Agrees state (Some kept) (Some frame) = IsFrameKept state kept frame
Agrees state None (Some frame) = ⊥
Agrees state (Some kept) None = ⊥

-- exactly the active frames are kept
abbrev pub AreLive : QueueState → LiveFrames → Type 0
AreLive state frames = (number : ℕ) → Agrees state (kept_of frames number) (active state number)
