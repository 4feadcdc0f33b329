-- A child that a frame spawns, as it is kept.
use Rattle.std.specs.Prelude.{◌≡◌, ℕ, ◌+◌, ◌<◌, true, false, Option, Some, List, is_some}
use Rattle.std.specs.Option.{option_map}
use Rattle.slab.specs.Slab.{Slab}
use Rattle.pop_order.specs.Frames.{TurnFrame, Frames, frame_at}
use Rattle.swan_model.specs.QueueState.{ActiveFrame, QueueRight, MayGive}
use Rattle.swan_model.specs.Values.{COUNT_MOST}
use Rattle.queue_book.specs.Chains.{Link}
use Rattle.queue_book.specs.Handed.{AreGiven}
use Rattle.queues.specs.Turned.{gives_queue, AreApart}
use Rattle.queue_book.specs.KeptFrames.{KeptFrame, OwnChunks, own_chunk_in}
use Rattle.queue_book.specs.Live.{kept_of}
use Rattle.pop_order.specs.OneChange.{IsOnlyChange}
use Rattle.queue_book.specs.declared.live_frames.LiveFrames.{LiveFrames}

-- The parent is kept and has a chunk of its own in each queue that it gives; each is given once, by a mode of queues; and the child is
-- newer than all frames that have turns.
pub record MayHandOn (frames : LiveFrames) (turns : Frames) (parent child : ℕ) (gives : List QueueRight) : Type 0 where
  pub kept : KeptFrame
  pub live : kept_of frames parent ≡ Some kept
  pub room : kept.deeds < COUNT_MOST
  pub has : (queue : ℕ) → gives_queue gives queue ≡ true → is_some (own_chunk_in kept.own_chunks queue) ≡ true
  pub frame : ActiveFrame
  pub lawful : MayGive frame gives
  pub rising : parent < child
  pub newest : (number : ℕ) (turn : TurnFrame) → frame_at turns number ≡ Some turn → number < child
  pub apart : AreApart turns

-- The child was given the queues and is kept with its own chunks there, and the parent has done one more deed.
pub record IsSpawnedIn (before after : LiveFrames) (parent child : ℕ) (gives : List QueueRight) (heads : List (Option ℕ)) (nodes then_nodes : Slab Link)
    (turns then_turns : Frames) : Type 0 where
  pub middle : LiveFrames
  pub own_chunks : OwnChunks
  pub given : AreGiven before middle parent child gives own_chunks heads nodes then_nodes turns then_turns
  pub counted : LiveFrames
  pub parent_now : IsOnlyChange (kept_of middle) (kept_of counted) parent (option_map (λ (kept : KeptFrame). record kept { deeds = kept.deeds + 1 }) (kept_of middle parent))
  pub child_now : IsOnlyChange (kept_of counted) (kept_of after) child (Some (record { deeds = 0; is_lent = false; own_chunks = own_chunks }))
