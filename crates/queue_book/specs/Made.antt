-- A queue that a frame made, as it is kept.
use Rattle.std.specs.Prelude.{◌≡◌, ℕ, true, Option, Some, None, List, [], ◌∷◌}
use Rattle.std.specs.Option.{option_map}
use Rattle.slab.specs.Slab.{Slab}
use Rattle.swan_model.specs.declared.value.Value.{Value}
use Rattle.queues.specs.Chunks.{Chunks, own}
use Rattle.queue_book.specs.Chains.{Link, AreChained, in_line, put_at}
use Rattle.queue_book.specs.Live.{kept_of, key_at, with_own_chunk}
use Rattle.pop_order.specs.OneChange.{IsOnlyChange}
use Rattle.queue_book.specs.declared.live_frames.LiveFrames.{LiveFrames}

-- the frame has an own chunk of the queue, and the queue one chunk with these items
pub record IsMadeIn (before after : LiveFrames) (number queue : ℕ) (items : List Value) (heads : List (Option ℕ)) (nodes : Slab Link)
    (then_heads : List (Option ℕ)) (then_nodes : Slab Link) : Type 0 where
  pub key : ℕ
  pub own_chunk : IsOnlyChange (kept_of before) (kept_of after) number (option_map (with_own_chunk queue (record { key = key; is_maker = true; pushes = true })) (kept_of before number))
  pub chained : (lines : ℕ → Chunks) → AreChained (key_at before) heads nodes lines → key_at before number queue ≡ None
      → AreChained (put_at number queue (Some key) (key_at before)) then_heads then_nodes (in_line queue (λ old. own number items ∷ []) lines)
