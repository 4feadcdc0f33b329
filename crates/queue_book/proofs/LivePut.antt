-- A frame that has one own chunk more, or another one of a queue.
use Rattle.std.proofs.Common.{◌≡◌, ◌≢◌, ℕ, true, ◌==◌, Some, refl, sym, ap, ◌∙◌, ◌⊎◌, inl, inr}
use Rattle.std.proofs.lemmas.Bool.{cases_eq, eq-eqb, ne_eqb}
use Rattle.std.specs.Option.{option_map}
use Rattle.std.specs.Prelude.{is_some}
use Rattle.swan_model.specs.QueueState.{ActiveFrame, QueueRight, with_made}
use Rattle.queue_book.specs.Chains.{put_at}
use Rattle.queue_book.specs.KeptFrames.{KeptFrame, own_chunk_in}
use Rattle.queue_book.specs.Live.{kept_of, key_at, key_in, with_own_chunk}
use Rattle.pop_order.specs.OneChange.{IsOnlyChange}
use Rattle.queues.specs.Tree.{has_queue}
use Rattle.queue_book.specs.declared.live_frame.OwnChunk.{OwnChunk}
use Rattle.queue_book.specs.declared.live_frames.LiveFrames.{LiveFrames}
use Rattle.queue_book.proofs.ChainChanges.{put_other, put_same}
use Rattle.swan_model.proofs.Lookups.{at_inserted, by_inserted}
use Rattle.swan_model.proofs.Elements.{any_before, any_last}
use Rattle.queues.proofs.Frames.{both_on}

pub own_chunk_here : (kept : KeptFrame) (queue : ℕ) (own_chunk : OwnChunk) → own_chunk_in (with_own_chunk queue own_chunk kept).own_chunks queue ≡ Some own_chunk
own_chunk_here kept queue own_chunk = at_inserted kept.own_chunks queue own_chunk

pub own_chunk_elsewhere : (kept : KeptFrame) (queue : ℕ) (own_chunk : OwnChunk) (q : ℕ) → q ≢ queue → own_chunk_in (with_own_chunk queue own_chunk kept).own_chunks q ≡ own_chunk_in kept.own_chunks q
own_chunk_elsewhere kept queue own_chunk q other = by_inserted kept.own_chunks queue own_chunk q other

-- the keys after that
pub keys_put : (frames after : LiveFrames) (n queue : ℕ) (own_chunk : OwnChunk) (kept : KeptFrame) → kept_of frames n ≡ Some kept → IsOnlyChange (kept_of frames) (kept_of after) n (Some (with_own_chunk queue own_chunk kept))
    → (m q : ℕ) → key_at after m q ≡ put_at n queue (Some own_chunk.key) (key_at frames) m q
keys_put frames after n queue own_chunk kept was one m q = by (cases_eq m n) (cases_eq q queue) where
  own : (p : ℕ) → key_at after n p ≡ option_map (λ (chunk : OwnChunk). chunk.key) (own_chunk_in (with_own_chunk queue own_chunk kept).own_chunks p)
  own p = ap (λ o. key_in o p) one.changed

  by : (m ≡ n) ⊎ (m ≢ n) → (q ≡ queue) ⊎ (q ≢ queue) → key_at after m q ≡ put_at n queue (Some own_chunk.key) (key_at frames) m q
  by (inl same) (inl here) =
      ap (λ k. key_at after k q) same ∙ own q ∙ ap (λ p. option_map (λ (chunk : OwnChunk). chunk.key) (own_chunk_in (with_own_chunk queue own_chunk kept).own_chunks p)) here
      ∙ ap (option_map (λ (chunk : OwnChunk). chunk.key)) (own_chunk_here kept queue own_chunk) ∙ sym (put_same n queue (Some own_chunk.key) (key_at frames))
      ∙ sym (ap (λ k. put_at n queue (Some own_chunk.key) (key_at frames) k queue) same) ∙ sym (ap (λ p. put_at n queue (Some own_chunk.key) (key_at frames) m p) here)
  by (inl same) (inr other) =
      ap (λ k. key_at after k q) same ∙ own q ∙ ap (option_map (λ (chunk : OwnChunk). chunk.key)) (own_chunk_elsewhere kept queue own_chunk q other)
      ∙ sym (ap (λ o. key_in o q) was) ∙ sym (ap (λ k. key_at frames k q) same) ∙ sym (put_other n queue (Some own_chunk.key) (key_at frames) m q (λ e here. other here))
  by (inr apart) c = ap (λ o. key_in o q) (one.others m apart) ∙ sym (put_other n queue (Some own_chunk.key) (key_at frames) m q (λ e here. apart e))

-- ---- a queue that a frame made

pub has_made : (frame : ActiveFrame) (queue : ℕ) → has_queue (with_made queue frame) queue ≡ true
has_made frame queue = any_last (λ (r : QueueRight). r.queue == queue) frame.rights (both_on queue) (eq-eqb queue queue refl)

pub has_not_made : (frame : ActiveFrame) (queue q : ℕ) → q ≢ queue → has_queue (with_made queue frame) q ≡ has_queue frame q
has_not_made frame queue q other = any_before (λ (r : QueueRight). r.queue == q) frame.rights (both_on queue) (ne_eqb queue q (λ same. other (sym same)))

pub own_chunks_made : (kept : KeptFrame) (frame : ActiveFrame) (queue : ℕ) (own_chunk : OwnChunk) → ((q : ℕ) → is_some (own_chunk_in kept.own_chunks q) ≡ has_queue frame q)
    → (q : ℕ) → is_some (own_chunk_in (with_own_chunk queue own_chunk kept).own_chunks q) ≡ has_queue (with_made queue frame) q
own_chunks_made kept frame queue own_chunk same q = elim (cases_eq q queue) [
  | inl here ↦
      ap (λ p. is_some (own_chunk_in (with_own_chunk queue own_chunk kept).own_chunks p)) here ∙ ap is_some (own_chunk_here kept queue own_chunk) ∙ sym (has_made frame queue)
      ∙ sym (ap (λ p. has_queue (with_made queue frame) p) here)
  | inr other ↦ ap is_some (own_chunk_elsewhere kept queue own_chunk q other) ∙ same q ∙ sym (has_not_made frame queue q other)
]
