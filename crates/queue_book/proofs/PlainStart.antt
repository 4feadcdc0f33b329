-- Hyperqueues at their start, and without anything.
use Rattle.std.proofs.Common.{◌≡◌, ◌≢◌, ℕ, Bool, true, false, ◌==◌, cond, Option, Some, None, List, [], length, refl, sym, ap, subst, ◌∙◌, inl, inr}
use Rattle.std.proofs.lemmas.Bool.{cases_eq}
use Rattle.slab.specs.Slab.{Slab}
use Rattle.pop_order.specs.Frames.{Frames}
use Rattle.swan_model.specs.declared.script.Script.{Script}
use Rattle.swan_model.specs.QueueState.{ActiveFrame, active, new_state, root_frame}
use Rattle.queues.specs.Chunks.{Chunks}
use Rattle.queue_book.specs.Calls.{no_state}
use Rattle.queue_book.specs.Chains.{Link, AreChained}
use Rattle.queue_book.specs.KeptFrames.{KeptFrame}
use Rattle.queue_book.specs.Live.{kept_of, key_in, key_at, Agrees}
use Rattle.queues.specs.Turned.{AreTurns}
use Rattle.queue_book.specs.Whole.{IsBook}
use Rattle.queue_book.specs.declared.live_frames.LiveFrames.{LiveFrames}
use Rattle.queue_book.proofs.ChainChanges.{chained_same}
use Rattle.queue_book.proofs.LiveKept.{live_new}
use Rattle.queue_book.proofs.PlainLent.{plain_new, plain_none}
use Rattle.queues.proofs.TurnsKept.{turns_none}

new_active : (n : ℕ) (frame : ActiveFrame) → active new_state n ≡ Some frame → frame ≡ root_frame
new_active n frame live = by (0 == n) live where
  by : (b : Bool) → cond b (Some root_frame) None ≡ Some frame → frame ≡ root_frame
  by true e = let same : root_frame ≡ frame = cc in sym same
  by false e = let never : None ≡ Some frame = e in absurd (cc)

pub book_new : (name : Option Script) (frames : LiveFrames) (heads : List (Option ℕ)) (nodes : Slab Link) (turns : Frames)
    → kept_of frames 0 ≡ Some (record { deeds = 0; is_lent = false; own_chunks = [] }) → ((n : ℕ) → n ≢ 0 → kept_of frames n ≡ None) → length heads ≡ 0
    → ((lines : ℕ → Chunks) → AreChained (λ n q. None) heads nodes lines) → turns ≡ [] → IsBook name new_state frames heads nodes turns
book_new name frames heads nodes turns root others none chained no_turns = record {
  lines = λ queue. [];
  plain = plain_new name;
  live = live_new frames root others;
  count = none;
  chained = chained_same (λ n q. None) (key_at frames) heads nodes (λ queue. []) (λ queue. []) keys (λ queue. refl) (chained (λ queue. []));
  turned = let P : Frames → Type 0 = λ t. AreTurns new_state t in
      subst P (sym no_turns) (turns_none new_state (λ n frame live. ap (λ (f : ActiveFrame). f.parent) (new_active n frame live)));
} where
  keys : (n q : ℕ) → key_at frames n q ≡ None
  keys n q = elim (cases_eq n 0) [
    | inl here ↦ ap (λ k. key_at frames k q) here ∙ ap (λ o. key_in o q) root
    | inr other ↦ ap (λ o. key_in o q) (others n other)
  ]

pub book_none : (name : Option Script) (frames : LiveFrames) (heads : List (Option ℕ)) (nodes : Slab Link) (turns : Frames)
    → ((n : ℕ) → kept_of frames n ≡ None) → length heads ≡ 0
    → ((lines : ℕ → Chunks) → AreChained (λ n q. None) heads nodes lines) → turns ≡ [] → IsBook name no_state frames heads nodes turns
book_none name frames heads nodes turns gone none chained no_turns = record {
  lines = λ queue. [];
  plain = plain_none name;
  live = λ n. let P : Option KeptFrame → Type 0 = λ o. Agrees no_state o None in subst P (sym (gone n)) tt;
  count = none;
  chained = chained_same (λ n q. None) (key_at frames) heads nodes (λ queue. []) (λ queue. []) (λ n q. ap (λ o. key_in o q) (gone n)) (λ queue. refl) (chained (λ queue. []));
  turned = let P : Frames → Type 0 = λ t. AreTurns no_state t in
      subst P (sym no_turns) (turns_none no_state (λ n frame live. let never : None ≡ Some frame = live in absurd (cc)));
}
