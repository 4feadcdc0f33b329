-- What is kept of the active frames agrees with the state after each call.
use Rattle.std.proofs.Common.{◌≡◌, ◌≢◌, ℕ, ◌<◌, Bool, true, false, ◌==◌, Option, Some, None, [], length, refl, sym, ap, subst, ◌∙◌, inl, inr, rules}
use Rattle.std.proofs.lemmas.Bool.{cases_eq}
use Rattle.std.specs.Option.{option_map}
use Rattle.std.specs.Prelude.{slice_get, is_some, IsSome, if◌then◌else◌}
use Rattle.swan_model.specs.QueueState.{ActiveFrame, QueueMaker, QueueState, active, root_frame, new_state}
use Rattle.swan_model.proofs.Elements.{some_is, some_of}
use Rattle.queues.specs.Tree.{IsTree, has_queue}
use Rattle.queue_book.specs.declared.live_frame.OwnChunk.{OwnChunk}
use Rattle.queue_book.specs.declared.live_frames.LiveFrames.{LiveFrames}
use Rattle.queue_book.specs.KeptFrames.{KeptFrame, own_chunk_in}
use Rattle.queue_book.specs.Live.{kept_of, key_in, key_at, own_chunk_at, own_chunk_of, Agrees, AreLive, IsFrameKept}
use Rattle.pop_order.specs.OneChange.{IsOnlyChange}

-- the makers of older queues are the same
abbrev pub SameMakers : QueueState → QueueState → Type 0
SameMakers state after = (queue : ℕ) (maker : QueueMaker) → queue < length state.makers → slice_get after.makers queue ≡ Some maker → slice_get state.makers queue ≡ Some maker

pub kept_active : (state : QueueState) (kept : Option KeptFrame) (found : Option ActiveFrame) (frame : ActiveFrame) → Agrees state kept found → found ≡ Some frame
    → (one : KeptFrame) × (kept ≡ Some one) × IsFrameKept state one frame
kept_active state None None frame is e = let never : None ≡ Some frame = e in absurd (cc)
kept_active state (Some one) (Some first) frame is e = let same : first ≡ frame = cc in let P : ActiveFrame → Type 0 = λ f. IsFrameKept state one f in (one, refl, subst P same is)
kept_active state None (Some first) frame is e = absurd is
kept_active state (Some one) None frame is e = absurd is

pub active_kept : (state : QueueState) (kept : Option KeptFrame) (found : Option ActiveFrame) (one : KeptFrame) → Agrees state kept found → kept ≡ Some one
    → (frame : ActiveFrame) × (found ≡ Some frame) × IsFrameKept state one frame
active_kept state None None one is e = let never : None ≡ Some one = e in absurd (cc)
active_kept state (Some first) (Some frame) one is e = let same : first ≡ one = cc in let P : KeptFrame → Type 0 = λ k. IsFrameKept state k frame in (frame, refl, subst P same is)
active_kept state None (Some first) one is e = absurd is
active_kept state (Some first) None one is e = absurd is

-- the frame that is kept of a number, where it is active
pub kept_live : (state : QueueState) (frames : LiveFrames) → AreLive state frames → (n : ℕ) (frame : ActiveFrame) → active state n ≡ Some frame
    → (one : KeptFrame) × (kept_of frames n ≡ Some one) × IsFrameKept state one frame
kept_live state frames live n frame e = kept_active state (kept_of frames n) (active state n) frame (live n) e

pub live_kept : (state : QueueState) (frames : LiveFrames) → AreLive state frames → (n : ℕ) (one : KeptFrame) → kept_of frames n ≡ Some one
    → (frame : ActiveFrame) × (active state n ≡ Some frame) × IsFrameKept state one frame
live_kept state frames live n one e = active_kept state (kept_of frames n) (active state n) one (live n) e

-- an active frame is kept
pub active_there : (state : QueueState) (frames : LiveFrames) → AreLive state frames → (n : ℕ) (frame : ActiveFrame) → active state n ≡ Some frame → IsSome (kept_of frames n)
active_there state frames live n frame e =
    let one = kept_live state frames live n frame e in
    some_is (kept_of frames n) one.0 one.1

-- and so is one that has an own chunk
pub placed_there : (frames : LiveFrames) (n queue : ℕ) (own_chunk : OwnChunk) → own_chunk_at frames n queue ≡ Some own_chunk → IsSome (kept_of frames n)
placed_there frames n queue own_chunk e = by (kept_of frames n) e where
  by : (o : Option KeptFrame) → own_chunk_of o queue ≡ Some own_chunk → IsSome o
  by None h = let never : None ≡ Some own_chunk = h in absurd (cc)
  by (Some one) h = refl

-- where a frame has an own chunk, it has the queue
pub own_chunk_has : (state : QueueState) (one : KeptFrame) (frame : ActiveFrame) (queue : ℕ) (own_chunk : OwnChunk) → IsFrameKept state one frame → own_chunk_in one.own_chunks queue ≡ Some own_chunk
    → has_queue frame queue ≡ true
own_chunk_has state one frame queue own_chunk is e = sym (is.own_chunks queue) ∙ ap is_some e

pub has_own_chunk : (state : QueueState) (one : KeptFrame) (frame : ActiveFrame) (queue : ℕ) → IsFrameKept state one frame → has_queue frame queue ≡ true
    → (own_chunk : OwnChunk) × (own_chunk_in one.own_chunks queue ≡ Some own_chunk)
has_own_chunk state one frame queue is has = some_of (own_chunk_in one.own_chunks queue) (is.own_chunks queue ∙ has)

pub key_has : (state : QueueState) (frames : LiveFrames) → AreLive state frames → (n queue key : ℕ) → key_at frames n queue ≡ Some key
    → (frame : ActiveFrame) × (active state n ≡ Some frame) × (has_queue frame queue ≡ true)
key_has state frames live n queue key e = by_kept (kept_of frames n) refl e where
  by_own_chunk : (one : KeptFrame) → kept_of frames n ≡ Some one → (o : Option OwnChunk) → own_chunk_in one.own_chunks queue ≡ o → option_map (λ (own_chunk : OwnChunk). own_chunk.key) o ≡ Some key
      → (frame : ActiveFrame) × (active state n ≡ Some frame) × (has_queue frame queue ≡ true)
  by_own_chunk one is None none h = let never : None ≡ Some key = h in absurd (cc)
  by_own_chunk one is (Some own_chunk) some h =
      let frame = live_kept state frames live n one is in
      (frame.0, frame.1, own_chunk_has state one frame.0 queue own_chunk frame.2 some)

  by_kept : (o : Option KeptFrame) → kept_of frames n ≡ o → key_in o queue ≡ Some key → (frame : ActiveFrame) × (active state n ≡ Some frame) × (has_queue frame queue ≡ true)
  by_kept None none h = let never : None ≡ Some key = h in absurd (cc)
  by_kept (Some one) is h = by_own_chunk one is (own_chunk_in one.own_chunks queue) refl h

pub kept_none : (state : QueueState) (frames : LiveFrames) → AreLive state frames → (n : ℕ) → active state n ≡ None → kept_of frames n ≡ None
kept_none state frames live n none = by_kept (kept_of frames n) refl where
  by_kept : (o : Option KeptFrame) → kept_of frames n ≡ o → o ≡ None
  by_kept None e = refl
  by_kept (Some one) e =
      let frame = live_kept state frames live n one e in
      let never : None ≡ Some frame.0 = sym none ∙ frame.1 in absurd (cc)

pub key_none : (state : QueueState) (frames : LiveFrames) → AreLive state frames → (n queue : ℕ)
    → ((frame : ActiveFrame) → active state n ≡ Some frame → has_queue frame queue ≡ true → ⊥) → key_at frames n queue ≡ None
key_none state frames live n queue none = by_key (key_at frames n queue) refl where
  by_key : (o : Option ℕ) → key_at frames n queue ≡ o → o ≡ None
  by_key None e = refl
  by_key (Some key) e = let has = key_has state frames live n queue key e in absurd (none has.0 has.1 has.2)

pub has_key : (state : QueueState) (frames : LiveFrames) → AreLive state frames → (n queue : ℕ) (frame : ActiveFrame) → active state n ≡ Some frame → has_queue frame queue ≡ true
    → (one : KeptFrame) × (kept_of frames n ≡ Some one) × IsFrameKept state one frame × (own_chunk : OwnChunk) × (own_chunk_in one.own_chunks queue ≡ Some own_chunk)
has_key state frames live n queue frame e has =
    let one = kept_live state frames live n frame e in
    let own_chunk = has_own_chunk state one.0 frame queue one.2 has in
    (one.0, one.1, one.2, own_chunk.0, own_chunk.1)

-- an own chunk tells the key
pub key_of : (frames : LiveFrames) (n queue : ℕ) (own_chunk : OwnChunk) → own_chunk_at frames n queue ≡ Some own_chunk → key_at frames n queue ≡ Some own_chunk.key
key_of frames n queue own_chunk e = by (kept_of frames n) e where
  by : (o : Option KeptFrame) → own_chunk_of o queue ≡ Some own_chunk → key_in o queue ≡ Some own_chunk.key
  by None h = let never : None ≡ Some own_chunk = h in absurd (cc)
  by (Some one) h = ap (option_map (λ (p : OwnChunk). p.key)) h

pub own_chunk_of_key : (frames : LiveFrames) (n queue : ℕ) (one : KeptFrame) (own_chunk : OwnChunk) → kept_of frames n ≡ Some one → own_chunk_in one.own_chunks queue ≡ Some own_chunk → own_chunk_at frames n queue ≡ Some own_chunk
own_chunk_of_key frames n queue one own_chunk is at = ap (λ o. own_chunk_of o queue) is ∙ at

-- ---- after a call

-- a change of what is kept of one frame, where something is kept of it
pub kept_changed : (frames after : LiveFrames) (n : ℕ) (kept : KeptFrame) (change : KeptFrame → KeptFrame) → kept_of frames n ≡ Some kept
    → IsOnlyChange (kept_of frames) (kept_of after) n (option_map change (kept_of frames n)) → IsOnlyChange (kept_of frames) (kept_of after) n (Some (change kept))
kept_changed frames after n kept change is one = subst (IsOnlyChange (kept_of frames) (kept_of after) n) (ap (option_map change) is) one

pub frame_on : (state after : QueueState) (one : KeptFrame) (frame : ActiveFrame) → SameMakers state after → ((queue : ℕ) → has_queue frame queue ≡ true → queue < length state.makers)
    → IsFrameKept state one frame → IsFrameKept after one frame
frame_on state after one frame same known is = record {
  deeds = is.deeds;
  lent = is.lent;
  own_chunks = is.own_chunks;
  made = λ queue own_chunk maker at made. is.made queue own_chunk maker at (same queue maker (known queue (own_chunk_has state one frame queue own_chunk is at)) made);
  given = λ queue own_chunk maker at made. is.given queue own_chunk maker at (same queue maker (known queue (own_chunk_has state one frame queue own_chunk is at)) made);
  pushers = is.pushers;
}

pub agrees_on : (state after : QueueState) (kept : Option KeptFrame) (found : Option ActiveFrame) → SameMakers state after
    → ((frame : ActiveFrame) → found ≡ Some frame → (queue : ℕ) → has_queue frame queue ≡ true → queue < length state.makers)
    → Agrees state kept found → Agrees after kept found
agrees_on state after None None same known is = tt
agrees_on state after (Some one) (Some frame) same known is = frame_on state after one frame same (known frame refl) is
agrees_on state after None (Some frame) same known is = absurd is
agrees_on state after (Some one) None same known is = absurd is

module _ (state after : QueueState) (tree : IsTree state) (frames then_frames : LiveFrames) (live : AreLive state frames) (n : ℕ) (same : SameMakers state after) where
  live_other : (kept : Option KeptFrame) (found : Option ActiveFrame) → IsOnlyChange (kept_of frames) (kept_of then_frames) n kept → IsOnlyChange (active state) (active after) n found → (m : ℕ) → m ≢ n → Agrees after (kept_of then_frames m) (active after m)
  live_other kept found one only m other =
      let P : Option KeptFrame → Type 0 = λ o. Agrees after o (active after m) in
      let Q : Option ActiveFrame → Type 0 = λ o. Agrees after (kept_of frames m) o in
      subst P (sym (one.others m other)) (subst Q (sym (only.others m other)) (agrees_on state after (kept_of frames m) (active state m) same
      (λ frame is queue has. (tree.held m queue frame is has).0) (live m)))

  pub live_one : (kept : KeptFrame) (frame : ActiveFrame) → IsOnlyChange (kept_of frames) (kept_of then_frames) n (Some kept) → IsOnlyChange (active state) (active after) n (Some frame) → IsFrameKept after kept frame → AreLive after then_frames
  live_one kept frame one only is m = elim (cases_eq m n) [
    | inl here ↦
        let P : ℕ → Type 0 = λ k. Agrees after (kept_of then_frames k) (active after k) in
        let Q : Option KeptFrame → Type 0 = λ o. Agrees after o (active after n) in
        let R : Option ActiveFrame → Type 0 = λ o. Agrees after (Some kept) o in
        subst P (sym here) (subst Q (sym one.changed) (subst R (sym only.changed) is))
    | inr other ↦ live_other (Some kept) (Some frame) one only m other
  ]

  pub live_gone : IsOnlyChange (kept_of frames) (kept_of then_frames) n None → IsOnlyChange (active state) (active after) n None → AreLive after then_frames
  live_gone one only m = elim (cases_eq m n) [
    | inl here ↦
        let P : ℕ → Type 0 = λ k. Agrees after (kept_of then_frames k) (active after k) in
        let Q : Option KeptFrame → Type 0 = λ o. Agrees after o (active after n) in
        let R : Option ActiveFrame → Type 0 = λ o. Agrees after None o in
        subst P (sym here) (subst Q (sym one.changed) (subst R (sym only.changed) tt))
    | inr other ↦ live_other None None one only m other
  ]

pub live_new : (frames : LiveFrames) → kept_of frames 0 ≡ Some (record { deeds = 0; is_lent = false; own_chunks = [] }) → ((n : ℕ) → n ≢ 0 → kept_of frames n ≡ None) → AreLive new_state frames
live_new frames root others m = elim (cases_eq m 0) [
  | inl here ↦
      let P : ℕ → Type 0 = λ k. Agrees new_state (kept_of frames k) (active new_state k) in
      let Q : Option KeptFrame → Type 0 = λ o. Agrees new_state o (active new_state 0) in
      subst P (sym here) (subst Q (sym root) (record {
        deeds = refl;
        lent = refl;
        own_chunks = λ queue. refl;
        made = λ queue own_chunk maker at. let never : None ≡ Some own_chunk = at in absurd (cc);
        given = λ queue own_chunk maker at. let never : None ≡ Some own_chunk = at in absurd (cc);
        pushers = λ queue own_chunk at. let never : None ≡ Some own_chunk = at in absurd (cc);
      }))
  | inr other ↦
      let P : Option KeptFrame → Type 0 = λ o. Agrees new_state o (active new_state m) in
      let b : (0 == m) ≡ false = let ne : 0 ≢ m = λ e. other (sym e) in search rules in
      let Q : Bool → Type 0 = λ c. Agrees new_state None (if c then Some root_frame else None) in
      subst P (sym (others m other)) (subst Q (sym b) tt)
]

-- the own chunks of a frame stay, and so do all keys
pub keys_same : (frames then_frames : LiveFrames) (n : ℕ) (was now : KeptFrame) → kept_of frames n ≡ Some was → IsOnlyChange (kept_of frames) (kept_of then_frames) n (Some now) → now.own_chunks ≡ was.own_chunks
    → (m queue : ℕ) → key_at then_frames m queue ≡ key_at frames m queue
keys_same frames then_frames n was now is one own_chunks m queue = elim (cases_eq m n) [
  | inl here ↦
      ap (λ k. key_at then_frames k queue) here ∙ ap (λ o. key_in o queue) one.changed
      ∙ ap (λ ps. option_map (λ (own_chunk : OwnChunk). own_chunk.key) (own_chunk_in ps queue)) own_chunks ∙ sym (ap (λ o. key_in o queue) is) ∙ ap (λ k. key_at frames k queue) (sym here)
  | inr other ↦ ap (λ o. key_in o queue) (one.others m other)
]
