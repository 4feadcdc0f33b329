-- What is kept while a child is given its queues, one after another.
use Rattle.std.proofs.Common.{◌≡◌, ◌≢◌, ℕ, true, false, Option, Some, None, List, [], ◌∷◌, ◌++◌, take, refl, sym, ap, subst, ◌∙◌, inl, inr, arith}
use Rattle.std.proofs.lemmas.Bool.{cases_eq}
use Rattle.std.specs.Prelude.{slice_get, is_some, IsSome}
use Rattle.slab.specs.Slab.{ContainsKey, Slab}
use Rattle.pop_order.specs.Frames.{Frames, frames_after_enlist, AreUpTo, MayBeEnlisted}
use Rattle.swan_model.specs.declared.rights.Mode.TheVariants.{Push}
use Rattle.swan_model.specs.QueueState.{QueueRight}
use Rattle.swan_model.specs.Rights.{allows}
use Rattle.queues.specs.Chunks.{Chunks}
use Rattle.queue_book.specs.Chains.{Link, AreChained}
use Rattle.queue_book.specs.Ended.{own_keys}
use Rattle.queue_book.specs.Handed.{lines_after_gives, AreGiven, IsHandedIn}
use Rattle.queues.specs.Turned.{gives_queue, holding_of, AreGivenTurns}
use Rattle.queue_book.specs.KeptFrames.{OwnChunks, own_chunk_in}
use Rattle.queue_book.specs.Live.{key_at, own_chunk_at, own_chunk_of}
use Rattle.queue_book.specs.Spawned.{MayHandOn}
use Rattle.queue_book.specs.declared.live_frame.OwnChunk.{OwnChunk}
use Rattle.queue_book.specs.declared.live_frames.LiveFrames.{LiveFrames}
use Rattle.queue_book.proofs.ChainChanges.{chained_same}
use Rattle.queue_book.proofs.ChainEnds.{own_keys_elsewhere, own_keys_here}
use Rattle.queue_book.proofs.LiveKept.{key_of}
use Rattle.swan_model.proofs.Elements.{some_of}
use Rattle.queue_book.proofs.Giving.{step_chained, step_fresh, step_given, step_moved, step_others, step_pushers}
use Rattle.queues.proofs.GivingTurns.{fresh_at, given_at, turns_given_more, turns_given_none, turns_may_get, turns_newest}

-- before the first give
pub given_none : (before : LiveFrames) (parent child : ℕ) (all : List QueueRight) (heads : List (Option ℕ)) (nodes : Slab Link) (turns : Frames) → MayHandOn before turns parent child all
    → AreGiven before before parent child [] [] heads nodes nodes turns turns
given_none before parent child all heads nodes turns may = record {
  others = λ other apart. refl;
  moved = λ kept at. (kept, at, record { deeds = refl; lent = refl; own_chunks = λ q. refl; makers = λ q own_chunk found. (own_chunk, found, refl, refl) });
  given = λ q. refl;
  fresh = λ q own_chunk at. let never : None ≡ Some own_chunk = at in absurd (cc);
  pushers = λ q own_chunk at. let never : None ≡ Some own_chunk = at in absurd (cc);
  chained = λ lines is free.
      chained_same (key_at before) (own_keys child [] (key_at before)) heads nodes lines (lines_after_gives parent child [] lines) (keys free) (λ q. refl) is;
  turned = turns_given_none turns parent child may.newest;
} where
  keys : ((q : ℕ) → key_at before child q ≡ None) → (m q : ℕ) → own_keys child [] (key_at before) m q ≡ key_at before m q
  keys free m q = elim (cases_eq m child) [
    | inl same ↦ ap (λ k. own_keys child [] (key_at before) k q) same ∙ own_keys_here child [] (key_at before) q ∙ sym (free q) ∙ sym (ap (λ k. key_at before k q) same)
    | inr apart ↦ own_keys_elsewhere child [] (key_at before) m q apart
  ]

module _ (before now : LiveFrames) (parent child : ℕ) (all : List QueueRight) (i : ℕ) (give : QueueRight) (own_chunks : OwnChunks) (heads : List (Option ℕ)) (nodes now_nodes : Slab Link)
    (turns now_turns : Frames) (may : MayHandOn before turns parent child all) (at : slice_get all i ≡ Some give)
    (is : AreGiven before now parent child (take i all) own_chunks heads nodes now_nodes turns now_turns) where
  fresh : gives_queue (take i all) give.queue ≡ false
  fresh = fresh_at may.frame all may.lawful i give at

  two : parent ≢ child
  two same = let less = may.rising in omega arith

  pub has_now : (own_chunk : OwnChunk) × (own_chunk_at now parent give.queue ≡ Some own_chunk)
  has_now =
      let was = is.moved may.kept may.live in
      let some : is_some (own_chunk_in was.0.own_chunks give.queue) ≡ true = was.2.own_chunks give.queue ∙ may.has give.queue (given_at all i give at) in
      let found = some_of (own_chunk_in was.0.own_chunks give.queue) some in
      (found.0, ap (λ o. own_chunk_of o give.queue) was.1 ∙ found.1)

  -- its node
  pub stands_now : (lines : ℕ → Chunks) → AreChained (key_at before) heads nodes lines → ((q : ℕ) → key_at before child q ≡ None)
      → (own_chunk : OwnChunk) → own_chunk_at now parent give.queue ≡ Some own_chunk → ContainsKey now_nodes own_chunk.key
  stands_now lines chained free own_chunk found =
      let key : own_keys child own_chunks (key_at now) parent give.queue ≡ Some own_chunk.key =
      own_keys_elsewhere child own_chunks (key_at now) parent give.queue two ∙ key_of now parent give.queue own_chunk found in
      let node = (is.chained lines chained free).owned parent give.queue own_chunk.key key in
      subst IsSome (sym node.1) refl

  pub newest_now : AreUpTo now_turns child
  newest_now = turns_newest turns now_turns parent child (take i all) may.newest may.apart is.turned

  pub may_get_now : MayBeEnlisted now_turns parent child give.queue
  may_get_now = turns_may_get turns now_turns parent child (take i all) is.turned give.queue fresh

  -- one more
  pub given_more : (after : LiveFrames) (then_own_chunks : OwnChunks) (then_nodes : Slab Link) (then_turns : Frames)
      → IsHandedIn now after parent child give.queue (allows give.mode Push) own_chunks then_own_chunks heads now_nodes then_nodes
      → then_turns ≡ frames_after_enlist now_turns parent child (holding_of give)
      → AreGiven before after parent child (take i all ++ give ∷ []) then_own_chunks heads nodes then_nodes turns then_turns
  given_more after then_own_chunks then_nodes then_turns handed turned = record {
    others = step_others before now after parent child (take i all) give own_chunks then_own_chunks heads nodes now_nodes then_nodes turns now_turns is handed fresh two may.kept may.live;
    moved = λ kept found. step_moved before now after parent child (take i all) give own_chunks then_own_chunks heads nodes now_nodes then_nodes turns now_turns is handed fresh two kept found;
    given = step_given before now after parent child (take i all) give own_chunks then_own_chunks heads nodes now_nodes then_nodes turns now_turns is handed fresh two may.kept may.live;
    fresh = step_fresh before now after parent child (take i all) give own_chunks then_own_chunks heads nodes now_nodes then_nodes turns now_turns is handed fresh two may.kept may.live;
    pushers = step_pushers before now after parent child (take i all) give own_chunks then_own_chunks heads nodes now_nodes then_nodes turns now_turns is handed fresh two may.kept may.live;
    chained = step_chained before now after parent child (take i all) give own_chunks then_own_chunks heads nodes now_nodes then_nodes turns now_turns is handed fresh two may.kept may.live;
    turned = let P : Frames → Type 0 = λ ts. AreGivenTurns turns ts parent child (take i all ++ give ∷ []) in
        subst P (sym turned) (turns_given_more turns now_turns parent child (take i all) is.turned give);
  }
