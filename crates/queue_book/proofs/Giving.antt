-- One more queue that a child is given keeps what is kept meanwhile.
use Rattle.std.proofs.Common.{◌≡◌, ◌≢◌, ℕ, true, false, not, ◌==◌, Option, Some, None, List, [], ◌∷◌, ◌++◌, refl, sym, ap, ◌∙◌, ◌⊎◌, inl, inr}
use Rattle.std.proofs.lemmas.Bool.{cases_eq, eq-eqb, ne_eqb}
use Rattle.std.specs.Option.{option_map}
use Rattle.std.specs.Prelude.{is_some, if◌then◌else◌}
use Rattle.slab.specs.Slab.{Slab}
use Rattle.pop_order.specs.Frames.{Frames}
use Rattle.swan_model.specs.declared.rights.Mode.TheVariants.{Push}
use Rattle.swan_model.specs.QueueState.{QueueRight}
use Rattle.swan_model.specs.Rights.{allows}
use Rattle.queues.specs.Chunks.{Chunks, after_hand_on}
use Rattle.queue_book.specs.Chains.{Link, AreChained, in_line, put_at}
use Rattle.queue_book.specs.Ended.{own_keys}
use Rattle.queue_book.specs.Handed.{gives_push, lines_after_gives, AreGiven, IsHandedIn, IsMoved}
use Rattle.queues.specs.Turned.{gives_queue}
use Rattle.queue_book.specs.KeptFrames.{KeptFrame, OwnChunks, own_chunk_in}
use Rattle.queue_book.specs.Live.{kept_of, key_at, key_in, own_chunk_of, with_own_chunk}
use Rattle.queue_book.specs.declared.live_frame.OwnChunk.{OwnChunk}
use Rattle.queue_book.specs.declared.live_frames.LiveFrames.{LiveFrames}
use Rattle.queue_book.proofs.ChainChanges.{chained_same, put_other, put_same}
use Rattle.queue_book.proofs.ChainEnds.{own_keys_elsewhere, own_keys_here}
use Rattle.queue_book.proofs.ChainLoops.{line_is}
use Rattle.queue_book.proofs.GivenPushes.{push_now, push_other}
use Rattle.queue_book.proofs.LiveKept.{kept_changed, key_of}
use Rattle.queue_book.proofs.LivePut.{keys_put, own_chunk_elsewhere, own_chunk_here}
use Rattle.swan_model.proofs.Lookups.{at_inserted, by_inserted}
use Rattle.swan_model.proofs.Elements.{any_before, any_last, none_is}

pub given_now : (gives : List QueueRight) (give : QueueRight) → gives_queue (gives ++ give ∷ []) give.queue ≡ true
given_now gives give = any_last (λ (r : QueueRight). r.queue == give.queue) gives give (eq-eqb give.queue give.queue refl)

pub given_other : (gives : List QueueRight) (give : QueueRight) (q : ℕ) → q ≢ give.queue → gives_queue (gives ++ give ∷ []) q ≡ gives_queue gives q
given_other gives give q other = any_before (λ (r : QueueRight). r.queue == q) gives give (ne_eqb give.queue q (λ same. other (sym same)))

moved_put : (before now : KeptFrame) (queue new : ℕ) (own_chunk : OwnChunk) → IsMoved before now → own_chunk_in now.own_chunks queue ≡ Some own_chunk
    → IsMoved before (with_own_chunk queue (record { key = new; is_maker = own_chunk.is_maker; pushes = own_chunk.pushes }) now)
moved_put before now queue new own_chunk is was = record {
  deeds = is.deeds;
  lent = is.lent;
  own_chunks = λ q. elim (cases_eq q queue) [
    | inl here ↦
        ap (λ k. is_some (own_chunk_in (with_own_chunk queue (record { key = new; is_maker = own_chunk.is_maker; pushes = own_chunk.pushes }) now).own_chunks k)) here ∙ ap is_some (own_chunk_here now queue (record { key = new; is_maker = own_chunk.is_maker; pushes = own_chunk.pushes }))
        ∙ sym (ap is_some was) ∙ is.own_chunks queue ∙ sym (ap (λ k. is_some (own_chunk_in before.own_chunks k)) here)
    | inr other ↦ ap is_some (own_chunk_elsewhere now queue (record { key = new; is_maker = own_chunk.is_maker; pushes = own_chunk.pushes }) q other) ∙ is.own_chunks q
  ];
  makers = λ q one at. elim (cases_eq q queue) [
    | inl here ↦
        let both : Some one ≡ Some (record { key = new; is_maker = own_chunk.is_maker; pushes = own_chunk.pushes }) = sym at ∙ ap (λ k. own_chunk_in (with_own_chunk queue (record { key = new; is_maker = own_chunk.is_maker; pushes = own_chunk.pushes }) now).own_chunks k) here ∙ own_chunk_here now queue (record { key = new; is_maker = own_chunk.is_maker; pushes = own_chunk.pushes }) in
        let same : one ≡ record { key = new; is_maker = own_chunk.is_maker; pushes = own_chunk.pushes } = cc in
        let old = is.makers queue own_chunk was in
        (old.0, ap (λ k. own_chunk_in before.own_chunks k) here ∙ old.1, ap (λ (p : OwnChunk). p.is_maker) same ∙ old.2, ap (λ (p : OwnChunk). p.pushes) same ∙ old.3)
    | inr other ↦ is.makers q one (sym (own_chunk_elsewhere now queue (record { key = new; is_maker = own_chunk.is_maker; pushes = own_chunk.pushes }) q other) ∙ at)
  ];
}

module _ (before now after : LiveFrames) (parent child : ℕ) (gives : List QueueRight) (give : QueueRight) (own_chunks then_own_chunks : OwnChunks) (heads : List (Option ℕ))
    (nodes now_nodes then_nodes : Slab Link) (turns now_turns : Frames) (is : AreGiven before now parent child gives own_chunks heads nodes now_nodes turns now_turns)
    (handed : IsHandedIn now after parent child give.queue (allows give.mode Push) own_chunks then_own_chunks heads now_nodes then_nodes) (fresh : gives_queue gives give.queue ≡ false) (two : parent ≢ child)
    (kept : KeptFrame) (at_first : kept_of before parent ≡ Some kept) where
  q : ℕ
  q = give.queue

  pub step_others : (other : ℕ) → other ≢ parent → kept_of after other ≡ kept_of before other
  step_others other apart = handed.parent_now.others other apart ∙ is.others other apart

  pub step_moved : (one : KeptFrame) × (kept_of after parent ≡ Some one) × IsMoved kept one
  step_moved =
      let was = is.moved kept at_first in
      let at : own_chunk_in was.0.own_chunks give.queue ≡ Some handed.own_chunk = ap (λ o. own_chunk_of o give.queue) (sym was.1) ∙ handed.was in (
        with_own_chunk give.queue (record { key = handed.new; is_maker = handed.own_chunk.is_maker; pushes = handed.own_chunk.pushes }) was.0,
        handed.parent_now.changed ∙ ap (option_map (with_own_chunk give.queue (record { key = handed.new; is_maker = handed.own_chunk.is_maker; pushes = handed.own_chunk.pushes }))) was.1,
        moved_put kept was.0 give.queue handed.new handed.own_chunk was.2 at,
      )

  pub step_given : (p : ℕ) → is_some (own_chunk_in then_own_chunks p) ≡ gives_queue (gives ++ give ∷ []) p
  step_given p = elim (cases_eq p give.queue) [
    | inl here ↦
        ap (λ k. is_some (own_chunk_in then_own_chunks k)) here ∙ ap (λ ps. is_some (own_chunk_in ps give.queue)) handed.child_now
        ∙ ap is_some (at_inserted own_chunks give.queue (record { key = handed.own_chunk.key; is_maker = false; pushes = allows give.mode Push })) ∙ sym (given_now gives give)
        ∙ sym (ap (λ k. gives_queue (gives ++ give ∷ []) k) here)
    | inr other ↦
        ap (λ ps. is_some (own_chunk_in ps p)) handed.child_now ∙ ap is_some (by_inserted own_chunks give.queue (record { key = handed.own_chunk.key; is_maker = false; pushes = allows give.mode Push }) p other)
        ∙ is.given p ∙ sym (given_other gives give p other)
  ]

  pub step_fresh : (p : ℕ) (own_chunk : OwnChunk) → own_chunk_in then_own_chunks p ≡ Some own_chunk → own_chunk.is_maker ≡ false
  step_fresh p own_chunk at = elim (cases_eq p give.queue) [
    | inl here ↦
        let both : Some own_chunk ≡ Some (record { key = handed.own_chunk.key; is_maker = false; pushes = allows give.mode Push }) =
        sym at ∙ ap (λ k. own_chunk_in then_own_chunks k) here ∙ ap (λ ps. own_chunk_in ps give.queue) handed.child_now
        ∙ at_inserted own_chunks give.queue (record { key = handed.own_chunk.key; is_maker = false; pushes = allows give.mode Push }) in
        let same : own_chunk ≡ record { key = handed.own_chunk.key; is_maker = false; pushes = allows give.mode Push } = cc in
        ap (λ (chunk : OwnChunk). chunk.is_maker) same
    | inr other ↦
        is.fresh p own_chunk (sym (by_inserted own_chunks give.queue (record { key = handed.own_chunk.key; is_maker = false; pushes = allows give.mode Push }) p other)
        ∙ ap (λ ps. own_chunk_in ps p) (sym handed.child_now) ∙ at)
  ]

  pub step_pushers : (p : ℕ) (own_chunk : OwnChunk) → own_chunk_in then_own_chunks p ≡ Some own_chunk → own_chunk.pushes ≡ gives_push (gives ++ give ∷ []) p
  step_pushers p own_chunk at = elim (cases_eq p give.queue) [
    | inl here ↦
        let both : Some own_chunk ≡ Some (record { key = handed.own_chunk.key; is_maker = false; pushes = allows give.mode Push }) =
        sym at ∙ ap (λ k. own_chunk_in then_own_chunks k) here ∙ ap (λ ps. own_chunk_in ps give.queue) handed.child_now
        ∙ at_inserted own_chunks give.queue (record { key = handed.own_chunk.key; is_maker = false; pushes = allows give.mode Push }) in
        let same : own_chunk ≡ record { key = handed.own_chunk.key; is_maker = false; pushes = allows give.mode Push } = cc in
        ap (λ (chunk : OwnChunk). chunk.pushes) same ∙ sym (ap (gives_push (gives ++ give ∷ [])) here ∙ push_now gives give fresh)
    | inr other ↦
        is.pushers p own_chunk (sym (by_inserted own_chunks give.queue (record { key = handed.own_chunk.key; is_maker = false; pushes = allows give.mode Push }) p other)
        ∙ ap (λ ps. own_chunk_in ps p) (sym handed.child_now) ∙ at) ∙ sym (push_other gives give p other)
  ]

  lines_step : (lines : ℕ → Chunks) (p : ℕ) → lines_after_gives parent child (gives ++ give ∷ []) lines p ≡ in_line give.queue (after_hand_on parent child) (lines_after_gives parent child gives lines) p
  lines_step lines p = sym (line_is give.queue (after_hand_on parent child) (lines_after_gives parent child gives lines) (lines_after_gives parent child (gives ++ give ∷ []) lines)
      (ap (λ b. if b then after_hand_on parent child (lines give.queue) else lines give.queue) (given_now gives give)
      ∙ sym (ap (λ b. after_hand_on parent child (if b then after_hand_on parent child (lines give.queue) else lines give.queue)) fresh))
      (λ r other. ap (λ b. if b then after_hand_on parent child (lines r) else lines r) (given_other gives give r other)) p)

  child_free : own_keys child own_chunks (key_at now) child give.queue ≡ None
  child_free = own_keys_here child own_chunks (key_at now) give.queue ∙ ap (option_map (λ (chunk : OwnChunk). chunk.key)) (none_is (own_chunk_in own_chunks give.queue) (ap not (is.given give.queue ∙ fresh)))

  parent_key : own_keys child own_chunks (key_at now) parent give.queue ≡ Some handed.own_chunk.key
  parent_key = own_keys_elsewhere child own_chunks (key_at now) parent give.queue two ∙ key_of now parent give.queue handed.own_chunk handed.was

  keys_step : (m p : ℕ) → own_keys child then_own_chunks (key_at after) m p
      ≡ put_at parent give.queue (Some handed.new) (put_at child give.queue (Some handed.own_chunk.key) (own_keys child own_chunks (key_at now))) m p
  keys_step m p = by (cases_eq m child) (cases_eq m parent) (cases_eq p give.queue) where
    elsewhere : (m ≡ parent → p ≡ give.queue → ⊥) → (m ≡ child → p ≡ give.queue → ⊥)
        → put_at parent give.queue (Some handed.new) (put_at child give.queue (Some handed.own_chunk.key) (own_keys child own_chunks (key_at now))) m p ≡ own_keys child own_chunks (key_at now) m p
    elsewhere a b = put_other parent give.queue (Some handed.new) (put_at child give.queue (Some handed.own_chunk.key) (own_keys child own_chunks (key_at now))) m p a
        ∙ put_other child give.queue (Some handed.own_chunk.key) (own_keys child own_chunks (key_at now)) m p b

    parent_step : (k : ℕ) → key_at after parent k ≡ put_at parent give.queue (Some handed.new) (put_at child give.queue (Some handed.own_chunk.key) (own_keys child own_chunks (key_at now))) parent k
    parent_step k =
        let was = is.moved kept at_first in
        let own_chunk : OwnChunk = record { key = handed.new; is_maker = handed.own_chunk.is_maker; pushes = handed.own_chunk.pushes } in
        let one = kept_changed now after parent was.0 (with_own_chunk give.queue own_chunk) was.1 handed.parent_now in
        keys_put now after parent give.queue own_chunk was.0 was.1 one parent k ∙ (elim (cases_eq k give.queue) [
          | inl here ↦
              ap (λ j. put_at parent give.queue (Some handed.new) (key_at now) parent j) here ∙ put_same parent give.queue (Some handed.new) (key_at now)
              ∙ sym (put_same parent give.queue (Some handed.new) (put_at child give.queue (Some handed.own_chunk.key) (own_keys child own_chunks (key_at now))))
              ∙ sym (ap (λ j. put_at parent give.queue (Some handed.new) (put_at child give.queue (Some handed.own_chunk.key) (own_keys child own_chunks (key_at now))) parent j) here)
          | inr other ↦
              put_other parent give.queue (Some handed.new) (key_at now) parent k (λ e same. other same) ∙ sym (own_keys_elsewhere child own_chunks (key_at now) parent k two)
              ∙ sym (put_other child give.queue (Some handed.own_chunk.key) (own_keys child own_chunks (key_at now)) parent k (λ e same. other same))
              ∙ sym (put_other parent give.queue (Some handed.new) (put_at child give.queue (Some handed.own_chunk.key) (own_keys child own_chunks (key_at now))) parent k (λ e same. other same))
        ])

    by : (m ≡ child) ⊎ (m ≢ child) → (m ≡ parent) ⊎ (m ≢ parent) → (p ≡ give.queue) ⊎ (p ≢ give.queue)
        → own_keys child then_own_chunks (key_at after) m p
        ≡ put_at parent give.queue (Some handed.new) (put_at child give.queue (Some handed.own_chunk.key) (own_keys child own_chunks (key_at now))) m p
    by (inl is_child) ps (inl here) =
        ap (λ k. own_keys child then_own_chunks (key_at after) k p) is_child ∙ own_keys_here child then_own_chunks (key_at after) p
        ∙ ap (λ k. option_map (λ (chunk : OwnChunk). chunk.key) (own_chunk_in then_own_chunks k)) here ∙ ap (λ chunks. option_map (λ (chunk : OwnChunk). chunk.key) (own_chunk_in chunks give.queue)) handed.child_now
        ∙ ap (option_map (λ (chunk : OwnChunk). chunk.key)) (at_inserted own_chunks give.queue (record { key = handed.own_chunk.key; is_maker = false; pushes = allows give.mode Push }))
        ∙ sym (put_other parent give.queue (Some handed.new) (put_at child give.queue (Some handed.own_chunk.key) (own_keys child own_chunks (key_at now))) child give.queue (λ e same. two (sym e))
        ∙ put_same child give.queue (Some handed.own_chunk.key) (own_keys child own_chunks (key_at now)))
        ∙ sym (ap (λ k. put_at parent give.queue (Some handed.new) (put_at child give.queue (Some handed.own_chunk.key) (own_keys child own_chunks (key_at now))) k give.queue) is_child)
        ∙ sym (ap (λ k. put_at parent give.queue (Some handed.new) (put_at child give.queue (Some handed.own_chunk.key) (own_keys child own_chunks (key_at now))) m k) here)
    by (inl is_child) ps (inr other) =
        ap (λ k. own_keys child then_own_chunks (key_at after) k p) is_child ∙ own_keys_here child then_own_chunks (key_at after) p
        ∙ ap (λ chunks. option_map (λ (chunk : OwnChunk). chunk.key) (own_chunk_in chunks p)) handed.child_now
        ∙ ap (option_map (λ (chunk : OwnChunk). chunk.key)) (by_inserted own_chunks give.queue (record { key = handed.own_chunk.key; is_maker = false; pushes = allows give.mode Push }) p other)
        ∙ sym (own_keys_here child own_chunks (key_at now) p) ∙ sym (ap (λ k. own_keys child own_chunks (key_at now) k p) is_child)
        ∙ sym (elsewhere (λ e same. other same) (λ e same. other same))
    by (inr apart) (inl is_parent) ps =
        own_keys_elsewhere child then_own_chunks (key_at after) m p apart ∙ ap (λ k. key_at after k p) is_parent ∙ parent_step p
        ∙ sym (ap (λ k. put_at parent give.queue (Some handed.new) (put_at child give.queue (Some handed.own_chunk.key) (own_keys child own_chunks (key_at now))) k p) is_parent)
    by (inr apart) (inr not_parent) ps =
        own_keys_elsewhere child then_own_chunks (key_at after) m p apart ∙ ap (λ o. key_in o p) (handed.parent_now.others m not_parent) ∙ sym (own_keys_elsewhere child own_chunks (key_at now) m p apart)
        ∙ sym (elsewhere (λ e same. not_parent e) (λ e same. apart e))

  pub step_chained : (lines : ℕ → Chunks) → AreChained (key_at before) heads nodes lines → ((p : ℕ) → key_at before child p ≡ None)
      → AreChained (own_keys child then_own_chunks (key_at after)) heads then_nodes (lines_after_gives parent child (gives ++ give ∷ []) lines)
  step_chained lines chained free =
      chained_same (put_at parent give.queue (Some handed.new) (put_at child give.queue (Some handed.own_chunk.key) (own_keys child own_chunks (key_at now))))
      (own_keys child then_own_chunks (key_at after)) heads then_nodes (in_line give.queue (after_hand_on parent child) (lines_after_gives parent child gives lines))
      (lines_after_gives parent child (gives ++ give ∷ []) lines) keys_step (lines_step lines)
      (handed.chained (own_keys child own_chunks (key_at now)) (lines_after_gives parent child gives lines) (is.chained lines chained free) parent_key child_free)
