-- What holds of hyperqueues in plain form after a queue was made.
use Rattle.std.proofs.Common.{◌≡◌, ℕ, ◌+◌, ◌<◌, true, false, Option, Some, None, List, [], ◌∷◌, ◌++◌, length, refl, sym, ap, subst, ◌∙◌, inl, inr, arith, length-append}
use Rattle.std.proofs.lemmas.Bool.{cases_eq}
use Rattle.std.specs.Option.{option_map}
use Rattle.std.specs.Prelude.{slice_get, is_some, IsSome}
use Rattle.slab.specs.Slab.{Slab}
use Rattle.pop_order.specs.Frames.{Frames}
use Rattle.swan_model.specs.declared.rights.Mode.{Mode}
use Rattle.swan_model.specs.declared.rights.Mode.TheVariants.{Push}
use Rattle.swan_model.specs.declared.script.Deed.TheVariants as deed
use Rattle.swan_model.specs.declared.script.Script.{Script}
use Rattle.swan_model.specs.declared.value.Value.{Value}
use Rattle.swan_model.specs.QueueFollows.{next_queue_deed}
use Rattle.swan_model.specs.QueueState.{ActiveFrame, QueueMaker, planned, made_by, QueueState, active, after_create, after_create_root, holds_queue, with_deed, with_made, IsUntouched}
use Rattle.swan_model.specs.Values.{COUNT_MOST}
use Rattle.queues.specs.Asks.{MayDo, OnNext}
use Rattle.queues.specs.Chunks.{own}
use Rattle.queue_book.specs.Chains.{Link, AreChained, in_line, put_at}
use Rattle.queue_book.specs.KeptFrames.{KeptFrame, own_chunk_in}
use Rattle.queue_book.specs.Live.{kept_of, key_at, lent_of, with_own_chunk, IsFrameKept}
use Rattle.pop_order.specs.OneChange.{IsOnlyChange}
use Rattle.queue_book.specs.Made.{IsMadeIn}
use Rattle.queues.specs.Tree.{has_queue, maker_path}
use Rattle.queue_book.specs.Whole.{IsBook, IsPlain}
use Rattle.queue_book.specs.declared.live_frame.OwnChunk.{OwnChunk}
use Rattle.queue_book.specs.declared.live_frames.LiveFrames.{LiveFrames}
use Rattle.queues.proofs.ActiveAfter.{one_changed, one_goes_on}
use Rattle.queue_book.proofs.BookDeeds.{counted, lent_none, not_lent}
use Rattle.queue_book.proofs.ChainChanges.{chained_same}
use Rattle.swan_model.proofs.Elements.{more_cases, last_more, one_answer, some_is}
use Rattle.queue_book.proofs.LiveKept.{kept_changed, kept_live, key_none, keys_same, live_one, own_chunk_has}
use Rattle.queue_book.proofs.LivePut.{keys_put, own_chunk_elsewhere, own_chunk_here, own_chunks_made}
use Rattle.queues.proofs.Making.{holds_before}
use Rattle.queues.proofs.TurnsMade.{turns_made}
use Rattle.queue_book.proofs.OpenOwners.{pushes_made}
use Rattle.queue_book.proofs.PlainMade.{plain_create, plain_create_root}

module _ (name : Option Script) (state after : QueueState) (frames : LiveFrames) (heads : List (Option ℕ)) (nodes : Slab Link) (turns : Frames) (is : IsBook name state frames heads nodes turns)
    (n : ℕ) (frame later : ActiveFrame) (maker : QueueMaker) (live : active state n ≡ Some frame) (only : IsOnlyChange (active state) (active after) n (Some later))
    (makers : after.makers ≡ state.makers ++ maker ∷ []) (parent : later.parent ≡ frame.parent) (path : later.path ≡ frame.path) (rights : later.rights ≡ (with_made (length state.makers) frame).rights)
    (own_maker : frame.path ≡ maker_path maker) where
  i : ℕ
  i = length state.makers

  old_maker : (q : ℕ) (one : QueueMaker) → q < length state.makers → slice_get after.makers q ≡ Some one → slice_get state.makers q ≡ Some one
  old_maker q one less at =
      elim (more_cases state.makers maker q one (ap (λ (ms : List QueueMaker). slice_get ms q) (sym makers) ∙ at)) [ inl old ↦ old | inr new ↦ let is_last = new.0 in absurd (omega arith) ]

  new_maker : (one : QueueMaker) → slice_get after.makers (length state.makers) ≡ Some one → one ≡ maker
  new_maker one at =
      let both : Some one ≡ Some maker = sym at ∙ ap (λ (ms : List QueueMaker). slice_get ms (length state.makers)) makers ∙ last_more state.makers maker in
      cc

  later_holds : (q : ℕ) (mode : Mode) → holds_queue later q mode ≡ holds_queue (with_made (length state.makers) frame) q mode
  later_holds q mode = ap (λ rs. holds_queue (record later { rights = rs }) q mode) rights

  module _ (after_frames : LiveFrames) (key : ℕ) (kept now_kept : KeptFrame) (was : kept_of frames n ≡ Some kept) (agrees : IsFrameKept state kept frame)
      (one : IsOnlyChange (kept_of frames) (kept_of after_frames) n (Some now_kept)) (deeds : now_kept.deeds ≡ later.deeds) (lent : later.lent ≡ lent_of now_kept)
      (own_chunks : now_kept.own_chunks ≡ (with_own_chunk (length state.makers) (record { key = key; is_maker = true; pushes = true }) kept).own_chunks) where
    abbrev own_chunk_now : OwnChunk
    own_chunk_now = record { key = key; is_maker = true; pushes = true }

    at_own_chunk : (q : ℕ) → own_chunk_in now_kept.own_chunks q ≡ own_chunk_in (with_own_chunk (length state.makers) (record { key = key; is_maker = true; pushes = true }) kept).own_chunks q
    at_own_chunk q = ap (λ ps. own_chunk_in ps q) own_chunks

    is_frame : IsFrameKept after now_kept later
    is_frame = record {
      deeds = deeds;
      lent = lent;
      own_chunks = λ q. ap is_some (at_own_chunk q) ∙ own_chunks_made kept frame (length state.makers) (record { key = key; is_maker = true; pushes = true }) agrees.own_chunks q
          ∙ sym (ap (λ rs. has_queue (record later { rights = rs }) q) rights);
      made = λ q chunk m at made is_maker. elim (cases_eq q (length state.makers)) [
        | inl here ↦ path ∙ own_maker ∙ ap maker_path (sym (new_maker m (ap (λ k. slice_get after.makers k) (sym here) ∙ made)))
        | inr other ↦
            let old = sym (own_chunk_elsewhere kept (length state.makers) (record { key = key; is_maker = true; pushes = true }) q other) ∙ sym (at_own_chunk q) ∙ at in
            let less = (is.plain.tree.held n q frame live (own_chunk_has state kept frame q chunk agrees old)).0 in
            path ∙ agrees.made q chunk m old (old_maker q m less made) is_maker
      ];
      given = λ q chunk m at made not_maker. elim (cases_eq q (length state.makers)) [
        | inl here ↦
            let its : own_chunk_in now_kept.own_chunks q ≡ Some (record { key = key; is_maker = true; pushes = true }) =
            ap (λ k. own_chunk_in now_kept.own_chunks k) here ∙ at_own_chunk (length state.makers) ∙ own_chunk_here kept (length state.makers) (record { key = key; is_maker = true; pushes = true }) in
            let same : chunk ≡ record { key = key; is_maker = true; pushes = true } = one_answer (own_chunk_in now_kept.own_chunks q) chunk (record { key = key; is_maker = true; pushes = true }) at its in
            let never : true ≡ false = ap (λ (p : OwnChunk). p.is_maker) (sym same) ∙ not_maker in
            absurd (cc)
        | inr other ↦
            let old = sym (own_chunk_elsewhere kept (length state.makers) (record { key = key; is_maker = true; pushes = true }) q other) ∙ sym (at_own_chunk q) ∙ at in
            let less = (is.plain.tree.held n q frame live (own_chunk_has state kept frame q chunk agrees old)).0 in
            λ is_own. agrees.given q chunk m old (old_maker q m less made) not_maker (sym path ∙ is_own)
      ];
      pushers = λ q chunk at. elim (cases_eq q (length state.makers)) [
        | inl here ↦
            let its : own_chunk_in now_kept.own_chunks q ≡ Some own_chunk_now =
            ap (λ k. own_chunk_in now_kept.own_chunks k) here ∙ at_own_chunk (length state.makers) ∙ own_chunk_here kept (length state.makers) own_chunk_now in
            let same : chunk ≡ own_chunk_now = one_answer (own_chunk_in now_kept.own_chunks q) chunk own_chunk_now at its in
            ap (λ (p : OwnChunk). p.pushes) same ∙ sym (later_holds q Push ∙ ap (λ k. holds_queue (with_made (length state.makers) frame) k Push) here ∙ pushes_made frame (length state.makers))
        | inr other ↦
            let old = sym (own_chunk_elsewhere kept (length state.makers) own_chunk_now q other) ∙ sym (at_own_chunk q) ∙ at in
            let less = (is.plain.tree.held n q frame live (own_chunk_has state kept frame q chunk agrees old)).0 in
            agrees.pushers q chunk old ∙ sym (later_holds q Push ∙ holds_before frame (length state.makers) q Push less)
      ];
    }

    pub book_made : (first : List Value) (after_heads : List (Option ℕ)) (after_nodes : Slab Link) → length after_heads ≡ length heads + 1
        → IsPlain name after (in_line (length state.makers) (λ old. own n first ∷ []) is.lines)
        → ((m q : ℕ) → key_at after_frames m q ≡ put_at n (length state.makers) (Some key) (key_at frames) m q)
        → AreChained (put_at n (length state.makers) (Some key) (key_at frames)) after_heads after_nodes (in_line (length state.makers) (λ old. own n first ∷ []) is.lines)
        → IsBook name after after_frames after_heads after_nodes turns
    book_made first after_heads after_nodes more plain keys chained = record {
      lines = in_line (length state.makers) (λ old. own n first ∷ []) is.lines;
      plain = plain;
      live = live_one state after is.plain.tree frames after_frames is.live n old_maker now_kept later one only is_frame;
      count =
          let long : length after.makers ≡ length state.makers + 1 = ap length makers ∙ length-append state.makers (maker ∷ []) in
          omega (arith, more, is.count, long);
      chained = chained_same (put_at n (length state.makers) (Some key) (key_at frames)) (key_at after_frames) after_heads after_nodes
          (in_line (length state.makers) (λ old. own n first ∷ []) is.lines) (in_line (length state.makers) (λ old. own n first ∷ []) is.lines) keys (λ q. refl) chained;
      turned = turns_made state is.plain.tree turns is.turned after n frame later maker live only makers parent path rights own_maker;
    }

-- one change after another
pub one_then : (a b c : LiveFrames) (n : ℕ) (kept : KeptFrame) (change : KeptFrame → KeptFrame) → IsOnlyChange (kept_of a) (kept_of b) n (Some kept) → IsOnlyChange (kept_of b) (kept_of c) n (option_map change (kept_of b n)) → IsOnlyChange (kept_of a) (kept_of c) n (Some (change kept))
one_then a b c n kept change first second = record {
  changed = second.changed ∙ ap (option_map change) first.changed;
  others = λ m other. second.others m other ∙ first.others m other;
}

module _ (name : Option Script) (state : QueueState) (frames : LiveFrames) (heads : List (Option ℕ)) (nodes : Slab Link) (turns : Frames) (is : IsBook name state frames heads nodes turns) where
  -- no frame has a chunk of a queue that isn't made
  chunkless : (n q : ℕ) → q ≡ length heads → key_at frames n q ≡ None
  chunkless n q new = key_none state frames is.live n q (λ frame live has. let less = (is.plain.tree.held n q frame live has).0 in absurd (omega (arith, is.count, new, less)))

  pub book_create_root : (untouched : IsUntouched state) (first : List Value) → ((s : Script) → name ≡ Some s → slice_get s.queues (length state.makers) ≡ Some first)
      → (q : ℕ) → q ≡ length heads → (after_frames : LiveFrames) (after_heads : List (Option ℕ)) (after_nodes : Slab Link)
      → IsMadeIn frames after_frames 0 q first heads nodes after_heads after_nodes → length after_heads ≡ length heads + 1
      → IsBook name (after_create_root state) after_frames after_heads after_nodes turns
  book_create_root untouched first next q new after_frames after_heads after_nodes made more =
      let root = untouched.root in
      let i = length state.makers in
      let at : q ≡ i = new ∙ is.count in
      let was = kept_live state frames is.live 0 root untouched.live in
      let kept = was.0 in
      let own_chunk : OwnChunk = record { key = made.key; is_maker = true; pushes = true } in
      let Q : ℕ → Type 0 = λ k. IsOnlyChange (kept_of frames) (kept_of after_frames) 0 (Some (with_own_chunk k own_chunk kept)) in
      let one : IsOnlyChange (kept_of frames) (kept_of after_frames) 0 (Some (with_own_chunk i own_chunk kept)) = subst Q at (kept_changed frames after_frames 0 kept (with_own_chunk q own_chunk) was.1 made.own_chunk) in
      let R : ℕ → Type 0 = λ k. AreChained (put_at 0 k (Some made.key) (key_at frames)) after_heads after_nodes (in_line k (λ old. own 0 first ∷ []) is.lines) in
      let path = (is.plain.tree.root root untouched.live).0 in
      book_made name state (after_create_root state) frames heads nodes turns is 0 root (with_made i root) (planned i) untouched.live
      (one_changed state 0 (with_made i) (λ f. refl) root untouched.live) refl refl refl refl path
      after_frames made.key kept (with_own_chunk i own_chunk kept) was.1 was.2 one was.2.deeds was.2.lent refl
      first after_heads after_nodes more (plain_create_root name state is.lines is.plain untouched first next)
      (keys_put frames after_frames 0 i own_chunk kept was.1 one)
      (subst R at (made.chained is.lines is.chained (chunkless 0 q new)))

  module _ (n : ℕ) (act : MayDo state n) (q : ℕ) (new : q ≡ length heads) (mid_frames : LiveFrames) (after_heads : List (Option ℕ)) (after_nodes : Slab Link)
      (made : IsMadeIn frames mid_frames n q [] heads nodes after_heads after_nodes) where
    mid_one : (kept : KeptFrame) → kept_of frames n ≡ Some kept → IsOnlyChange (kept_of frames) (kept_of mid_frames) n (Some (with_own_chunk q (record { key = made.key; is_maker = true; pushes = true }) kept))
    mid_one kept was =
        kept_changed frames mid_frames n kept (with_own_chunk q (record { key = made.key; is_maker = true; pushes = true })) was made.own_chunk

    pub create_there : IsSome (kept_of mid_frames n)
    create_there =
        let was = kept_live state frames is.live n act.frame act.may.live in
        some_is (kept_of mid_frames n) (with_own_chunk q (record { key = made.key; is_maker = true; pushes = true }) was.0) (mid_one was.0 was.1).changed

    pub create_room : (kept : KeptFrame) → kept_of mid_frames n ≡ Some kept → kept.deeds < COUNT_MOST
    create_room kept at =
        let was = kept_live state frames is.live n act.frame act.may.live in
        let both : Some kept ≡ Some (with_own_chunk q (record { key = made.key; is_maker = true; pushes = true }) was.0) = sym at ∙ (mid_one was.0 was.1).changed in
        let same : kept ≡ with_own_chunk q (record { key = made.key; is_maker = true; pushes = true }) was.0 = cc in
        let deeds : kept.deeds ≡ act.frame.deeds = ap (λ (k : KeptFrame). k.deeds) same ∙ was.2.deeds in
        let room = act.room in
        omega (arith, room, deeds)

    pub book_create : OnNext name state n (λ s f. next_queue_deed s f.path f.deeds ≡ Some deed.MakeQueue) → length after_heads ≡ length heads + 1
        → (after_frames : LiveFrames) → IsOnlyChange (kept_of mid_frames) (kept_of after_frames) n (option_map (λ (kept : KeptFrame). record kept { deeds = kept.deeds + 1 }) (kept_of mid_frames n))
        → IsBook name (after_create state act.frame) after_frames after_heads after_nodes turns
    book_create next more after_frames counted_one =
        let frame = act.frame in
        let i = length state.makers in
        let at : q ≡ i = new ∙ is.count in
        let change : ActiveFrame → ActiveFrame = λ f. with_deed (with_made i f) in
        let was = kept_live state frames is.live n frame act.may.live in
        let kept = was.0 in
        let own_chunk : OwnChunk = record { key = made.key; is_maker = true; pushes = true } in
        let free = not_lent kept frame.lent was.2.lent act.may.back in
        let S : ℕ → Type 0 = λ k. IsOnlyChange (kept_of frames) (kept_of mid_frames) n (Some (with_own_chunk k own_chunk kept)) in
        let mid : IsOnlyChange (kept_of frames) (kept_of mid_frames) n (Some (with_own_chunk i own_chunk kept)) = subst S at (mid_one kept was.1) in
        let now_kept : KeptFrame = counted (with_own_chunk i own_chunk kept) in
        let one : IsOnlyChange (kept_of frames) (kept_of after_frames) n (Some now_kept) = one_then frames mid_frames after_frames n (with_own_chunk i own_chunk kept) counted mid counted_one in
        let R : ℕ → Type 0 = λ k. AreChained (put_at n k (Some made.key) (key_at frames)) after_heads after_nodes (in_line k (λ old. own n [] ∷ []) is.lines) in
        book_made name state (after_create state frame) frames heads nodes turns is n frame (change frame) (made_by frame.path frame.deeds) act.may.live
        (one_goes_on state n frame change (λ f. refl) act.may.live) refl refl refl refl refl
        after_frames made.key kept now_kept was.1 was.2 one (ap (λ k. k + 1) was.2.deeds) (act.may.back ∙ sym (lent_none now_kept free)) refl
        [] after_heads after_nodes more (plain_create name state is.lines is.plain n act next)
        (λ m p. keys_same mid_frames after_frames n (with_own_chunk i own_chunk kept) now_kept mid.changed (record { changed = one.changed; others = counted_one.others }) refl m p
        ∙ keys_put frames mid_frames n i own_chunk kept was.1 mid m p)
        (subst R at (made.chained is.lines is.chained (chunkless n q new)))
