-- What holds of hyperqueues in plain form once a frame has finished.
use Rattle.std.proofs.Common.{◌≡◌, ◌≢◌, ℕ, ◌+◌, Bool, true, false, ◌&&◌, not, ◌==◌, Option, Some, None, List, [], ◌∷◌, length, refl, sym, ap, subst, ◌∙◌, inl, inr, arith, length-append}
use Rattle.std.proofs.lemmas.Bool.{cases_eq, false≢true, and_parts, eqb-true, eq-eqb, both_ways, not-true}
use Rattle.std.specs.Option.{option_map}
use Rattle.std.specs.Prelude.{slice_get, is_some, if◌then◌else◌}
use Rattle.slab.specs.Slab.{Slab}
use Rattle.pop_order.specs.Frames.{Frames, without}
use Rattle.swan_model.specs.declared.script.Script.{Script}
use Rattle.swan_model.specs.QueueFollows.{next_queue_deed, origin_in}
use Rattle.swan_model.specs.QueueState.{ActiveFrame, QueueMaker, QueueState, active, after_finish}
use Rattle.swan_model.specs.Readings.{end_time}
use Rattle.swan_model.proofs.Lists.{some_within}
use Rattle.queues.specs.Asks.{MayJoin, OnNext}
use Rattle.queues.specs.Chunks.{Chunks, after_close}
use Rattle.queue_book.specs.Chains.{Link, AreChained}
use Rattle.queue_book.specs.Ended.{line_after_end, lines_after_end, own_keys, IsAlone}
use Rattle.queue_book.specs.KeptFrames.{KeptFrame, own_chunk_in}
use Rattle.queue_book.specs.Live.{kept_of, key_at, key_in, IsFrameKept}
use Rattle.pop_order.specs.OneChange.{IsOnlyChange}
use Rattle.queues.specs.Tree.{IsTree, has_queue, maker_path, IsInUse}
use Rattle.queue_book.specs.Whole.{IsBook, IsLine, IsPlain}
use Rattle.queue_book.specs.declared.live_frame.OwnChunk.{OwnChunk}
use Rattle.queue_book.specs.declared.live_frames.LiveFrames.{LiveFrames}
use Rattle.queues.proofs.ActiveAfter.{one_gone}
use Rattle.queue_book.proofs.ChainChanges.{chained_same}
use Rattle.queues.proofs.Finishing.{finished_follows}
use Rattle.queue_book.proofs.LiveKept.{key_none, kept_live, live_gone, own_chunk_has}
use Rattle.queues.proofs.Match.{matches_finish, matches_finish_other}
use Rattle.queue_book.proofs.PlainSaid.{on_next}
use Rattle.queue_book.proofs.BookRest.{root_path}
use Rattle.queues.proofs.TreeSpawners.{spawners_finish}
use Rattle.queues.proofs.TreeKept.{tree_finish}
use Rattle.queues.proofs.TreeOwners.{none_has, owners_finish, owners_kept_finish, owners_none}
use Rattle.queues.proofs.TurnsCalls.{turns_finish}
use Rattle.swan_model.proofs.Elements.{one_answer}

in_use_before : (state : QueueState) (n q : ℕ) (maker : QueueMaker) → IsInUse (after_finish state n) q maker → IsInUse state q maker
in_use_before state n q maker (inl of_root) = inl of_root
in_use_before state n q maker (inr (m, frame, live, has)) = elim (cases_eq m n) [
  | inl here ↦ let never : None ≡ Some frame = sym (one_gone state n).changed ∙ ap (active (after_finish state n)) (sym here) ∙ live in absurd (cc)
  | inr other ↦ inr (m, frame, sym ((one_gone state n).others m other) ∙ live, has)
]

-- only the root's path is empty
below_root : (state : QueueState) → IsTree state → (n : ℕ) (frame : ActiveFrame) → active state n ≡ Some frame → n ≢ 0 → frame.path ≡ [] → ⊥
below_root state tree n frame live other none =
    let parent = tree.others n frame live other in
    let above = tree.spawned n parent.0 frame live parent.1 in
    let long : length frame.path ≡ length above.above.path + 1 = ap length above.path ∙ length-append above.above.path (above.index ∷ []) in
    let short : length frame.path ≡ 0 = ap length none in
    omega arith

module _ (name : Option Script) (state : QueueState) (lines : ℕ → Chunks) (is : IsPlain name state lines) (n : ℕ) (may : MayJoin state n)
    (over : OnNext name state n (λ s f. next_queue_deed s f.path f.deeds ≡ None)) (kept : KeptFrame) (agrees : IsFrameKept state kept may.frame) where
  module _ (q : ℕ) (maker : QueueMaker) (made : slice_get state.makers q ≡ Some maker) where
    line_gone : has_queue may.frame q ≡ false → IsLine name (after_finish state n) q maker (lines q)
    line_gone lacks =
        let line = is.queues q maker made in
        record {
          owners = owners_kept_finish state n q may.frame (lines q) may.may.live lacks line.owners;
          matches = λ free in_use s named lawful.
              matches_finish_other s lawful state q (origin_in s maker) (end_time s (maker_path maker)) (lines q) (line.matches free (in_use_before state n q maker in_use) s named lawful)
              n may.frame may.may.live (λ index own.
              let owner = line.owners.owners index n own in
              let same : owner.0 ≡ may.frame = one_answer (active state n) owner.0 may.frame owner.1 may.may.live in
              false≢true (sym lacks ∙ ap (λ (f : ActiveFrame). has_queue f q) (sym same) ∙ owner.2));
          emptied = line.emptied;
        }

    line_closed : IsLine name (after_finish state n) q maker (after_close n (lines q))
    line_closed =
        let line = is.queues q maker made in
        record {
          owners = owners_finish state n q (lines q) line.owners;
          matches = λ free in_use s named lawful.
              matches_finish s lawful state q (origin_in s maker) (end_time s (maker_path maker)) (lines q) (line.matches free (in_use_before state n q maker in_use) s named lawful)
              n may.frame may.may.live line.owners
              (on_next name state n (λ t f. next_queue_deed t f.path f.deeds ≡ None) s may.frame over named may.may.live)
              ((is.follows s named lawful).tasks n may.frame may.may.live).some;
          emptied = λ taken. ap (after_close n) (line.emptied taken);
        }

    line_over : n ≢ 0 → may.frame.path ≡ maker_path maker → IsLine name (after_finish state n) q maker []
    line_over other own = record {
      owners = owners_none state n q maker is.tree may made own;
      matches = λ free in_use s named lawful. absurd (elim in_use [
        | inl of_root ↦ below_root state is.tree n may.frame may.may.live other (own ∙ root_path maker of_root)
        | inr (m, frame, live, has) ↦ none_has state n q maker is.tree may made own m frame live has
      ]);
      emptied = λ taken. refl;
    }

    line_ended : IsLine name (after_finish state n) q maker (line_after_end n (own_chunk_in kept.own_chunks q) (lines q))
    line_ended = by (own_chunk_in kept.own_chunks q) refl where
      given_up : (own_chunk : OwnChunk) → own_chunk_in kept.own_chunks q ≡ Some own_chunk → (b : Bool) → (own_chunk.is_maker && not (n == 0)) ≡ b
          → IsLine name (after_finish state n) q maker (if b then [] else after_close n (lines q))
      given_up own_chunk at true yes_over =
          let parts = and_parts own_chunk.is_maker (not (n == 0)) yes_over in
          line_over (λ root. both_ways (n == 0) (not-true (n == 0) parts.1) (ap (λ k. k == 0) root ∙ eq-eqb 0 0 refl)) (agrees.made q own_chunk maker at made parts.0)
      given_up own_chunk at false stays = line_closed

      by : (o : Option OwnChunk) → own_chunk_in kept.own_chunks q ≡ o → IsLine name (after_finish state n) q maker (line_after_end n o (lines q))
      by None at = line_gone (sym (agrees.own_chunks q) ∙ ap is_some at)
      by (Some own_chunk) at = given_up own_chunk at (own_chunk.is_maker && not (n == 0)) refl

  pub plain_finish : IsPlain name (after_finish state n) (lines_after_end n kept.own_chunks lines)
  plain_finish = record {
    tree = tree_finish state n is.tree may;
    follows = λ s named lawful. finished_follows s state (is.follows s named lawful) n may.alone;
    spawners = λ s named. spawners_finish state n is.tree may (is.spawners s named);
    queues = λ q maker made. line_ended q maker made;
    rests = is.rests;
  }

module _ (name : Option Script) (state : QueueState) (frames : LiveFrames) (heads : List (Option ℕ)) (nodes : Slab Link) (turns : Frames) (is : IsBook name state frames heads nodes turns)
    (n : ℕ) (may : MayJoin state n) (kept : KeptFrame) (at : kept_of frames n ≡ Some kept) where
  pub kept_frame : IsFrameKept state kept may.frame
  kept_frame =
      let was = kept_live state frames is.live n may.frame may.may.live in
      let both : Some was.0 ≡ Some kept = sym was.1 ∙ at in
      let same : was.0 ≡ kept = cc in
      let P : KeptFrame → Type 0 = λ k. IsFrameKept state k may.frame in
      subst P same was.2

  keys_own : (m q : ℕ) → own_keys n kept.own_chunks (key_at frames) m q ≡ key_at frames m q
  keys_own m q = by (m == n) refl where
    by : (b : Bool) → (m == n) ≡ b → (if b then option_map (λ (own_chunk : OwnChunk). own_chunk.key) (own_chunk_in kept.own_chunks q) else key_at frames m q) ≡ key_at frames m q
    by true e = sym (ap (λ k. key_at frames k q) (eqb-true m n e) ∙ ap (λ o. key_in o q) at)
    by false e = refl

  pub alone_in : IsAlone n kept.own_chunks (key_at frames)
  alone_in q own_chunk found made top other apart =
      let less = (is.plain.tree.held n q may.frame may.may.live (own_chunk_has state kept may.frame q own_chunk kept_frame found)).0 in
      let maker = some_within state.makers q less in
      key_none state frames is.live other q (λ frame live has.
      none_has state n q maker.0 is.plain.tree may maker.1 (kept_frame.made q own_chunk maker.0 found maker.1 made) other frame ((one_gone state n).others other apart ∙ live) has)

  pub chained_before : AreChained (own_keys n kept.own_chunks (key_at frames)) heads nodes is.lines
  chained_before = chained_same (key_at frames) (own_keys n kept.own_chunks (key_at frames)) heads nodes is.lines is.lines keys_own (λ q. refl) is.chained

  pub book_finish : OnNext name state n (λ s f. next_queue_deed s f.path f.deeds ≡ None) → (after_frames : LiveFrames) → IsOnlyChange (kept_of frames) (kept_of after_frames) n None
      → (after_heads : List (Option ℕ)) (after_nodes : Slab Link) → length after_heads ≡ length heads
      → AreChained (own_keys n [] (key_at frames)) after_heads after_nodes (lines_after_end n kept.own_chunks is.lines)
      → IsBook name (after_finish state n) after_frames after_heads after_nodes (without turns n)
  book_finish over after_frames one after_heads after_nodes same chained = record {
    lines = lines_after_end n kept.own_chunks is.lines;
    plain = plain_finish name state is.lines is.plain n may over kept kept_frame;
    live = live_gone state (after_finish state n) is.plain.tree frames after_frames is.live n (λ q maker less made. made) one (one_gone state n);
    count = same ∙ is.count;
    chained = chained_same (own_keys n [] (key_at frames)) (key_at after_frames) after_heads after_nodes (lines_after_end n kept.own_chunks is.lines) (lines_after_end n kept.own_chunks is.lines)
        keys_after (λ q. refl) chained;
    turned = turns_finish state turns is.turned n;
  } where
    keys_after : (m q : ℕ) → key_at after_frames m q ≡ own_keys n [] (key_at frames) m q
    keys_after m q = by (m == n) refl where
      by : (b : Bool) → (m == n) ≡ b → key_at after_frames m q ≡ (if b then None else key_at frames m q)
      by true e = ap (λ k. key_at after_frames k q) (eqb-true m n e) ∙ ap (λ o. key_in o q) one.changed
      by false e = ap (λ o. key_in o q) (one.others m (λ here. false≢true (sym e ∙ ap (λ k. k == n) here ∙ eq-eqb n n refl)))
