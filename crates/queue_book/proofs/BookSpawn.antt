-- What holds of hyperqueues in plain form after a spawn.
use Rattle.std.proofs.Common.{◌≡◌, ◌≢◌, ℕ, ◌+◌, ◌<◌, false, Option, Some, None, List, [], ◌∷◌, ◌++◌, length, refl, sym, ap, subst, ◌∙◌, ◌⊎◌, inl, inr, arith, length-append}
use Rattle.std.proofs.lemmas.Bool.{cases_eq, false≢true}
use Rattle.std.specs.Option.{option_map}
use Rattle.std.specs.Prelude.{is_some}
use Rattle.slab.specs.Slab.{Slab}
use Rattle.pop_order.specs.Frames.{Frames}
use Rattle.swan_model.specs.declared.script.Script.{Script}
use Rattle.swan_model.specs.QueueFollows.{NextSpawnGivesQueues}
use Rattle.swan_model.specs.QueueState.{ActiveFrame, QueueMaker, QueueRight, QueueState, active, after_spawn, child_of}
use Rattle.queues.specs.Asks.{MaySpawn, IsOnTurn, OnNext}
use Rattle.queue_book.specs.Chains.{Link, AreChained}
use Rattle.queue_book.specs.Ended.{own_keys}
use Rattle.queue_book.specs.Handed.{lines_after_gives, IsMoved}
use Rattle.queue_book.specs.KeptFrames.{KeptFrame}
use Rattle.queue_book.specs.Live.{kept_of, key_at, key_in, Agrees, AreLive, IsFrameKept}
use Rattle.queue_book.specs.Spawned.{IsSpawnedIn, MayHandOn}
use Rattle.queues.specs.Tree.{has_queue, maker_path, IsInUse}
use Rattle.queue_book.specs.Whole.{IsBook}
use Rattle.queue_book.specs.declared.live_frames.LiveFrames.{LiveFrames}
use Rattle.queues.proofs.Above.{under_maker}
use Rattle.queues.proofs.ActiveAfter.{one_child_more}
use Rattle.queue_book.proofs.BookDeeds.{counted, lent_none, not_lent}
use Rattle.queue_book.proofs.ChainChanges.{chained_same}
use Rattle.queue_book.proofs.ChainEnds.{own_keys_elsewhere, own_keys_here}
use Rattle.queues.proofs.Gives.{gives_had}
use Rattle.queue_book.proofs.LiveKept.{agrees_on, kept_live, kept_none}
use Rattle.queues.proofs.Match.{not_active}
use Rattle.queue_book.proofs.PlainSpawned.{plain_spawn}
use Rattle.queues.proofs.TurnsSpawned.{child_live, other_live, parent_live, turns_older, turns_spawned}
use Rattle.swan_model.proofs.Elements.{one_answer}

module _ (name : Option Script) (state : QueueState) (frames : LiveFrames) (heads : List (Option ℕ)) (nodes : Slab Link) (turns : Frames) (is : IsBook name state frames heads nodes turns)
    (p child : ℕ) (gives : List QueueRight) (may : MaySpawn state p child gives) where
  free : active state child ≡ None
  free = not_active state is.plain.tree child may.newest

  pub child_free : kept_of frames child ≡ None
  child_free = kept_none state frames is.live child free

  rising : p < child
  rising = let old = is.plain.tree.latest p may.act.frame may.act.may.live in let newest = may.newest in omega arith

  two : p ≢ child
  two same = let less = rising in omega arith

  pub spawn_may : MayHandOn frames turns p child gives
  spawn_may =
      let was = kept_live state frames is.live p may.act.frame may.act.may.live in
      record {
        kept = was.0;
        live = was.1;
        room = let room = may.act.room in let deeds = was.2.deeds in omega (arith, room, deeds);
        has = λ q given. was.2.own_chunks q ∙ gives_had may.act.frame gives may.lawful q given;
        frame = may.act.frame;
        lawful = may.lawful;
        rising = rising;
        newest = turns_older state is.plain.tree turns is.turned p child gives may;
        apart = is.turned.apart;
      }

  abbrev after : QueueState
  after = after_spawn state may.act.frame child gives

  abbrev parent_now : ActiveFrame
  parent_now = one_child_more may.act.frame

  in_use_before : (q : ℕ) (maker : QueueMaker) → IsInUse after q maker → IsInUse state q maker
  in_use_before q maker (inl of_root) = inl of_root
  in_use_before q maker (inr (m, frame, live, has)) = by (cases_eq m child) (cases_eq m p) where
    by : (m ≡ child) ⊎ (m ≢ child) → (m ≡ p) ⊎ (m ≢ p) → IsInUse state q maker
    by (inl is_child) c =
        let same : frame ≡ child_of may.act.frame child gives =
        one_answer (active after child) frame (child_of may.act.frame child gives)
        (ap (active after) (sym is_child) ∙ live) (child_live state is.plain.tree p child gives may) in
        inr (p, may.act.frame, may.act.may.live, gives_had may.act.frame gives may.lawful q (ap (λ (g : ActiveFrame). has_queue g q) (sym same) ∙ has))
    by (inr apart) (inl is_parent) =
        let same : frame ≡ parent_now =
        one_answer (active after p) frame parent_now
        (ap (active after) (sym is_parent) ∙ live) (parent_live state is.plain.tree p child gives may) in
        inr (p, may.act.frame, may.act.may.live, ap (λ (g : ActiveFrame). has_queue g q) (sym same) ∙ has)
    by (inr apart) (inr other) = inr (m, frame, sym (other_live state is.plain.tree p child gives may m other apart) ∙ live, has)

  module _ (after_frames : LiveFrames) (then_nodes : Slab Link) (then_turns : Frames)
      (done : IsSpawnedIn frames after_frames p child gives heads nodes then_nodes turns then_turns) where
    abbrev child_kept : KeptFrame
    child_kept = record { deeds = 0; is_lent = false; own_chunks = done.own_chunks }

    -- ---- what is kept of the frames

    kept_child : kept_of after_frames child ≡ Some child_kept
    kept_child = done.child_now.changed

    kept_parent : (kept : KeptFrame) → kept_of frames p ≡ Some kept → (one : KeptFrame) × (kept_of done.middle p ≡ Some one) × (kept_of after_frames p ≡ Some (counted one)) × IsMoved kept one
    kept_parent kept at =
        let was = done.given.moved kept at in
        (was.0, was.1, done.child_now.others p two ∙ done.parent_now.changed ∙ ap (option_map counted) was.1, was.2)

    kept_other : (m : ℕ) → m ≢ p → m ≢ child → kept_of after_frames m ≡ kept_of done.middle m
    kept_other m a b = done.child_now.others m b ∙ done.parent_now.others m a

    child_frame : IsFrameKept after child_kept (child_of may.act.frame child gives)
    child_frame = record {
      deeds = refl;
      lent = refl;
      own_chunks = λ q. done.given.given q;
      made = λ q own_chunk maker at made is_maker. absurd (false≢true (sym (done.given.fresh q own_chunk at) ∙ is_maker));
      given = λ q own_chunk maker at made not_maker same.
          let had = gives_had may.act.frame gives may.lawful q (sym (done.given.given q) ∙ ap is_some at) in
          let under = under_maker state is.plain.tree p q may.act.frame maker may.act.may.live had made in
          let long : length (may.act.frame.path ++ may.act.frame.children ∷ []) ≡ length may.act.frame.path + 1 = length-append may.act.frame.path (may.act.frame.children ∷ []) in
          let upper : length may.act.frame.path ≡ length (maker_path maker) + length under.0 = ap length under.1 ∙ length-append (maker_path maker) under.0 in
          let short : length (may.act.frame.path ++ may.act.frame.children ∷ []) ≡ length (maker_path maker) = ap length same in
          omega arith;
      pushers = λ q own_chunk at. done.given.pushers q own_chunk at;
    }

    parent_frame : (kept one : KeptFrame) → IsFrameKept state kept may.act.frame → IsMoved kept one → IsFrameKept after (counted one) parent_now
    parent_frame kept one was moved = record {
      deeds = ap (λ k. k + 1) (moved.deeds ∙ was.deeds);
      lent = may.act.may.back ∙ sym (lent_none (counted one) (moved.lent ∙ not_lent kept may.act.frame.lent was.lent may.act.may.back));
      own_chunks = λ q. moved.own_chunks q ∙ was.own_chunks q;
      made = λ q own_chunk maker at made is_maker. let old = moved.makers q own_chunk at in was.made q old.0 maker old.1 made (sym old.2 ∙ is_maker);
      given = λ q own_chunk maker at made not_maker. let old = moved.makers q own_chunk at in was.given q old.0 maker old.1 made (sym old.2 ∙ not_maker);
      pushers = λ q own_chunk at. let old = moved.makers q own_chunk at in old.3 ∙ was.pushers q old.0 old.1;
    }

    agrees_at : (kept : Option KeptFrame) (found : Option ActiveFrame) (one : KeptFrame) (frame : ActiveFrame) → kept ≡ Some one → found ≡ Some frame
        → IsFrameKept after one frame → Agrees after kept found
    agrees_at kept found one frame a b now =
        let Q : Option KeptFrame → Type 0 = λ o. Agrees after o found in
        let R : Option ActiveFrame → Type 0 = λ o. Agrees after (Some one) o in
        subst Q (sym a) (subst R (sym b) now)

    live_now : AreLive after after_frames
    live_now m = by (cases_eq m child) (cases_eq m p) where
      by : (m ≡ child) ⊎ (m ≢ child) → (m ≡ p) ⊎ (m ≢ p) → Agrees after (kept_of after_frames m) (active after m)
      by (inl is_child) c =
          agrees_at (kept_of after_frames m) (active after m) child_kept (child_of may.act.frame child gives)
          (ap (kept_of after_frames) is_child ∙ kept_child) (ap (active after) is_child ∙ child_live state is.plain.tree p child gives may) child_frame
      by (inr apart) (inl is_parent) =
          let was = kept_live state frames is.live p may.act.frame may.act.may.live in
          let now = kept_parent was.0 was.1 in
          agrees_at (kept_of after_frames m) (active after m) (counted now.0) parent_now
          (ap (kept_of after_frames) is_parent ∙ now.2) (ap (active after) is_parent ∙ parent_live state is.plain.tree p child gives may) (parent_frame was.0 now.0 was.2 now.3)
      by (inr apart) (inr other) =
          let Q : Option KeptFrame → Type 0 = λ o. Agrees after o (active after m) in
          let R : Option ActiveFrame → Type 0 = λ o. Agrees after (kept_of frames m) o in
          subst Q (sym (kept_other m other apart ∙ done.given.others m other)) (subst R (sym (other_live state is.plain.tree p child gives may m other apart))
          (agrees_on state after (kept_of frames m) (active state m) (λ q maker less made. made)
          (λ frame found q has. (is.plain.tree.held m q frame found has).0) (is.live m)))

    -- ---- the chains

    keys_now : (m q : ℕ) → key_at after_frames m q ≡ own_keys child done.own_chunks (key_at done.middle) m q
    keys_now m q = by (cases_eq m child) (cases_eq m p) where
      by : (m ≡ child) ⊎ (m ≢ child) → (m ≡ p) ⊎ (m ≢ p) → key_at after_frames m q ≡ own_keys child done.own_chunks (key_at done.middle) m q
      by (inl is_child) c =
          ap (λ k. key_at after_frames k q) is_child ∙ ap (λ o. key_in o q) kept_child ∙ sym (own_keys_here child done.own_chunks (key_at done.middle) q)
          ∙ sym (ap (λ k. own_keys child done.own_chunks (key_at done.middle) k q) is_child)
      by (inr apart) (inl is_parent) =
          let was = kept_live state frames is.live p may.act.frame may.act.may.live in
          let now = kept_parent was.0 was.1 in
          ap (λ k. key_at after_frames k q) is_parent ∙ ap (λ o. key_in o q) now.2 ∙ sym (ap (λ o. key_in o q) now.1) ∙ sym (ap (λ k. key_at done.middle k q) is_parent)
          ∙ sym (own_keys_elsewhere child done.own_chunks (key_at done.middle) m q apart)
      by (inr apart) (inr other) = ap (λ o. key_in o q) (kept_other m other apart) ∙ sym (own_keys_elsewhere child done.own_chunks (key_at done.middle) m q apart)

    chained_now : AreChained (key_at after_frames) heads then_nodes (lines_after_gives p child gives is.lines)
    chained_now =
        chained_same (own_keys child done.own_chunks (key_at done.middle)) (key_at after_frames) heads then_nodes (lines_after_gives p child gives is.lines) (lines_after_gives p child gives is.lines)
        keys_now (λ q. refl) (done.given.chained is.lines is.chained (λ q. ap (λ kept. key_in kept q) child_free))

    pub book_spawn : OnNext name state p (λ s g. NextSpawnGivesQueues s state g gives) → IsOnTurn name state p
        → IsBook name (after_spawn state may.act.frame child gives) after_frames heads then_nodes then_turns
    book_spawn next turn = record {
      lines = lines_after_gives p child gives is.lines;
      plain = plain_spawn name state is.lines is.plain p child gives may next turn in_use_before;
      live = live_now;
      count = is.count;
      chained = chained_now;
      turned = turns_spawned state is.plain.tree turns is.turned p child gives may then_turns done.given.turned;
    }
