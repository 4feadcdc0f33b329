-- What holds of hyperqueues in plain form after a push, a pop and a test.
use Rattle.std.proofs.Common.{◌≡◌, ℕ, ◌+◌, Bool, true, false, Option, Some, None, List, [], length, refl, sym, ap, ◌∙◌}
use Rattle.std.proofs.lemmas.Option.{none-some}
use Rattle.std.specs.Option.{option_map}
use Rattle.std.specs.Prelude.{slice_get, if◌then◌else◌}
use Rattle.slab.specs.Slab.{Slab}
use Rattle.pop_order.specs.Frames.{Frames}
use Rattle.swan_model.specs.declared.rights.Mode.TheVariants.{Pop, Push}
use Rattle.swan_model.specs.declared.script.Deed.TheVariants as deed
use Rattle.swan_model.specs.declared.script.Script.{Script}
use Rattle.swan_model.specs.declared.value.Value.{Value}
use Rattle.swan_model.specs.QueueFollows.{origin_in, IsNextAbout}
use Rattle.swan_model.specs.QueueState.{Lent, QueueMaker, QueueState, after_deed, with_deed}
use Rattle.queues.specs.Asks.{MayDo, MayUse, IsOnTurn, OnNext}
use Rattle.queues.specs.Chunks.{Chunks, without_spent, with_item, without_first}
use Rattle.queue_book.specs.Chains.{Link, AreChained, in_line}
use Rattle.queue_book.specs.Fronts.{IsFrontTold, IsTurnTold}
use Rattle.queue_book.specs.KeptFrames.{KeptFrame}
use Rattle.queue_book.specs.Live.{kept_of, key_at, lent_of, IsFrameKept}
use Rattle.pop_order.specs.OneChange.{IsOnlyChange}
use Rattle.queue_book.specs.Whole.{IsBook, IsPlain}
use Rattle.queues.specs.declared.answers.Tested.TheVariants as tested
use Rattle.queue_book.specs.declared.live_frames.LiveFrames.{LiveFrames}
use Rattle.queues.proofs.ActiveAfter.{one_changed}
use Rattle.queue_book.proofs.ChainChanges.{chained_same}
use Rattle.queues.proofs.Above.{maker_of}
use Rattle.queue_book.proofs.BookFronts.{alone_by, found_item, look_of, looked, trim}
use Rattle.queues.proofs.Frames.{has_held}
use Rattle.queue_book.proofs.LiveKept.{keys_same, kept_changed, kept_live, live_one}
use Rattle.queue_book.proofs.PlainDeeds.{plain_empty, plain_pop, plain_push, plain_test}
use Rattle.queue_book.proofs.PlainSaid.{origin_of}
use Rattle.queues.proofs.TurnsCalls.{turns_deed}

abbrev pub counted : KeptFrame → KeptFrame
counted kept = record kept { deeds = kept.deeds + 1 }

-- ends that are back
pub not_lent : (kept : KeptFrame) (lent : Option Lent) → lent ≡ lent_of kept → lent ≡ None → kept.is_lent ≡ false
not_lent kept lent is back = by kept.is_lent refl where
  by : (b : Bool) → kept.is_lent ≡ b → b ≡ false
  by true e =
      absurd (none-some (record { deeds = kept.deeds; ends = [] }) (sym back ∙ is ∙ ap (λ b. if b then Some (record { deeds = kept.deeds; ends = [] }) else None) e))
  by false e = refl

pub lent_none : (kept : KeptFrame) → kept.is_lent ≡ false → lent_of kept ≡ None
lent_none kept e = ap (λ b. if b then Some (record { deeds = kept.deeds; ends = [] }) else None) e

module _ (name : Option Script) (state : QueueState) (frames : LiveFrames) (heads : List (Option ℕ)) (nodes : Slab Link) (turns : Frames) (is : IsBook name state frames heads nodes turns)
    (n : ℕ) (act : MayDo state n) where
  pub book_deed : (after_frames : LiveFrames) → IsOnlyChange (kept_of frames) (kept_of after_frames) n (option_map (λ (kept : KeptFrame). record kept { deeds = kept.deeds + 1 }) (kept_of frames n))
      → (after_heads : List (Option ℕ)) (after_nodes : Slab Link) (lines : ℕ → Chunks) → length after_heads ≡ length heads → IsPlain name (after_deed state n) lines
      → AreChained (key_at frames) after_heads after_nodes lines → IsBook name (after_deed state n) after_frames after_heads after_nodes turns
  book_deed after_frames one after_heads after_nodes lines same plain chained =
      let was = kept_live state frames is.live n act.frame act.may.live in
      let kept = was.0 in
      let free = not_lent kept act.frame.lent was.2.lent act.may.back in
      let counted_one = kept_changed frames after_frames n kept counted was.1 one in
      let frame : IsFrameKept (after_deed state n) (counted kept) (with_deed act.frame) = record {
        deeds = ap (λ k. k + 1) was.2.deeds;
        lent = act.may.back ∙ sym (lent_none (counted kept) free);
        own_chunks = was.2.own_chunks;
        made = was.2.made;
        given = was.2.given;
        pushers = was.2.pushers;
      } in
      record {
        lines = lines;
        plain = plain;
        live = live_one state (after_deed state n) is.plain.tree frames after_frames is.live n (λ q maker less made. made)
            (counted kept) (with_deed act.frame) counted_one (one_changed state n with_deed (λ f. refl) act.frame act.may.live) frame;
        count = same ∙ is.count;
        chained = chained_same (key_at frames) (key_at after_frames) after_heads after_nodes lines lines
            (keys_same frames after_frames n kept (counted kept) was.1 counted_one refl) (λ q. refl) chained;
        turned = turns_deed state turns is.turned n act;
      }

module _ (name : Option Script) (state : QueueState) (frames : LiveFrames) (heads : List (Option ℕ)) (nodes : Slab Link) (turns : Frames) (is : IsBook name state frames heads nodes turns)
    (n q : ℕ) where
  -- a push to the frame's own chunk
  pub book_push : (may : MayUse state n q Push) (value : Value) → OnNext name state n (λ s f. IsNextAbout (λ origin. deed.Push origin value) s state f q) → IsOnTurn name state n
      → (after_heads : List (Option ℕ)) (after_nodes : Slab Link) → after_heads ≡ heads → AreChained (key_at frames) after_heads after_nodes (in_line q (with_item n value) is.lines)
      → (after_frames : LiveFrames) → IsOnlyChange (kept_of frames) (kept_of after_frames) n (option_map (λ (kept : KeptFrame). record kept { deeds = kept.deeds + 1 }) (kept_of frames n))
      → IsBook name (after_deed state n) after_frames after_heads after_nodes turns
  book_push may value next turn after_heads after_nodes same chained after_frames one =
      let has = has_held may.act.frame q Push may.held in
      let maker = maker_of state is.plain.tree n q may.act.frame may.act.may.live has in
      book_deed name state frames heads nodes turns is n may.act after_frames one after_heads after_nodes (in_line q (with_item n value) is.lines) (ap length same)
      (plain_push name state is.lines is.plain n may.act turn q maker.0 maker.1 value next) chained

  module _ (may : MayUse state n q Pop) (after_heads : List (Option ℕ)) (after_nodes : Slab Link) (same : length after_heads ≡ length heads)
      (after_frames : LiveFrames) (one : IsOnlyChange (kept_of frames) (kept_of after_frames) n (option_map (λ (kept : KeptFrame). record kept { deeds = kept.deeds + 1 }) (kept_of frames n)))
      (turn : IsOnTurn name state n) where
    lines : ℕ → Chunks
    lines = in_line q without_spent is.lines

    plain : IsPlain name state (in_line q without_spent is.lines)
    plain = trim name state frames heads nodes turns is n q (look_of state n q may)

    maker : (one : QueueMaker) × (slice_get state.makers q ≡ Some one)
    maker = maker_of state is.plain.tree n q may.act.frame may.act.may.live (has_held may.act.frame q Pop may.held)

    pub book_test : OnNext name state n (λ s f. IsNextAbout deed.Test s state f q) → AreChained (key_at frames) after_heads after_nodes (in_line q without_spent is.lines)
        → IsBook name (after_deed state n) after_frames after_heads after_nodes turns
    book_test next chained =
        book_deed name state frames heads nodes turns is n may.act after_frames one after_heads after_nodes (in_line q without_spent is.lines) same
        (plain_test name state (in_line q without_spent is.lines) plain n may.act turn q maker.0 maker.1 next) chained

    pub book_empty : OnNext name state n (λ s f. IsNextAbout deed.Pop s state f q) → IsTurnTold turns n q tested.Empty
        → IsFrontTold frames (key_at frames) after_heads after_nodes is.lines n q tested.Empty → IsBook name (after_deed state n) after_frames after_heads after_nodes turns
    book_empty next turned told =
        let found = looked name state frames heads nodes turns is n q (look_of state n q may) after_heads after_nodes same turn tested.Empty turned told in
        book_deed name state frames heads nodes turns is n may.act after_frames one after_heads after_nodes (in_line q without_spent is.lines) same
        (plain_empty name state (in_line q without_spent is.lines) plain n may.act turn q maker.0 maker.1 next
        (λ s named lawful. found s named lawful (origin_in s maker.0) (origin_of s state q maker.0 maker.1))) told.0

    -- the first item leaves the first chunk
    pub book_pop : OnNext name state n (λ s f. IsNextAbout deed.Pop s state f q) → IsTurnTold turns n q tested.Holds
        → (told : IsFrontTold frames (key_at frames) after_heads after_nodes is.lines n q tested.Holds)
        → (last_heads : List (Option ℕ)) (last_nodes : Slab Link) → length last_heads ≡ length after_heads
        → AreChained (key_at frames) last_heads last_nodes (in_line q without_first (in_line q without_spent is.lines))
        → IsBook name (after_deed state n) after_frames last_heads last_nodes turns
    book_pop next turned told last_heads last_nodes last_same chained =
        let first = found_item name state frames heads nodes turns is n q (look_of state n q may) after_heads after_nodes same told in
        book_deed name state frames heads nodes turns is n may.act after_frames one last_heads last_nodes (in_line q without_first (in_line q without_spent is.lines)) (last_same ∙ same)
        (plain_pop name state (in_line q without_spent is.lines) plain n may.act turn q maker.0 maker.1 next may.held
        (alone_by name state frames heads nodes turns is n q (look_of state n q may) turned) first.first first.rest first.value first.are first.item) chained
