-- What holds of hyperqueues in plain form after ends were lent, and after they came back.
use Rattle.std.proofs.Common.{◌≡◌, ℕ, Bool, true, false, ◌==◌, Option, Some, None, List, [], refl, sym, ap, ◌∙◌, arith}
use Rattle.std.proofs.lemmas.Bool.{and_parts, eqb-true}
use Rattle.std.specs.Option.{option_map}
use Rattle.std.specs.Prelude.{if◌then◌else◌}
use Rattle.slab.specs.Slab.{Slab}
use Rattle.pop_order.specs.Frames.{Frames}
use Rattle.swan_model.specs.declared.script.Script.{Script}
use Rattle.swan_model.specs.QueueFollows.{AreByEnds}
use Rattle.swan_model.specs.QueueState.{ActiveFrame, QueueState, active, after_back, after_lend}
use Rattle.queues.specs.Asks.{IsRecorded}
use Rattle.queues.specs.Tells.{with_active}
use Rattle.queue_book.specs.Chains.{Link}
use Rattle.queue_book.specs.KeptFrames.{KeptFrame}
use Rattle.queue_book.specs.Live.{is_lent_with, kept_of, key_at, AreLive, IsFrameKept}
use Rattle.pop_order.specs.OneChange.{IsOnlyChange}
use Rattle.queue_book.specs.NoEnds.{no_ends}
use Rattle.queue_book.specs.Whole.{IsBook}
use Rattle.queue_book.specs.declared.live_frames.LiveFrames.{LiveFrames}
use Rattle.queues.proofs.ActiveAfter.{one_changed, one_goes_on}
use Rattle.queue_book.proofs.ChainChanges.{chained_same}
use Rattle.queue_book.proofs.LiveKept.{kept_changed, kept_live, keys_same, live_kept, live_one}
use Rattle.queue_book.proofs.PlainLent.{plain_back, plain_lend}
use Rattle.queues.proofs.TurnsCalls.{turns_back, turns_lend}

abbrev pub with_lent : Bool → KeptFrame → KeptFrame
with_lent lent kept = record kept { is_lent = lent }

-- what a call makes of an active frame
pub called : (state : QueueState) (n : ℕ) (f : ActiveFrame) (change : ActiveFrame → QueueState) → active state n ≡ Some f → with_active change state (active state n) ≡ change f
called state n f change live = ap (with_active change state) live

module _ (name : Option Script) (state : QueueState) (frames : LiveFrames) (heads : List (Option ℕ)) (nodes : Slab Link) (turns : Frames) (is : IsBook name state frames heads nodes turns)
    (n : ℕ) (frame : ActiveFrame) (live : active state n ≡ Some frame) where
  pub book_lend : (after_frames : LiveFrames) → IsOnlyChange (kept_of frames) (kept_of after_frames) n (option_map (λ (kept : KeptFrame). record kept { is_lent = true }) (kept_of frames n))
      → IsBook name (after_lend state frame []) after_frames heads nodes turns
  book_lend after_frames one =
      let change : ActiveFrame → ActiveFrame = λ f. record f { lent = Some (record { deeds = frame.deeds; ends = [] }) } in
      let was = kept_live state frames is.live n frame live in
      let kept = was.0 in
      let lent_one = kept_changed frames after_frames n kept (with_lent true) was.1 one in
      let now : IsFrameKept (after_lend state frame []) (with_lent true kept) (change frame) = record {
        deeds = was.2.deeds;
        lent = ap (λ k. Some (record { deeds = k; ends = [] })) (sym was.2.deeds);
        own_chunks = was.2.own_chunks;
        made = was.2.made;
        given = was.2.given;
        pushers = was.2.pushers;
      } in
      record {
        lines = is.lines;
        plain = plain_lend name state is.lines is.plain n frame live [];
        live = live_one state (after_lend state frame []) is.plain.tree frames after_frames is.live n (λ q maker less made. made)
            (with_lent true kept) (change frame) lent_one (one_goes_on state n frame change (λ f. refl) live) now;
        count = is.count;
        chained = chained_same (key_at frames) (key_at after_frames) heads nodes is.lines is.lines
            (keys_same frames after_frames n kept (with_lent true kept) was.1 lent_one refl) (λ q. refl) is.chained;
        turned = turns_lend state turns is.turned n frame [] live;
      }

  pub book_back : (after_frames : LiveFrames) → IsOnlyChange (kept_of frames) (kept_of after_frames) n (option_map (λ (kept : KeptFrame). record kept { is_lent = false }) (kept_of frames n))
      → IsBook name (after_back state n frame.deeds) after_frames heads nodes turns
  book_back after_frames one =
      let change : ActiveFrame → ActiveFrame = λ f. record f { deeds = frame.deeds; lent = None } in
      let was = kept_live state frames is.live n frame live in
      let kept = was.0 in
      let back_one = kept_changed frames after_frames n kept (with_lent false) was.1 one in
      let now : IsFrameKept (after_back state n frame.deeds) (with_lent false kept) (change frame) = record {
        deeds = was.2.deeds;
        lent = refl;
        own_chunks = was.2.own_chunks;
        made = was.2.made;
        given = was.2.given;
        pushers = was.2.pushers;
      } in
      record {
        lines = is.lines;
        plain = plain_back name state is.lines is.plain n frame live;
        live = live_one state (after_back state n frame.deeds) is.plain.tree frames after_frames is.live n (λ q maker less made. made)
            (with_lent false kept) (change frame) back_one (one_changed state n change (λ f. refl) frame live) now;
        count = is.count;
        chained = chained_same (key_at frames) (key_at after_frames) heads nodes is.lines is.lines
            (keys_same frames after_frames n kept (with_lent false kept) was.1 back_one refl) (λ q. refl) is.chained;
        turned = turns_back state turns is.turned n frame.deeds frame live;
      }

-- no deed was done by ends
pub by_none : (s : Script) (path : List ℕ) (from to : ℕ) → from ≡ to → AreByEnds s path from to
by_none s path from to same = record { order = omega (arith, same); each = λ k above below. absurd (omega (arith, same)) }

-- ---- whether ends are those that were recorded

lent_with : (kept : Option KeptFrame) (deeds : ℕ) → is_lent_with kept deeds ≡ true → (one : KeptFrame) × (kept ≡ Some one) × (one.is_lent ≡ true) × (one.deeds ≡ deeds)
lent_with None deeds none = let never : false ≡ true = none in absurd (cc)
lent_with (Some one) deeds both = let parts = and_parts one.is_lent (one.deeds == deeds) both in (one, refl, parts.0, eqb-true one.deeds deeds parts.1)

pub recorded : (state : QueueState) (frames : LiveFrames) → AreLive state frames → (n deeds : ℕ) (path : List ℕ) → is_lent_with (kept_of frames n) deeds ≡ true
    → (is : IsRecorded state n (no_ends n deeds path)) × (is.frame.deeds ≡ deeds)
recorded state frames live n deeds path lent =
    let kept = lent_with (kept_of frames n) deeds lent in
    let frame = live_kept state frames live n kept.0 kept.1 in (
      record {
        frame = frame.0;
        live = frame.1;
        lent = record { deeds = kept.0.deeds; ends = [] };
        has = frame.2.lent ∙ ap (λ b. if b then Some (record { deeds = kept.0.deeds; ends = [] }) else None) kept.2;
        own = refl;
        deeds = sym kept.3;
        list = refl;
      },
      sym frame.2.deeds ∙ kept.3,
    )
