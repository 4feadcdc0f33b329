-- What the frames keep of each other is kept where one goes on in its place: with the rights that it had, or as the maker of a new queue.
use Rattle.queues.proofs.ActiveAfter.{KeepsTask}
use Rattle.std.proofs.Common.{◌≡◌, inl, inr, ℕ, ◌<◌, ◌≤◌, Bool, true, false, cond, nat_eq, Some, List, [], ◌∷◌, ◌++◌, length, refl, sym, ap, ◌∙◌, length-append, arith}
use Rattle.std.proofs.lemmas.Bool.{and_left, and_parts, cond_both, eqb-true, false≢true, ne_eqb}
use Rattle.std.specs.List.{list_any}
use Rattle.std.specs.Prelude.{◌&&◌, ◌==◌, slice_get}
use Rattle.swan_model.specs.declared.rights.Mode.{Mode}
use Rattle.swan_model.specs.declared.rights.Mode.TheVariants.{Push, Pop, PushPop}
use Rattle.swan_model.specs.QueueState.{ActiveFrame, QueueMaker, QueueRight, QueueState, active, frame_after_change, changing, holds_queue}
use Rattle.swan_model.specs.Rights.{allows, is_queue_mode}
use Rattle.queues.specs.Tree.{IsHeld, made, IsTree, has_queue, maker_path}
use Rattle.queues.proofs.Frames.{active_number, both_on}
use Rattle.queues.proofs.TreeChanged.{EachIsChanged}
use Rattle.swan_model.proofs.Elements.{last_more, any_before, any_either, before_more}

-- ---- rights with one more

pub has_before : (rights : List QueueRight) (queue new : ℕ) → queue < new → list_any (λ r. r.queue == queue) (rights ++ both_on new ∷ []) ≡ list_any (λ r. r.queue == queue) rights
has_before rights queue new less = any_before (λ r. r.queue == queue) rights (both_on new) (ne_eqb new queue (λ same. absurd (omega arith)))

pub holds_before : (rights : List QueueRight) (queue new : ℕ) (mode : Mode) → queue < new
    → list_any (λ r. (r.queue == queue) && allows r.mode mode) (rights ++ both_on new ∷ []) ≡ list_any (λ r. (r.queue == queue) && allows r.mode mode) rights
holds_before rights queue new mode less =
    any_before (λ r. (r.queue == queue) && allows r.mode mode) rights (both_on new)
    (and_left (new == queue) (allows PushPop mode) (ne_eqb new queue (λ same. absurd (omega arith))))

both_of_queues : (mode : Mode) → allows PushPop mode ≡ true → is_queue_mode mode ≡ true
both_of_queues Push is = refl
both_of_queues Pop is = refl
both_of_queues PushPop is = refl
both_of_queues mode is = absurd (false≢true is)

module _ (state : QueueState) (tree : IsTree state) (n : ℕ) (change : ActiveFrame → ActiveFrame) (kept : KeepsTask change) where
  -- each frame is the changed one, or as it was
  by_cases : (P : ActiveFrame → Type 0) (frame : ActiveFrame) → P (change frame) → P frame → P (frame_after_change n change frame)
  by_cases P frame new old = cond_both (nat_eq frame.number n) (change frame) frame P (λ is. new) (λ is. old)

  keeps_each : KeepsTask (frame_after_change n change)
  keeps_each = record {
    number = λ frame. by_cases (λ now. now.number ≡ frame.number) frame (kept.number frame) refl;
    parent = λ frame. by_cases (λ now. now.parent ≡ frame.parent) frame (kept.parent frame) refl;
    path = λ frame. by_cases (λ now. now.path ≡ frame.path) frame (kept.path frame) refl;
    children = λ frame. by_cases (λ now. frame.children ≤ now.children) frame (kept.children frame) (omega arith);
  }

  -- a frame goes on with the rights that it had
  module _ (rights : (frame : ActiveFrame) → (change frame).rights ≡ frame.rights) where
    same_has : (frame : ActiveFrame) (queue : ℕ) → has_queue (frame_after_change n change frame) queue ≡ has_queue frame queue
    same_has frame queue = by_cases (λ now. has_queue now queue ≡ has_queue frame queue) frame
        (ap (λ rs. list_any (λ (r : QueueRight). r.queue == queue) rs) (rights frame)) refl

    same_holds : (frame : ActiveFrame) (queue : ℕ) (mode : Mode) → holds_queue (frame_after_change n change frame) queue mode ≡ holds_queue frame queue mode
    same_holds frame queue mode = by_cases (λ now. holds_queue now queue mode ≡ holds_queue frame queue mode) frame
        (ap (λ rs. list_any (λ (r : QueueRight). (r.queue == queue) && allows r.mode mode) rs) (rights frame)) refl

    pub goes_on : EachIsChanged state (changing state n change) (frame_after_change n change) n
    goes_on = record {
      frames = refl;
      makers = λ queue maker at. at;
      more = omega arith;
      latest = omega arith;
      kept = keeps_each;
      has = λ frame queue there. same_has frame queue;
      holds = λ frame queue mode there. same_holds frame queue mode;
      new = λ number queue frame live fresh has.
          let there = (tree.held number queue frame live (sym (same_has frame queue) ∙ has)).0 in
          absurd (omega arith);
      modes = λ number queue frame mode live holds. tree.modes number queue frame mode live (sym (same_holds frame queue mode) ∙ holds);
    }

  -- a frame makes a queue
  module _ (rights : (frame : ActiveFrame) → (change frame).rights ≡ frame.rights ++ both_on (length state.makers) ∷ []) (maker : QueueMaker)
      (own : (frame : ActiveFrame) → active state n ≡ Some frame → frame.path ≡ maker_path maker) where
    abbrev with_queue : QueueState
    with_queue = record (changing state n change) { makers = state.makers ++ maker ∷ [] }

    has_old : (frame : ActiveFrame) (queue : ℕ) → queue < length state.makers → has_queue (frame_after_change n change frame) queue ≡ has_queue frame queue
    has_old frame queue there = by_cases (λ now. has_queue now queue ≡ has_queue frame queue) frame
        (ap (λ rs. list_any (λ (r : QueueRight). r.queue == queue) rs) (rights frame) ∙ has_before frame.rights queue (length state.makers) there) refl

    holds_old : (frame : ActiveFrame) (queue : ℕ) (mode : Mode) → queue < length state.makers → holds_queue (frame_after_change n change frame) queue mode ≡ holds_queue frame queue mode
    holds_old frame queue mode there = by_cases (λ now. holds_queue now queue mode ≡ holds_queue frame queue mode) frame
        (ap (λ rs. list_any (λ (r : QueueRight). (r.queue == queue) && allows r.mode mode) rs) (rights frame) ∙ holds_before frame.rights queue (length state.makers) mode there) refl

    -- the new queue is the maker's
    new_queue : (number queue : ℕ) (frame : ActiveFrame) → active state number ≡ Some frame → length state.makers ≤ queue → has_queue (frame_after_change n change frame) queue ≡ true
        → (number ≡ n) × (queue < length with_queue.makers) × IsHeld with_queue (frame_after_change n change frame) queue
    new_queue number queue frame live fresh = by (nat_eq frame.number n) refl where
      old : has_queue frame queue ≡ true → ⊥
      old has = let there = (tree.held number queue frame live has).0 in absurd (omega arith)

      by : (b : Bool) → nat_eq frame.number n ≡ b → has_queue (cond b (change frame) frame) queue ≡ true
          → (number ≡ n) × (queue < length with_queue.makers) × IsHeld with_queue (cond b (change frame) frame) queue
      by true is has = elim (any_either (λ r. r.queue == queue) frame.rights (both_on (length state.makers)) (sym (ap (λ rs. list_any (λ (r : QueueRight). r.queue == queue) rs) (rights frame)) ∙ has)) [
        | inl was ↦ absurd (old was)
        | inr last ↦
            let newest : length state.makers ≡ queue = eqb-true (length state.makers) queue last in
            let same : number ≡ n = sym (active_number state number frame live) ∙ eqb-true frame.number n is in
            let at : slice_get with_queue.makers queue ≡ Some maker = ap (slice_get with_queue.makers) (sym newest) ∙ last_more state.makers maker in (
              same,
              omega (arith, length-append state.makers (maker ∷ [])),
              made maker at (kept.path frame ∙ own frame (ap (active state) (sym same) ∙ live)),
            )
      ]
      by false is has = absurd (old has)

    new_modes : (number queue : ℕ) (frame : ActiveFrame) (mode : Mode) → active state number ≡ Some frame → holds_queue (frame_after_change n change frame) queue mode ≡ true → is_queue_mode mode ≡ true
    new_modes number queue frame mode live = by_cases (λ now. holds_queue now queue mode ≡ true → is_queue_mode mode ≡ true) frame
        (λ holds. elim (any_either (λ r. (r.queue == queue) && allows r.mode mode) frame.rights (both_on (length state.makers))
        (sym (ap (λ rs. list_any (λ (r : QueueRight). (r.queue == queue) && allows r.mode mode) rs) (rights frame)) ∙ holds)) [
          | inl was ↦ tree.modes number queue frame mode live was
          | inr last ↦ both_of_queues mode (and_parts (length state.makers == queue) (allows PushPop mode) last).1
        ])
        (tree.modes number queue frame mode live)

    pub makes : EachIsChanged state with_queue (frame_after_change n change) n
    makes = record {
      frames = refl;
      makers = λ queue other at. before_more state.makers maker queue other at;
      more = omega (arith, length-append state.makers (maker ∷ []));
      latest = omega arith;
      kept = keeps_each;
      has = has_old;
      holds = holds_old;
      new = new_queue;
      modes = new_modes;
    }
