-- The turns of poppers say the same of the state once a frame has made a queue.
use Rattle.std.proofs.Common.{◌≡◌, ℕ, true, Some, List, [], ◌∷◌, ◌++◌, length, refl, sym, ap, ◌∙◌, inl, inr}
use Rattle.std.proofs.lemmas.Bool.{cases_eq}
use Rattle.std.specs.Prelude.{slice_get}
use Rattle.pop_order.specs.Frames.{Frames}
use Rattle.swan_model.specs.declared.rights.Mode.{Mode}
use Rattle.swan_model.specs.QueueState.{ActiveFrame, QueueMaker, planned, made_by, QueueState, active, after_create, after_create_root, holds_queue, with_deed, with_made, IsUntouched}
use Rattle.swan_model.proofs.Elements.{last_more, one_answer, before_more}
use Rattle.queues.specs.Asks.{MayDo}
use Rattle.queues.specs.Tree.{IsTree, maker_path}
use Rattle.queues.specs.Turned.{AreTurns}
use Rattle.pop_order.specs.OneChange.{IsOnlyChange}
use Rattle.queues.proofs.ActiveAfter.{one_changed, one_goes_on}
use Rattle.queues.proofs.Frames.{has_held}
use Rattle.queues.proofs.Making.{holds_before, holds_cases}

module _ (state : QueueState) (tree : IsTree state) (turns : Frames) (is : AreTurns state turns) where
  module _ (after : QueueState) (n : ℕ) (frame later : ActiveFrame) (maker : QueueMaker) (live : active state n ≡ Some frame) (one : IsOnlyChange (active state) (active after) n (Some later))
      (makers : after.makers ≡ state.makers ++ maker ∷ []) (parent : later.parent ≡ frame.parent) (path : later.path ≡ frame.path) (rights : later.rights ≡ (with_made (length state.makers) frame).rights)
      (own_maker : frame.path ≡ maker_path maker) where
    later_holds : (q : ℕ) (mode : Mode) → holds_queue later q mode ≡ holds_queue (with_made (length state.makers) frame) q mode
    later_holds q mode = ap (λ rs. holds_queue (record later { rights = rs }) q mode) rights

    pub turns_made : AreTurns after turns
    turns_made = record {
      apart = is.apart;
      known = λ m turn at.
          let was = is.known m turn at in
          elim (cases_eq m n) [
            | inl here ↦
                let same : was.0 ≡ frame = one_answer (active state n) was.0 frame (ap (active state) (sym here) ∙ was.1) live in (
                  later,
                  ap (active after) here ∙ one.changed,
                  parent ∙ ap (λ (f : ActiveFrame). f.parent) (sym same) ∙ was.2,
                  λ q mode held.
                      let old : holds_queue frame q mode ≡ true = ap (λ (f : ActiveFrame). holds_queue f q mode) (sym same) ∙ was.3 q mode held in
                      let less = (tree.held n q frame live (has_held frame q mode old)).0 in
                      later_holds q mode ∙ holds_before frame (length state.makers) q mode less ∙ old,
                )
            | inr other ↦ (was.0, one.others m other ∙ was.1, was.2, was.3)
          ];
      all = λ m above q mode found live_found of held apart.
          elim (cases_eq m n) [
            | inl here ↦
                let same : found ≡ later = one_answer (active after n) found later (ap (active after) (sym here) ∙ live_found) one.changed in
                let held_later : holds_queue (with_made (length state.makers) frame) q mode ≡ true =
                sym (later_holds q mode) ∙ ap (λ (f : ActiveFrame). holds_queue f q mode) (sym same) ∙ held in
                elim (holds_cases frame (length state.makers) q mode held_later) [
                  | inl old ↦
                      is.all m above q mode frame (ap (active state) here ∙ live) (sym parent ∙ ap (λ (f : ActiveFrame). f.parent) (sym same) ∙ of) old
                      (λ old_one made is_own. apart old_one (ap (λ (ms : List QueueMaker). slice_get ms q) makers ∙ before_more state.makers maker q old_one made)
                      (ap (λ (f : ActiveFrame). f.path) same ∙ path ∙ is_own))
                  | inr new ↦
                      absurd (apart maker (ap (λ (ms : List QueueMaker). slice_get ms q) makers ∙ ap (λ k. slice_get (state.makers ++ maker ∷ []) k) new ∙ last_more state.makers maker)
                      (ap (λ (f : ActiveFrame). f.path) same ∙ path ∙ own_maker))
                ]
            | inr other ↦
                is.all m above q mode found (sym (one.others m other) ∙ live_found) of held
                (λ old_one made is_own. apart old_one (ap (λ (ms : List QueueMaker). slice_get ms q) makers ∙ before_more state.makers maker q old_one made) is_own)
          ];
    }

  pub turns_root : IsUntouched state → AreTurns (after_create_root state) turns
  turns_root untouched =
      let made = length state.makers in
      let root = untouched.root in
      turns_made (after_create_root state) 0 root (with_made made root) (planned made) untouched.live
      (one_changed state 0 (with_made made) (λ f. refl) root untouched.live) refl refl refl refl (tree.root root untouched.live).0

  pub turns_create : (n : ℕ) (act : MayDo state n) → AreTurns (after_create state act.frame) turns
  turns_create n act =
      let frame = act.frame in
      let made = length state.makers in
      let change : ActiveFrame → ActiveFrame = λ f. with_deed (with_made made f) in
      turns_made (after_create state frame) n frame (change frame) (made_by frame.path frame.deeds) act.may.live
      (one_goes_on state n frame change (λ f. refl) act.may.live) refl refl refl refl refl
