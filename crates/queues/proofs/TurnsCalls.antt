-- The turns of poppers say the same of the state after each call that makes and gives no queue.
use Rattle.std.proofs.Common.{◌≡◌, ℕ, true, Option, None, Some, List, refl, sym, ap, ◌∙◌, inl, inr}
use Rattle.std.proofs.lemmas.Bool.{cases_eq}
use Rattle.std.proofs.lemmas.Option.{same_Some}
use Rattle.swan_model.proofs.Lookups.{at_set, by_set}
use Rattle.pop_order.specs.Frames.{TurnFrame, Frames, frame_at, lets_use, frames_after_lend_at, frames_after_lend, without}
use Rattle.swan_model.specs.QueueState.{ActiveFrame, LentEnd, QueueState, active, after_back, after_deed, after_finish, after_lend, after_take_rest}
use Rattle.queues.specs.Asks.{MayDo}
use Rattle.queues.specs.Turned.{AreTurns}
use Rattle.queues.proofs.ActiveAfter.{one_gone}
use Rattle.queues.proofs.SameHolders.{holders_back, holders_deed, holders_lend, holders_rest}
use Rattle.queues.proofs.TurnsEnlisted.{apart_set}
use Rattle.queues.proofs.TurnsGone.{turns_gone}
use Rattle.queues.proofs.TurnsKept.{turns_held}

module _ (state : QueueState) (turns : Frames) (is : AreTurns state turns) where
  pub turns_deed : (n : ℕ) → MayDo state n → AreTurns (after_deed state n) turns
  turns_deed n act = turns_held state (after_deed state n) turns (holders_deed state n act.frame act.may.live) refl is

  pub turns_lend : (n : ℕ) (frame : ActiveFrame) (ends : List LentEnd) → active state n ≡ Some frame → AreTurns (after_lend state frame ends) turns
  turns_lend n frame ends live = turns_held state (after_lend state frame ends) turns (holders_lend state n frame live ends) refl is

  pub turns_back : (n deeds : ℕ) (frame : ActiveFrame) → active state n ≡ Some frame → AreTurns (after_back state n deeds) turns
  turns_back n deeds frame live = turns_held state (after_back state n deeds) turns (holders_back state n frame live deeds) refl is

  pub turns_finish : (n : ℕ) → AreTurns (after_finish state n) (without turns n)
  turns_finish n = turns_gone state (after_finish state n) turns n (one_gone state n) refl is

  pub turns_rest : (queue : ℕ) → AreTurns (after_take_rest state queue) turns
  turns_rest queue = turns_held state (after_take_rest state queue) turns (holders_rest state queue) refl is

  -- the queue views of a child move to it, which leaves whose turn it is
  pub turns_moved : (child : ℕ) → AreTurns state (frames_after_lend turns child)
  turns_moved child = by (frame_at turns child) refl where
    by : (o : Option TurnFrame) → frame_at turns child ≡ o → AreTurns state (frames_after_lend_at turns child o)
    by None none = is
    by (Some turn) found =
        let moved : TurnFrame = record turn { lent = true } in
        record {
          apart = apart_set turns child moved is.apart;
          known = λ n other stands. elim (cases_eq n child) [
            | inl here ↦
                let now : moved ≡ other = same_Some moved other (sym (at_set turns child turn moved found) ∙ ap (frame_at (frames_after_lend_at turns child (Some turn))) (sym here) ∙ stands) in
                let was = is.known child turn found in (
                  was.0,
                  ap (active state) here ∙ was.1,
                  was.2 ∙ ap (λ (t : TurnFrame). Some t.parent) now,
                  λ queue mode held. was.3 queue mode (ap (λ (t : TurnFrame). lets_use t.holdings queue mode) now ∙ held),
                )
            | inr apart ↦ is.known n other (sym (by_set turns child turn moved n found apart) ∙ stands)
          ];
          all = λ n parent queue mode frame live of held foreign.
              let t = is.all n parent queue mode frame live of held foreign in
              elim (cases_eq n child) [
                | inl here ↦
                    let same : t.0 ≡ turn = same_Some t.0 turn (sym t.1 ∙ ap (frame_at turns) here ∙ found) in (
                      moved,
                      ap (frame_at (frames_after_lend_at turns child (Some turn))) here ∙ at_set turns child turn moved found,
                      ap (λ (u : TurnFrame). u.parent) (sym same) ∙ t.2,
                      ap (λ (u : TurnFrame). lets_use u.holdings queue mode) (sym same) ∙ t.3,
                    )
                | inr apart ↦ (t.0, by_set turns child turn moved n found apart ∙ t.1, t.2, t.3)
              ];
        }
