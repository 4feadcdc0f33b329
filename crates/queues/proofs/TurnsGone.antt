-- The turns of poppers without a frame that has finished.
use Rattle.std.proofs.Common.{◌≡◌, ◌≢◌, ℕ, Bool, true, false, cond, not, ◌==◌, None, Some, List, [], ◌∷◌, refl, sym, ap, ◌∙◌, inl, inr, rules}
use Rattle.std.proofs.lemmas.Bool.{cases_Bool, cases_eq, and_from}
use Rattle.std.specs.List.{list_all}
use Rattle.std.specs.BTreeMap.{is_at}
use Rattle.std.specs.Ordering.{nat_cmp}
use Rattle.std.specs.Prelude.{slice_get}
use Rattle.pop_order.specs.Frames.{TurnFrame, Frames, frame_at, without, HasNoChild}
use Rattle.swan_model.specs.QueueState.{QueueMaker, QueueState, active, IsActiveChild}
use Rattle.queues.specs.Turned.{AreApart, AreTurns}
use Rattle.pop_order.specs.OneChange.{IsOnlyChange}
use Rattle.swan_model.proofs.Lookups.{tied, untied, equal_at}

gone_at : (es : Frames) (k : ℕ) → AreApart es → frame_at (without es k) k ≡ None
gone_at [] k apart = refl
gone_at (e ∷ es) k (first, apart) = by (is_at (nat_cmp k) e.0) refl (gone_at es k apart) where
  by : (b : Bool) → is_at (nat_cmp k) e.0 ≡ b → frame_at (without es k) k ≡ None → frame_at (cond b es (e ∷ without es k)) k ≡ None
  by true is rest = ap (λ n. frame_at es n) (equal_at k e.0 is) ∙ first
  by false is rest = ap (λ b. cond b (Some e.1) (frame_at (without es k) k)) is ∙ rest

gone_by : (es : Frames) (k n : ℕ) → n ≢ k → frame_at (without es k) n ≡ frame_at es n
gone_by [] k n apart = refl
gone_by (e ∷ es) k n apart = by (is_at (nat_cmp k) e.0) refl (gone_by es k n apart) where
  by : (b : Bool) → is_at (nat_cmp k) e.0 ≡ b → frame_at (without es k) n ≡ frame_at es n → frame_at (cond b es (e ∷ without es k)) n ≡ frame_at (e ∷ es) n
  by true is rest =
      let key = equal_at k e.0 is in
      sym (ap (λ b. cond b (Some e.1) (frame_at es n)) (untied n e.0 (λ same. apart (sym same ∙ sym key))))
  by false is rest = ap (cond (is_at (nat_cmp n) e.0) (Some e.1)) rest

none_gone : (es : Frames) (k n : ℕ) → frame_at es n ≡ None → frame_at (without es k) n ≡ None
none_gone [] k n none = refl
none_gone (e ∷ es) k n none = by (is_at (nat_cmp n) e.0) refl none (none_gone es k n) where
  by : (b : Bool) → is_at (nat_cmp n) e.0 ≡ b → cond b (Some e.1) (frame_at es n) ≡ None → (frame_at es n ≡ None → frame_at (without es k) n ≡ None)
      → frame_at (without (e ∷ es) k) n ≡ None
  by true is h rest = let never : Some e.1 ≡ None = h in absurd (cc)
  by false is h rest = elim (cases_Bool (is_at (nat_cmp k) e.0)) [
    | inl gone ↦ ap (λ c. frame_at (cond c es (e ∷ without es k)) n) gone ∙ h
    | inr stays ↦ ap (λ c. frame_at (cond c es (e ∷ without es k)) n) stays ∙ ap (λ c. cond c (Some e.1) (frame_at (without es k) n)) is ∙ rest h
  ]

apart_gone : (es : Frames) (k : ℕ) → AreApart es → AreApart (without es k)
apart_gone [] k apart = tt
apart_gone (e ∷ es) k (first, apart) = by (is_at (nat_cmp k) e.0) refl (apart_gone es k apart) where
  by : (b : Bool) → is_at (nat_cmp k) e.0 ≡ b → AreApart (without es k) → AreApart (cond b es (e ∷ without es k))
  by true is rest = apart
  by false is rest = (none_gone es k e.0 first, rest)

-- no turn has a parent whose children aren't active
pub no_child : (es : Frames) (n : ℕ) → AreApart es → ((m : ℕ) (turn : TurnFrame) → frame_at es m ≡ Some turn → turn.parent ≢ n) → HasNoChild es n
no_child [] n apart none = refl
no_child (e ∷ es) n (first, apart) none =
    let here : frame_at (e ∷ es) e.0 ≡ Some e.1 = ap (λ b. cond b (Some e.1) (frame_at es e.0)) (tied e.0 e.0 refl) in
    let ne : e.1.parent ≢ n = none e.0 e.1 here in
    let test : (e.1.parent == n) ≡ false = search rules in
    and_from (not (e.1.parent == n)) (list_all (λ f. not (f.1.parent == n)) es) (ap not test)
    (no_child es n apart (λ m turn at. none m turn (elim (cases_eq m e.0) [
      | inl same ↦ let never : None ≡ Some turn = sym first ∙ ap (λ k. frame_at es k) (sym same) ∙ at in absurd (cc)
      | inr other ↦ ap (λ b. cond b (Some e.1) (frame_at es m)) (untied m e.0 (λ s. other (sym s))) ∙ at
    ])))

pub turns_childless : (state : QueueState) (turns : Frames) (n : ℕ) → AreTurns state turns → ((child : ℕ) → IsActiveChild state n child → ⊥) → HasNoChild turns n
turns_childless state turns n is alone = no_child turns n is.apart (λ m turn at of.
    let was = is.known m turn at in alone m (record { frame = was.0; live = was.1; of = was.2 ∙ ap Some of }))

pub turns_gone : (state after : QueueState) (turns : Frames) (n : ℕ) → IsOnlyChange (active state) (active after) n None → after.makers ≡ state.makers → AreTurns state turns
    → AreTurns after (without turns n)
turns_gone state after turns n one makers is = record {
  apart = apart_gone turns n is.apart;
  known = λ m turn at. elim (cases_eq m n) [
    | inl here ↦ let never : None ≡ Some turn = sym (gone_at turns n is.apart) ∙ ap (λ k. frame_at (without turns n) k) (sym here) ∙ at in absurd (cc)
    | inr other ↦ let was = is.known m turn (sym (gone_by turns n m other) ∙ at) in (was.0, one.others m other ∙ was.1, was.2, was.3)
  ];
  all = λ m parent queue mode frame live of held apart. elim (cases_eq m n) [
    | inl here ↦ let never : None ≡ Some frame = sym one.changed ∙ ap (active after) (sym here) ∙ live in absurd (cc)
    | inr other ↦
        let turn = is.all m parent queue mode frame (sym (one.others m other) ∙ live) of held
        (λ maker made. apart maker (ap (λ (ms : List QueueMaker). slice_get ms queue) makers ∙ made)) in
        (turn.0, gone_by turns n m other ∙ turn.1, turn.2, turn.3)
  ];
}
