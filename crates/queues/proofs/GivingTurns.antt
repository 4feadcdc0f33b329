-- The turn of a child that is given queues, one after another.
use Rattle.queues.proofs.TurnsEnlisted.{apart_enlisted, up_to}
use Rattle.swan_model.specs.Rights.{is_queue_mode}
use Rattle.std.proofs.lemmas.Bool.{cases_eq, false≢true, and_from, eq-eqb, or_left, or_right}
use Rattle.std.proofs.Common.{Option, ◌≡◌, ◌≢◌, ℕ, true, false, ◌==◌, not, ◌||◌, Some, List, [], ◌∷◌, ◌++◌, map, refl, sym, ap, ◌∙◌, zero, suc, ◌<◌, None, take, inl, inr, arith, rules}
use Rattle.std.specs.List.{list_any}
use Rattle.std.specs.Prelude.{◌&&◌, slice_get}
use Rattle.swan_model.proofs.Lookups.{at_inserted, at_set, by_inserted, by_set}
use Rattle.pop_order.specs.Frames.{TurnFrame, Frames, frames_after_enlist, frames_after_enlist_at, frame_at, may_get, AreUpTo, MayBeEnlisted}
use Rattle.swan_model.specs.QueueState.{QueueRight, ActiveFrame, MayGive}
use Rattle.queues.specs.Turned.{holding_of, gives_queue, turn_of, AreApart, AreGivenTurns}

-- what a child has after one more
turn_now : (turns : Frames) (parent child : ℕ) (gives : List QueueRight) (give : QueueRight) → frame_at turns child ≡ turn_of parent gives
    → frame_at (frames_after_enlist turns parent child (holding_of give)) child ≡ turn_of parent (gives ++ give ∷ [])
turn_now turns parent child [] give is =
    ap (λ o. frame_at (frames_after_enlist_at turns parent child (holding_of give) o) child) is ∙ at_inserted turns child (record { parent = parent; holdings = holding_of give ∷ []; lent = false })
turn_now turns parent child (first ∷ gives) give is =
    let frame : TurnFrame = record { parent = parent; holdings = map holding_of (first ∷ gives); lent = false } in
    ap (λ o. frame_at (frames_after_enlist_at turns parent child (holding_of give) o) child) is
    ∙ at_set turns child frame (record frame { holdings = frame.holdings ++ holding_of give ∷ [] }) is
    ∙ ap (λ hs. Some (record frame { holdings = hs })) (sym (mapped (first ∷ gives))) where
      mapped : (rights : List QueueRight) → map holding_of (rights ++ give ∷ []) ≡ map holding_of rights ++ holding_of give ∷ []
      mapped [] = refl
      mapped (right ∷ rights) = ap (λ hs. holding_of right ∷ hs) (mapped rights)

turn_others : (turns : Frames) (parent child : ℕ) (gives : List QueueRight) (give : QueueRight) → frame_at turns child ≡ turn_of parent gives
    → (other : ℕ) → other ≢ child → frame_at (frames_after_enlist turns parent child (holding_of give)) other ≡ frame_at turns other
turn_others turns parent child [] give is other apart =
    ap (λ o. frame_at (frames_after_enlist_at turns parent child (holding_of give) o) other) is ∙ by_inserted turns child (record { parent = parent; holdings = holding_of give ∷ []; lent = false }) other apart
turn_others turns parent child (first ∷ gives) give is other apart =
    let frame : TurnFrame = record { parent = parent; holdings = map holding_of (first ∷ gives); lent = false } in
    ap (λ o. frame_at (frames_after_enlist_at turns parent child (holding_of give) o) other) is
    ∙ by_set turns child frame (record frame { holdings = frame.holdings ++ holding_of give ∷ [] }) other is apart

-- it may get a queue that it doesn't have
may_get_more : (parent : ℕ) (gives : List QueueRight) (queue : ℕ) → gives_queue gives queue ≡ false → may_get (turn_of parent gives) parent queue ≡ true
may_get_more parent [] queue fresh = refl
may_get_more parent (first ∷ gives) queue fresh =
    and_from (parent == parent) (not false && not (list_any (λ h. h.number == queue) (map holding_of (first ∷ gives)))) (eq-eqb parent parent refl)
    (ap (λ b. not false && not b) (mapped (first ∷ gives) ∙ fresh)) where
      mapped : (rights : List QueueRight) → list_any (λ h. h.number == queue) (map holding_of rights) ≡ gives_queue rights queue
      mapped [] = refl
      mapped (right ∷ rights) = ap (λ b. (right.queue == queue) || b) (mapped rights)

-- ---- gives of one spawn, one after another

pub given_at : (gives : List QueueRight) (i : ℕ) (give : QueueRight) → slice_get gives i ≡ Some give → gives_queue gives give.queue ≡ true
given_at [] i give at = let never : None ≡ Some give = at in absurd (cc)
given_at (first ∷ gives) zero give at =
    let same : first ≡ give = cc in
    or_left (first.queue == give.queue) (gives_queue gives give.queue) (ap (λ (g : QueueRight). g.queue == give.queue) same ∙ eq-eqb give.queue give.queue refl)
given_at (first ∷ gives) (suc i) give at = or_right (first.queue == give.queue) (gives_queue gives give.queue) (given_at gives i give at)

pub queue_mode_at : (frame : ActiveFrame) (gives : List QueueRight) → MayGive frame gives → (i : ℕ) (give : QueueRight) → slice_get gives i ≡ Some give → is_queue_mode give.mode ≡ true
queue_mode_at frame [] may i give at = let never : None ≡ Some give = at in absurd (cc)
queue_mode_at frame (first ∷ gives) may zero give at = let same : first ≡ give = cc in ap (λ (g : QueueRight). is_queue_mode g.mode) (sym same) ∙ may.1
queue_mode_at frame (first ∷ gives) may (suc i) give at = queue_mode_at frame gives may.3 i give at

-- no earlier give is of the same queue
pub fresh_at : (frame : ActiveFrame) (gives : List QueueRight) → MayGive frame gives → (i : ℕ) (give : QueueRight) → slice_get gives i ≡ Some give
    → gives_queue (take i gives) give.queue ≡ false
fresh_at frame [] may i give at = let never : None ≡ Some give = at in absurd (cc)
fresh_at frame (first ∷ gives) may zero give at = refl
fresh_at frame (first ∷ gives) may (suc i) give at =
    let ne : first.queue ≢ give.queue = λ same. false≢true (sym may.2 ∙ ap (λ q. gives_queue gives q) same ∙ given_at gives i give at) in
    let test : (first.queue == give.queue) ≡ false = search rules in
    ap (λ b. b || gives_queue (take i gives) give.queue) test ∙ fresh_at frame gives may.3 i give at

no_turn : (turns : Frames) (child : ℕ) → ((number : ℕ) (turn : TurnFrame) → frame_at turns number ≡ Some turn → number < child) → frame_at turns child ≡ None
no_turn turns child newest = by (frame_at turns child) refl where
  by : (o : Option TurnFrame) → frame_at turns child ≡ o → o ≡ None
  by None e = refl
  by (Some turn) e = let less = newest child turn e in absurd (omega arith)

-- before the first give
pub turns_given_none : (turns : Frames) (parent child : ℕ) → ((number : ℕ) (turn : TurnFrame) → frame_at turns number ≡ Some turn → number < child) → AreGivenTurns turns turns parent child []
turns_given_none turns parent child newest = record { one = record { changed = no_turn turns child newest; others = λ other apart. refl }; apart = λ apart. apart }

module _ (before now : Frames) (parent child : ℕ) (gives : List QueueRight) where
  -- the child is still the newest
  pub turns_newest : ((number : ℕ) (turn : TurnFrame) → frame_at before number ≡ Some turn → number < child) → AreApart before → AreGivenTurns before now parent child gives → AreUpTo now child
  turns_newest newest apart is = up_to now child (is.apart apart) (λ m turn found. elim (cases_eq m child) [
    | inl same ↦ omega arith
    | inr other ↦ let less = newest m turn (sym (is.one.others m other) ∙ found) in omega arith
  ])

  module _ (is : AreGivenTurns before now parent child gives) where
    -- it may get a queue that it wasn't given yet
    pub turns_may_get : (queue : ℕ) → gives_queue gives queue ≡ false → MayBeEnlisted now parent child queue
    turns_may_get queue fresh = ap (λ o. may_get o parent queue) is.one.changed ∙ may_get_more parent gives queue fresh

    -- and then it was given one more
    pub turns_given_more : (give : QueueRight) → AreGivenTurns before (frames_after_enlist now parent child (holding_of give)) parent child (gives ++ give ∷ [])
    turns_given_more give = record {
      one = record {
        changed = turn_now now parent child gives give is.one.changed;
        others = λ other apart. turn_others now parent child gives give is.one.changed other apart ∙ is.one.others other apart;
      };
      apart = λ apart. apart_enlisted now parent child (holding_of give) (is.apart apart);
    }
