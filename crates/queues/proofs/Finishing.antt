-- A state without a frame that has finished follows.
use Rattle.std.proofs.Common.{◌≡◌, ℕ, Bool, true, nat_eq, Some, refl, sym, ap, ◌∙◌, arith}
use Rattle.std.proofs.lemmas.Bool.{both_ways, eq-eqb, eqb-true, not-true}
use Rattle.std.specs.Prelude.{not, filter}
use Rattle.swan_model.specs.declared.script.Script.{Script}
use Rattle.swan_model.specs.QueueFollows.{IsChildOf, QueuesFollow, is_done_among, is_reached}
use Rattle.swan_model.specs.QueueState.{ActiveFrame, IsActiveChild, QueueState, active, after_finish}
use Rattle.queues.proofs.Changing.{done_from, done_is, made_on, task_on}
use Rattle.swan_model.proofs.Elements.{all_each, all_from, found_is, filtered_stands}
use Rattle.queues.proofs.FramesChanged.{find_gone, find_others}

-- Other frames are as active as before, and the one that has finished isn't.
pub still_active : (state : QueueState) (number n : ℕ) → (n ≡ number → ⊥) → active (after_finish state number) n ≡ active state n
still_active state number n apart = find_others state.frames number n apart

pub not_active : (state : QueueState) (number : ℕ) (frame : ActiveFrame) → active (after_finish state number) number ≡ Some frame → ⊥
not_active state number frame now = find_gone state.frames number frame now

module _ (s : Script) (state : QueueState) (follows : QueuesFollow s state) (number : ℕ) (alone : (child : ℕ) → IsActiveChild state number child → ⊥) where
  abbrev gone : QueueState
  gone = after_finish state number

  abbrev stays : ActiveFrame → Bool
  stays f = not (nat_eq f.number number)

  active_same : (n : ℕ) → (n ≡ number → ⊥) → active gone n ≡ active state n
  active_same n apart = still_active state number n apart

  not_that : (f : ActiveFrame) → stays f ≡ true → f.number ≡ number → ⊥
  not_that f is same = both_ways (nat_eq f.number number) (not-true (nat_eq f.number number) is) (eq-eqb f.number number same)

  apart_from : (n : ℕ) (y : ActiveFrame) → active gone n ≡ Some y → n ≡ number → ⊥
  apart_from n y now same =
      let found = found_is (λ (f : ActiveFrame). nat_eq f.number n) (filter stays state.frames) y now in
      let old = filtered_stands stays state.frames found.index y found.stands in
      not_that y old.passes (eqb-true y.number n found.passes ∙ same)

  was_active : (n : ℕ) (y : ActiveFrame) → active gone n ≡ Some y → active state n ≡ Some y
  was_active n y now = sym (active_same n (apart_from n y now)) ∙ now

  done_still : (t : ℕ) → is_done_among s state t ≡ true → is_done_among s gone t ≡ true
  done_still t done =
      let by = done_is s state t done in
      done_from s gone t by.entry by.stands (all_from (is_reached s t by.entry.path) (filter stays state.frames) (λ i y at.
      let old = filtered_stands stays state.frames i y at in
      all_each (is_reached s t by.entry.path) state.frames old.index y by.reached old.stands))

  child_still : (n p : ℕ) (y : ActiveFrame) → active state n ≡ Some y → y.parent ≡ Some p → IsChildOf state y p → IsChildOf gone y p
  child_still n p y live of up =
      let apart : p ≡ number → ⊥ = λ same.
      alone n (record { frame = y; live = live; of = of ∙ ap Some same }) in
      record { above = up.above; live = active_same p apart ∙ up.live; index = up.index; path = up.path; spawned = up.spawned }

  pub finished_follows : QueuesFollow s gone
  finished_follows =
      record {
        known = λ i y at.
            let old = filtered_stands stays state.frames i y at in
            active_same y.number (not_that y old.passes) ∙ follows.known old.index y old.stands;
        root = λ y now. follows.root y (was_active 0 y now);
        others = λ n y now other. follows.others n y (was_active n y now) other;
        tasks = λ n y now. task_on s state gone y (λ queue. refl) (omega arith) (follows.tasks n y (was_active n y now));
        children = λ n p y now of. child_still n p y (was_active n y now) of (follows.children n p y (was_active n y now) of);
        different = λ n m a b one two same. follows.different n m a b (was_active n a one) (was_active m b two) same;
        queues = λ queue maker at. made_on s state gone done_still queue maker (follows.queues queue maker at);
        once = follows.once;
      }
