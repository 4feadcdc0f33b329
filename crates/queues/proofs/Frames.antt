-- The active frame of a number, and what its rights let it do.
use Rattle.std.proofs.Common.{◌≡◌, ◌⊎◌, inl, inr, ℕ, true, nat_eq, Some, List, [], ◌∷◌, refl}
use Rattle.std.proofs.lemmas.Bool.{and_from, and_parts, eqb-true, false≢true, or_cases, or_left, or_right}
use Rattle.std.specs.List.{list_any}
use Rattle.std.specs.Prelude.{◌&&◌, ◌==◌}
use Rattle.swan_model.specs.declared.rights.Mode.{Mode}
use Rattle.swan_model.specs.declared.rights.Mode.TheVariants.{Push, Pop, PushPop}
use Rattle.swan_model.specs.QueueState.{ActiveFrame, QueueRight, QueueState, active, holds_queue}
use Rattle.swan_model.specs.Rights.{allows, is_queue_mode}
use Rattle.queues.specs.Tree.{has_queue}
use Rattle.swan_model.proofs.Elements.{found_is, any_weaker}
use Rattle.swan_model.proofs.Uses.{allows-more, allows_own}

-- the active frame of a number has that number
pub active_number : (state : QueueState) (number : ℕ) (frame : ActiveFrame) → active state number ≡ Some frame → frame.number ≡ number
active_number state number frame live = eqb-true frame.number number (found_is (λ (f : ActiveFrame). nat_eq f.number number) state.frames frame live).passes

-- ---- rights

-- a right on the queue of this number, by both modes
abbrev pub both_on : ℕ → QueueRight
both_on queue = record { queue = queue; mode = PushPop }

-- who may use a queue has it
pub has_held : (frame : ActiveFrame) (queue : ℕ) (mode : Mode) → holds_queue frame queue mode ≡ true → has_queue frame queue ≡ true
has_held frame queue mode held =
    any_weaker (λ right. (right.queue == queue) && allows right.mode mode) (λ right. right.queue == queue)
    (λ right both. (and_parts (right.queue == queue) (allows right.mode mode) both).0) frame.rights held

-- who may use it by a mode may use it by each mode that this allows
pub held_through : (frame : ActiveFrame) (queue : ℕ) (mode other : Mode) → holds_queue frame queue mode ≡ true → allows mode other ≡ true → holds_queue frame queue other ≡ true
held_through frame queue mode other held allowed =
    any_weaker (λ right. (right.queue == queue) && allows right.mode mode) (λ right. (right.queue == queue) && allows right.mode other)
    (λ right both. let parts = and_parts (right.queue == queue) (allows right.mode mode) both in
    and_from (right.queue == queue) (allows right.mode other) parts.0 (allows-more right.mode mode other parts.1 allowed)) frame.rights held

-- a mode by which a frame has a queue
pub some_mode : (rights : List QueueRight) (queue : ℕ) → list_any (λ right. right.queue == queue) rights ≡ true
    → (mode : Mode) × (list_any (λ right. (right.queue == queue) && allows right.mode mode) rights ≡ true)
some_mode [] queue some = absurd (false≢true some)
some_mode (right ∷ rights) queue some = elim (or_cases (right.queue == queue) (list_any (λ other. other.queue == queue) rights) some) [
  | inl here ↦
      let lets = and_from (right.queue == queue) (allows right.mode right.mode) here (allows_own right.mode) in
      (right.mode, or_left ((right.queue == queue) && allows right.mode right.mode) (list_any (λ other. (other.queue == queue) && allows other.mode right.mode) rights) lets)
  | inr there ↦
      let rest = some_mode rights queue there in
      (rest.0, or_right ((right.queue == queue) && allows right.mode rest.0) (list_any (λ other. (other.queue == queue) && allows other.mode rest.0) rights) rest.1)
]

-- who has a queue by modes of queues may push to it or pop from it
pub pushes_or_pops : (frame : ActiveFrame) (queue : ℕ) → ((mode : Mode) → holds_queue frame queue mode ≡ true → is_queue_mode mode ≡ true)
    → has_queue frame queue ≡ true → (holds_queue frame queue Push ≡ true) ⊎ (holds_queue frame queue Pop ≡ true)
pushes_or_pops frame queue modes has =
    let some = some_mode frame.rights queue has in
    by some.0 some.1 (modes some.0 some.1)
  where
    by : (mode : Mode) → holds_queue frame queue mode ≡ true → is_queue_mode mode ≡ true → (holds_queue frame queue Push ≡ true) ⊎ (holds_queue frame queue Pop ≡ true)
    by Push held is = inl held
    by Pop held is = inr held
    by PushPop held is = inl (held_through frame queue PushPop Push held refl)
    by mode held is = absurd (false≢true is)
