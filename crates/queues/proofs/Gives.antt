-- Who is given queues may use each as the giver may.
use Rattle.std.proofs.Common.{◌≡◌, inl, inr, ℕ, true, List, [], ◌∷◌, subst}
use Rattle.std.proofs.lemmas.Bool.{and_parts, eqb-true, false≢true, or_cases}
use Rattle.std.specs.List.{list_any}
use Rattle.std.specs.Prelude.{◌&&◌, ◌==◌}
use Rattle.swan_model.specs.declared.rights.Mode.{Mode}
use Rattle.swan_model.specs.QueueState.{ActiveFrame, QueueRight, holds_queue, MayGive}
use Rattle.swan_model.specs.Rights.{allows}
use Rattle.queues.specs.Tree.{has_queue}
use Rattle.queues.proofs.Frames.{has_held, held_through, some_mode}

pub gives_held : (frame : ActiveFrame) (gives : List QueueRight) → MayGive frame gives → (queue : ℕ) (mode : Mode)
    → list_any (λ right. (right.queue == queue) && allows right.mode mode) gives ≡ true → holds_queue frame queue mode ≡ true
gives_held frame [] may queue mode some = absurd (false≢true some)
gives_held frame (give ∷ gives) may queue mode some =
    elim (or_cases ((give.queue == queue) && allows give.mode mode) (list_any (λ right. (right.queue == queue) && allows right.mode mode) gives) some) [
      | inl here ↦
          let parts = and_parts (give.queue == queue) (allows give.mode mode) here in
          subst (λ q. holds_queue frame q mode ≡ true) (eqb-true give.queue queue parts.0) (held_through frame give.queue give.mode mode may.0 parts.1)
      | inr there ↦ gives_held frame gives may.3 queue mode there
    ]

pub gives_had : (frame : ActiveFrame) (gives : List QueueRight) → MayGive frame gives → (queue : ℕ) → list_any (λ right. right.queue == queue) gives ≡ true
    → has_queue frame queue ≡ true
gives_had frame gives may queue some =
    let mode = some_mode gives queue some in
    has_held frame queue mode.0 (gives_held frame gives may queue mode.0 mode.1)
