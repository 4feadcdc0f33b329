-- Whether a child may push to what it is given, queue by queue.
use Rattle.std.proofs.Common.{◌≡◌, ◌≢◌, ℕ, false, ◌||◌, ◌&&◌, ◌==◌, List, [], ◌∷◌, ◌++◌, refl, sym, ap, ◌∙◌, rules}
use Rattle.std.proofs.lemmas.Bool.{and_left, eq-eqb, or_from, or_parts}
use Rattle.std.proofs.lemmas.List.Folds.{list_any-append}
use Rattle.std.proofs.Math.Bool.{or-false}
use Rattle.swan_model.specs.declared.rights.Mode.TheVariants.{Push}
use Rattle.swan_model.specs.QueueState.{QueueRight}
use Rattle.swan_model.specs.Rights.{allows}
use Rattle.queue_book.specs.Handed.{gives_push}
use Rattle.queues.specs.Turned.{gives_queue}

-- nothing of what isn't given
pub push_none : (gives : List QueueRight) (q : ℕ) → gives_queue gives q ≡ false → gives_push gives q ≡ false
push_none [] q none = refl
push_none (give ∷ gives) q none =
    let both = or_parts (give.queue == q) (gives_queue gives q) none in
    or_from ((give.queue == q) && allows give.mode Push) (gives_push gives q) (and_left (give.queue == q) (allows give.mode Push) both.0) (push_none gives q both.1)

pub push_now : (gives : List QueueRight) (give : QueueRight) → gives_queue gives give.queue ≡ false → gives_push (gives ++ give ∷ []) give.queue ≡ allows give.mode Push
push_now gives give fresh =
    list_any-append (λ (r : QueueRight). (r.queue == give.queue) && allows r.mode Push) gives (give ∷ [])
    ∙ ap (λ b. b || (((give.queue == give.queue) && allows give.mode Push) || false)) (push_none gives give.queue fresh)
    ∙ or-false ((give.queue == give.queue) && allows give.mode Push) ∙ ap (λ b. b && allows give.mode Push) (eq-eqb give.queue give.queue refl)

pub push_other : (gives : List QueueRight) (give : QueueRight) (q : ℕ) → q ≢ give.queue → gives_push (gives ++ give ∷ []) q ≡ gives_push gives q
push_other gives give q other =
    let apart : (give.queue == q) ≡ false = let ne : give.queue ≢ q = λ e. other (sym e) in search rules in
    list_any-append (λ (r : QueueRight). (r.queue == q) && allows r.mode Push) gives (give ∷ [])
    ∙ ap (λ b. gives_push gives q || ((b && allows give.mode Push) || false)) apart ∙ or-false (gives_push gives q)
