-- What calls ask for and answer where there is a script.
use Rattle.std.proofs.Common.{◌≡◌, ◌≢◌, ℕ, Bool, true, false, ◌==◌, Option, Some, sym, ap, subst, ◌∙◌, inl, inr, rules, refl}
use Rattle.std.proofs.lemmas.Bool.{cases_eq, eq-eqb}
use Rattle.std.specs.Option.{option_map}
use Rattle.std.specs.Prelude.{slice_get, if◌then◌else◌}
use Rattle.swan_model.specs.declared.origin.Origin.{Origin}
use Rattle.swan_model.specs.declared.script.Script.{Script}
use Rattle.swan_model.specs.Lawful.{IsLawful}
use Rattle.swan_model.specs.QueueFollows.{origin_in, queue_origin}
use Rattle.swan_model.specs.QueueState.{ActiveFrame, QueueMaker, QueueState, active, HasTurn}
use Rattle.queues.specs.Asks.{IsOnTurn, OnNext}
use Rattle.queues.specs.Chunks.{Chunks}
use Rattle.queue_book.specs.Chains.{in_line}
use Rattle.queues.specs.Tells.{OnQueue}

-- what is said of an active frame's next deed
pub on_next : (name : Option Script) (state : QueueState) (n : ℕ) (Says : Script → ActiveFrame → Type 0) (s : Script) (frame : ActiveFrame)
    → OnNext name state n Says → name ≡ Some s → active state n ≡ Some frame → Says s frame
on_next name state n Says s frame on named live = on s named frame live

-- where there is a script, the frame has its turn
pub turn_on : (name : Option Script) (state : QueueState) (n : ℕ) (s : Script) (frame : ActiveFrame) → IsOnTurn name state n → name ≡ Some s → active state n ≡ Some frame → HasTurn state frame
turn_on name state n s frame turn = on_next name state n (λ r f. HasTurn state f) s frame turn

-- the queue of a maker
pub origin_of : (s : Script) (state : QueueState) (queue : ℕ) (maker : QueueMaker) → slice_get state.makers queue ≡ Some maker → queue_origin s state queue ≡ Some (origin_in s maker)
origin_of s state queue maker made = ap (option_map (origin_in s)) made

-- what is said of a queue
pub on_queue : (name : Option Script) (state : QueueState) (queue : ℕ) (maker : QueueMaker) (Says : Script → Origin → Type 0) → slice_get state.makers queue ≡ Some maker
    → ((s : Script) → name ≡ Some s → IsLawful s → Says s (origin_in s maker)) → OnQueue name state queue Says
on_queue name state queue maker Says made says s named lawful origin is =
    let both : Some (origin_in s maker) ≡ Some origin = sym (origin_of s state queue maker made) ∙ is in
    let same : origin_in s maker ≡ origin = cc in
    let P : Origin → Type 0 = λ o. Says s o in
    subst P same (says s named lawful)

-- what holds of the chunks of each queue, where those of one are changed
pub in_each : (P : ℕ → Chunks → Type 0) (queue : ℕ) (change : Chunks → Chunks) (lines : ℕ → Chunks) (q : ℕ) → (q ≡ queue → P q (change (lines q))) → (q ≢ queue → P q (lines q))
    → P q (in_line queue change lines q)
in_each P queue change lines q here elsewhere = elim (cases_eq q queue) [
  | inl same ↦
      let b : (q == queue) ≡ true = ap (λ k. k == queue) same ∙ eq-eqb queue queue refl in
      let Q : Bool → Type 0 = λ c. P q (if c then change (lines q) else lines q) in
      subst Q (sym b) (here same)
  | inr other ↦
      let b : (q == queue) ≡ false = search rules in
      let Q : Bool → Type 0 = λ c. P q (if c then change (lines q) else lines q) in
      subst Q (sym b) (elsewhere other)
]
