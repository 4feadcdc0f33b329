-- What each step does to the paths of the stack, as its entry tells it.
use Rattle.std.proofs.Common.{◌≡◌, ℕ, ◌+◌, ◌-◌, true, false, cond, nat_eq, nat_lt, nat_le, List, [], ◌∷◌, ◌++◌, length, Option, Some, None, refl}
use Rattle.swan_model.specs.declared.body.Ask.{Ask}
use Rattle.swan_model.specs.declared.body.Ask.TheVariants as ask
use Rattle.swan_model.specs.declared.body.Body.{Ghosts}
use Rattle.swan_model.specs.declared.body.Child.{Child}
use Rattle.swan_model.specs.declared.origin.Origin.{Origin}
use Rattle.swan_model.specs.declared.path.TheConstants.{PATH_MOST}
use Rattle.swan_model.specs.declared.rights.Mode.TheVariants.{In, Out, Push, Pop}
use Rattle.swan_model.specs.declared.script.Deed.{Deed}
use Rattle.swan_model.specs.declared.script.Deed.TheVariants as deed
use Rattle.swan_model.specs.declared.value.Value.{Value}
use Rattle.swan_model.specs.Granted.{is_spawn}
use Rattle.swan_model.specs.Rights.{is_aliased}
use Rattle.swan_model.specs.Script.{about, asked, deed_of, origin_at, spawn_of}
use Rattle.swan_model.specs.SerialState.{Activation, Holding, Queue, Store}
use Rattle.swan_model.specs.SerialStep.{Effect, goes_on, spawns, ends, faults, effect, effect_of, after_next, number_at, popped, spawn_effect, given}
use Rattle.serial_elision.specs.Caught.{is_sync}
use Rattle.serial_elision.proofs.Asks.{on_object-either, on_queue-either, if-either}

-- The activations that an effect leaves have these paths, children and failed children. The deed is a spawn where the effect
-- has a child, and nowhere else; and a Sync where the activation counts its failed children anew.
abbrev pub FitsDeed : {L : Type 0} → Activation L → Deed → Effect L → Type 0
FitsDeed a does (goes_on b store) = (b.path ≡ a.path) × (b.children ≡ a.children) × (is_spawn (deed_of does (goes_on b store)) ≡ false) × (b.failed ≡ cond (is_sync (deed_of does (goes_on b store))) 0 a.failed)
FitsDeed a does (spawns parent child store) = (parent.path ≡ a.path) × (parent.children ≡ a.children + 1) × (child.path ≡ a.path ++ a.children ∷ []) × (child.children ≡ 0) × (is_spawn (deed_of does (spawns parent child store)) ≡ true) × (parent.failed ≡ a.failed) × (child.failed ≡ 0)
FitsDeed {L = L} a does ends = is_spawn (deed_of {L = L} does ends) ≡ false
FitsDeed {L = L} a does (faults kind) = is_spawn (deed_of {L = L} does (faults kind)) ≡ false

-- What holds of a quiet deed and of each that may be asked for holds of the one that is, whatever it is about.
about-either : (P : Deed → Type 0) → P deed.Quiet → (origin : Option Origin) (does : Origin → Deed) → ((o : Origin) → P (does o)) → P (about origin does)
about-either P quiet None does each = quiet
about-either P quiet (Some origin) does each = each origin

-- what is asked about an object or a queue is no spawn
pub about-is : (origin : Option Origin) (does : Origin → Deed) → ((o : Origin) → is_spawn (does o) ≡ false) → is_spawn (about origin does) ≡ false
about-is = about-either (λ d. is_spawn d ≡ false) refl

-- a step by this deed is no spawn, and leaves the failed children of its activation
record IsPlain {L : Type 0} (a : Activation L) (does : Deed) : Type 0 where
  pub no_spawn : is_spawn does ≡ false
  pub no_sync : a.failed ≡ cond (is_sync does) 0 a.failed

about-plain : {L : Type 0} (a : Activation L) (origin : Option Origin) (does : Origin → Deed) → ((o : Origin) → IsPlain a (does o)) → IsPlain a (about origin does)
about-plain a = about-either (IsPlain a) (record { no_spawn = refl; no_sync = refl })

popped-fits : {L : Type 0} (store : Store) (a : Activation L) (does : Deed) (n : ℕ) (queue : Queue) (items : List Value) → IsPlain a does → FitsDeed a does (popped store a n queue items)
popped-fits store a does n queue [] plain = plain.no_spawn
popped-fits store a does n queue (item ∷ items) plain = (refl, refl, plain.no_spawn, plain.no_sync)

spawned-fits : {L : Type 0} (store before : Store) (a : Activation L) (child : Child L) (holdings : Option (List Holding)) → FitsDeed a (spawn_of before holdings) (spawn_effect store a child holdings)
spawned-fits store before a child None = refl
spawned-fits {L = L} store before a child (Some holdings) =
    let P : Effect L → Type 0 = FitsDeed a (spawn_of before (Some holdings)) in
    if-either P (is_aliased child.gives) _ _ refl
    (if-either P (nat_le PATH_MOST (length a.path)) _ _ refl
    (if-either P (nat_lt a.fuel child.fuel) _ _ refl (refl, refl, refl, refl, refl, refl, refl)))

effect-fits : {L : Type 0} (n : ℕ) (store : Store) (a : Activation L) (asks : Ask L) → FitsDeed a (asked store a.holdings asks) (effect n store a asks)
effect-fits n store a ask.Work = (refl, refl, refl, refl)
effect-fits {L = L} n store a (ask.Read place) =
    let plain = about-plain a (origin_at store a.holdings place In) deed.Read (λ o. record { no_spawn = refl; no_sync = refl }) in
    on_object-either (FitsDeed a (asked {L = L} store a.holdings (ask.Read place))) refl store (number_at a.holdings place In) _ (λ number cell held found. (refl, refl, plain.no_spawn, plain.no_sync))
effect-fits {L = L} n store a (ask.Write place value) =
    let plain = about-plain a (origin_at store a.holdings place Out) (λ o. deed.Write o value) (λ o. record { no_spawn = refl; no_sync = refl }) in
    on_object-either (FitsDeed a (asked {L = L} store a.holdings (ask.Write place value))) refl store (number_at a.holdings place Out) _ (λ number cell held found. (refl, refl, plain.no_spawn, plain.no_sync))
effect-fits {L = L} n store a (ask.Push place value) =
    let plain = about-plain a (origin_at store a.holdings place Push) (λ o. deed.Push o value) (λ o. record { no_spawn = refl; no_sync = refl }) in
    on_queue-either (FitsDeed a (asked {L = L} store a.holdings (ask.Push place value))) refl store (number_at a.holdings place Push) _ (λ number queue held found. (refl, refl, plain.no_spawn, plain.no_sync))
effect-fits {L = L} n store a (ask.Pop place) =
    let plain = about-plain a (origin_at store a.holdings place Pop) deed.Pop (λ o. record { no_spawn = refl; no_sync = refl }) in
    let does = asked {L = L} store a.holdings (ask.Pop place) in
    on_queue-either (FitsDeed a does) refl store (number_at a.holdings place Pop) _ (λ number queue held found. popped-fits store a does number queue queue.items plain)
effect-fits {L = L} n store a (ask.Empty place) =
    let plain = about-plain a (origin_at store a.holdings place Pop) deed.Test (λ o. record { no_spawn = refl; no_sync = refl }) in
    on_queue-either (FitsDeed a (asked {L = L} store a.holdings (ask.Empty place))) refl store (number_at a.holdings place Pop) _ (λ number queue held found. (refl, refl, plain.no_spawn, plain.no_sync))
effect-fits n store a ask.NewQueue = (refl, refl, refl, refl)
effect-fits n store a (ask.NewObject value) = (refl, refl, refl, refl)
effect-fits n store a (ask.Spawn child) = spawned-fits store store a child (given a.holdings child.gives)
effect-fits n store a ask.Sync = (refl, refl, refl, refl)
effect-fits n store a ask.Finish = refl
effect-fits n store a (ask.Fail trouble) = refl

module _ {B L : Type 0} (G : Ghosts B L) where
  -- what the top activation's next step is to do
  abbrev pub next_deed : B → Store → Activation L → Deed
  next_deed body store top = asked store top.holdings (G.next body top.local top.answer (top.fuel - 1)).1

  pub step-fits : (body : B) (n : ℕ) (store : Store) (top : Activation L) → FitsDeed top (next_deed body store top) (effect_of G body n store top)
  step-fits body n store top =
      let step = G.next body top.local top.answer (top.fuel - 1) in
      if-either (FitsDeed top (next_deed body store top)) (nat_eq top.fuel 0) _ _ refl (effect-fits n store (after_next top step.0) step.1)
