-- How deep tasks lie in each other: a spawn from a path of the greatest length is a fault.
use Rattle.std.proofs.Common.{◌≡◌, ℕ, zero, suc, ◌-◌, ◌≤◌, ◌<◌, Bool, true, false, nat_eq, nat_le, nat_lt, cond, List, [], ◌∷◌, ◌++◌, Option, Some, None, length, refl, sym, ap, subst, arith, rules, tests, length-append}
use Rattle.swan_model.specs.declared.body.Ask.{Ask}
use Rattle.swan_model.specs.declared.body.Ask.TheVariants as ask
use Rattle.swan_model.specs.declared.body.Body.{Ghosts}
use Rattle.swan_model.specs.declared.body.Child.{Child}
use Rattle.swan_model.specs.declared.path.TheConstants.{PATH_MOST}
use Rattle.swan_model.specs.declared.plan.Plan.{Plan}
use Rattle.swan_model.specs.declared.rights.Mode.TheVariants.{In, Out, Push, Pop}
use Rattle.swan_model.specs.declared.script.Deed.{Deed}
use Rattle.swan_model.specs.declared.value.Value.{Value}
use Rattle.swan_model.specs.Elision.{serial}
use Rattle.swan_model.specs.Rights.{is_aliased}
use Rattle.swan_model.specs.Script.{script}
use Rattle.swan_model.specs.SerialState.{Activation, Holding, Queue, State, Store}
use Rattle.swan_model.specs.SerialStep.{Effect, state_after, effect, effect_of, ends, faults, given, goes_on, after_next, number_at, popped, spawn_effect, spawns, step_on, with_failed}
use Rattle.swan_model.specs.SerialTime.{time}
use Rattle.swan_model.specs.TrueFrames.{StandsAt}
use Rattle.serial_elision.proofs.Asks.{if-either, on_object-either, on_queue-either}
use Rattle.serial_elision.proofs.TaskSteps.{top_path}
use Rattle.serial_elision.proofs.Turns.{FitsDeed, next_deed, step-fits}

-- a child comes only of a task that isn't so deep
abbrev IsShallow : {L : Type 0} → Activation L → Effect L → Type 0
IsShallow a (goes_on b store) = Unit {0}
IsShallow a (spawns parent child store) = length a.path < PATH_MOST
IsShallow a ends = Unit {0}
IsShallow a (faults kind) = Unit {0}

popped-shallow : {L : Type 0} (store : Store) (a : Activation L) (n : ℕ) (queue : Queue) (items : List Value) → IsShallow a (popped store a n queue items)
popped-shallow store a n queue [] = tt
popped-shallow store a n queue (item ∷ items) = tt

if-shallow : {L : Type 0} (a : Activation L) (b : Bool) (x y : Effect L) → IsShallow a x → (b ≡ false → IsShallow a y) → IsShallow a (cond b x y)
if-shallow a true x y then_is else_is = then_is
if-shallow a false x y then_is else_is = else_is refl

spawned-shallow : {L : Type 0} (store : Store) (a : Activation L) (child : Child L) (holdings : Option (List Holding)) → IsShallow a (spawn_effect store a child holdings)
spawned-shallow store a child None = tt
spawned-shallow store a child (Some holdings) =
    if-shallow a (is_aliased child.gives) _ _ tt (λ alone.
    if-shallow a (nat_le PATH_MOST (length a.path)) _ _ tt (λ shallow.
    if-shallow a (nat_lt a.fuel child.fuel) _ _ tt (λ enough. let less : length a.path < PATH_MOST = search (rules, tests) in less)))

effect-shallow : {L : Type 0} (n : ℕ) (store : Store) (a : Activation L) (asks : Ask L) → IsShallow a (effect n store a asks)
effect-shallow n store a ask.Work = tt
effect-shallow n store a (ask.Read place) = on_object-either (IsShallow a) tt store (number_at a.holdings place In) _ (λ number cell held found. tt)
effect-shallow n store a (ask.Write place value) = on_object-either (IsShallow a) tt store (number_at a.holdings place Out) _ (λ number cell held found. tt)
effect-shallow n store a (ask.Push place value) = on_queue-either (IsShallow a) tt store (number_at a.holdings place Push) _ (λ number queue held found. tt)
effect-shallow n store a (ask.Pop place) = on_queue-either (IsShallow a) tt store (number_at a.holdings place Pop) _ (λ number queue held found. popped-shallow store a number queue queue.items)
effect-shallow n store a (ask.Empty place) = on_queue-either (IsShallow a) tt store (number_at a.holdings place Pop) _ (λ number queue held found. tt)
effect-shallow n store a ask.NewQueue = tt
effect-shallow n store a (ask.NewObject value) = tt
effect-shallow n store a (ask.Spawn child) = spawned-shallow store a child (given a.holdings child.gives)
effect-shallow n store a ask.Sync = tt
effect-shallow n store a ask.Finish = tt
effect-shallow n store a (ask.Fail trouble) = tt

-- none of these is deeper
abbrev AreShallow : {L : Type 0} → List (Activation L) → Type 0
AreShallow [] = Unit {0}
AreShallow (a ∷ below) = (length a.path ≤ PATH_MOST) × AreShallow below

failed-shallow : {L : Type 0} (below : List (Activation L)) → AreShallow below → AreShallow (with_failed below)
failed-shallow [] are = tt
failed-shallow (parent ∷ below) are = are

after-shallow : {L : Type 0} (s : State L) (top : Activation L) (below : List (Activation L)) (place : ℕ) (does : Deed) (done : Effect L) → FitsDeed top does done → IsShallow top done
    → AreShallow (top ∷ below) → AreShallow (state_after s below top.path place done).stack
after-shallow s top below place does (goes_on a store) fits is are = (subst (λ p. length p ≤ PATH_MOST) (sym fits.0) are.0, are.1)
after-shallow s top below place does (spawns parent child store) fits is are = (
  (let long : length child.path ≡ length (top.path ++ top.children ∷ []) = ap length fits.2 in omega (arith, is, long, length-append top.path (top.children ∷ []))),
  (subst (λ p. length p ≤ PATH_MOST) (sym fits.0) are.0, are.1),
)
after-shallow s top below place does ends fits is are = are.1
after-shallow s top below place does (faults kind) fits is are = failed-shallow below are.1

module _ {B L : Type 0} (G : Ghosts B L) (plan : Plan B L) where
  step-shallow : (n : ℕ) (store : Store) (top : Activation L) → IsShallow top (effect_of G plan.body n store top)
  step-shallow n store top =
      let step = G.next plan.body top.local top.answer (top.fuel - 1) in
      if-either (IsShallow top) (nat_eq top.fuel 0) _ _ tt (effect-shallow n store (after_next top step.0) step.1)

  shallow-on : (s : State L) (stack : List (Activation L)) → s.stack ≡ stack → AreShallow stack → AreShallow (step_on G plan.body s stack).stack
  shallow-on s [] is are = subst AreShallow (sym is) are
  shallow-on s (top ∷ below) is are =
      after-shallow s top below (G.place_of plan.body top.local) (next_deed G plan.body s.store top) (effect_of G plan.body s.steps s.store top)
      (step-fits G plan.body s.steps s.store top) (step-shallow s.steps s.store top) are

  shallow : (n : ℕ) → AreShallow (serial G plan n).stack
  shallow zero = (omega arith, tt)
  shallow (suc n) = shallow-on (serial G plan n) (serial G plan n).stack refl (shallow n)

  -- a task's path has at most so many parts
  pub few-parts : (path : List ℕ) (k : ℕ) (top : Activation L) → StandsAt G plan path k top → length path ≤ PATH_MOST
  few-parts path k top at =
      let are : AreShallow (top ∷ at.below) = subst AreShallow at.stack (shallow (time (script G plan) path k)) in
      subst (λ p. length p ≤ PATH_MOST) (top_path G plan path k top at).1 are.0
