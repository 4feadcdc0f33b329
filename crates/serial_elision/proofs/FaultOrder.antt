-- Why the faults come in serial order: each fault so far, and each activation on the stack, comes
-- before the activations that stand below it and before the children that they may yet spawn.
use Rattle.std.proofs.Common.{◌≡◌, ℕ, zero, suc, ◌+◌, ◌-◌, ◌≤◌, true, nat_eq, nat_lt, nat_le, List, [], ◌∷◌, ◌++◌, length, Option, Some, None, refl, ap, sym, subst, ◌∙◌, arith}
use Rattle.std.proofs.lemmas.List.Elements.{All-push}
use Rattle.std.proofs.lemmas.List.Kept.{AllPairs-cons}
use Rattle.std.specs.Prelude.{All, IsTrue}
use Rattle.swan_model.specs.declared.body.Ask.{Ask}
use Rattle.swan_model.specs.declared.body.Ask.TheVariants as ask
use Rattle.swan_model.specs.declared.body.Body.{Ghosts}
use Rattle.swan_model.specs.declared.body.Child.{Child}
use Rattle.swan_model.specs.declared.fault.Fault.{Fault}
use Rattle.swan_model.specs.declared.path.TheConstants.{PATH_MOST}
use Rattle.swan_model.specs.declared.plan.Plan.{Plan}
use Rattle.swan_model.specs.declared.rights.Mode.TheVariants.{In, Out, Push, Pop}
use Rattle.swan_model.specs.declared.value.Value.{Value}
use Rattle.swan_model.specs.Elision.{serial}
use Rattle.swan_model.specs.Rights.{is_aliased}
use Rattle.swan_model.specs.SerialState.{Activation, Holding, Queue, Store, State}
use Rattle.swan_model.specs.SerialStep.{Effect, goes_on, spawns, ends, faults, state_after, with_failed, effect, effect_of, step_on, after_next, number_at, popped, spawn_effect, given}
use Rattle.swan_model.specs.PathOrder.{comes_before}
use Rattle.serial_elision.specs.Laws.{AreInOrder}
use Rattle.serial_elision.proofs.Asks.{on_object-either, on_queue-either, if-either}
use Rattle.swan_model.proofs.PathOrder.{is_left, left-before, left-below_other, left-below, before-below, before-parent, left-sibling}

-- a path comes before an activation, and leaves towards the left of the children that it may yet spawn
pub record Precedes {L : Type 0} (path : List ℕ) (a : Activation L) : Type 0 where
  pub task : comes_before path a.path ≡ true
  pub children : (number : ℕ) → a.children ≤ number → is_left path (a.path ++ number ∷ []) ≡ true

abbrev pub PrecedesEach : {L : Type 0} → List ℕ → List (Activation L) → Type 0
PrecedesEach path [] = Unit {0}
PrecedesEach path (a ∷ below) = Precedes path a × PrecedesEach path below

-- each activation comes before those below it
abbrev pub EachPrecedesBelow : {L : Type 0} → List (Activation L) → Type 0
EachPrecedesBelow [] = Unit {0}
EachPrecedesBelow (top ∷ below) = PrecedesEach top.path below × EachPrecedesBelow below

-- each fault comes before all activations
abbrev FaultsPrecede : {L : Type 0} → List Fault → List (Activation L) → Type 0
FaultsPrecede [] stack = Unit {0}
FaultsPrecede (fault ∷ booked) stack = PrecedesEach fault.path stack × FaultsPrecede booked stack

pub record IsOrdered {L : Type 0} (stack : List (Activation L)) (booked : List Fault) : Type 0 where
  pub nested : EachPrecedesBelow stack
  pub before : FaultsPrecede booked stack
  pub in_order : AreInOrder booked

-- a child comes before what its parent comes before
precedes-child : {L : Type 0} (path : List ℕ) (number : ℕ) (stack : List (Activation L)) → PrecedesEach path stack → PrecedesEach (path ++ number ∷ []) stack
precedes-child path number [] before = tt
precedes-child path number (a ∷ below) before = (
  record {
    task = before-below path a.path (number ∷ []) before.0.task;
    children = λ later most. left-below path (a.path ++ later ∷ []) (number ∷ []) (before.0.children later most);
  },
  precedes-child path number below before.1,
)

-- what comes before an activation comes before it still when it has spawned
pub precedes-moved : {L : Type 0} (path : List ℕ) (a b : Activation L) → b.path ≡ a.path → a.children ≤ b.children → Precedes path a → Precedes path b
precedes-moved path a b same more before =
    record {
      task = ap (comes_before path) same ∙ before.task;
      children = λ number most. ap (λ p. is_left path (p ++ number ∷ [])) same ∙ before.children number (omega arith);
    }

-- and where one more of the first one's children has failed
pub precedes-failed : {L : Type 0} (path : List ℕ) (stack : List (Activation L)) → PrecedesEach path stack → PrecedesEach path (with_failed stack)
precedes-failed path [] each = tt
precedes-failed path (parent ∷ below) each =
    (precedes-moved path parent (record parent { failed = parent.failed + 1 }) refl (omega arith) each.0, each.1)

nested-failed : {L : Type 0} (stack : List (Activation L)) → EachPrecedesBelow stack → EachPrecedesBelow (with_failed stack)
nested-failed [] each = tt
nested-failed (parent ∷ below) each = each

-- what comes before an activation comes before the child that it spawns now
pub precedes-spawned : {L : Type 0} (path : List ℕ) (a child : Activation L) → child.path ≡ a.path ++ a.children ∷ [] → Precedes path a → Precedes path child
precedes-spawned path a child is before =
    let left : is_left path child.path ≡ true = ap (is_left path) is ∙ before.children a.children (omega arith) in
    record {
      task = left-before path child.path left;
      children = λ number most. left-below_other path child.path (number ∷ []) left;
    }

-- the child comes before its parent, and leaves towards the left of the later ones
pub precedes-parent : {L : Type 0} (path : List ℕ) (number : ℕ) (parent : Activation L) → parent.path ≡ path → parent.children ≡ number + 1 → Precedes (path ++ number ∷ []) parent
precedes-parent path number parent same more =
    record {
      task = ap (comes_before (path ++ number ∷ [])) same ∙ before-parent path number;
      children = λ later most. ap (λ p. is_left (path ++ number ∷ []) (p ++ later ∷ [])) same ∙ left-sibling path number later (omega arith);
    }

faults_precede-other : {L : Type 0} (before after : List (Activation L)) → ((path : List ℕ) → PrecedesEach path before → PrecedesEach path after) → (booked : List Fault) → FaultsPrecede booked before → FaultsPrecede booked after
faults_precede-other before after each [] precede = tt
faults_precede-other before after each (fault ∷ booked) precede =
    (each fault.path precede.0, faults_precede-other before after each booked precede.1)

faults_precede-push : {L : Type 0} (stack : List (Activation L)) (booked : List Fault) (fault : Fault) → FaultsPrecede booked stack → PrecedesEach fault.path stack → FaultsPrecede (booked ++ fault ∷ []) stack
faults_precede-push stack [] fault precede last = (last, tt)
faults_precede-push stack (first ∷ booked) fault precede last =
    (precede.0, faults_precede-push stack booked fault precede.1 last)

abbrev InOrder : Fault → Fault → Type 0
InOrder earlier later = IsTrue (comes_before earlier.path later.path)

-- the fault of the top activation comes after all faults so far
in_order-push : {L : Type 0} (top : Activation L) (below : List (Activation L)) (booked : List Fault) (fault : Fault) → fault.path ≡ top.path → FaultsPrecede booked (top ∷ below) → AreInOrder booked → AreInOrder (booked ++ fault ∷ [])
in_order-push top below [] fault is precede ordered = λ i j d less within. absurd (omega arith)
in_order-push top below (first ∷ booked) fault is precede ordered =
    let later : All (InOrder first) booked = λ k d within. ordered zero (suc k) d (omega arith) (omega arith) in
    let rest : AreInOrder booked = λ i j d less within. ordered (suc i) (suc j) d (omega arith) (omega arith) in
    let last : InOrder first fault = ap (comes_before first.path) is ∙ precede.0.0.task in
    AllPairs-cons InOrder first (booked ++ fault ∷ []) (All-push (InOrder first) booked fault later last) (in_order-push top below booked fault is precede.1 rest)

-- the activations that an effect leaves stand where that of the step stood, and its child below it
abbrev StandWhereItStood : {L : Type 0} → Activation L → Effect L → Type 0
StandWhereItStood a (goes_on b store) = (b.path ≡ a.path) × (b.children ≡ a.children)
StandWhereItStood a (spawns parent child store) = (parent.path ≡ a.path) × (parent.children ≡ a.children + 1) × (child.path ≡ a.path ++ a.children ∷ [])
StandWhereItStood a ends = Unit {0}
StandWhereItStood a (faults kind) = Unit {0}

popped-stands : {L : Type 0} (store : Store) (a : Activation L) (n : ℕ) (queue : Queue) (items : List Value) → StandWhereItStood a (popped store a n queue items)
popped-stands store a n queue [] = tt
popped-stands store a n queue (item ∷ items) = (refl, refl)

spawned-stands : {L : Type 0} (store : Store) (a : Activation L) (child : Child L) (holdings : Option (List Holding)) → StandWhereItStood a (spawn_effect store a child holdings)
spawned-stands store a child None = tt
spawned-stands store a child (Some holdings) =
    if-either (StandWhereItStood a) (is_aliased child.gives) _ _ tt
    (if-either (StandWhereItStood a) (nat_le PATH_MOST (length a.path)) _ _ tt
    (if-either (StandWhereItStood a) (nat_lt a.fuel child.fuel) _ _ tt (refl, refl, refl)))

effect-stands : {L : Type 0} (n : ℕ) (store : Store) (a : Activation L) (asked : Ask L) → StandWhereItStood a (effect n store a asked)
effect-stands n store a ask.Work = (refl, refl)
effect-stands n store a (ask.Read place) =
    on_object-either (StandWhereItStood a) tt store (number_at a.holdings place In) _ (λ number cell held found. (refl, refl))
effect-stands n store a (ask.Write place value) =
    on_object-either (StandWhereItStood a) tt store (number_at a.holdings place Out) _ (λ number cell held found. (refl, refl))
effect-stands n store a (ask.Push place value) =
    on_queue-either (StandWhereItStood a) tt store (number_at a.holdings place Push) _ (λ number queue held found. (refl, refl))
effect-stands n store a (ask.Pop place) =
    on_queue-either (StandWhereItStood a) tt store (number_at a.holdings place Pop) _ (λ number queue held found. popped-stands store a number queue queue.items)
effect-stands n store a (ask.Empty place) =
    on_queue-either (StandWhereItStood a) tt store (number_at a.holdings place Pop) _ (λ number queue held found. (refl, refl))
effect-stands n store a ask.NewQueue = (refl, refl)
effect-stands n store a (ask.NewObject value) = (refl, refl)
effect-stands n store a (ask.Spawn child) = spawned-stands store a child (given a.holdings child.gives)
effect-stands n store a ask.Sync = (refl, refl)
effect-stands n store a ask.Finish = tt
effect-stands n store a (ask.Fail trouble) = tt

after-ordered : {L : Type 0} (s : State L) (top : Activation L) (below : List (Activation L)) (place : ℕ) (done : Effect L) → StandWhereItStood top done → IsOrdered (top ∷ below) s.faults → IsOrdered (state_after s below top.path place done).stack (state_after s below top.path place done).faults
after-ordered s top below place (goes_on a store) stands ordered =
    record {
      nested = (subst (λ path. PrecedesEach path below) (sym stands.0) ordered.nested.0, ordered.nested.1);
      before = faults_precede-other (top ∷ below) (a ∷ below) (λ path each. (precedes-moved path top a stands.0 (omega arith) each.0, each.1)) s.faults ordered.before;
      in_order = ordered.in_order;
    }
after-ordered s top below place (spawns parent child store) stands ordered =
    let under = precedes-child top.path top.children below ordered.nested.0 in
    let first = precedes-parent top.path top.children parent stands.0 stands.1 in
    record {
      nested = (
        subst (λ path. PrecedesEach path (parent ∷ below)) (sym stands.2) (first, under),
        (subst (λ path. PrecedesEach path below) (sym stands.0) ordered.nested.0, ordered.nested.1),
      );
      before = faults_precede-other (top ∷ below) (child ∷ parent ∷ below) (λ path each.
          (precedes-spawned path top child stands.2 each.0, (precedes-moved path top parent stands.0 (omega arith) each.0, each.1))) s.faults ordered.before;
      in_order = ordered.in_order;
    }
after-ordered s top below place ends stands ordered =
    record {
      nested = ordered.nested.1;
      before = faults_precede-other (top ∷ below) below (λ path each. each.1) s.faults ordered.before;
      in_order = ordered.in_order;
    }
after-ordered s top below place (faults kind) stands ordered =
    let fault : Fault = record { path = top.path; place = place; kind = kind } in
    let before = faults_precede-other (top ∷ below) (with_failed below) (λ path each. precedes-failed path below each.1) s.faults ordered.before in
    record {
      nested = nested-failed below ordered.nested.1;
      before = faults_precede-push (with_failed below) s.faults fault before (precedes-failed top.path below ordered.nested.0);
      in_order = in_order-push top below s.faults fault refl ordered.before ordered.in_order;
    }

module _ {B L : Type 0} (G : Ghosts B L) where
  step_on-ordered : (body : B) (s : State L) (stack : List (Activation L)) → s.stack ≡ stack → IsOrdered stack s.faults → IsOrdered (step_on G body s stack).stack (step_on G body s stack).faults
  step_on-ordered body s [] is ordered = subst (λ stack. IsOrdered stack s.faults) (sym is) ordered
  step_on-ordered body s (top ∷ below) is ordered =
      let asked = G.next body top.local top.answer (top.fuel - 1) in
      let stands = if-either (StandWhereItStood top) (nat_eq top.fuel 0) _ _ tt (effect-stands s.steps s.store (after_next top asked.0) asked.1) in
      after-ordered s top below (G.place_of body top.local) (effect_of G body s.steps s.store top) stands ordered

  pub serial-ordered : (plan : Plan B L) (n : ℕ) → IsOrdered (serial G plan n).stack (serial G plan n).faults
  serial-ordered plan zero =
      record { nested = (tt, tt); before = tt; in_order = λ i j d less within. absurd (omega arith) }
  serial-ordered plan (suc n) =
      step_on-ordered plan.body (serial G plan n) (serial G plan n).stack refl (serial-ordered plan n)

  -- the faults are in serial order after any number of steps
  pub serial-in_order : (plan : Plan B L) (n : ℕ) → AreInOrder (serial G plan n).faults
  serial-in_order plan n = (serial-ordered plan n).in_order
