-- What each task holds is what the script grants it: the roots, what it made, and its gives.
use Rattle.std.proofs.Common.{◌≡◌, ◌⊎◌, inl, inr, ℕ, suc, Bool, true, false, ◌&&◌, nat_eq, nat_lt, nat_le, cond, List, [], ◌∷◌, ◌++◌, Option, Some, None, length, refl, sym, ap, subst, ◌∙◌}
use Rattle.std.proofs.lemmas.Bool.{and_from, or_left}
use Rattle.std.specs.Cmp.Lexicographic.{pointwise}
use Rattle.std.specs.Option.{option_map}
use Rattle.std.specs.Prelude.{slice_get}
use Rattle.swan_model.specs.declared.body.Ask.{Ask}
use Rattle.swan_model.specs.declared.body.Ask.TheVariants as ask
use Rattle.swan_model.specs.declared.body.Child.{Child}
use Rattle.swan_model.specs.declared.fault.FaultKind.TheVariants as kind
use Rattle.swan_model.specs.declared.origin.Origin.TheVariants.{Step}
use Rattle.swan_model.specs.declared.path.TheConstants.{PATH_MOST}
use Rattle.swan_model.specs.declared.rights.Mode.{Mode}
use Rattle.swan_model.specs.declared.rights.Mode.TheVariants.{In, Out, InOut, Push, Pop, PushPop}
use Rattle.swan_model.specs.declared.script.Deed.{Deed}
use Rattle.swan_model.specs.declared.script.Deed.TheVariants as deed
use Rattle.swan_model.specs.declared.script.Entry.{Entry}
use Rattle.swan_model.specs.declared.script.OriginGive.{OriginGive}
use Rattle.swan_model.specs.declared.script.Script.{Script}
use Rattle.swan_model.specs.declared.value.Value.{Value}
use Rattle.swan_model.specs.Granted.{holds, granted, granted_by, child_path, may_use, is_within}
use Rattle.swan_model.specs.Rights.{allows, is_aliased}
use Rattle.swan_model.specs.Script.{asked, deed_of, gives_of, origin_of, spawn_of}
use Rattle.swan_model.specs.SerialState.{Activation, Cell, Holding, Queue, State, Store}
use Rattle.swan_model.specs.SerialStep.{Effect, goes_on, spawns, ends, faults, state_after, with_failed, effect, number_at, popped, spawn_effect, given}
use Rattle.swan_model.specs.SerialTime.{is_of}
use Rattle.swan_model.specs.Told.{is_same}
use Rattle.serial_elision.proofs.Asks.{on_object-either, on_queue-either, if-either}
use Rattle.swan_model.proofs.Elements.{last_more}
use Rattle.serial_elision.proofs.Held.{IsHeldBy, AreHeldBy, Stand, held-more, held-append, gives-held, given-each}
use Rattle.swan_model.proofs.Origins.{is_same-self}
use Rattle.swan_model.proofs.Places.{passing}
use Rattle.serial_elision.proofs.Rights.{MayUseEach}
use Rattle.serial_elision.proofs.Turns.{FitsDeed}
use Rattle.swan_model.proofs.Paths.{path_is-itself}
use Rattle.swan_model.proofs.TaskEntries.{is_spawn_of}
use Rattle.swan_model.proofs.Uses.{HasMore, holds-next, more-after, more-next, own-made}

-- one holding more is of what this step made, with both rights
pub record IsMadeByStep (n : ℕ) (does : Deed) (after : Store) (before now : List Holding) : Type 0 where
  pub holding : Holding
  pub last : now ≡ before ++ holding ∷ []
  pub stands : origin_of after holding.mode holding.number ≡ Some (Step n)
  pub may : (is_child : Bool) (mode : Mode) → allows holding.mode mode ≡ true → may_use (granted true is_child n does) mode (Step n) ≡ true

-- a child holds what it is given, and its parent may give it
pub record IsGiven (does : Deed) (before : Store) (held now : List Holding) : Type 0 where
  pub gives : does ≡ deed.Spawn (gives_of before now)
  pub may : MayUseEach held now

-- what an effect leaves each activation to hold
abbrev pub Grants : {L : Type 0} → ℕ → Store → Activation L → Deed → Effect L → Type 0
Grants n before a does (goes_on b after) = (b.holdings ≡ a.holdings) ⊎ IsMadeByStep n does after a.holdings b.holdings
Grants n before a does (spawns parent child after) = (parent.holdings ≡ a.holdings) × IsGiven does before a.holdings child.holdings
Grants n before a does ends = Unit {0}
Grants n before a does (faults kind) = Unit {0}

popped-grants : {L : Type 0} (n : ℕ) (store : Store) (a : Activation L) (does : Deed) (number : ℕ) (queue : Queue) (items : List Value) → Grants n store a does (popped store a number queue items)
popped-grants n store a does number queue [] = tt
popped-grants n store a does number queue (item ∷ items) = inl refl

spawned-grants : {L : Type 0} (n : ℕ) (store : Store) (a : Activation L) (child : Child L) (holdings : Option (List Holding)) → ((hs : List Holding) → holdings ≡ Some hs → MayUseEach a.holdings hs) → Grants n store a (spawn_of store holdings) (spawn_effect store a child holdings)
spawned-grants n store a child None may = tt
spawned-grants {L = L} n store a child (Some hs) may =
    let P : Effect L → Type 0 = Grants n store a (spawn_of store (Some hs)) in
    if-either P (is_aliased child.gives) _ _ tt
    (if-either P (nat_le PATH_MOST (length a.path)) _ _ tt
    (if-either P (nat_lt a.fuel child.fuel) _ _ tt (refl, record { gives = refl; may = may hs refl })))

made-queue : (n : ℕ) (store : Store) (before : List Holding) → IsMadeByStep n deed.MakeQueue (record store { queues = store.queues ++ (record { origin = Step n; items = [] }) ∷ [] }) before (before ++ (record { mode = PushPop; number = length store.queues }) ∷ [])
made-queue n store before =
    record {
      holding = record { mode = PushPop; number = length store.queues };
      last = refl;
      stands = ap (option_map (λ (queue : Queue). queue.origin)) (last_more store.queues (record { origin = Step n; items = [] }));
      may = λ is_child mode allowed. or_left (allows PushPop mode && is_same (Step n) (Step n)) false (and_from (allows PushPop mode) (is_same (Step n) (Step n)) allowed (is_same-self (Step n)));
    }

made-object : (n : ℕ) (store : Store) (value : Value) (cell : Cell) (before : List Holding) → cell.origin ≡ Step n → IsMadeByStep n (deed.MakeObject value) (record store { cells = store.cells ++ cell ∷ [] }) before (before ++ (record { mode = InOut; number = length store.cells }) ∷ [])
made-object n store value cell before is =
    record {
      holding = record { mode = InOut; number = length store.cells };
      last = refl;
      stands = ap (option_map (λ (c : Cell). c.origin)) (last_more store.cells cell) ∙ ap Some is;
      may = λ is_child mode allowed. or_left (allows InOut mode && is_same (Step n) (Step n)) false (and_from (allows InOut mode) (is_same (Step n) (Step n)) allowed (is_same-self (Step n)));
    }

pub effect-grants : {L : Type 0} (n : ℕ) (store : Store) (a : Activation L) (asks : Ask L) → Grants n store a (asked store a.holdings asks) (effect n store a asks)
effect-grants n store a ask.Work = inl refl
effect-grants {L = L} n store a (ask.Read place) =
    on_object-either (Grants n store a (asked {L = L} store a.holdings (ask.Read place))) tt store (number_at a.holdings place In) _ (λ number cell held found. inl refl)
effect-grants {L = L} n store a (ask.Write place value) =
    on_object-either (Grants n store a (asked {L = L} store a.holdings (ask.Write place value))) tt store (number_at a.holdings place Out) _ (λ number cell held found. inl refl)
effect-grants {L = L} n store a (ask.Push place value) =
    on_queue-either (Grants n store a (asked {L = L} store a.holdings (ask.Push place value))) tt store (number_at a.holdings place Push) _ (λ number queue held found. inl refl)
effect-grants {L = L} n store a (ask.Pop place) =
    let does = asked {L = L} store a.holdings (ask.Pop place) in
    on_queue-either (Grants n store a does) tt store (number_at a.holdings place Pop) _ (λ number queue held found. popped-grants n store a does number queue queue.items)
effect-grants {L = L} n store a (ask.Empty place) =
    on_queue-either (Grants n store a (asked {L = L} store a.holdings (ask.Empty place))) tt store (number_at a.holdings place Pop) _ (λ number queue held found. inl refl)
effect-grants n store a ask.NewQueue = inr (made-queue n store a.holdings)
effect-grants n store a (ask.NewObject value) = inr (made-object n store value _ a.holdings refl)
effect-grants n store a (ask.Spawn child) =
    spawned-grants n store a child (given a.holdings child.gives) (λ hs is. given-each a.holdings child hs is)
effect-grants n store a ask.Sync = inl refl
effect-grants n store a ask.Finish = tt
effect-grants n store a (ask.Fail trouble) = tt

-- ---- what the script grants at an entry

-- what a child is given is granted to it
child-granted : (s : Script) (path child : List ℕ) (children n : ℕ) (e : Entry) (gives : List OriginGive) → slice_get s.entries n ≡ Some e → e.path ≡ path → passing (is_spawn_of path) n s.entries ≡ children → child ≡ path ++ children ∷ [] → e.deed ≡ deed.Spawn gives → HasMore gives (holds s child (suc n))
child-granted s path child children n e gives is own counted made deed_is =
    let named : child_path s e.path n ≡ child = ap (λ p. child_path s p n) own ∙ ap (λ k. path ++ k ∷ []) counted ∙ sym made in
    let yes : pointwise nat_eq (child_path s e.path n) child ≡ true = ap (λ p. pointwise nat_eq p child) named ∙ path_is-itself child in
    let all : granted_by s child n e ≡ gives =
    ap (λ d. granted (is_of child e) (pointwise nat_eq (child_path s e.path n) child) n d) deed_is
    ∙ ap (λ b. cond b gives []) yes in
    let next : holds s child (suc n) ≡ holds s child n ++ gives = holds-next s child n e is ∙ ap (λ g. holds s child n ++ g) all in
    subst (HasMore gives) (sym next) (more-after (holds s child n) gives)

-- ---- each activation holds what the script grants its task

abbrev pub HoldEach : {L : Type 0} → Script → ℕ → Store → List (Activation L) → Type 0
HoldEach s n store [] = Unit {0}
HoldEach s n store (a ∷ below) = AreHeldBy (holds s a.path n) store a.holdings × HoldEach s n store below

hold-failed : {L : Type 0} (s : Script) (n : ℕ) (store : Store) (stack : List (Activation L)) → HoldEach s n store stack → HoldEach s n store (with_failed stack)
hold-failed s n store [] each = tt
hold-failed s n store (parent ∷ below) each = each

held-as : (s : Script) (n : ℕ) (store : Store) (path other : List ℕ) (hs now : List Holding) → other ≡ path → now ≡ hs → AreHeldBy (holds s path n) store hs → AreHeldBy (holds s other n) store now
held-as s n store path other hs now same equal are =
    subst (λ p. AreHeldBy (holds s p n) store now) (sym same) (subst (AreHeldBy (holds s path n) store) (sym equal) are)

each-next : {L : Type 0} (s : Script) (n : ℕ) (e : Entry) (before after : Store) (stack : List (Activation L)) → slice_get s.entries n ≡ Some e → Stand before after → HoldEach s n before stack → HoldEach s (suc n) after stack
each-next s n e before after [] is stand each = tt
each-next s n e before after (a ∷ below) is stand each = (
  held-more (holds s a.path n) (holds s a.path (suc n)) before after a.holdings (more-next s a.path n e is) stand each.0,
  each-next s n e before after below is stand each.1,
)

-- what a task holds after its step
top-next : (s : Script) (n : ℕ) (e : Entry) (before after : Store) (path : List ℕ) (hs now : List Holding) → slice_get s.entries n ≡ Some e → e.path ≡ path → Stand before after → AreHeldBy (holds s path n) before hs → (now ≡ hs) ⊎ IsMadeByStep n e.deed after hs now → AreHeldBy (holds s path (suc n)) after now
top-next s n e before after path hs now is own stand are (inl same) =
    subst (AreHeldBy (holds s path (suc n)) after) (sym same) (held-more (holds s path n) (holds s path (suc n)) before after hs (more-next s path n e is) stand are)
top-next s n e before after path hs now is own stand are (inr made) =
    let kept = held-more (holds s path n) (holds s path (suc n)) before after hs (more-next s path n e is) stand are in
    let new : IsHeldBy (holds s path (suc n)) after made.holding =
    record { origin = Step n; stands = made.stands; may = λ mode allowed. own-made s path n e mode is own (λ is_child. made.may is_child mode allowed) } in
    subst (AreHeldBy (holds s path (suc n)) after) (sym made.last)
    (held-append (holds s path (suc n)) after hs (made.holding ∷ []) kept (new, tt))

pub after-hold : {L : Type 0} (s : Script) (n : ℕ) (e : Entry) (state : State L) (top : Activation L) (below : List (Activation L)) (place : ℕ) (does : Deed) (done : Effect L) → FitsDeed top does done → Grants n state.store top does done → slice_get s.entries n ≡ Some e → e.path ≡ top.path → e.deed ≡ deed_of does done → passing (is_spawn_of top.path) n s.entries ≡ top.children → Stand state.store (state_after state below top.path place done).store → HoldEach s n state.store (top ∷ below) → HoldEach s (suc n) (state_after state below top.path place done).store (state_after state below top.path place done).stack
after-hold s n e state top below place does (goes_on a store) fits grants is own deed_is counted stand each =
    let made : (a.holdings ≡ top.holdings) ⊎ IsMadeByStep n e.deed store top.holdings a.holdings =
    subst (λ d. (a.holdings ≡ top.holdings) ⊎ IsMadeByStep n d store top.holdings a.holdings) (sym deed_is) grants in
    let next = top-next s n e state.store store top.path top.holdings a.holdings is own stand each.0 made in
    (held-as s (suc n) store top.path a.path a.holdings a.holdings fits.0 refl next, each-next s n e state.store store below is stand each.1)
after-hold s n e state top below place does (spawns parent child store) fits grants is own deed_is counted stand each =
    let kept = top-next s n e state.store store top.path top.holdings parent.holdings is own stand each.0 (inl grants.0) in
    let gives = gives_of state.store child.holdings in
    let more = child-granted s top.path child.path top.children n e gives is own counted fits.2 (deed_is ∙ grants.1.gives) in
    let held = gives-held (holds s top.path n) state.store top.holdings child.holdings each.0 grants.1.may in (
      held-more gives (holds s child.path (suc n)) state.store store child.holdings more stand held,
      (held-as s (suc n) store top.path parent.path parent.holdings parent.holdings fits.0 refl kept, each-next s n e state.store store below is stand each.1),
    )
after-hold s n e state top below place does ends fits grants is own deed_is counted stand each =
    each-next s n e state.store state.store below is stand each.1
after-hold s n e state top below place does (faults kind) fits grants is own deed_is counted stand each =
    hold-failed s (suc n) state.store below (each-next s n e state.store state.store below is stand each.1)

-- a deed is within what what was asked is within
pub deed-within : {L : Type 0} (held : List OriginGive) (does : Deed) (done : Effect L) → is_within held does ≡ true → is_within held (deed_of does done) ≡ true
deed-within held does (goes_on a store) within = within
deed-within held does (spawns parent child store) within = within
deed-within held does ends within = within
deed-within held does (faults (kind.Trouble trouble)) within = refl
deed-within held does (faults kind.PopEmpty) within = within
deed-within held does (faults kind.Privilege) within = refl
deed-within held does (faults kind.Alias) within = refl
deed-within held does (faults kind.Fuel) within = refl
deed-within held does (faults kind.Depth) within = refl
