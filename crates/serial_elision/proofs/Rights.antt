-- Why rights bind: what a step changes, its activation holds by a mode that allows the change.
use Rattle.std.proofs.Common.{◌≡◌, ℕ, ◌+◌, ◌-◌, nat_eq, nat_lt, nat_le, List, [], ◌∷◌, ◌++◌, ◌⊎◌, inl, inr, length, Option, Some, None, refl, ◌∙◌, add-one}
use Rattle.std.specs.Prelude.{IfSome, slice_get, slice_set}
use Rattle.swan_model.specs.declared.body.Ask.{Ask}
use Rattle.swan_model.specs.declared.body.Ask.TheVariants as ask
use Rattle.swan_model.specs.declared.body.Body.{Ghosts}
use Rattle.swan_model.specs.declared.body.Child.{Child}
use Rattle.swan_model.specs.declared.path.TheConstants.{PATH_MOST}
use Rattle.swan_model.specs.declared.plan.Plan.{Plan}
use Rattle.swan_model.specs.declared.rights.Give.{Give}
use Rattle.swan_model.specs.declared.rights.Mode.{Mode}
use Rattle.swan_model.specs.declared.rights.Mode.TheVariants.{In, Out, InOut, Push, Pop, PushPop}
use Rattle.swan_model.specs.declared.value.Value.{Value}
use Rattle.swan_model.specs.Elision.{serial}
use Rattle.swan_model.specs.Rights.{is_aliased}
use Rattle.swan_model.specs.SerialState.{Activation, Cell, Holding, Queue, Store, State}
use Rattle.swan_model.specs.SerialStep as serial
use Rattle.swan_model.specs.SerialStep.{Effect, goes_on, spawns, ends, faults, state_after, effect, effect_of, step_on, after_next, number_at, spawn_effect, given, given_also, cells_with_zeros, zeroed_by, zero_cell}
use Rattle.swan_model.specs.Values.{zero_of}
use Rattle.serial_elision.specs.Laws.{HoldsToUse, IsCellAfter, IsQueueAfter, stayed, pushed, popped, EachStill, RightsBind, top_holdings}
use Rattle.serial_elision.proofs.Asks.{on_object-either, on_queue-either, if-either}
use Rattle.serial_elision.proofs.Still.{still-same, still-more, still-append, still-set}

cell-same : (held : List Holding) (i : ℕ) (cell : Cell) → IsCellAfter held i cell cell
cell-same held i cell = record { origin = refl; kind = refl; value = inl refl }

queue-same : (held : List Holding) (i : ℕ) (queue : Queue) → IsQueueAfter held i queue queue
queue-same held i queue = record { origin = refl; items = stayed refl }

value-more : {P : Type 0} (x y z : Value) → (y ≡ x) ⊎ P → (z ≡ y) ⊎ P → (z ≡ x) ⊎ P
value-more x y z (inr may) second = inr may
value-more x y z (inl first) (inr may) = inr may
value-more x y z (inl first) (inl second) = inl (second ∙ first)

cell-more : (held : List Holding) (i : ℕ) (x y z : Cell) → IsCellAfter held i x y → IsCellAfter held i y z → IsCellAfter held i x z
cell-more held i x y z first second =
    record {
      origin = second.origin ∙ first.origin;
      kind = second.kind ∙ first.kind;
      value = value-more x.value y.value z.value first.value second.value;
    }

cells-same : (held : List Holding) (cells : List Cell) → EachStill (IsCellAfter held) cells cells
cells-same held = still-same (IsCellAfter held) (cell-same held)

queues-same : (held : List Holding) (queues : List Queue) → EachStill (IsQueueAfter held) queues queues
queues-same held = still-same (IsQueueAfter held) (queue-same held)

store-same : (held : List Holding) (store : Store) → RightsBind held store store
store-same held store =
    record { cells = cells-same held store.cells; queues = queues-same held store.queues }

-- a cell that may be written gets another value
cells-set : (held : List Holding) (cells : List Cell) (n : ℕ) (cell : Cell) (value : Value) → slice_get cells n ≡ Some cell → HoldsToUse held Out n → EachStill (IsCellAfter held) cells (slice_set cells n (record cell { value = value }))
cells-set held cells n cell value found may =
    still-set (IsCellAfter held) (cell-same held) cells n cell (record cell { value = value }) found (record { origin = refl; kind = refl; value = inr may })

zero_cell-binds : (held : List Holding) (cells : List Cell) (n : ℕ) (at : Option Cell) → slice_get cells n ≡ at → HoldsToUse held Out n → EachStill (IsCellAfter held) cells (zero_cell cells n at)
zero_cell-binds held cells n None found may = cells-same held cells
zero_cell-binds held cells n (Some cell) found may = cells-set held cells n cell (zero_of cell.kind) found may

zeroed_by-binds : (held : List Holding) (mode : Mode) (cells : List Cell) (n : ℕ) → HoldsToUse held mode n → EachStill (IsCellAfter held) cells (zeroed_by mode cells n)
zeroed_by-binds held Out cells n may = zero_cell-binds held cells n (slice_get cells n) refl may
zeroed_by-binds held In cells n may = cells-same held cells
zeroed_by-binds held InOut cells n may = cells-same held cells
zeroed_by-binds held Push cells n may = cells-same held cells
zeroed_by-binds held Pop cells n may = cells-same held cells
zeroed_by-binds held PushPop cells n may = cells-same held cells

-- a holder may use all that a child holds as the child holds it
abbrev pub MayUseEach : List Holding → List Holding → Type 0
MayUseEach held [] = Unit {0}
MayUseEach held (holding ∷ holdings) = HoldsToUse held holding.mode holding.number × MayUseEach held holdings

given_also-may : (held : List Holding) (give : Give) (at : Option ℕ) (rest : Option (List Holding)) → number_at held give.place give.mode ≡ at → IfSome rest (MayUseEach held) → IfSome (given_also give at rest) (MayUseEach held)
given_also-may held give None rest is may = tt
given_also-may held give (Some number) None is may = tt
given_also-may held give (Some number) (Some holdings) is may = (record { place = give.place; held = is }, may)

pub given-may : (held : List Holding) (gives : List Give) → IfSome (given held gives) (MayUseEach held)
given-may held [] = tt
given-may held (give ∷ gives) =
    given_also-may held give (number_at held give.place give.mode) (given held gives) refl (given-may held gives)

zeroed-binds : (held : List Holding) (cells : List Cell) (holdings : List Holding) → MayUseEach held holdings → EachStill (IsCellAfter held) cells (cells_with_zeros cells holdings)
zeroed-binds held cells [] may = cells-same held cells
zeroed-binds held cells (holding ∷ holdings) may =
    let first = zeroed_by holding.mode cells holding.number in
    still-more (IsCellAfter held) (cell-more held) cells first (cells_with_zeros first holdings) (zeroed_by-binds held holding.mode cells holding.number may.0) (zeroed-binds held first holdings may.1)

-- the store that an effect leaves is one that the holder may make of the one before
abbrev Binds : {L : Type 0} → List Holding → Store → Effect L → Type 0
Binds held store (goes_on a after) = RightsBind held store after
Binds held store (spawns parent child after) = RightsBind held store after
Binds held store ends = Unit {0}
Binds held store (faults kind) = Unit {0}

spawned-binds : {L : Type 0} (store : Store) (a : Activation L) (child : Child L) (holdings : Option (List Holding)) → IfSome holdings (MayUseEach a.holdings) → Binds a.holdings store (spawn_effect store a child holdings)
spawned-binds store a child None may = tt
spawned-binds store a child (Some holdings) may =
    if-either (Binds a.holdings store) (is_aliased child.gives) _ _ tt
    (if-either (Binds a.holdings store) (nat_le PATH_MOST (length a.path)) _ _ tt
    (if-either (Binds a.holdings store) (nat_lt a.fuel child.fuel) _ _ tt
    (record { cells = zeroed-binds a.holdings store.cells holdings may; queues = queues-same a.holdings store.queues })))

write-binds : (held : List Holding) (store : Store) (n : ℕ) (cell : Cell) (value : Value) → slice_get store.cells n ≡ Some cell → HoldsToUse held Out n → RightsBind held store (serial.with_value store n cell value)
write-binds held store n cell value found may =
    record { cells = cells-set held store.cells n cell value found may; queues = queues-same held store.queues }

items-bind : (held : List Holding) (store : Store) (n : ℕ) (before after : Queue) → slice_get store.queues n ≡ Some before → IsQueueAfter held n before after → RightsBind held store (record store { queues = slice_set store.queues n after })
items-bind held store n before after found becomes =
    record {
      cells = cells-same held store.cells;
      queues = still-set (IsQueueAfter held) (queue-same held) store.queues n before after found becomes;
    }

popped-binds : {L : Type 0} (store : Store) (a : Activation L) (n : ℕ) (queue : Queue) (items : List Value) → queue.items ≡ items → slice_get store.queues n ≡ Some queue → HoldsToUse a.holdings Pop n → Binds a.holdings store (serial.popped store a n queue items)
popped-binds store a n queue [] is found may = tt
popped-binds store a n queue (item ∷ items) is found may =
    items-bind a.holdings store n queue (record queue { items = items }) found (record { origin = refl; items = popped may item is })

effect-binds : {L : Type 0} (n : ℕ) (store : Store) (a : Activation L) (asked : Ask L) → Binds a.holdings store (effect n store a asked)
effect-binds n store a ask.Work = store-same a.holdings store
effect-binds n store a (ask.Read place) =
    on_object-either (Binds a.holdings store) tt store (number_at a.holdings place In) _ (λ number cell held found. store-same a.holdings store)
effect-binds n store a (ask.Write place value) =
    on_object-either (Binds a.holdings store) tt store (number_at a.holdings place Out) _ (λ number cell held found. write-binds a.holdings store number cell value found (record { place = place; held = held }))
effect-binds n store a (ask.Push place value) =
    on_queue-either (Binds a.holdings store) tt store (number_at a.holdings place Push) _ (λ number queue held found.
    items-bind a.holdings store number queue (record queue { items = queue.items ++ value ∷ [] }) found (record { origin = refl; items = pushed (record { place = place; held = held }) value refl }))
effect-binds n store a (ask.Pop place) =
    on_queue-either (Binds a.holdings store) tt store (number_at a.holdings place Pop) _ (λ number queue held found. popped-binds store a number queue queue.items refl found (record { place = place; held = held }))
effect-binds n store a (ask.Empty place) =
    on_queue-either (Binds a.holdings store) tt store (number_at a.holdings place Pop) _ (λ number queue held found. store-same a.holdings store)
effect-binds n store a ask.NewQueue =
    record { cells = cells-same a.holdings store.cells; queues = still-append (IsQueueAfter a.holdings) (queue-same a.holdings) store.queues _ }
effect-binds n store a (ask.NewObject value) =
    record { cells = still-append (IsCellAfter a.holdings) (cell-same a.holdings) store.cells _; queues = queues-same a.holdings store.queues }
effect-binds n store a (ask.Spawn child) =
    spawned-binds store a child (given a.holdings child.gives) (given-may a.holdings child.gives)
effect-binds n store a ask.Sync = store-same a.holdings store
effect-binds n store a ask.Finish = tt
effect-binds n store a (ask.Fail trouble) = tt

after-binds : {L : Type 0} (s : State L) (held : List Holding) (below : List (Activation L)) (path : List ℕ) (place : ℕ) (done : Effect L) → Binds held s.store done → RightsBind held s.store (state_after s below path place done).store
after-binds s held below path place (goes_on a store) binds = binds
after-binds s held below path place (spawns parent child store) binds = binds
after-binds s held below path place ends binds = store-same held s.store
after-binds s held below path place (faults kind) binds = store-same held s.store

module _ {B L : Type 0} (G : Ghosts B L) where
  pub step_on-binds : (body : B) (s : State L) (stack : List (Activation L)) → RightsBind (top_holdings stack) s.store (step_on G body s stack).store
  step_on-binds body s [] = store-same [] s.store
  step_on-binds body s (top ∷ below) =
      let asked = G.next body top.local top.answer (top.fuel - 1) in
      let binds = if-either (Binds top.holdings s.store) (nat_eq top.fuel 0) _ _ tt (effect-binds s.steps s.store (after_next top asked.0) asked.1) in
      after-binds s top.holdings below top.path (G.place_of body top.local) (effect_of G body s.steps s.store top) binds

  -- each step keeps to the rights of the one that takes it
  pub serial-binds : (plan : Plan B L) (n : ℕ) → RightsBind (top_holdings (serial G plan n).stack) (serial G plan n).store (serial G plan (n + 1)).store
  serial-binds plan n = rw add-one (step_on-binds plan.body (serial G plan n) (serial G plan n).stack)
