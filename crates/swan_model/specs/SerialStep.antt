-- The serial step. It concerns the top activation: one unit of its fuel is taken, its body says what
-- it asks for, and the ask has its effect.
--
-- A body is the program of all tasks. `next body local answer fuel` is what one step leaves as the task's
-- local, and what it asks for; the answer is that to its last ask, and the fuel is what is left after the
-- step's own unit. `place_of body local` says where in the program the next step stands, in a job on which
-- line. A task asks for work of its own; for a read or a write of an object; for a push, a pop or the
-- test for emptiness of a queue; for a new queue or object; for a child; for the end of its children;
-- to end; or to end with a fault.
use Rattle.std.specs.Prelude.{ℕ, ◌+◌, ◌-◌, ◌==◌, nat_lt, nat_le, Bool, true, false, Option, Some, None, List, [], ◌∷◌, ◌++◌, length, if◌then◌else◌, slice_get, slice_set}
use Rattle.swan_model.specs.declared.body.Answer.{Answer}
use Rattle.swan_model.specs.declared.body.Answer.TheVariants as answer
use Rattle.swan_model.specs.declared.body.Ask.{Ask}
use Rattle.swan_model.specs.declared.body.Ask.TheVariants as ask
use Rattle.swan_model.specs.declared.body.Body.{Ghosts}
use Rattle.swan_model.specs.declared.body.Child.{Child}
use Rattle.swan_model.specs.declared.fault.FaultKind.{FaultKind}
use Rattle.swan_model.specs.declared.fault.FaultKind.TheVariants as kind
use Rattle.swan_model.specs.declared.origin.Origin.TheVariants as origin
use Rattle.swan_model.specs.declared.path.TheConstants.{PATH_MOST}
use Rattle.swan_model.specs.declared.rights.Give.{Give}
use Rattle.swan_model.specs.declared.rights.Mode.{Mode}
use Rattle.swan_model.specs.declared.rights.Mode.TheVariants.{In, Out, InOut, Push, Pop, PushPop}
use Rattle.swan_model.specs.declared.value.Value.{Value}
use Rattle.swan_model.specs.Rights.{allows, is_aliased}
use Rattle.swan_model.specs.SerialState.{Holding, Activation, Cell, Queue, Store, State}
use Rattle.swan_model.specs.Values.{kind_of, zero_of}

-- What an ask does: its activation goes on; or spawns, and is the parent of a new one; or ends without
-- a fault; or ends by a fault.
pub data Effect (L : Type 0) : Type 0 where
  goes_on : Activation L → Store → Effect L
  spawns : (parent : Activation L) → (child : Activation L) → Store → Effect L
  ends : Effect L
  faults : FaultKind → Effect L

-- the number of what is held, where it may be used by this mode
abbrev pub used_by : Mode → Option Holding → Option ℕ
used_by mode None = None
used_by mode (Some holding) = if allows holding.mode mode then Some holding.number else None

-- the number of the object or queue at a place, where the holder may use it by this mode
abbrev pub number_at : List Holding → ℕ → Mode → Option ℕ
number_at holdings place mode = used_by mode (slice_get holdings place)

-- An ask about an object, which is the fault Privilege where the activation may not use it so. (What is held
-- always stands in the store, so `on_cell None` never happens.)
abbrev pub on_cell : {L : Type 0} → Option Cell → (Cell → Effect L) → Effect L
on_cell None f = faults kind.Privilege
on_cell (Some cell) f = f cell

abbrev pub on_object : {L : Type 0} → Store → Option ℕ → (ℕ → Cell → Effect L) → Effect L
on_object store None f = faults kind.Privilege
on_object store (Some number) f = on_cell (slice_get store.cells number) (f number)

-- An ask about a queue, which is the fault Privilege where the activation may not use it so. (Here `on_list
-- None` never happens.)
abbrev pub on_list : {L : Type 0} → Option Queue → (Queue → Effect L) → Effect L
on_list None f = faults kind.Privilege
on_list (Some queue) f = f queue

abbrev pub on_queue : {L : Type 0} → Store → Option ℕ → (ℕ → Queue → Effect L) → Effect L
on_queue store None f = faults kind.Privilege
on_queue store (Some number) f = on_list (slice_get store.queues number) (f number)

-- the store with this value in a cell
abbrev pub with_value : Store → ℕ → Cell → Value → Store
with_value store number cell value = record store { cells = slice_set store.cells number (record cell { value = value }) }

-- the store with these items in a queue
abbrev pub with_items : Store → ℕ → Queue → List Value → Store
with_items store number queue items = record store { queues = slice_set store.queues number (record queue { items = items }) }

-- the activation with what its next step is told
abbrev pub with_answer : {L : Type 0} → Activation L → Answer → Activation L
with_answer a answer = record a { answer = answer }

-- the activation with one more place, which it is told
abbrev pub with_place : {L : Type 0} → Activation L → Holding → Activation L
with_place a holding = record a { answer = answer.Place (length a.holdings); holdings = a.holdings ++ holding ∷ [] }

-- the activation at a Sync: it is told how many of its children failed, and counts anew
abbrev pub synced : {L : Type 0} → Activation L → Activation L
synced a = record a { answer = answer.Caught a.failed; failed = 0 }

-- a pop: the first item leaves the queue, and an empty queue is a fault
abbrev pub popped : {L : Type 0} → Store → Activation L → ℕ → Queue → List Value → Effect L
popped store a number queue [] = faults kind.PopEmpty
popped store a number queue (item ∷ items) = goes_on (with_answer a (answer.Item item)) (with_items store number queue items)

abbrev pub is_nothing_left : List Value → Bool
is_nothing_left [] = true
is_nothing_left (item ∷ items) = false

-- What a child holds by its gives, or none where one of them gives what the parent doesn't hold so.
abbrev pub given_also : Give → Option ℕ → Option (List Holding) → Option (List Holding)
given_also give (Some number) (Some holdings) = Some ((record { mode = give.mode; number = number }) ∷ holdings)
given_also give (Some number) None = None
given_also give None holdings = None

abbrev pub given : List Holding → List Give → Option (List Holding)
given holdings [] = Some []
given holdings (give ∷ gives) = given_also give (number_at holdings give.place give.mode) (given holdings gives)

-- each object that a child holds by Out gets its zero
abbrev pub zero_cell : List Cell → ℕ → Option Cell → List Cell
zero_cell cells number None = cells
zero_cell cells number (Some cell) = slice_set cells number (record cell { value = zero_of cell.kind })

abbrev pub zeroed_by : Mode → List Cell → ℕ → List Cell
zeroed_by Out cells number = zero_cell cells number (slice_get cells number)
zeroed_by _ cells number = cells

abbrev pub cells_with_zeros : List Cell → List Holding → List Cell
cells_with_zeros cells [] = cells
cells_with_zeros cells (holding ∷ holdings) = cells_with_zeros (zeroed_by holding.mode cells holding.number) holdings

-- A spawn. Its faults are tried in this order: a give of what the parent doesn't hold so, a place that
-- is given twice, the depth of the path, the fuel.
abbrev pub spawn_effect : {L : Type 0} → Store → Activation L → Child L → Option (List Holding) → Effect L
spawn_effect store a child None = faults kind.Privilege
spawn_effect store a child (Some holdings) =
    if is_aliased child.gives then faults kind.Alias
    else if nat_le PATH_MOST (length a.path) then faults kind.Depth
    else if nat_lt a.fuel child.fuel then faults kind.Fuel
    else spawns
    (record a { answer = answer.Nothing; fuel = a.fuel - child.fuel; children = a.children + 1 })
    (record { path = a.path ++ a.children ∷ []; local = child.local; answer = answer.Start; fuel = child.fuel; holdings = holdings; children = 0; failed = 0 })
    (record store { cells = cells_with_zeros store.cells holdings })

-- The effect of an ask at the step of this number, where the activation has paid for the step.
abbrev pub effect : {L : Type 0} → ℕ → Store → Activation L → Ask L → Effect L
effect n store a ask.Work = goes_on (with_answer a answer.Nothing) store
effect n store a (ask.Read place) =
    on_object store (number_at a.holdings place In) (λ number cell. goes_on (with_answer a (answer.Item cell.value)) store)
effect n store a (ask.Write place value) =
    on_object store (number_at a.holdings place Out) (λ number cell. goes_on (with_answer a answer.Nothing) (with_value store number cell value))
effect n store a (ask.Push place value) =
    on_queue store (number_at a.holdings place Push) (λ number queue. goes_on (with_answer a answer.Nothing) (with_items store number queue (queue.items ++ value ∷ [])))
effect n store a (ask.Pop place) =
    on_queue store (number_at a.holdings place Pop) (λ number queue. popped store a number queue queue.items)
effect n store a (ask.Empty place) =
    on_queue store (number_at a.holdings place Pop) (λ number queue. goes_on (with_answer a (answer.Flag (is_nothing_left queue.items))) store)
effect n store a ask.NewQueue =
    goes_on (with_place a (record { mode = PushPop; number = length store.queues }))
    (record store { queues = store.queues ++ (record { origin = origin.Step n; items = [] }) ∷ [] })
effect n store a (ask.NewObject value) =
    goes_on (with_place a (record { mode = InOut; number = length store.cells }))
    (record store { cells = store.cells ++ (record { origin = origin.Step n; kind = kind_of value; value = value }) ∷ [] })
effect n store a (ask.Spawn child) = spawn_effect store a child (given a.holdings child.gives)
effect n store a ask.Sync = goes_on (synced a) store
effect n store a ask.Finish = ends
effect n store a (ask.Fail trouble) = faults (kind.Trouble trouble)

-- The activations below one that ended by a fault: its parent, the first of them, has one more failed child. The root has
-- no parent.
abbrev pub with_failed : {L : Type 0} → List (Activation L) → List (Activation L)
with_failed [] = []
with_failed (parent ∷ rest) = record parent { failed = parent.failed + 1 } ∷ rest

-- The state after an effect. The activations below the top stay. A fault is booked with the path and with
-- the place before the step, and ends its activation; it adds one to its parent's failed children, and does nothing else: what
-- the activation wrote and pushed stays, its parent and its siblings go on. What an ended activation had left of fuel is gone.
abbrev pub state_after : {L : Type 0} → State L → List (Activation L) → List ℕ → ℕ → Effect L → State L
state_after s below path place (goes_on a store) = record { steps = s.steps + 1; stack = a ∷ below; store = store; faults = s.faults }
state_after s below path place (spawns parent child store) = record { steps = s.steps + 1; stack = child ∷ parent ∷ below; store = store; faults = s.faults }
state_after s below path place ends = record { steps = s.steps + 1; stack = below; store = s.store; faults = s.faults }
state_after s below path place (faults kind) = record { steps = s.steps + 1; stack = with_failed below; store = s.store; faults = s.faults ++ (record { path = path; place = place; kind = kind }) ∷ [] }

-- the activation once its body has answered a step
abbrev pub after_next : {L : Type 0} → Activation L → L → Activation L
after_next a local = record a { local = local; fuel = a.fuel - 1 }

-- The body's step is an argument: `next` and `place_of` of G.
module _ {B L : Type 0} (G : Ghosts B L) where
  -- what the top activation's step does; without fuel it is a fault
  abbrev pub effect_of : B → ℕ → Store → Activation L → Effect L
  effect_of body n store top =
      if top.fuel == 0 then faults kind.Fuel
      else (let step = G.next body top.local top.answer (top.fuel - 1) in effect n store (after_next top step.0) step.1)

  abbrev pub step_on : B → State L → List (Activation L) → State L
  step_on body s [] = s
  step_on body s (top ∷ below) = state_after s below top.path (G.place_of body top.local) (effect_of body s.steps s.store top)

  -- one serial step; where the stack is empty there is none
  abbrev pub step : B → State L → State L
  step body s = step_on body s s.stack
