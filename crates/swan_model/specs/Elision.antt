-- The serial elision of a plan, and what it leaves.
use Rattle.std.specs.Prelude.{ℕ, zero, suc, ◌+◌, ◌*◌, List, [], ◌∷◌, ◌++◌, length, map, take}
use Rattle.swan_model.specs.declared.body.Answer.TheVariants as answer
use Rattle.swan_model.specs.declared.body.Body.{Ghosts}
use Rattle.swan_model.specs.declared.origin.Origin.TheVariants as origin
use Rattle.swan_model.specs.declared.outcome.Outcome.{Outcome}
use Rattle.swan_model.specs.declared.plan.Plan.{Plan}
use Rattle.swan_model.specs.declared.plan.RootQueue.{RootQueue}
use Rattle.swan_model.specs.declared.rights.Mode.TheVariants.{InOut}
use Rattle.swan_model.specs.declared.value.Value.{Value}
use Rattle.swan_model.specs.Roots.{RootLists}
use Rattle.swan_model.specs.SerialState.{Holding, Activation, Cell, Queue, Store, State}
use Rattle.swan_model.specs.SerialStep.{step}
use Rattle.swan_model.specs.Values.{kind_of}

-- the root queues from an index on: what the root holds, and the queues themselves
abbrev pub queue_holdings : ℕ → List RootQueue → List Holding
queue_holdings i [] = []
queue_holdings i (queue ∷ queues) = (record { mode = queue.mode; number = i }) ∷ queue_holdings (i + 1) queues

abbrev pub first_queues : ℕ → List RootQueue → List Queue
first_queues i [] = []
first_queues i (queue ∷ queues) = (record { origin = origin.Root i; items = queue.items }) ∷ first_queues (i + 1) queues

-- the root objects from an index on: what the root holds, and the cells themselves
abbrev pub object_holdings : ℕ → List Value → List Holding
object_holdings i [] = []
object_holdings i (value ∷ values) = (record { mode = InOut; number = i }) ∷ object_holdings (i + 1) values

abbrev pub first_cells : ℕ → List Value → List Cell
first_cells i [] = []
first_cells i (value ∷ values) = (record { origin = origin.Root i; kind = kind_of value; value = value }) ∷ first_cells (i + 1) values

-- the root's places are the queues in order, and then the objects in order
abbrev pub root_holdings : RootLists → List Holding
root_holdings roots = queue_holdings 0 roots.queues ++ object_holdings 0 roots.objects

abbrev pub first_store : RootLists → Store
first_store roots = record { cells = first_cells 0 roots.objects; queues = first_queues 0 roots.queues }

abbrev pub root : {B L : Type 0} → Plan B L → Activation L
root plan = record { path = []; local = plan.root_local; answer = answer.Start; fuel = plan.fuel; holdings = root_holdings plan.roots; children = 0; failed = 0 }

-- the state before the first step
abbrev pub start : {B L : Type 0} → Plan B L → State L
start plan = record { steps = 0; stack = root plan ∷ []; store = first_store plan.roots; faults = [] }

-- Each step takes one unit of fuel, or is the one step without fuel of its activation; and each activation but the root's was
-- made by a step that took one. So the stack is empty after this many steps, which the law `elision_ends` of serial_elision says.
abbrev pub most_steps : {B L : Type 0} → Plan B L → ℕ
most_steps plan = 2 * plan.fuel + 2

module _ {B L : Type 0} (G : Ghosts B L) where
  -- the state after n steps
  abbrev pub serial : Plan B L → ℕ → State L
  serial plan zero = start plan
  serial plan (suc n) = step G plan.body (serial plan n)

  -- the state once the stack is empty
  abbrev pub final : Plan B L → State L
  final plan = serial plan (most_steps plan)

  -- what is left: the root objects' values, the items in the root queues, and the faults
  abbrev pub outcome : Plan B L → Outcome
  outcome plan = record {
    objects = take (length plan.roots.objects) (map (λ cell. cell.value) (final plan).store.cells);
    queues = take (length plan.roots.queues) (map (λ queue. queue.items) (final plan).store.queues);
    faults = (final plan).faults;
  }
