-- The script of a plan: what its serial elision does, one entry for each step. A script has no local in it
-- and no body, so what is said of a script can be understood without them. It names objects and queues by
-- what made them: the plan, or a step, which has the number of its entry.
use Rattle.std.specs.Prelude.{ℕ, zero, suc, ◌-◌, Bool, true, false, Option, Some, None, List, [], ◌∷◌, ◌++◌, map, filter_map, if◌then◌else◌, slice_get}
use Rattle.std.specs.Option.{option_map, option_and_then}
use Rattle.swan_model.specs.declared.body.Ask.{Ask}
use Rattle.swan_model.specs.declared.body.Ask.TheVariants as ask
use Rattle.swan_model.specs.declared.body.Body.{Ghosts}
use Rattle.swan_model.specs.declared.fault.FaultKind.TheVariants.{PopEmpty}
use Rattle.swan_model.specs.declared.origin.Origin.{Origin}
use Rattle.swan_model.specs.declared.plan.Plan.{Plan}
use Rattle.swan_model.specs.declared.rights.Mode.{Mode}
use Rattle.swan_model.specs.declared.rights.Mode.TheVariants.{In, Out, Push, Pop}
use Rattle.swan_model.specs.declared.script.Deed.{Deed}
use Rattle.swan_model.specs.declared.script.Deed.TheVariants as deed
use Rattle.swan_model.specs.declared.script.Entry.{Entry}
use Rattle.swan_model.specs.declared.script.OriginGive.{OriginGive}
use Rattle.swan_model.specs.declared.script.Script.{Script}
use Rattle.swan_model.specs.Elision.{serial, most_steps}
use Rattle.swan_model.specs.Rights.{is_queue_mode}
use Rattle.swan_model.specs.SerialState.{Holding, Activation, Store, State}
use Rattle.swan_model.specs.SerialStep.{Effect, goes_on, spawns, ends, faults, effect_of, number_at, given}

-- what made the queue, or else the object, that has this number
abbrev pub origin_of : Store → Mode → ℕ → Option Origin
origin_of store mode number =
    if is_queue_mode mode then option_map (λ queue. queue.origin) (slice_get store.queues number)
    else option_map (λ cell. cell.origin) (slice_get store.cells number)

-- what made the object or queue at a place, where the holder may use it by this mode
abbrev pub origin_at : Store → List Holding → ℕ → Mode → Option Origin
origin_at store holdings place mode = option_and_then (origin_of store mode) (number_at holdings place mode)

-- What is held, named by what made it. (What is held always stands in the store, so none is left out.)
abbrev pub give_of : Store → Holding → Option OriginGive
give_of store holding =
    option_map (λ origin. record { origin = origin; mode = holding.mode }) (origin_of store holding.mode holding.number)

abbrev pub gives_of : Store → List Holding → List OriginGive
gives_of store holdings = filter_map (give_of store) holdings

-- an ask about the object or queue of this origin, and no deed where there is none
abbrev pub about : Option Origin → (Origin → Deed) → Deed
about None does = deed.Quiet
about (Some origin) does = does origin

-- a spawn of a child that holds this, and no deed where the parent doesn't hold it so
abbrev pub spawn_of : Store → Option (List Holding) → Deed
spawn_of store None = deed.Quiet
spawn_of store (Some holdings) = deed.Spawn (gives_of store holdings)

-- what an ask is to do
abbrev pub asked : {L : Type 0} → Store → List Holding → Ask L → Deed
asked store holdings ask.Work = deed.Quiet
asked store holdings (ask.Read place) = about (origin_at store holdings place In) deed.Read
asked store holdings (ask.Write place value) = about (origin_at store holdings place Out) (λ origin. deed.Write origin value)
asked store holdings (ask.Push place value) = about (origin_at store holdings place Push) (λ origin. deed.Push origin value)
asked store holdings (ask.Pop place) = about (origin_at store holdings place Pop) deed.Pop
asked store holdings (ask.Empty place) = about (origin_at store holdings place Pop) deed.Test
asked store holdings ask.NewQueue = deed.MakeQueue
asked store holdings (ask.NewObject value) = deed.MakeObject value
asked store holdings (ask.Spawn child) = spawn_of store (given holdings child.gives)
asked store holdings ask.Sync = deed.Sync
asked store holdings ask.Finish = deed.Quiet
asked store holdings (ask.Fail trouble) = deed.Quiet

-- What an ask with this effect does: what it was to do; but a fault does nothing, save that the pop of an
-- empty queue is a pop.
abbrev pub deed_of : {L : Type 0} → Deed → Effect L → Deed
deed_of does (faults PopEmpty) = does
deed_of does (faults kind) = deed.Quiet
deed_of does effect = does

-- whether an activation ends by this effect
abbrev pub is_end : {L : Type 0} → Effect L → Bool
is_end (goes_on a store) = false
is_end (spawns parent child store) = false
is_end ends = true
is_end (faults kind) = true

-- the entries with one more, where there is one
abbrev pub with_entry : List Entry → Option Entry → List Entry
with_entry entries None = entries
with_entry entries (Some entry) = entries ++ entry ∷ []

module _ {B L : Type 0} (G : Ghosts B L) where
  -- the entry of the step of this number, which is the top activation's
  abbrev pub entry_of : B → ℕ → Store → Activation L → Entry
  entry_of body n store top =
      let ask = (G.next body top.local top.answer (top.fuel - 1)).1 in
      let effect = effect_of G body n store top in
      record { path = top.path; deed = deed_of (asked store top.holdings ask) effect; ends = is_end effect }

  abbrev pub entry_on : B → State L → List (Activation L) → Option Entry
  entry_on body s [] = None
  entry_on body s (top ∷ below) = Some (entry_of body s.steps s.store top)

  -- the entry of the next step, and none where the stack is empty
  abbrev pub next_entry : B → State L → Option Entry
  next_entry body s = entry_on body s s.stack

  -- the entries of the first n steps
  abbrev pub entries : Plan B L → ℕ → List Entry
  entries plan zero = []
  entries plan (suc n) = with_entry (entries plan n) (next_entry plan.body (serial G plan n))

  abbrev pub script : Plan B L → Script
  script plan = record {
    queues = map (λ queue. queue.items) plan.roots.queues;
    objects = plan.roots.objects;
    entries = entries plan (most_steps plan);
  }
