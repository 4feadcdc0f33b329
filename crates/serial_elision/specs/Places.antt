-- Objects and queues at the places of one who holds them, and what asks about them answer and change.
use Rattle.std.specs.Option.{option_map}
use Rattle.std.specs.Prelude.{ℕ, Option, Some, None, List, [], ◌∷◌, ◌++◌, Result, Ok, Err, slice_get}
use Rattle.swan_model.specs.declared.fault.FaultKind.{FaultKind}
use Rattle.swan_model.specs.declared.fault.FaultKind.TheVariants.{Privilege, PopEmpty}
use Rattle.swan_model.specs.declared.rights.Mode.{Mode}
use Rattle.swan_model.specs.declared.value.Value.{Value}
use Rattle.swan_model.specs.SerialState.{Holding, Cell, Queue, Store}
use Rattle.swan_model.specs.SerialStep.{number_at, with_items, with_value}

-- what stands at an index, with the index
abbrev pub at_number : {A : Type 0} → List A → Option ℕ → Option (ℕ × A)
at_number things None = None
at_number things (Some number) = option_map (λ thing. (number, thing)) (slice_get things number)

-- the object at a place, with its number, where the holder may use it by this mode
abbrev pub cell_at : Store → List Holding → ℕ → Mode → Option (ℕ × Cell)
cell_at store holdings place mode = at_number store.cells (number_at holdings place mode)

-- and the queue
abbrev pub queue_at : Store → List Holding → ℕ → Mode → Option (ℕ × Queue)
queue_at store holdings place mode = at_number store.queues (number_at holdings place mode)

-- the store once the object has this value
abbrev pub store_after_write : Store → Value → Option (ℕ × Cell) → Store
store_after_write store value None = store
store_after_write store value (Some at) = with_value store at.0 at.1 value

-- the store once this item is pushed to the queue
abbrev pub store_after_push : Store → Value → Option (ℕ × Queue) → Store
store_after_push store value None = store
store_after_push store value (Some at) = with_items store at.0 at.1 (at.1.items ++ value ∷ [])

-- the first item, or by which fault the pop ends
abbrev pub item_or_fault : List Value → Result Value FaultKind
item_or_fault [] = Err PopEmpty
item_or_fault (item ∷ items) = Ok item

abbrev pub popped_item : Option (ℕ × Queue) → Result Value FaultKind
popped_item None = Err Privilege
popped_item (Some at) = item_or_fault at.1.items

-- the store once the first item has left the queue
abbrev pub without_item : Store → ℕ → Queue → List Value → Store
without_item store number queue [] = store
without_item store number queue (item ∷ items) = with_items store number queue items

abbrev pub store_after_pop : Store → Option (ℕ × Queue) → Store
store_after_pop store None = store
store_after_pop store (Some at) = without_item store at.0 at.1 at.1.items
