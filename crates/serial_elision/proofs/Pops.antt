-- What a pop of a queue does to the store.
use Rattle.std.proofs.Common.{◌≡◌, ℕ, List, [], ◌∷◌, Option, Some, Result, Ok, Err, sym, ap, ◌∙◌}
use Rattle.std.proofs.lemmas.List.{set-get_or}
use Rattle.std.proofs.lemmas.Option.{get_or_from_slice_get}
use Rattle.std.specs.Option.{option_map}
use Rattle.std.specs.Prelude.{slice_get, slice_set}
use Rattle.swan_model.specs.declared.fault.FaultKind.{FaultKind}
use Rattle.swan_model.specs.declared.fault.FaultKind.TheVariants.{PopEmpty}
use Rattle.swan_model.specs.declared.rights.Mode.{Mode}
use Rattle.swan_model.specs.declared.value.Value.{Value}
use Rattle.swan_model.specs.SerialState.{Holding, Queue, Store}
use Rattle.swan_model.specs.SerialStep.{number_at}
use Rattle.serial_elision.specs.Places.{store_after_pop, at_number, item_or_fault, popped_item, queue_at, without_item}

pub queue_at-found : (store : Store) (holdings : List Holding) (place : ℕ) (mode : Mode) (number : ℕ) (queue : Queue) → Some number ≡ number_at holdings place mode → slice_get store.queues number ≡ Some queue → queue_at store holdings place mode ≡ Some (number, queue)
queue_at-found store holdings place mode number queue held found =
    ap (at_number store.queues) (sym held) ∙ ap (option_map (λ (thing : Queue). (number, thing))) found

-- the queue before the pop, and the queue with the items that are left
pub popped-first : (store : Store) (at : Option (ℕ × Queue)) (number : ℕ) (before after : Queue) (item : Value) → at ≡ Some (number, before) → before.items ≡ item ∷ after.items → after.origin ≡ before.origin → ◌≡◌ {A = Result Value FaultKind} (Ok item) (popped_item at) × (record store { queues = slice_set store.queues number after } ≡ store_after_pop store at)
popped-first store at number before after item is first origin =
    let same : after ≡ record before { items = after.items } = ap (λ o. record { origin = o; items = after.items }) origin in (
      ap item_or_fault (sym first) ∙ ap popped_item (sym is),
      ap (λ q. record store { queues = slice_set store.queues number q }) same ∙ ap (without_item store number before) (sym first) ∙ ap (store_after_pop store) (sym is),
    )

-- what stands in a list, written there again, changes nothing
pub set-found : {A : Type 0} (xs : List A) (i : ℕ) (x : A) → slice_get xs i ≡ Some x → slice_set xs i x ≡ xs
set-found xs i x found = ap (slice_set xs i) (sym (get_or_from_slice_get xs i x x found)) ∙ set-get_or xs i x

pub popped-none : (store : Store) (at : Option (ℕ × Queue)) (number : ℕ) (before after : Queue) → at ≡ Some (number, before) → slice_get store.queues number ≡ Some before → before.items ≡ [] → after ≡ before → ◌≡◌ {A = Result Value FaultKind} (Err PopEmpty) (popped_item at) × (record store { queues = slice_set store.queues number after } ≡ store_after_pop store at)
popped-none store at number before after is found empty same = (
  ap item_or_fault (sym empty) ∙ ap popped_item (sym is),
  ap (λ q. record store { queues = slice_set store.queues number q }) same
      ∙ ap {B = Store} (λ qs. record store { queues = qs }) (set-found store.queues number before found)
      ∙ ap (without_item store number before) (sym empty)
      ∙ ap (store_after_pop store) (sym is),
)
