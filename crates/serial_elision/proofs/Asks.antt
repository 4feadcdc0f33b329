-- What holds of the effect of an ask, as far as the ask's object or queue was found.
use Rattle.std.proofs.Common.{◌≡◌, ℕ, Bool, true, false, cond, Option, Some, None, refl}
use Rattle.std.specs.Prelude.{slice_get}
use Rattle.swan_model.specs.declared.fault.FaultKind.TheVariants as kind
use Rattle.swan_model.specs.SerialState.{Cell, Queue, Store}
use Rattle.swan_model.specs.SerialStep.{Effect, faults, on_object, on_cell, on_queue, on_list}

module _ {L : Type 0} (P : Effect L → Type 0) where
  on_cell-either : P (faults kind.Privilege) → (cell : Option Cell) (f : Cell → Effect L) → ((c : Cell) → cell ≡ Some c → P (f c)) → P (on_cell cell f)
  on_cell-either refused None f found = refused
  on_cell-either refused (Some cell) f found = found cell refl

  pub on_object-either : P (faults kind.Privilege) → (store : Store) (at : Option ℕ) (f : ℕ → Cell → Effect L) → ((n : ℕ) (c : Cell) → at ≡ Some n → slice_get store.cells n ≡ Some c → P (f n c)) → P (on_object store at f)
  on_object-either refused store None f found = refused
  on_object-either refused store (Some n) f found =
      on_cell-either refused (slice_get store.cells n) (f n) (λ c is. found n c refl is)

  on_list-either : P (faults kind.Privilege) → (queue : Option Queue) (f : Queue → Effect L) → ((q : Queue) → queue ≡ Some q → P (f q)) → P (on_list queue f)
  on_list-either refused None f found = refused
  on_list-either refused (Some queue) f found = found queue refl

  pub on_queue-either : P (faults kind.Privilege) → (store : Store) (at : Option ℕ) (f : ℕ → Queue → Effect L) → ((n : ℕ) (q : Queue) → at ≡ Some n → slice_get store.queues n ≡ Some q → P (f n q)) → P (on_queue store at f)
  on_queue-either refused store None f found = refused
  on_queue-either refused store (Some n) f found =
      on_list-either refused (slice_get store.queues n) (f n) (λ q is. found n q refl is)

  pub if-either : (test : Bool) (x y : Effect L) → P x → P y → P (cond test x y)
  if-either true x y then_holds else_holds = then_holds
  if-either false x y then_holds else_holds = else_holds
