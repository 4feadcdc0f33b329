-- What a step makes of the objects and the queues, told by its deed alone.
use Rattle.std.proofs.Common.{◌≡◌, ℕ, ◌≤◌, Bool, true, false, cond, List, [], ◌∷◌, ◌++◌, inl, inr, length, Option, Some, None, refl, sym, ap, ◌∙◌}
use Rattle.std.specs.Prelude.{slice_get, slice_set}
use Rattle.swan_model.specs.declared.origin.Origin.{Origin}
use Rattle.swan_model.specs.declared.origin.Origin.TheVariants.{Step}
use Rattle.swan_model.specs.declared.script.Deed.{Deed}
use Rattle.swan_model.specs.declared.script.Deed.TheVariants as deed
use Rattle.swan_model.specs.declared.value.Kind.{Kind}
use Rattle.swan_model.specs.declared.value.Value.{Value}
use Rattle.swan_model.specs.Script.{about}
use Rattle.swan_model.specs.SerialState.{Cell, Queue, Store}
use Rattle.swan_model.specs.SerialStep.{with_value, with_items}
use Rattle.swan_model.specs.Told.{is_same, changed_by}
use Rattle.swan_model.specs.Values.{kind_of}
use Rattle.swan_model.proofs.Elements.{more_cases, set_cases}
use Rattle.serial_elision.proofs.ItemsTold.{items_by, without_first}
use Rattle.swan_model.proofs.Origins.{IsOld, is_same-self, old-differs}

-- What stands at an index once the step n has done a deed: what stood there, as the deed leaves it; or, at
-- the end, what this step made.
pub data QueueAfter (n : ℕ) (does : Deed) (queues : List Queue) (i : ℕ) (now : Queue) : Type 0 where
  stayed : (was : Queue) → slice_get queues i ≡ Some was → now.origin ≡ was.origin → now.items ≡ items_by was.origin does was.items → QueueAfter n does queues i now
  is_new : i ≡ length queues → now.origin ≡ Step n → now.items ≡ [] → QueueAfter n does queues i now

pub data CellAfter (n : ℕ) (does : Deed) (cells : List Cell) (i : ℕ) (now : Cell) : Type 0 where
  kept : (was : Cell) → slice_get cells i ≡ Some was → now.origin ≡ was.origin → now.kind ≡ was.kind → now.value ≡ changed_by was.origin was.kind does was.value → CellAfter n does cells i now
  is_made : i ≡ length cells → now.origin ≡ Step n → does ≡ deed.MakeObject now.value → now.kind ≡ kind_of now.value → CellAfter n does cells i now

-- a deed does nothing to what this origin names, which is empty or has its first value
pub record IsUntouchedBy (does : Deed) (origin : Origin) : Type 0 where
  pub items : items_by origin does [] ≡ []
  pub value : (kind : Kind) (value : Value) → changed_by origin kind does value ≡ value

pub record Becomes (n : ℕ) (does : Deed) (before after : Store) : Type 0 where
  pub queues : (i : ℕ) (now : Queue) → slice_get after.queues i ≡ Some now → QueueAfter n does before.queues i now
  pub cells : (i : ℕ) (now : Cell) → slice_get after.cells i ≡ Some now → CellAfter n does before.cells i now
  pub later : (m : ℕ) → n ≤ m → IsUntouchedBy does (Step m)

-- the objects and queues that stand before the step n have one origin each, and an earlier one
pub record HasOrigins (n : ℕ) (store : Store) : Type 0 where
  pub queue_old : (i : ℕ) (q : Queue) → slice_get store.queues i ≡ Some q → IsOld n q.origin
  pub cell_old : (i : ℕ) (c : Cell) → slice_get store.cells i ≡ Some c → IsOld n c.origin
  pub queue_one : (i j : ℕ) (q r : Queue) → slice_get store.queues i ≡ Some q → slice_get store.queues j ≡ Some r → is_same q.origin r.origin ≡ true → i ≡ j
  pub cell_one : (i j : ℕ) (c d : Cell) → slice_get store.cells i ≡ Some c → slice_get store.cells j ≡ Some d → is_same c.origin d.origin ≡ true → i ≡ j

-- a deed that changes nothing
pub record IsStill (does : Deed) : Type 0 where
  pub items : (origin : Origin) (xs : List Value) → items_by origin does xs ≡ xs
  pub value : (origin : Origin) (kind : Kind) (value : Value) → changed_by origin kind does value ≡ value

still-queues : (n : ℕ) (does : Deed) → ((origin : Origin) (xs : List Value) → items_by origin does xs ≡ xs) → (queues : List Queue) (i : ℕ) (now : Queue) → slice_get queues i ≡ Some now → QueueAfter n does queues i now
still-queues n does still queues i now is = stayed now is refl (sym (still now.origin now.items))

still-cells : (n : ℕ) (does : Deed) → ((origin : Origin) (kind : Kind) (value : Value) → changed_by origin kind does value ≡ value) → (cells : List Cell) (i : ℕ) (now : Cell) → slice_get cells i ≡ Some now → CellAfter n does cells i now
still-cells n does still cells i now is = kept now is refl refl (sym (still now.origin now.kind now.value))

pub becomes-still : (n : ℕ) (does : Deed) (store : Store) → IsStill does → Becomes n does store store
becomes-still n does store still =
    record {
      queues = still-queues n does still.items store.queues;
      cells = still-cells n does still.value store.cells;
      later = λ m after. record { items = still.items (Step m) []; value = still.value (Step m) };
    }

pub quiet-still : IsStill deed.Quiet
quiet-still = record { items = λ o xs. refl; value = λ o k v. refl }

pub about-still : (at : Option Origin) (does : Origin → Deed) → ((o : Origin) → IsStill (does o)) → IsStill (about at does)
about-still None does still = quiet-still
about-still (Some o) does still = still o

-- one queue gets other items by a deed that concerns it alone
queue-set : (n : ℕ) (does : Deed) (store : Store) (number : ℕ) (q new : Queue) → HasOrigins n store → slice_get store.queues number ≡ Some q → new.origin ≡ q.origin → new.items ≡ items_by q.origin does q.items → ((r : Queue) → is_same q.origin r.origin ≡ false → items_by r.origin does r.items ≡ r.items) → (i : ℕ) (now : Queue) → slice_get (slice_set store.queues number new) i ≡ Some now → QueueAfter n does store.queues i now
queue-set n does store number q new has found origin items others i now is =
    elim (set_cases store.queues number q new i now found is) [
      | inl here ↦ stayed q (ap (slice_get store.queues) here.0 ∙ found) (ap (λ (x : Queue). x.origin) here.1 ∙ origin) (ap (λ (x : Queue). x.items) here.1 ∙ items)
      | inr there ↦ elsewhere (is_same q.origin now.origin) refl there.0 there.1
    ]
  where
    elsewhere : (same : Bool) → is_same q.origin now.origin ≡ same → (i ≡ number → ⊥) → slice_get store.queues i ≡ Some now → QueueAfter n does store.queues i now
    elsewhere true same other at = absurd (other (sym (has.queue_one number i q now found at same)))
    elsewhere false same other at = stayed now at refl (sym (others now same))

cell-set : (n : ℕ) (does : Deed) (store : Store) (number : ℕ) (c new : Cell) → HasOrigins n store → slice_get store.cells number ≡ Some c → new.origin ≡ c.origin → new.kind ≡ c.kind → new.value ≡ changed_by c.origin c.kind does c.value → ((d : Cell) → is_same c.origin d.origin ≡ false → changed_by d.origin d.kind does d.value ≡ d.value) → (i : ℕ) (now : Cell) → slice_get (slice_set store.cells number new) i ≡ Some now → CellAfter n does store.cells i now
cell-set n does store number c new has found origin kind value others i now is =
    elim (set_cases store.cells number c new i now found is) [
      | inl here ↦ kept c (ap (slice_get store.cells) here.0 ∙ found) (ap (λ (x : Cell). x.origin) here.1 ∙ origin) (ap (λ (x : Cell). x.kind) here.1 ∙ kind) (ap (λ (x : Cell). x.value) here.1 ∙ value)
      | inr there ↦ elsewhere (is_same c.origin now.origin) refl there.0 there.1
    ]
  where
    elsewhere : (same : Bool) → is_same c.origin now.origin ≡ same → (i ≡ number → ⊥) → slice_get store.cells i ≡ Some now → CellAfter n does store.cells i now
    elsewhere true same other at = absurd (other (sym (has.cell_one number i c now found at same)))
    elsewhere false same other at = kept now at refl refl (sym (others now same))

pub push-becomes : (n : ℕ) (store : Store) (number : ℕ) (q : Queue) (value : Value) → HasOrigins n store → slice_get store.queues number ≡ Some q → Becomes n (deed.Push q.origin value) store (with_items store number q (q.items ++ value ∷ []))
push-becomes n store number q value has found =
    let does : Deed = deed.Push q.origin value in
    record {
      queues = queue-set n does store number q _ has found refl (ap (λ b. cond b (q.items ++ value ∷ []) q.items) (sym (is_same-self q.origin))) (λ r other. ap (λ b. cond b (r.items ++ value ∷ []) r.items) other);
      cells = still-cells n does (λ o k v. refl) store.cells;
      later = λ m after. record { items = ap (λ b. cond b (value ∷ []) []) (old-differs n m q.origin (has.queue_old number q found) after); value = λ k v. refl };
    }

pub pop-becomes : (n : ℕ) (store : Store) (number : ℕ) (q : Queue) (rest : List Value) → HasOrigins n store → slice_get store.queues number ≡ Some q → rest ≡ without_first q.items → Becomes n (deed.Pop q.origin) store (with_items store number q rest)
pop-becomes n store number q rest has found is =
    let does : Deed = deed.Pop q.origin in
    record {
      queues = queue-set n does store number q _ has found refl (is ∙ ap (λ b. cond b (without_first q.items) q.items) (sym (is_same-self q.origin))) (λ r other. ap (λ b. cond b (without_first r.items) r.items) other);
      cells = still-cells n does (λ o k v. refl) store.cells;
      later = λ m after. record { items = ap (λ b. cond b [] []) (old-differs n m q.origin (has.queue_old number q found) after); value = λ k v. refl };
    }

pub write-becomes : (n : ℕ) (store : Store) (number : ℕ) (c : Cell) (written : Value) → HasOrigins n store → slice_get store.cells number ≡ Some c → Becomes n (deed.Write c.origin written) store (with_value store number c written)
write-becomes n store number c written has found =
    let does : Deed = deed.Write c.origin written in
    record {
      queues = still-queues n does (λ o xs. refl) store.queues;
      cells = cell-set n does store number c _ has found refl refl (ap (λ b. cond b written c.value) (sym (is_same-self c.origin))) (λ d other. ap (λ b. cond b written d.value) other);
      later = λ m after. record { items = refl; value = λ k v. ap (λ b. cond b written v) (old-differs n m c.origin (has.cell_old number c found) after) };
    }

pub queue-becomes : (n : ℕ) (store : Store) → Becomes n deed.MakeQueue store (record store { queues = store.queues ++ (record { origin = Step n; items = [] }) ∷ [] })
queue-becomes n store =
    record {
      queues = λ i now is. elim (more_cases store.queues _ i now is) [
        | inl old ↦ stayed now old refl refl
        | inr new ↦ is_new new.0 (ap (λ (x : Queue). x.origin) new.1) (ap (λ (x : Queue). x.items) new.1)
      ];
      cells = still-cells n deed.MakeQueue (λ o k v. refl) store.cells;
      later = λ m after. record { items = refl; value = λ k v. refl };
    }

pub object-becomes : (n : ℕ) (store : Store) (value : Value) → Becomes n (deed.MakeObject value) store (record store { cells = store.cells ++ (record { origin = Step n; kind = kind_of value; value = value }) ∷ [] })
object-becomes n store value =
    record {
      queues = still-queues n (deed.MakeObject value) (λ o xs. refl) store.queues;
      cells = λ i now is. elim (more_cases store.cells _ i now is) [
        | inl old ↦ kept now old refl refl refl
        | inr new ↦ is_made new.0 (ap (λ (x : Cell). x.origin) new.1) (ap (λ (x : Cell). deed.MakeObject x.value) (sym new.1)) (ap (λ (x : Cell). x.kind) new.1 ∙ ap (λ (x : Cell). kind_of x.value) (sym new.1))
      ];
      later = λ m after. record { items = refl; value = λ k v. refl };
    }
