-- The script tells the items of each queue and the value of each object, by induction on the steps.
use Rattle.std.proofs.Common.{◌≡◌, ℕ, zero, suc, ◌+◌, ◌≤◌, true, false, List, [], ◌∷◌, Option, Some, refl, sym, ap, subst, ◌∙◌, arith}
use Rattle.std.specs.Option.{option_map}
use Rattle.std.specs.Prelude.{slice_get}
use Rattle.swan_model.specs.declared.origin.Origin.{Origin}
use Rattle.swan_model.specs.declared.origin.Origin.TheVariants.{Root, Step}
use Rattle.swan_model.specs.declared.plan.RootQueue.{RootQueue}
use Rattle.swan_model.specs.declared.script.Deed.{Deed}
use Rattle.swan_model.specs.declared.script.Script.{Script}
use Rattle.swan_model.specs.declared.value.Value.{Value}
use Rattle.swan_model.specs.Elision.{first_queues, first_cells}
use Rattle.swan_model.specs.SerialState.{Cell, Queue, Store}
use Rattle.swan_model.specs.Told.{is_same, deed_at, items, first_value, cell_from, changed_by, made}
use Rattle.swan_model.specs.Values.{kind_of}
use Rattle.serial_elision.proofs.Becomes.{Becomes, HasOrigins, QueueAfter, stayed, is_new, CellAfter, kept, is_made}
use Rattle.serial_elision.proofs.ItemsTold.{items_by, items-suc}
use Rattle.swan_model.proofs.Origins.{IsOld, old-differs, old-later, is_same-equal}

-- the script tells this object before the entry n
pub record IsCellTold (s : Script) (n : ℕ) (c : Cell) : Type 0 where
  pub first : Value
  pub begins : first_value s c.origin ≡ Some first
  pub kind : kind_of first ≡ c.kind
  pub value : cell_from s c.origin first n ≡ c.value

-- what a later step makes is empty and has its first value
pub record IsFresh (s : Script) (n m : ℕ) : Type 0 where
  pub items : items s (Step m) n ≡ []
  pub value : (first : Value) → cell_from s (Step m) first n ≡ first

pub record IsTold (s : Script) (n : ℕ) (store : Store) : Type 0 where
  pub has : HasOrigins n store
  pub queues : (i : ℕ) (q : Queue) → slice_get store.queues i ≡ Some q → q.items ≡ items s q.origin n
  pub cells : (i : ℕ) (c : Cell) → slice_get store.cells i ≡ Some c → IsCellTold s n c
  pub later : (m : ℕ) → n ≤ m → IsFresh s n m

-- origins stay, and a new one is that of this step
queue_old-after : (n : ℕ) (does : Deed) (queues : List Queue) (i : ℕ) (now : Queue) → ((j : ℕ) (q : Queue) → slice_get queues j ≡ Some q → IsOld n q.origin) → QueueAfter n does queues i now → IsOld (suc n) now.origin
queue_old-after n does queues i now old (stayed was at origin is) =
    subst (IsOld (suc n)) (sym origin) (old-later n (suc n) was.origin (old i was at) (omega arith))
queue_old-after n does queues i now old (is_new at origin is) = subst (IsOld (suc n)) (sym origin) (omega arith)

cell_old-after : (n : ℕ) (does : Deed) (cells : List Cell) (i : ℕ) (now : Cell) → ((j : ℕ) (c : Cell) → slice_get cells j ≡ Some c → IsOld n c.origin) → CellAfter n does cells i now → IsOld (suc n) now.origin
cell_old-after n does cells i now old (kept was at origin kind is) =
    subst (IsOld (suc n)) (sym origin) (old-later n (suc n) was.origin (old i was at) (omega arith))
cell_old-after n does cells i now old (is_made at origin does_is kind) = subst (IsOld (suc n)) (sym origin) (omega arith)

-- an earlier origin isn't that of this step
not-new : (n : ℕ) (o p : Origin) → IsOld n o → p ≡ Step n → is_same o p ≡ true → ⊥
not-new n o p old new is =
    let differs : is_same o p ≡ false = ap (is_same o) new ∙ old-differs n n o old (omega arith) in
    let bad : true ≡ false = sym is ∙ differs in absurd (cc)

is_same-swap : (o p : Origin) → is_same o p ≡ true → is_same p o ≡ true
is_same-swap o p is = let e = is_same-equal o p is in subst (λ x. is_same x o ≡ true) e (subst (λ x. is_same o x ≡ true) (sym e) is)

queue_one-after : (n : ℕ) (does : Deed) (store : Store) (i j : ℕ) (q r : Queue) → HasOrigins n store → QueueAfter n does store.queues i q → QueueAfter n does store.queues j r → is_same q.origin r.origin ≡ true → i ≡ j
queue_one-after n does store i j q r has (stayed was at origin is) (stayed other at' origin' is') same =
    has.queue_one i j was other at at' (ap (λ o. is_same o other.origin) (sym origin) ∙ ap (is_same q.origin) (sym origin') ∙ same)
queue_one-after n does store i j q r has (stayed was at origin is) (is_new at' origin' is') same =
    absurd (not-new n was.origin r.origin (has.queue_old i was at) origin' (ap (λ o. is_same o r.origin) (sym origin) ∙ same))
queue_one-after n does store i j q r has (is_new at origin is) (stayed other at' origin' is') same =
    absurd (not-new n other.origin q.origin (has.queue_old j other at') origin (ap (λ o. is_same o q.origin) (sym origin') ∙ is_same-swap q.origin r.origin same))
queue_one-after n does store i j q r has (is_new at origin is) (is_new at' origin' is') same = at ∙ sym at'

cell_one-after : (n : ℕ) (does : Deed) (store : Store) (i j : ℕ) (c d : Cell) → HasOrigins n store → CellAfter n does store.cells i c → CellAfter n does store.cells j d → is_same c.origin d.origin ≡ true → i ≡ j
cell_one-after n does store i j c d has (kept was at origin kind is) (kept other at' origin' kind' is') same =
    has.cell_one i j was other at at' (ap (λ o. is_same o other.origin) (sym origin) ∙ ap (is_same c.origin) (sym origin') ∙ same)
cell_one-after n does store i j c d has (kept was at origin kind is) (is_made at' origin' does_is' kind') same =
    absurd (not-new n was.origin d.origin (has.cell_old i was at) origin' (ap (λ o. is_same o d.origin) (sym origin) ∙ same))
cell_one-after n does store i j c d has (is_made at origin does_is kind) (kept other at' origin' kind' is') same =
    absurd (not-new n other.origin c.origin (has.cell_old j other at') origin (ap (λ o. is_same o c.origin) (sym origin') ∙ is_same-swap c.origin d.origin same))
cell_one-after n does store i j c d has (is_made at origin does_is kind) (is_made at' origin' does_is' kind') same =
    at ∙ sym at'

module _ (s : Script) (n : ℕ) (does : Deed) (does_is : deed_at s n ≡ does) where
  items-after : (o : Origin) (xs : List Value) → xs ≡ items s o n → items_by o does xs ≡ items s o (suc n)
  items-after o xs is = ap (λ d. items_by o d xs) (sym does_is) ∙ ap (items_by o (deed_at s n)) is ∙ sym (items-suc s o n)

  fresh-after : (m : ℕ) (before after : Store) → n ≤ m → Becomes n does before after → IsFresh s n m → IsFresh s (suc n) m
  fresh-after m before after later becomes fresh =
      let untouched = becomes.later m later in
      record {
        items = sym (items-after (Step m) [] (sym fresh.items)) ∙ untouched.items;
        value = λ first. ap (λ d. changed_by (Step m) (kind_of first) d (cell_from s (Step m) first n)) does_is
            ∙ ap (changed_by (Step m) (kind_of first) does) (fresh.value first)
            ∙ untouched.value (kind_of first) first;
      }

  queue-told : (before after : Store) (i : ℕ) (now : Queue) → Becomes n does before after → IsTold s n before → QueueAfter n does before.queues i now → now.items ≡ items s now.origin (suc n)
  queue-told before after i now becomes told (stayed was at origin is) =
      is
      ∙ items-after was.origin was.items (told.queues i was at)
      ∙ ap (λ o. items s o (suc n)) (sym origin)
  queue-told before after i now becomes told (is_new at origin is) =
      is
      ∙ sym (fresh-after n before after (omega arith) becomes (told.later n (omega arith))).items
      ∙ ap (λ o. items s o (suc n)) (sym origin)

  cell-told : (before after : Store) (i : ℕ) (now : Cell) → Becomes n does before after → IsTold s n before → CellAfter n does before.cells i now → IsCellTold s (suc n) now
  cell-told before after i now becomes told (kept was at origin kind is) =
      let cell = told.cells i was at in
      let first = cell.first in
      record {
        first = first;
        begins = ap (first_value s) origin ∙ cell.begins;
        kind = cell.kind ∙ sym kind;
        value = ap (λ o. cell_from s o first (suc n)) origin
            ∙ ap (λ d. changed_by was.origin (kind_of first) d (cell_from s was.origin first n)) does_is
            ∙ ap (λ k. changed_by was.origin k does (cell_from s was.origin first n)) cell.kind
            ∙ ap (changed_by was.origin was.kind does) cell.value
            ∙ sym is;
      }
  cell-told before after i now becomes told (is_made at origin made_is kind) =
      record {
        first = now.value;
        begins = ap (first_value s) origin ∙ ap made (does_is ∙ made_is);
        kind = sym kind;
        value = ap (λ o. cell_from s o now.value (suc n)) origin ∙ (fresh-after n before after (omega arith) becomes (told.later n (omega arith))).value now.value;
      }

  -- the script tells the store after a step, where it told the one before
  pub told-after : (before after : Store) → Becomes n does before after → IsTold s n before → IsTold s (suc n) after
  told-after before after becomes told =
      record {
        has = record {
          queue_old = λ i q at. queue_old-after n does before.queues i q told.has.queue_old (becomes.queues i q at);
          cell_old = λ i c at. cell_old-after n does before.cells i c told.has.cell_old (becomes.cells i c at);
          queue_one = λ i j q r at at' same. queue_one-after n does before i j q r told.has (becomes.queues i q at) (becomes.queues j r at') same;
          cell_one = λ i j c d at at' same. cell_one-after n does before i j c d told.has (becomes.cells i c at) (becomes.cells j d at') same;
        };
        queues = λ i q at. queue-told before after i q becomes told (becomes.queues i q at);
        cells = λ i c at. cell-told before after i c becomes told (becomes.cells i c at);
        later = λ m later. fresh-after m before after (omega arith) becomes (told.later m (omega arith));
      }

-- the roots
pub get-first_queues : (k : ℕ) (queues : List RootQueue) (i : ℕ) → slice_get (first_queues k queues) i ≡ option_map (λ (q : RootQueue). let made : Queue = record { origin = Root (k + i); items = q.items } in made) (slice_get queues i)
get-first_queues k [] i = refl
get-first_queues k (q ∷ queues) zero = ap (λ m. let made : Option Queue = Some (record { origin = Root m; items = q.items }) in made) (let e : k ≡ k + 0 = omega arith in e)
get-first_queues k (q ∷ queues) (suc i) =
    get-first_queues (k + 1) queues i
    ∙ ap (λ m. option_map (λ (q : RootQueue). let made : Queue = record { origin = Root m; items = q.items } in made) (slice_get queues i)) (let e : (k + 1) + i ≡ k + suc i = omega arith in e)

pub get-first_cells : (k : ℕ) (values : List Value) (i : ℕ) → slice_get (first_cells k values) i ≡ option_map (λ (v : Value). let made : Cell = record { origin = Root (k + i); kind = kind_of v; value = v } in made) (slice_get values i)
get-first_cells k [] i = refl
get-first_cells k (v ∷ values) zero = ap (λ m. let made : Option Cell = Some (record { origin = Root m; kind = kind_of v; value = v }) in made) (let e : k ≡ k + 0 = omega arith in e)
get-first_cells k (v ∷ values) (suc i) =
    get-first_cells (k + 1) values i
    ∙ ap (λ m. option_map (λ (v : Value). let made : Cell = record { origin = Root m; kind = kind_of v; value = v } in made) (slice_get values i)) (let e : (k + 1) + i ≡ k + suc i = omega arith in e)
