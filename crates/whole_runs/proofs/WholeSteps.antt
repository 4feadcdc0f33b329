-- How a task runs whole, by what it asks for first.
use Rattle.std.proofs.Common.{◌≡◌, ℕ, zero, suc, ◌-◌, ◌≤◌, ◌<◌, false, nat_eq, nat_lt, nat_le, cond, List, [], ◌∷◌, ◌++◌, Option, Some, None, refl, sym, ap, ◌∙◌, rules, tests, length, map}
use Rattle.std.proofs.lemmas.List.{map-append, map-set, length-map}
use Rattle.std.proofs.lemmas.Option.{slice_get-map}
use Rattle.std.specs.Option.{option_map}
use Rattle.std.specs.Prelude.{slice_get}
use Rattle.swan_model.specs.declared.body.Answer.TheVariants as answer
use Rattle.swan_model.specs.declared.body.Ask.{Ask}
use Rattle.swan_model.specs.declared.body.Ask.TheVariants as ask
use Rattle.swan_model.specs.declared.body.Body.{Ghosts}
use Rattle.swan_model.specs.declared.body.Child.{Child}
use Rattle.swan_model.specs.declared.fault.Fault.{Fault}
use Rattle.swan_model.specs.declared.fault.FaultKind.TheVariants as kind
use Rattle.swan_model.specs.declared.fault.Trouble.{Trouble}
use Rattle.swan_model.specs.declared.origin.Origin.TheVariants as origin
use Rattle.swan_model.specs.declared.path.TheConstants.{PATH_MOST}
use Rattle.swan_model.specs.declared.rights.Mode.{Mode}
use Rattle.swan_model.specs.declared.rights.Mode.TheVariants.{In, Out, InOut, Push, Pop, PushPop}
use Rattle.swan_model.specs.declared.value.Value.{Value}
use Rattle.swan_model.specs.Rights.{is_aliased}
use Rattle.swan_model.specs.SerialState.{Activation, Cell, Holding, Queue, Store}
use Rattle.swan_model.specs.SerialStep.{Effect, goes_on, spawns, faults, effect, effect_of, after_next, with_answer, with_items, with_place, with_value, number_at, on_object, on_cell, on_queue, on_list, popped, spawn_effect, given, is_nothing_left, synced, cells_with_zeros, zeroed_by, zero_cell}
use Rattle.swan_model.specs.Values.{kind_of}
use Rattle.serial_elision.specs.TaskSteps.{child_activation, parent_activation}
use Rattle.whole_runs.specs.Whole.{Contents, Object, contents_of, object_of, items_of, new_object, with_queue, with_object, zero_object, zeroed_object, zeroed_objects, given_contents, RunsWhole}
use Rattle.whole_runs.proofs.Wholes.{by_going_on, by_spawning, by_ending, by_fault}

-- the queue that has these items
record StandsQueue (queues : List Queue) (number : ℕ) (items : List Value) : Type 0 where
  pub queue : Queue
  pub found : slice_get queues number ≡ Some queue
  pub has : queue.items ≡ items

stands : (queues : List Queue) (number : ℕ) (items : List Value) → slice_get (map items_of queues) number ≡ Some items → StandsQueue queues number items
stands [] number items is = absurd (cc)
stands (queue ∷ queues) zero items is = record { queue = queue; found = refl; has = cc }
stands (queue ∷ queues) (suc number) items is =
    let there = stands queues number items is in
    record { queue = there.queue; found = there.found; has = there.has }

-- the queue that a task holds at a place, over a store of these contents
held_queue : (store : Store) (before : Contents) (number : ℕ) (items : List Value) → contents_of store ≡ before → slice_get before.queues number ≡ Some items → StandsQueue store.queues number items
held_queue store before number items are there =
    stands store.queues number items (ap (λ (c : Contents). slice_get c.queues number) are ∙ there)

on_queue-is : {L : Type 0} (store : Store) (at : Option ℕ) (number : ℕ) (queue : Queue) (f : ℕ → Queue → Effect L) → at ≡ Some number → slice_get store.queues number ≡ Some queue → on_queue store at f ≡ f number queue
on_queue-is store at number queue f held found = ap (λ o. on_queue store o f) held ∙ ap (λ o. on_list o (f number)) found

with_items-are : (store : Store) (before : Contents) (number : ℕ) (queue : Queue) (items : List Value) → contents_of store ≡ before → contents_of (with_items store number queue items) ≡ with_queue before number items
with_items-are store before number queue items are =
    ap {B = Contents} (λ qs. record { objects = map object_of store.cells; queues = qs }) (map-set items_of store.queues number (record queue { items = items }))
    ∙ ap (λ c. with_queue c number items) are

-- the object that has this kind and value
record StandsObject (cells : List Cell) (number : ℕ) (object : Object) : Type 0 where
  pub cell : Cell
  pub found : slice_get cells number ≡ Some cell
  pub has : object_of cell ≡ object

stands_object : (cells : List Cell) (number : ℕ) (object : Object) → slice_get (map object_of cells) number ≡ Some object → StandsObject cells number object
stands_object [] number object is = absurd (cc)
stands_object (cell ∷ cells) zero object is = record { cell = cell; found = refl; has = cc }
stands_object (cell ∷ cells) (suc number) object is =
    let there = stands_object cells number object is in
    record { cell = there.cell; found = there.found; has = there.has }

held_object : (store : Store) (before : Contents) (number : ℕ) (object : Object) → contents_of store ≡ before → slice_get before.objects number ≡ Some object → StandsObject store.cells number object
held_object store before number object are there =
    stands_object store.cells number object (ap (λ (c : Contents). slice_get c.objects number) are ∙ there)

on_object-is : {L : Type 0} (store : Store) (at : Option ℕ) (number : ℕ) (cell : Cell) (f : ℕ → Cell → Effect L) → at ≡ Some number → slice_get store.cells number ≡ Some cell → on_object store at f ≡ f number cell
on_object-is store at number cell f held found = ap (λ o. on_object store o f) held ∙ ap (λ o. on_cell o (f number)) found

-- a zero is given to an object as to its cell
zero_cell-are : (cells : List Cell) (number : ℕ) (cell : Option Cell) → map object_of (zero_cell cells number cell) ≡ zero_object (map object_of cells) number (option_map object_of cell)
zero_cell-are cells number None = refl
zero_cell-are cells number (Some cell) = map-set object_of cells number _

zeroed_by-are : (mode : Mode) (cells : List Cell) (number : ℕ) → map object_of (zeroed_by mode cells number) ≡ zeroed_object mode (map object_of cells) number
zeroed_by-are Out cells number =
    zero_cell-are cells number (slice_get cells number)
    ∙ ap (zero_object (map object_of cells) number) (sym (slice_get-map object_of cells number))
zeroed_by-are In cells number = refl
zeroed_by-are InOut cells number = refl
zeroed_by-are Push cells number = refl
zeroed_by-are Pop cells number = refl
zeroed_by-are PushPop cells number = refl

zeroed-are : (cells : List Cell) (holdings : List Holding) → map object_of (cells_with_zeros cells holdings) ≡ zeroed_objects (map object_of cells) holdings
zeroed-are cells [] = refl
zeroed-are cells (holding ∷ holdings) =
    zeroed-are (zeroed_by holding.mode cells holding.number) holdings
    ∙ ap (λ objects. zeroed_objects objects holdings) (zeroed_by-are holding.mode cells holding.number)

-- a spawn that has no fault
spawned-is : {L : Type 0} (store : Store) (a : Activation L) (child : Child L) (at : Option (List Holding)) (holdings : List Holding) → at ≡ Some holdings → is_aliased child.gives ≡ false → length a.path < PATH_MOST → child.fuel ≤ a.fuel
    → spawn_effect store a child at ≡ spawns (parent_activation a child) (child_activation a child holdings) (record store { cells = cells_with_zeros store.cells holdings })
spawned-is {L = L} store a child at holdings holds lawful shallow enough =
    let deep : nat_le PATH_MOST (length a.path) ≡ false = search (rules, tests) in
    let dry : nat_lt a.fuel child.fuel ≡ false = search (rules, tests) in
    let made : Effect L = spawns (parent_activation a child) (child_activation a child holdings) (record store { cells = cells_with_zeros store.cells holdings }) in
    ap (spawn_effect store a child) holds
    ∙ ap (λ b. cond b (faults kind.Alias) (cond (nat_le PATH_MOST (length a.path)) (faults kind.Depth) (cond (nat_lt a.fuel child.fuel) (faults kind.Fuel) made))) lawful
    ∙ ap (λ b. cond b (faults kind.Depth) (cond (nat_lt a.fuel child.fuel) (faults kind.Fuel) made)) deep
    ∙ ap (λ b. cond b (faults kind.Fuel) made) dry

module _ {B L : Type 0} (G : Ghosts B L) where
  -- a step with fuel has the effect of its ask
  paid : (body : B) (n : ℕ) (store : Store) (a : Activation L) (local : L) (asked : Ask L) → 0 < a.fuel → G.next body a.local a.answer (a.fuel - 1) ≡ (local, asked) → effect_of G body n store a ≡ effect n store (after_next a local) asked
  paid body n store a local asked fuel is =
      let full : nat_eq a.fuel 0 ≡ false = search (rules, tests) in
      let said = G.next body a.local a.answer (a.fuel - 1) in
      ap (λ b. cond b (faults kind.Fuel) (effect n store (after_next a said.0) said.1)) full
      ∙ ap (λ (x : L × Ask L). effect n store (after_next a x.0) x.1) is

  pub works : {body : B} {a : Activation L} {local : L} {before after_it : Contents} {fs : List Fault} → 0 < a.fuel → G.next body a.local a.answer (a.fuel - 1) ≡ (local, ask.Work)
      → RunsWhole G body (with_answer (after_next a local) answer.Nothing) before after_it fs → RunsWhole G body a before after_it fs
  works {body = body} {a = a} {local = local} fuel is rest =
      by_going_on G (λ n store are. record { left = store; is = paid body n store a local ask.Work fuel is; contents = are }) refl rest

  pub syncs : {body : B} {a : Activation L} {local : L} {before after_it : Contents} {fs : List Fault} → 0 < a.fuel → G.next body a.local a.answer (a.fuel - 1) ≡ (local, ask.Sync)
      → RunsWhole G body (synced (after_next a local)) before after_it fs → RunsWhole G body a before after_it fs
  syncs {body = body} {a = a} {local = local} fuel is rest =
      by_going_on G (λ n store are. record { left = store; is = paid body n store a local ask.Sync fuel is; contents = are }) refl rest

  pub pushes : {body : B} {a : Activation L} {local : L} {place number : ℕ} {value : Value} {items : List Value} {before after_it : Contents} {fs : List Fault} → 0 < a.fuel → G.next body a.local a.answer (a.fuel - 1) ≡ (local, ask.Push place value)
      → number_at a.holdings place Push ≡ Some number → slice_get before.queues number ≡ Some items
      → RunsWhole G body (with_answer (after_next a local) answer.Nothing) (with_queue before number (items ++ value ∷ [])) after_it fs → RunsWhole G body a before after_it fs
  pushes {body = body} {a = a} {local = local} {place = place} {number = number} {value = value} {items = items} {before = before} fuel is held there rest =
      by_going_on G (λ n store are.
      let at = held_queue store before number items are there in
      record {
        left = with_items store number at.queue (items ++ value ∷ []);
        is = paid body n store a local (ask.Push place value) fuel is
            ∙ on_queue-is store (number_at a.holdings place Push) number at.queue _ held at.found
            ∙ ap (λ xs. goes_on (with_answer (after_next a local) answer.Nothing) (with_items store number at.queue (xs ++ value ∷ []))) at.has;
        contents = with_items-are store before number at.queue (items ++ value ∷ []) are;
      }) refl rest

  pub pops : {body : B} {a : Activation L} {local : L} {place number : ℕ} {item : Value} {items : List Value} {before after_it : Contents} {fs : List Fault} → 0 < a.fuel → G.next body a.local a.answer (a.fuel - 1) ≡ (local, ask.Pop place)
      → number_at a.holdings place Pop ≡ Some number → slice_get before.queues number ≡ Some (item ∷ items)
      → RunsWhole G body (with_answer (after_next a local) (answer.Item item)) (with_queue before number items) after_it fs → RunsWhole G body a before after_it fs
  pops {body = body} {a = a} {local = local} {place = place} {number = number} {item = item} {items = items} {before = before} fuel is held there rest =
      by_going_on G (λ n store are.
      let at = held_queue store before number (item ∷ items) are there in
      record {
        left = with_items store number at.queue items;
        is = paid body n store a local (ask.Pop place) fuel is
            ∙ on_queue-is store (number_at a.holdings place Pop) number at.queue _ held at.found
            ∙ ap (popped store (after_next a local) number at.queue) at.has;
        contents = with_items-are store before number at.queue items are;
      }) refl rest

  pub tests_empty : {body : B} {a : Activation L} {local : L} {place number : ℕ} {items : List Value} {before after_it : Contents} {fs : List Fault} → 0 < a.fuel → G.next body a.local a.answer (a.fuel - 1) ≡ (local, ask.Empty place)
      → number_at a.holdings place Pop ≡ Some number → slice_get before.queues number ≡ Some items
      → RunsWhole G body (with_answer (after_next a local) (answer.Flag (is_nothing_left items))) before after_it fs → RunsWhole G body a before after_it fs
  tests_empty {body = body} {a = a} {local = local} {place = place} {number = number} {items = items} {before = before} fuel is held there rest =
      by_going_on G (λ n store are.
      let at = held_queue store before number items are there in
      record {
        left = store;
        is = paid body n store a local (ask.Empty place) fuel is
            ∙ on_queue-is store (number_at a.holdings place Pop) number at.queue _ held at.found
            ∙ ap (λ xs. goes_on (with_answer (after_next a local) (answer.Flag (is_nothing_left xs))) store) at.has;
        contents = are;
      }) refl rest

  pub finishes : {body : B} {a : Activation L} {local : L} {before : Contents} → 0 < a.fuel → G.next body a.local a.answer (a.fuel - 1) ≡ (local, ask.Finish) → RunsWhole G body a before before []
  finishes {body = body} {a = a} {local = local} fuel is =
      by_ending G (λ n store are. paid body n store a local ask.Finish fuel is)

  pub fails : {body : B} {a : Activation L} {local : L} {trouble : Trouble} {before : Contents} → 0 < a.fuel → G.next body a.local a.answer (a.fuel - 1) ≡ (local, ask.Fail trouble)
      → RunsWhole G body a before before (record { path = a.path; place = G.place_of body a.local; kind = kind.Trouble trouble } ∷ [])
  fails {body = body} {a = a} {local = local} {trouble = trouble} fuel is =
      by_fault G (kind.Trouble trouble) (λ n store are. paid body n store a local (ask.Fail trouble) fuel is)

  pub makes_queue : {body : B} {a : Activation L} {local : L} {before after_it : Contents} {fs : List Fault} → 0 < a.fuel → G.next body a.local a.answer (a.fuel - 1) ≡ (local, ask.NewQueue)
      → RunsWhole G body (with_place (after_next a local) (record { mode = PushPop; number = length before.queues })) (record before { queues = before.queues ++ [] ∷ [] }) after_it fs → RunsWhole G body a before after_it fs
  makes_queue {body = body} {a = a} {local = local} {before = before} fuel is rest =
      by_going_on G (λ n store are.
      let made : Queue = record { origin = origin.Step n; items = [] } in
      let many : length store.queues ≡ length before.queues = sym (length-map store.queues items_of) ∙ ap (λ (c : Contents). length c.queues) are in
      record {
        left = record store { queues = store.queues ++ made ∷ [] };
        is = paid body n store a local ask.NewQueue fuel is
            ∙ ap (λ k. goes_on (with_place (after_next a local) (record { mode = PushPop; number = k })) (record store { queues = store.queues ++ made ∷ [] })) many;
        contents = ap {B = Contents} (λ qs. record { objects = map object_of store.cells; queues = qs }) (map-append items_of store.queues (made ∷ []))
            ∙ ap {B = Contents} (λ (c : Contents). record c { queues = c.queues ++ [] ∷ [] }) are;
      }) refl rest

  pub makes_object : {body : B} {a : Activation L} {local : L} {value : Value} {before after_it : Contents} {fs : List Fault} → 0 < a.fuel → G.next body a.local a.answer (a.fuel - 1) ≡ (local, ask.NewObject value)
      → RunsWhole G body (with_place (after_next a local) (record { mode = InOut; number = length before.objects })) (record before { objects = before.objects ++ new_object value ∷ [] }) after_it fs → RunsWhole G body a before after_it fs
  makes_object {body = body} {a = a} {local = local} {value = value} {before = before} fuel is rest =
      by_going_on G (λ n store are.
      let made : Cell = record { origin = origin.Step n; kind = kind_of value; value = value } in
      let many : length store.cells ≡ length before.objects = sym (length-map store.cells object_of) ∙ ap (λ (c : Contents). length c.objects) are in
      record {
        left = record store { cells = store.cells ++ made ∷ [] };
        is = paid body n store a local (ask.NewObject value) fuel is
            ∙ ap (λ k. goes_on (with_place (after_next a local) (record { mode = InOut; number = k })) (record store { cells = store.cells ++ made ∷ [] })) many;
        contents = ap {B = Contents} (λ os. record { objects = os; queues = map items_of store.queues }) (map-append object_of store.cells (made ∷ []))
            ∙ ap {B = Contents} (λ (c : Contents). record c { objects = c.objects ++ new_object value ∷ [] }) are;
      }) refl rest

  pub reads : {body : B} {a : Activation L} {local : L} {place number : ℕ} {object : Object} {before after_it : Contents} {fs : List Fault} → 0 < a.fuel → G.next body a.local a.answer (a.fuel - 1) ≡ (local, ask.Read place)
      → number_at a.holdings place In ≡ Some number → slice_get before.objects number ≡ Some object
      → RunsWhole G body (with_answer (after_next a local) (answer.Item object.value)) before after_it fs → RunsWhole G body a before after_it fs
  reads {body = body} {a = a} {local = local} {place = place} {number = number} {object = object} {before = before} fuel is held there rest =
      by_going_on G (λ n store are.
      let at = held_object store before number object are there in
      record {
        left = store;
        is = paid body n store a local (ask.Read place) fuel is
            ∙ on_object-is store (number_at a.holdings place In) number at.cell _ held at.found
            ∙ ap (λ (o : Object). goes_on (with_answer (after_next a local) (answer.Item o.value)) store) at.has;
        contents = are;
      }) refl rest

  pub writes : {body : B} {a : Activation L} {local : L} {place number : ℕ} {value : Value} {object : Object} {before after_it : Contents} {fs : List Fault} → 0 < a.fuel → G.next body a.local a.answer (a.fuel - 1) ≡ (local, ask.Write place value)
      → number_at a.holdings place Out ≡ Some number → slice_get before.objects number ≡ Some object
      → RunsWhole G body (with_answer (after_next a local) answer.Nothing) (with_object before number (record object { value = value })) after_it fs → RunsWhole G body a before after_it fs
  writes {body = body} {a = a} {local = local} {place = place} {number = number} {value = value} {object = object} {before = before} fuel is held there rest =
      by_going_on G (λ n store are.
      let at = held_object store before number object are there in
      record {
        left = with_value store number at.cell value;
        is = paid body n store a local (ask.Write place value) fuel is
            ∙ on_object-is store (number_at a.holdings place Out) number at.cell _ held at.found;
        contents = ap {B = Contents} (λ os. record { objects = os; queues = map items_of store.queues }) (map-set object_of store.cells number (record at.cell { value = value }))
            ∙ ap (λ c. with_object c number (object_of (record at.cell { value = value }))) are
            ∙ ap (λ (o : Object). with_object before number (record o { value = value })) at.has;
      }) refl rest

  -- a spawn without a fault: the child runs whole, and then the task goes on, with whatever number of failed children
  pub spawns_child : {body : B} {a : Activation L} {local : L} {child : Child L} {holdings : List Holding} {before between after_it : Contents} {fs more : List Fault} → 0 < a.fuel → G.next body a.local a.answer (a.fuel - 1) ≡ (local, ask.Spawn child)
      → given a.holdings child.gives ≡ Some holdings → is_aliased child.gives ≡ false → length a.path < PATH_MOST → child.fuel ≤ a.fuel - 1
      → RunsWhole G body (child_activation a child holdings) (given_contents before holdings) between fs
      → ((failed : ℕ) → RunsWhole G body (record (parent_activation (after_next a local) child) { failed = failed }) between after_it more) → RunsWhole G body a before after_it (fs ++ more)
  spawns_child {body = body} {a = a} {local = local} {child = child} {holdings = holdings} fuel is holds lawful shallow enough whole rest =
      by_spawning G (λ n store are.
      record {
        left = record store { cells = cells_with_zeros store.cells holdings };
        is = paid body n store a local (ask.Spawn child) fuel is
            ∙ spawned-is store (after_next a local) child (given a.holdings child.gives) holdings holds lawful shallow enough;
        contents = ap {B = Contents} (λ os. record { objects = os; queues = map items_of store.queues }) (zeroed-are store.cells holdings)
            ∙ ap (λ c. given_contents c holdings) are;
      }) refl refl whole rest
