-- After any number of steps the script tells the items of each queue and the value of each object.
use Rattle.std.proofs.Common.{◌≡◌, ℕ, zero, suc, ◌+◌, ◌-◌, ◌<◌, ◌≤◌, true, nat_eq, List, [], ◌∷◌, inl, inr, length, Option, Some, None, refl, sym, ap, subst, ◌∙◌, arith, append-nil, add-suc, add-zero}
use Rattle.std.proofs.lemmas.Option.{slice_get-map, slice_get_past}
use Rattle.std.specs.Option.{option_map, option_map_or}
use Rattle.std.specs.Prelude.{slice_get, IfSome, unwrap_or}
use Rattle.swan_model.specs.declared.body.Body.{Ghosts}
use Rattle.swan_model.specs.declared.fault.FaultKind.TheVariants.{Fuel}
use Rattle.swan_model.specs.declared.origin.Origin.{Origin}
use Rattle.swan_model.specs.declared.origin.Origin.TheVariants.{Root, Step}
use Rattle.swan_model.specs.declared.plan.Plan.{Plan}
use Rattle.swan_model.specs.declared.plan.RootQueue.{RootQueue}
use Rattle.swan_model.specs.declared.script.Deed.{Deed}
use Rattle.swan_model.specs.declared.script.Deed.TheVariants as deed
use Rattle.swan_model.specs.declared.script.Entry.{Entry}
use Rattle.swan_model.specs.declared.script.Script.{Script}
use Rattle.swan_model.specs.declared.value.Value.{Value}
use Rattle.swan_model.specs.Elision.{serial, final, most_steps, outcome, first_queues, first_cells, first_store}
use Rattle.swan_model.specs.Script.{asked, deed_of, entry_on, script}
use Rattle.swan_model.specs.SerialState.{Activation, Cell, Queue, State, Store}
use Rattle.swan_model.specs.SerialStep.{Effect, goes_on, spawns, ends, faults, state_after, effect, effect_of, after_next, step_on}
use Rattle.swan_model.specs.Told.{is_same, deed_at, items, first_value, cell, cell_from, changed_by}
use Rattle.swan_model.specs.Values.{kind_of}
use Rattle.serial_elision.proofs.AsksTold.{IsDeedOf, effect-does}
use Rattle.serial_elision.proofs.Asks.{if-either}
use Rattle.serial_elision.proofs.At.{get-take-map}
use Rattle.serial_elision.proofs.Becomes.{Becomes, HasOrigins, QueueAfter, stayed, is_new, CellAfter, kept, is_made, becomes-still, quiet-still}
use Rattle.serial_elision.proofs.Counts.{serial-keeps}
use Rattle.serial_elision.proofs.Entries.{get_script, steps-exact}
use Rattle.serial_elision.proofs.ItemsTold.{items_by, items-come, items-suc}
use Rattle.swan_model.proofs.Origins.{IsOld, is_same-equal}
use Rattle.swan_model.proofs.RootLists.{length-first_queues, length-first_cells}
use Rattle.serial_elision.proofs.StateTold.{IsCellTold, IsTold, told-after, get-first_queues, get-first_cells}
use Rattle.swan_model.proofs.ScriptLength.{le_script}

-- a root queue and a root object as they begin
record IsRoot (queues : List RootQueue) (i : ℕ) (q : Queue) : Type 0 where
  pub root : RootQueue
  pub at : slice_get queues i ≡ Some root
  pub origin : q.origin ≡ Root i
  pub items : q.items ≡ root.items

root-queue : (queues : List RootQueue) (i : ℕ) (q : Queue) (found : Option RootQueue) → slice_get queues i ≡ found → option_map (λ (r : RootQueue). let made : Queue = record { origin = Root (0 + i); items = r.items } in made) found ≡ Some q → IsRoot queues i q
root-queue queues i q None at is = absurd (cc)
root-queue queues i q (Some r) at is =
    let zero_i : 0 + i ≡ i = omega arith in
    let same : (record { origin = Root (0 + i); items = r.items }) ≡ q = cc in
    record { root = r; at = at; origin = ap (λ (x : Queue). x.origin) (sym same) ∙ ap Root zero_i; items = ap (λ (x : Queue). x.items) (sym same) }

is-root : (queues : List RootQueue) (i : ℕ) (q : Queue) → slice_get (first_queues 0 queues) i ≡ Some q → IsRoot queues i q
is-root queues i q is = root-queue queues i q (slice_get queues i) refl (sym (get-first_queues 0 queues i) ∙ is)

record IsRootCell (values : List Value) (i : ℕ) (c : Cell) : Type 0 where
  pub at : slice_get values i ≡ Some c.value
  pub origin : c.origin ≡ Root i
  pub kind : c.kind ≡ kind_of c.value

root-cell : (values : List Value) (i : ℕ) (c : Cell) (found : Option Value) → slice_get values i ≡ found → option_map (λ (v : Value). let made : Cell = record { origin = Root (0 + i); kind = kind_of v; value = v } in made) found ≡ Some c → IsRootCell values i c
root-cell values i c None at is = absurd (cc)
root-cell values i c (Some v) at is =
    let zero_i : 0 + i ≡ i = omega arith in
    let same : (record { origin = Root (0 + i); kind = kind_of v; value = v }) ≡ c = cc in
    let value : v ≡ c.value = ap (λ (x : Cell). x.value) same in
    record { at = at ∙ ap Some value; origin = ap (λ (x : Cell). x.origin) (sym same) ∙ ap Root zero_i; kind = ap (λ (x : Cell). x.kind) (sym same) ∙ ap kind_of value }

is-root_cell : (values : List Value) (i : ℕ) (c : Cell) → slice_get (first_cells 0 values) i ≡ Some c → IsRootCell values i c
is-root_cell values i c is = root-cell values i c (slice_get values i) refl (sym (get-first_cells 0 values i) ∙ is)

root-old : (o : Origin) (i : ℕ) → o ≡ Root i → IsOld 0 o
root-old o i is = subst (IsOld 0) (sym is) tt

one-root : (i j : ℕ) (o p : Origin) → o ≡ Root i → p ≡ Root j → is_same o p ≡ true → i ≡ j
one-root i j o p is is' same = let e = is_same-equal o p same in let roots : Root i ≡ Root j = sym is ∙ e ∙ is' in cc

-- what was done leaves the store that its deed tells
does-after : {L : Type 0} (n : ℕ) (s : State L) (below : List (Activation L)) (path : List ℕ) (place : ℕ) (does : Deed) (done : Effect L) → IsDeedOf n s.store does done → Becomes n (deed_of does done) s.store (state_after s below path place done).store
does-after n s below path place does (goes_on a store) becomes = becomes
does-after n s below path place does (spawns parent child store) becomes = becomes
does-after n s below path place does ends becomes = becomes
does-after n s below path place does (faults kind) becomes = becomes

module _ {B L : Type 0} (G : Ghosts B L) where
  told-zero : (plan : Plan B L) → IsTold (script G plan) 0 (first_store plan.roots)
  told-zero plan =
      let s = script G plan in
      let queues = plan.roots.queues in
      let objects = plan.roots.objects in
      record {
        has = record {
          queue_old = λ i q at. root-old q.origin i (is-root queues i q at).origin;
          cell_old = λ i c at. root-old c.origin i (is-root_cell objects i c at).origin;
          queue_one = λ i j q r at at' same. one-root i j q.origin r.origin (is-root queues i q at).origin (is-root queues j r at').origin same;
          cell_one = λ i j c d at at' same. one-root i j c.origin d.origin (is-root_cell objects i c at).origin (is-root_cell objects j d at').origin same;
        };
        queues = λ i q at.
            let r = is-root queues i q at in
            r.items
            ∙ ap (λ o. unwrap_or o []) (sym (slice_get-map (λ (x : RootQueue). x.items) queues i ∙ ap (option_map (λ (x : RootQueue). x.items)) r.at))
            ∙ sym (append-nil _)
            ∙ sym (items-come s (Root i) 0)
            ∙ ap (λ o. items s o 0) (sym r.origin);
        cells = λ i c at.
            let r = is-root_cell objects i c at in
            record { first = c.value; begins = ap (first_value s) r.origin ∙ r.at; kind = sym r.kind; value = refl };
        later = λ m later. record { items = items-come s (Step m) 0; value = λ first. refl };
      }

  -- what the deed of the script's entry makes of the store is what the step leaves
  record IsDone (plan : Plan B L) (n : ℕ) (before after : Store) : Type 0 where
    pub does : Deed
    pub does_is : deed_at (script G plan) n ≡ does
    pub becomes : Becomes n does before after

  pub steps-are : (plan : Plan B L) (n : ℕ) (top : Activation L) (below : List (Activation L)) → (serial G plan n).stack ≡ top ∷ below → (serial G plan n).steps ≡ n
  steps-are plan n top below is = elim (steps-exact G plan n) [
    | inl same ↦ same
    | inr over ↦ absurd (cc)
  ]

  done-on : (plan : Plan B L) (n : ℕ) (stack : List (Activation L)) → (serial G plan n).stack ≡ stack → HasOrigins n (serial G plan n).store → IsDone plan n (serial G plan n).store (step_on G plan.body (serial G plan n) stack).store
  done-on plan n [] is has =
      let s = serial G plan n in
      let none = get_script G plan n ∙ ap (entry_on G plan.body s) is in
      record {
        does = deed.Quiet;
        does_is = ap (λ o. option_map_or (λ (e : Entry). e.deed) o deed.Quiet) none;
        becomes = becomes-still n deed.Quiet s.store quiet-still;
      }
  done-on plan n (top ∷ below) is has =
      let s = serial G plan n in
      let body = plan.body in
      let stepped = G.next body top.local top.answer (top.fuel - 1) in
      let asks : Deed = asked s.store top.holdings stepped.1 in
      let entry = get_script G plan n ∙ ap (entry_on G body s) is in
      let steps = steps-are plan n top below is in
      let has_origins = subst (λ m. HasOrigins m s.store) (sym steps) has in
      let paid = effect-does s.steps s.store (after_next top stepped.0) stepped.1 has_origins in
      let all = if-either (IsDeedOf s.steps s.store asks) (nat_eq top.fuel 0) (faults Fuel) (effect s.steps s.store (after_next top stepped.0) stepped.1) (becomes-still s.steps deed.Quiet s.store quiet-still) paid in
      let done = effect_of G body s.steps s.store top in
      record {
        does = deed_of asks done;
        does_is = ap (λ o. option_map_or (λ (e : Entry). e.deed) o deed.Quiet) entry;
        becomes = subst (λ m. Becomes m (deed_of asks done) s.store (state_after s below top.path (G.place_of body top.local) done).store) steps (does-after s.steps s below top.path (G.place_of body top.local) asks done all);
      }

  done : (plan : Plan B L) (n : ℕ) → HasOrigins n (serial G plan n).store → IsDone plan n (serial G plan n).store (serial G plan (suc n)).store
  done plan n has = done-on plan n (serial G plan n).stack refl has

  pub told-serial : (plan : Plan B L) (n : ℕ) → IsTold (script G plan) n (serial G plan n).store
  told-serial plan zero = told-zero plan
  told-serial plan (suc n) =
      let told = told-serial plan n in
      let step = done plan n told.has in
      told-after (script G plan) n step.does step.does_is (serial G plan n).store (serial G plan (suc n)).store step.becomes told

  if-some : {X : Type 0} (P : X → Type 0) (o : Option X) → ((x : X) → o ≡ Some x → P x) → IfSome o P
  if-some P None each = tt
  if-some P (Some x) each = each x refl

  -- the items of each queue
  pub items_told : (plan : Plan B L) (n i : ℕ) → IfSome (slice_get (serial G plan n).store.queues i) (λ queue. queue.items ≡ items (script G plan) queue.origin n)
  items_told plan n i = if-some _ (slice_get (serial G plan n).store.queues i) ((told-serial plan n).queues i)

  cell-is : (s : Script) (n : ℕ) (c : Cell) → IsCellTold s n c → cell s c.origin n ≡ Some c.value
  cell-is s n c told = ap (option_map (λ first. cell_from s c.origin first n)) told.begins ∙ ap Some told.value

  -- the value of each object
  pub cells_told : (plan : Plan B L) (n i : ℕ) → IfSome (slice_get (serial G plan n).store.cells i) (λ c. cell (script G plan) c.origin n ≡ Some c.value)
  cells_told plan n i =
      if-some _ (slice_get (serial G plan n).store.cells i) (λ c at. cell-is (script G plan) n c ((told-serial plan n).cells i c at))

  -- the roots keep their origins
  root_queue-at : (plan : Plan B L) (n i : ℕ) (q : Queue) → i < length plan.roots.queues → slice_get (serial G plan n).store.queues i ≡ Some q → q.origin ≡ Root i
  root_queue-at plan zero i q within at = (is-root plan.roots.queues i q at).origin
  root_queue-at plan (suc n) i q within at = by-after ((done plan n (told-serial plan n).has).becomes.queues i q at) (root_queue-at plan n i) (serial-keeps G plan n).queues
    where
      by-after : QueueAfter n (done plan n (told-serial plan n).has).does (serial G plan n).store.queues i q → ((r : Queue) → i < length plan.roots.queues → slice_get (serial G plan n).store.queues i ≡ Some r → r.origin ≡ Root i) → length (serial G plan 0).store.queues ≤ length (serial G plan n).store.queues → q.origin ≡ Root i
      by-after (stayed was stood origin is) before grown = origin ∙ before was within stood
      by-after (is_new end origin is) before grown = absurd (omega (arith, length-first_queues 0 plan.roots.queues))

  root_cell-at : (plan : Plan B L) (n i : ℕ) (c : Cell) → i < length plan.roots.objects → slice_get (serial G plan n).store.cells i ≡ Some c → c.origin ≡ Root i
  root_cell-at plan zero i c within at = (is-root_cell plan.roots.objects i c at).origin
  root_cell-at plan (suc n) i c within at = by-after ((done plan n (told-serial plan n).has).becomes.cells i c at) (root_cell-at plan n i) (serial-keeps G plan n).cells
    where
      by-after : CellAfter n (done plan n (told-serial plan n).has).does (serial G plan n).store.cells i c → ((d : Cell) → i < length plan.roots.objects → slice_get (serial G plan n).store.cells i ≡ Some d → d.origin ≡ Root i) → length (serial G plan 0).store.cells ≤ length (serial G plan n).store.cells → c.origin ≡ Root i
      by-after (kept was stood origin kind is) before grown = origin ∙ before was within stood
      by-after (is_made end origin made kind) before grown = absurd (omega (arith, length-first_cells 0 plan.roots.objects))

  -- past its end the script tells nothing new
  past-quiet : (s : Script) (n : ℕ) → length s.entries ≤ n → deed_at s n ≡ deed.Quiet
  past-quiet s n past = ap (λ o. option_map_or (λ (e : Entry). e.deed) o deed.Quiet) (slice_get_past s.entries n past)

  items-past : (s : Script) (queue : Origin) (k : ℕ) → items s queue (length s.entries + k) ≡ items s queue (length s.entries)
  items-past s queue zero = ap (items s queue) (add-zero (length s.entries))
  items-past s queue (suc k) =
      let n = length s.entries + k in
      ap (items s queue) (add-suc (length s.entries) k)
      ∙ items-suc s queue n
      ∙ ap (λ d. items_by queue d (items s queue n)) (past-quiet s n (omega arith))
      ∙ items-past s queue k

  cell_from-past : (s : Script) (object : Origin) (first : Value) (k : ℕ) → cell_from s object first (length s.entries + k) ≡ cell_from s object first (length s.entries)
  cell_from-past s object first zero = ap (cell_from s object first) (add-zero (length s.entries))
  cell_from-past s object first (suc k) =
      let n = length s.entries + k in
      ap (cell_from s object first) (add-suc (length s.entries) k)
      ∙ ap (λ d. changed_by object (kind_of first) d (cell_from s object first n)) (past-quiet s n (omega arith))
      ∙ cell_from-past s object first k

  at-end : (plan : Plan B L) → length (script G plan).entries + (most_steps plan - length (script G plan).entries) ≡ most_steps plan
  at-end plan = omega (arith, le_script G plan)

  -- what is left is what the script tells after its last entry
  pub queues_left : (plan : Plan B L) (i : ℕ) → IfSome (slice_get (outcome G plan).queues i) (λ left. left ≡ items (script G plan) (Root i) (length (script G plan).entries))
  queues_left plan i =
      let s = script G plan in
      let f : Queue → List Value = λ q. q.items in
      if-some _ (slice_get (outcome G plan).queues i) (λ left is.
      let found = get-take-map f (length plan.roots.queues) (final G plan).store.queues i left is in
      let q : Queue = found.1 in
      sym found.3
      ∙ (told-serial plan (most_steps plan)).queues i q found.2
      ∙ ap (λ o. items s o (most_steps plan)) (root_queue-at plan (most_steps plan) i q found.0 found.2)
      ∙ ap (items s (Root i)) (sym (at-end plan))
      ∙ items-past s (Root i) (most_steps plan - length s.entries))

  pub objects_left : (plan : Plan B L) (i : ℕ) → IfSome (slice_get (outcome G plan).objects i) (λ left. cell (script G plan) (Root i) (length (script G plan).entries) ≡ Some left)
  objects_left plan i =
      let s = script G plan in
      let f : Cell → Value = λ c. c.value in
      if-some _ (slice_get (outcome G plan).objects i) (λ left is.
      let found = get-take-map f (length plan.roots.objects) (final G plan).store.cells i left is in
      let c : Cell = found.1 in
      let told = (told-serial plan (most_steps plan)).cells i c found.2 in
      let root = root_cell-at plan (most_steps plan) i c found.0 found.2 in
      let now : cell_from s (Root i) told.first (length s.entries) ≡ left = sym (cell_from-past s (Root i) told.first (most_steps plan - length s.entries)) ∙ ap (cell_from s (Root i) told.first) (at-end plan) ∙ ap (λ o. cell_from s o told.first (most_steps plan)) (sym root) ∙ told.value ∙ found.3 in
      ap (option_map (λ first. cell_from s (Root i) first (length s.entries))) (ap (first_value s) (sym root) ∙ told.begins) ∙ ap Some now)
