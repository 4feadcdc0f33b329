-- Rights, counted from the script alone, bind each deed.
use Rattle.std.proofs.Common.{◌≡◌, ℕ, zero, suc, ◌+◌, ◌-◌, ◌<◌, Bool, true, false, ◌&&◌, nat_eq, cond, List, [], ◌∷◌, Option, Some, None, length, refl, sym, ap, subst, ◌∙◌, arith}
use Rattle.std.proofs.lemmas.Bool.{and_from, or_left, or_right}
use Rattle.std.proofs.lemmas.List.{length-map}
use Rattle.std.proofs.lemmas.Option.{slice_get_within, get_or_from_slice_get}
use Rattle.std.specs.Option.{option_map}
use Rattle.std.specs.Prelude.{IfSome, IsSomeAnd, IsTrue, slice_get}
use Rattle.swan_model.specs.declared.body.Body.{Ghosts}
use Rattle.swan_model.specs.declared.origin.Origin.{Origin}
use Rattle.swan_model.specs.declared.origin.Origin.TheVariants.{Root}
use Rattle.swan_model.specs.declared.plan.Plan.{Plan}
use Rattle.swan_model.specs.declared.plan.RootQueue.{RootQueue}
use Rattle.swan_model.specs.declared.rights.Mode.{Mode}
use Rattle.swan_model.specs.declared.rights.Mode.TheVariants.{InOut, Push, Pop, PushPop}
use Rattle.swan_model.specs.declared.script.Entry.{Entry}
use Rattle.swan_model.specs.declared.script.OriginGive.{OriginGive}
use Rattle.swan_model.specs.declared.value.Value.{Value}
use Rattle.swan_model.specs.Elision.{serial, queue_holdings, object_holdings, first_store}
use Rattle.swan_model.specs.Granted.{roots_from, root_holds, holds, may_use, is_within}
use Rattle.swan_model.specs.Rights.{allows, is_queue_mode}
use Rattle.swan_model.specs.Roots.{IsWithinBounds}
use Rattle.swan_model.specs.Script.{origin_of, entry_of, entry_on, script}
use Rattle.swan_model.specs.SerialState.{Activation, Cell, Queue, Holding, Store}
use Rattle.swan_model.specs.SerialStep.{step_on, effect_of, after_next}
use Rattle.swan_model.specs.Told.{is_same}
use Rattle.swan_model.specs.Values.{kind_of}
use Rattle.serial_elision.specs.Laws.{RightsBind, IsCellAfter, IsQueueAfter}
use Rattle.serial_elision.proofs.Asks.{if-either}
use Rattle.serial_elision.proofs.Entries.{get_script}
use Rattle.serial_elision.proofs.Granting.{Grants, effect-grants, HoldEach, after-hold, deed-within}
use Rattle.serial_elision.proofs.Held.{IsHeldBy, AreHeldBy, Stand, origin-kind, held-append, asked-within}
use Rattle.serial_elision.proofs.Nesting.{top_at, counted}
use Rattle.swan_model.proofs.Origins.{is_same-self}
use Rattle.serial_elision.proofs.Passing.{AreCounted}
use Rattle.serial_elision.proofs.Rights.{step_on-binds}
use Rattle.serial_elision.proofs.SerialTold.{steps-are}
use Rattle.serial_elision.proofs.StateTold.{get-first_queues, get-first_cells}
use Rattle.serial_elision.proofs.Turns.{next_deed, step-fits}
use Rattle.swan_model.proofs.Uses.{more-after, more-append}

-- ---- origins stay

origin-still : {A : Type 0} (P : A → A → Type 0) (f : A → Origin) → ((x y : A) → P x y → f y ≡ f x) → (before after : Option A) (origin : Origin) → IfSome before (λ x. IsSomeAnd after (P x)) → option_map f before ≡ Some origin → option_map f after ≡ Some origin
origin-still P f same None after origin still is = absurd (cc)
origin-still P f same (Some x) None origin still is = absurd still
origin-still P f same (Some x) (Some y) origin still is = ap Some (same x y still) ∙ is

pub stand-of : (held : List Holding) (before after : Store) → RightsBind held before after → Stand before after
stand-of held before after binds = record { origins = λ mode number origin is. by (is_queue_mode mode) number origin is } where
  by : (b : Bool) (number : ℕ) (origin : Origin)
      → cond b (option_map (λ (queue : Queue). queue.origin) (slice_get before.queues number)) (option_map (λ (cell : Cell). cell.origin) (slice_get before.cells number)) ≡ Some origin
      → cond b (option_map (λ (queue : Queue). queue.origin) (slice_get after.queues number)) (option_map (λ (cell : Cell). cell.origin) (slice_get after.cells number)) ≡ Some origin
  by true number origin is =
      origin-still (IsQueueAfter held number) (λ (queue : Queue). queue.origin) (λ x y same. same.origin) (slice_get before.queues number) (slice_get after.queues number) origin (binds.queues number) is
  by false number origin is =
      origin-still (IsCellAfter held number) (λ (cell : Cell). cell.origin) (λ x y same. same.origin) (slice_get before.cells number) (slice_get after.cells number) origin (binds.cells number) is

-- ---- the roots

roots-have : (mode : Mode) (k many j : ℕ) (asks : Mode) → j < many → allows mode asks ≡ true → may_use (roots_from mode k many) asks (Root (k + j)) ≡ true
roots-have mode k zero j asks less allowed = absurd (omega arith)
roots-have mode k (suc many) zero asks less allowed =
    let e : k ≡ k + 0 = omega arith in
    subst (λ m. may_use (roots_from mode k (suc many)) asks (Root m) ≡ true) e
    (or_left (allows mode asks && is_same (Root k) (Root k)) (may_use (roots_from mode (k + 1) many) asks (Root k))
    (and_from (allows mode asks) (is_same (Root k) (Root k)) allowed (is_same-self (Root k))))
roots-have mode k (suc many) (suc j) asks less allowed =
    let e : (k + 1) + j ≡ k + suc j = omega arith in
    let later = roots-have mode (k + 1) many j asks (omega arith) allowed in
    subst (λ m. may_use (roots_from mode k (suc many)) asks (Root m) ≡ true) e
    (or_right (allows mode asks && is_same (Root k) (Root ((k + 1) + j))) (may_use (roots_from mode (k + 1) many) asks (Root ((k + 1) + j))) later)

queue_allows : (mode asks : Mode) → is_queue_mode mode ≡ true → allows mode asks ≡ true → allows PushPop asks ≡ true
queue_allows Push Push queue is = refl
queue_allows Pop Pop queue is = refl
queue_allows PushPop Push queue is = refl
queue_allows PushPop Pop queue is = refl
queue_allows PushPop PushPop queue is = refl
queue_allows _ _ queue is = absurd (cc)

queues-held : (held : List OriginGive) (store : Store) (k : ℕ) (queues : List RootQueue) → ((j : ℕ) (q : RootQueue) → slice_get queues j ≡ Some q → IsHeldBy held store (record { mode = q.mode; number = k + j })) → AreHeldBy held store (queue_holdings k queues)
queues-held held store k [] each = tt
queues-held held store k (q ∷ queues) each =
    let e : k + 0 ≡ k = omega arith in (
      subst (λ m. IsHeldBy held store (record { mode = q.mode; number = m })) e (each 0 q refl),
      queues-held held store (k + 1) queues (λ j r is.
          let f : k + suc j ≡ (k + 1) + j = omega arith in
          subst (λ m. IsHeldBy held store (record { mode = r.mode; number = m })) f (each (suc j) r is)),
    )

objects-held : (held : List OriginGive) (store : Store) (k : ℕ) (values : List Value) → ((j : ℕ) (v : Value) → slice_get values j ≡ Some v → IsHeldBy held store (record { mode = InOut; number = k + j })) → AreHeldBy held store (object_holdings k values)
objects-held held store k [] each = tt
objects-held held store k (v ∷ values) each =
    let e : k + 0 ≡ k = omega arith in (
      subst (λ m. IsHeldBy held store (record { mode = InOut; number = m })) e (each 0 v refl),
      objects-held held store (k + 1) values (λ j r is.
          let f : k + suc j ≡ (k + 1) + j = omega arith in
          subst (λ m. IsHeldBy held store (record { mode = InOut; number = m })) f (each (suc j) r is)),
    )

module _ {B L : Type 0} (G : Ghosts B L) where
  -- each queue and each object of the plan stands in the first store
  pub root-queue_stands : (plan : Plan B L) → IsWithinBounds plan.roots.queues plan.roots.objects → (j : ℕ) (q : RootQueue) → slice_get plan.roots.queues j ≡ Some q → origin_of (first_store plan.roots) q.mode (0 + j) ≡ Some (Root j)
  root-queue_stands plan bounds j q is =
      let queues = plan.roots.queues in
      let zero_j : 0 + j ≡ j = omega arith in
      let queue : is_queue_mode q.mode ≡ true = subst (λ (r : RootQueue). is_queue_mode r.mode ≡ true) (get_or_from_slice_get queues j q q is) (bounds.each j q (slice_get_within queues j q is)).mode in
      ap (origin_of (first_store plan.roots) q.mode) zero_j
      ∙ origin-kind (first_store plan.roots) q.mode PushPop j queue
      ∙ ap (option_map (λ (x : Queue). x.origin)) (get-first_queues 0 queues j ∙ ap (option_map (λ (r : RootQueue). let made : Queue = record { origin = Root (0 + j); items = r.items } in made)) is)
      ∙ ap (λ n. Some (Root n)) zero_j

  pub root-object_stands : (plan : Plan B L) (j : ℕ) (v : Value) → slice_get plan.roots.objects j ≡ Some v → origin_of (first_store plan.roots) InOut (0 + j) ≡ Some (Root j)
  root-object_stands plan j v is =
      let values = plan.roots.objects in
      let zero_j : 0 + j ≡ j = omega arith in
      ap (origin_of (first_store plan.roots) InOut) zero_j
      ∙ ap (option_map (λ (x : Cell). x.origin)) (get-first_cells 0 values j ∙ ap (option_map (λ (w : Value). let made : Cell = record { origin = Root (0 + j); kind = kind_of w; value = w } in made)) is)
      ∙ ap (λ n. Some (Root n)) zero_j

  root_queue : (plan : Plan B L) → IsWithinBounds plan.roots.queues plan.roots.objects → (j : ℕ) (q : RootQueue) → slice_get plan.roots.queues j ≡ Some q → IsHeldBy (root_holds (script G plan)) (first_store plan.roots) (record { mode = q.mode; number = 0 + j })
  root_queue plan bounds j q is =
      let s = script G plan in
      let queues = plan.roots.queues in
      let within = slice_get_within queues j q is in
      let queue : is_queue_mode q.mode ≡ true = subst (λ (r : RootQueue). is_queue_mode r.mode ≡ true) (get_or_from_slice_get queues j q q is) (bounds.each j q within).mode in
      let many : length s.queues ≡ length queues = length-map queues (λ (r : RootQueue). r.items) in
      let zero_j : Root j ≡ Root (0 + j) = ap Root (let e : j ≡ 0 + j = omega arith in e) in
      record {
        origin = Root (0 + j);
        stands = root-queue_stands plan bounds j q is ∙ ap Some zero_j;
        may = λ mode allowed. (more-append (roots_from PushPop 0 (length s.queues)) (roots_from InOut 0 (length s.objects))).may mode (Root (0 + j))
            (roots-have PushPop 0 (length s.queues) j mode (omega (arith, many, within)) (queue_allows q.mode mode queue allowed));
      }

  root_object : (plan : Plan B L) (j : ℕ) (v : Value) → slice_get plan.roots.objects j ≡ Some v → IsHeldBy (root_holds (script G plan)) (first_store plan.roots) (record { mode = InOut; number = 0 + j })
  root_object plan j v is =
      let s = script G plan in
      let values = plan.roots.objects in
      let within = slice_get_within values j v is in
      let zero_j : Root j ≡ Root (0 + j) = ap Root (let e : j ≡ 0 + j = omega arith in e) in
      record {
        origin = Root (0 + j);
        stands = root-object_stands plan j v is ∙ ap Some zero_j;
        may = λ mode allowed. (more-after (roots_from PushPop 0 (length s.queues)) (roots_from InOut 0 (length s.objects))).may mode (Root (0 + j))
            (roots-have InOut 0 (length s.objects) j mode (omega (arith, within)) allowed);
      }

  hold-zero : (plan : Plan B L) → IsWithinBounds plan.roots.queues plan.roots.objects → HoldEach (script G plan) zero (serial G plan zero).store (serial G plan zero).stack
  hold-zero plan bounds =
      let held = root_holds (script G plan) in
      let store = first_store plan.roots in
      let queues = queues-held held store 0 plan.roots.queues (root_queue plan bounds) in
      let objects = objects-held held store 0 plan.roots.objects (root_object plan) in
      (held-append held store (queue_holdings 0 plan.roots.queues) (object_holdings 0 plan.roots.objects) queues objects, tt)

  pub step-grants : (plan : Plan B L) (n : ℕ) (top : Activation L) (below : List (Activation L)) → (serial G plan n).stack ≡ top ∷ below → Grants n (serial G plan n).store top (next_deed G plan.body (serial G plan n).store top) (effect_of G plan.body (serial G plan n).steps (serial G plan n).store top)
  step-grants plan n top below is =
      let s = serial G plan n in
      let does = next_deed G plan.body s.store top in
      let done = effect_of G plan.body s.steps s.store top in
      let step = G.next plan.body top.local top.answer (top.fuel - 1) in
      subst (λ k. Grants k s.store top does done) (steps-are G plan n top below is)
      (if-either (Grants s.steps s.store top does) (nat_eq top.fuel 0) _ _ tt (effect-grants s.steps s.store (after_next top step.0) step.1))

  hold-on : (plan : Plan B L) (n : ℕ) (stack : List (Activation L)) → (serial G plan n).stack ≡ stack → HoldEach (script G plan) n (serial G plan n).store stack → HoldEach (script G plan) (suc n) (step_on G plan.body (serial G plan n) stack).store (step_on G plan.body (serial G plan n) stack).stack
  hold-on plan n [] is each =
      subst (HoldEach (script G plan) (suc n) (serial G plan n).store) (sym is) tt
  hold-on plan n (top ∷ below) is each =
      let state = serial G plan n in
      let s = script G plan in
      let e : Entry = entry_of G plan.body state.steps state.store top in
      let stands : slice_get s.entries n ≡ Some e = get_script G plan n ∙ ap (entry_on G plan.body state) is in
      let many : AreCounted s.entries n (top ∷ below) = subst (AreCounted s.entries n) is (counted G plan n) in
      let stay = stand-of top.holdings state.store (step_on G plan.body state (top ∷ below)).store (step_on-binds G plan.body state (top ∷ below)) in
      after-hold s n e state top below (G.place_of plan.body top.local) (next_deed G plan.body state.store top) (effect_of G plan.body state.steps state.store top)
      (step-fits G plan.body state.steps state.store top) (step-grants plan n top below is) stands refl refl many.0 stay each

  pub hold-each : (plan : Plan B L) → IsWithinBounds plan.roots.queues plan.roots.objects → (n : ℕ) → HoldEach (script G plan) n (serial G plan n).store (serial G plan n).stack
  hold-each plan bounds zero = hold-zero plan bounds
  hold-each plan bounds (suc n) =
      hold-on plan n (serial G plan n).stack refl (hold-each plan bounds n)

  within-some : (plan : Plan B L) → IsWithinBounds plan.roots.queues plan.roots.objects → (n : ℕ) (found : Option Entry) → slice_get (script G plan).entries n ≡ found → IfSome found (λ entry. IsTrue (is_within (holds (script G plan) entry.path n) entry.deed))
  within-some plan bounds n None is = tt
  within-some plan bounds n (Some e) is =
      let s = script G plan in
      let state = serial G plan n in
      let at = top_at G plan n e is in
      let each : HoldEach s n state.store (at.top ∷ at.below) = subst (HoldEach s n state.store) at.stack (hold-each plan bounds n) in
      let held = holds s at.top.path n in
      let step = G.next plan.body at.top.local at.top.answer (at.top.fuel - 1) in
      let within = asked-within held state.store at.top.holdings step.1 each.0 in
      let deed_is = deed-within held (next_deed G plan.body state.store at.top) (effect_of G plan.body state.steps state.store at.top) within in
      ap (λ p. is_within (holds s p n) e.deed) at.own ∙ ap (is_within held) at.deed ∙ deed_is

  pub within_rights : (plan : Plan B L) → IsWithinBounds plan.roots.queues plan.roots.objects → (n : ℕ) → IfSome (slice_get (script G plan).entries n) (λ entry. IsTrue (is_within (holds (script G plan) entry.path n) entry.deed))
  within_rights plan bounds n =
      within-some plan bounds n (slice_get (script G plan).entries n) refl
