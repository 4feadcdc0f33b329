-- How a task runs whole, from its first step and the rest; and what a plan leaves whose root runs whole.
use Rattle.std.proofs.Common.{◌≡◌, ℕ, ◌+◌, Bool, true, false, cond, ◌||◌, nat_eq, List, [], ◌∷◌, ◌++◌, refl, sym, ap, subst, ◌∙◌, length, map, take, append_assoc}
use Rattle.std.proofs.lemmas.Bool.{false_from_ne_true}
use Rattle.std.proofs.lemmas.List.{append-nil}
use Rattle.std.proofs.lemmas.Simd.{map-map}
use Rattle.std.specs.Cmp.Lexicographic.{pointwise}
use Rattle.swan_model.specs.declared.body.Body.{Ghosts}
use Rattle.swan_model.specs.declared.fault.Fault.{Fault}
use Rattle.swan_model.specs.declared.fault.FaultKind.{FaultKind}
use Rattle.swan_model.specs.declared.outcome.Outcome.{Outcome}
use Rattle.swan_model.specs.declared.plan.Plan.{Plan}
use Rattle.swan_model.specs.declared.plan.RootQueue.{RootQueue}
use Rattle.swan_model.specs.declared.value.Value.{Value}
use Rattle.swan_model.specs.Elision.{start, root, final, outcome, first_queues, first_cells}
use Rattle.swan_model.specs.SerialState.{Activation, Store, State}
use Rattle.swan_model.specs.SerialStep.{Effect, goes_on, spawns, ends, faults, state_after, with_failed, effect_of, step_on}
use Rattle.swan_model.proofs.Paths.{not_below-itself, path_is-itself, same_path}
use Rattle.whole_runs.specs.Whole.{Contents, Object, contents_of, object_of, items_of, new_object, first_contents, value_of, outcome_of, AreUnder, left_below, ComesTo, RunsWhole}
use Rattle.serial_elision.specs.Caught.{has_failed}
use Rattle.serial_elision.specs.Working.{after_steps}
use Rattle.serial_elision.proofs.Finals.{final-empty}
use Rattle.serial_elision.proofs.Runs.{serial-more}
use Rattle.serial_elision.proofs.Works.{after_steps-more}

-- it goes on as this task, with these contents
pub record GoesOn {L : Type 0} (to : Activation L) (mid : Contents) (store : Store) (done : Effect L) : Type 0 where
  pub left : Store
  pub is : done ≡ goes_on to left
  pub contents : contents_of left ≡ mid

pub record SpawnsOne {L : Type 0} (parent child : Activation L) (mid : Contents) (store : Store) (done : Effect L) : Type 0 where
  pub left : Store
  pub is : done ≡ spawns parent child left
  pub contents : contents_of left ≡ mid

first_objects-are : (i : ℕ) (values : List Value) → map object_of (first_cells i values) ≡ map new_object values
first_objects-are i [] = refl
first_objects-are i (value ∷ values) = ap (λ rest. new_object value ∷ rest) (first_objects-are (i + 1) values)

first_items-are : (i : ℕ) (queues : List RootQueue) → map items_of (first_queues i queues) ≡ map (λ queue. queue.items) queues
first_items-are i [] = refl
first_items-are i (queue ∷ queues) = ap (λ rest. queue.items ∷ rest) (first_items-are (i + 1) queues)

same_contents : (objects objects' : List Object) (queues queues' : List (List Value)) → objects ≡ objects' → queues ≡ queues' → ◌≡◌ {A = Contents} (record { objects = objects; queues = queues }) (record { objects = objects'; queues = queues' })
same_contents objects objects' queues queues' same also =
    ap {B = Contents} (λ o. record { objects = o; queues = queues }) same ∙ ap {B = Contents} (λ q. record { objects = objects'; queues = q }) also

-- ---- whose faults they are

-- what is under a child's path is under its parent's
under_child : (path : List ℕ) (n : ℕ) (fs : List Fault) → AreUnder (path ++ n ∷ []) fs → AreUnder path fs
under_child path n [] are = tt
under_child path n (fault ∷ fs) are =
    ((n ∷ are.0.0, are.0.1 ∙ append_assoc path (n ∷ []) are.0.0), under_child path n fs are.1)

under_both : (path : List ℕ) (fs more : List Fault) → AreUnder path fs → AreUnder path more → AreUnder path (fs ++ more)
under_both path [] more are others = others
under_both path (fault ∷ fs) more are others = (are.0, under_both path fs more are.1 others)

-- the faults of a child and of what is below it are none of the parent
not_own : (path : List ℕ) (n : ℕ) (fs more : List Fault) → AreUnder (path ++ n ∷ []) fs → has_failed (fs ++ more) path ≡ has_failed more path
not_own path n [] more are = refl
not_own path n (fault ∷ fs) more are =
    let differ : pointwise nat_eq fault.path path ≡ false =
    false_from_ne_true (pointwise nat_eq fault.path path) (λ is.
    not_below-itself path are.0.0 n (sym (same_path fault.path path is) ∙ are.0.1 ∙ append_assoc path (n ∷ []) are.0.0)) in
    ap (λ b. b || has_failed (fs ++ more) path) differ ∙ not_own path n fs more are.1

-- whether a child ended by a fault or not, its parent is on top again, with some number of failed children
parent_again : {L : Type 0} (failed : Bool) (parent : Activation L) (below : List (Activation L))
    → (n : ℕ) × (cond failed (with_failed (parent ∷ below)) (parent ∷ below) ≡ record parent { failed = n } ∷ below)
parent_again true parent below = (parent.failed + 1, refl)
parent_again false parent below = (parent.failed, refl)

module _ {B L : Type 0} (G : Ghosts B L) where
  -- what comes later comes to this too
  later : (body : B) (s : State L) (m : ℕ) (below : List (Activation L)) (after_it : Contents) (first more : List Fault) → (after_steps G body s m).faults ≡ s.faults ++ first → ComesTo G body (after_steps G body s m) below after_it more → ComesTo G body s below after_it (first ++ more)
  later body s m below after_it first more booked comes =
      let same = after_steps-more G body s m comes.steps in
      record {
        steps = m + comes.steps;
        stack = ap (λ (t : State L). t.stack) (sym same) ∙ comes.stack;
        contents = ap (λ (t : State L). contents_of t.store) (sym same) ∙ comes.contents;
        booked = ap (λ (t : State L). t.faults) (sym same) ∙ comes.booked ∙ ap (λ fs. fs ++ more) booked ∙ append_assoc s.faults first more;
      }

  -- one step
  next : (body : B) (s : State L) (a : Activation L) (below : List (Activation L)) (done : Effect L) → s.stack ≡ a ∷ below → effect_of G body s.steps s.store a ≡ done → after_steps G body s 1 ≡ state_after s below a.path (G.place_of body a.local) done
  next body s a below done stack is = ap (step_on G body s) stack ∙ ap (state_after s below a.path (G.place_of body a.local)) is

  -- what the step of a task over these contents is, whenever it is
  abbrev pub Does : B → Activation L → Contents → (Store → Effect L → Type 0) → Type 0
  Does body a before Is = (n : ℕ) (store : Store) → contents_of store ≡ before → Is store (effect_of G body n store a)

  -- a step that goes on, and the rest
  pub by_going_on : {body : B} {a to : Activation L} {before mid after_it : Contents} {fs : List Fault} → Does body a before (GoesOn to mid) → to.path ≡ a.path → RunsWhole G body to mid after_it fs → RunsWhole G body a before after_it fs
  by_going_on {body = body} {a = a} {to = to} {after_it = after_it} {fs = fs} does same rest = record {
    from = λ s below stack are.
        let here = does s.steps s.store are in
        let now = next body s a below (goes_on to here.left) stack here.is in
        later body s 1 (left_below a.path fs below) after_it [] fs (ap (λ (t : State L). t.faults) now ∙ sym (append-nil s.faults))
        (subst (λ path. ComesTo G body (after_steps G body s 1) (left_below path fs below) after_it fs) same
        (rest.from (after_steps G body s 1) below (ap (λ (t : State L). t.stack) now) (ap (λ (t : State L). contents_of t.store) now ∙ here.contents)));
    under = subst (λ path. AreUnder path fs) same rest.under;
  }

  -- a step that spawns, the child whole, and the rest, with whatever number of failed children
  pub by_spawning : {body : B} {a parent child : Activation L} {before mid between after_it : Contents} {fs more : List Fault} → Does body a before (SpawnsOne parent child mid) → parent.path ≡ a.path → child.path ≡ a.path ++ a.children ∷ [] → RunsWhole G body child mid between fs
      → ((failed : ℕ) → RunsWhole G body (record parent { failed = failed }) between after_it more) → RunsWhole G body a before after_it (fs ++ more)
  by_spawning {body = body} {a = a} {parent = parent} {child = child} {after_it = after_it} {fs = fs} {more = more} does same made whole rest =
      let theirs : AreUnder (a.path ++ a.children ∷ []) fs = subst (λ path. AreUnder path fs) made whole.under in
      record {
        from = λ s below stack are.
            let here = does s.steps s.store are in
            let now = next body s a below (spawns parent child here.left) stack here.is in
            let first = whole.from (after_steps G body s 1) (parent ∷ below) (ap (λ (t : State L). t.stack) now) (ap (λ (t : State L). contents_of t.store) now ∙ here.contents) in
            let again = parent_again (has_failed fs child.path) parent below in
            let then = (rest again.0).from (after_steps G body (after_steps G body s 1) first.steps) below (first.stack ∙ again.1) first.contents in
            let left : left_below parent.path more below ≡ left_below a.path (fs ++ more) below =
            ap (λ path. left_below path more below) same ∙ ap (λ b. cond b (with_failed below) below) (sym (not_own a.path a.children fs more theirs)) in
            subst (λ under. ComesTo G body s under after_it (fs ++ more)) left
            (later body s 1 (left_below parent.path more below) after_it [] (fs ++ more) (ap (λ (t : State L). t.faults) now ∙ sym (append-nil s.faults))
            (later body (after_steps G body s 1) first.steps (left_below parent.path more below) after_it fs more first.booked then));
        under = under_both a.path fs more (under_child a.path a.children fs theirs) (subst (λ path. AreUnder path more) same (rest 0).under);
      }

  -- a last step
  pub by_ending : {body : B} {a : Activation L} {before : Contents} → Does body a before (λ store done. done ≡ ends) → RunsWhole G body a before before []
  by_ending {body = body} {a = a} does = record {
    from = λ s below stack are.
        let now = next body s a below ends stack (does s.steps s.store are) in
        record {
          steps = 1;
          stack = ap (λ (t : State L). t.stack) now;
          contents = ap (λ (t : State L). contents_of t.store) now ∙ are;
          booked = ap (λ (t : State L). t.faults) now ∙ sym (append-nil s.faults);
        };
    under = tt;
  }

  pub by_fault : {body : B} {a : Activation L} {before : Contents} (why : FaultKind) → Does body a before (λ store done. done ≡ faults why) → RunsWhole G body a before before (record { path = a.path; place = G.place_of body a.local; kind = why } ∷ [])
  by_fault {body = body} {a = a} why does = record {
    from = λ s below stack are.
        let now = next body s a below (faults why) stack (does s.steps s.store are) in
        record {
          steps = 1;
          stack = ap (λ (t : State L). t.stack) now ∙ ap (λ b. cond (b || false) (with_failed below) below) (sym (path_is-itself a.path));
          contents = ap (λ (t : State L). contents_of t.store) now ∙ are;
          booked = ap (λ (t : State L). t.faults) now;
        };
    under = (([], sym (append-nil a.path)), tt);
  }

  -- ---- the root

  none_below : (failed : Bool) → cond failed (with_failed {L = L} []) [] ≡ []
  none_below true = refl
  none_below false = refl

  -- the final state of a plan whose root runs whole
  pub final_is : (plan : Plan B L) {after_it : Contents} {fs : List Fault} → RunsWhole G plan.body (root plan) (first_contents plan.roots) after_it fs → (contents_of (final G plan).store ≡ after_it) × ((final G plan).faults ≡ fs)
  final_is plan {fs = fs} whole =
      let comes = whole.from (start plan) [] refl (same_contents _ _ _ _ (first_objects-are 0 plan.roots.objects) (first_items-are 0 plan.roots.queues)) in
      let there = serial-more G plan 0 comes.steps in
      let over : (after_steps G plan.body (start plan) comes.steps).stack ≡ [] = comes.stack ∙ none_below (has_failed fs []) in
      let last = sym (final-empty G plan (0 + comes.steps) (ap (λ (t : State L). t.stack) (sym there) ∙ over)) ∙ sym there in
      (ap (λ (t : State L). contents_of t.store) last ∙ comes.contents, ap (λ (t : State L). t.faults) last ∙ comes.booked)

  pub outcome_is : (plan : Plan B L) {after_it : Contents} {fs : List Fault} → RunsWhole G plan.body (root plan) (first_contents plan.roots) after_it fs → outcome G plan ≡ outcome_of plan.roots after_it fs
  outcome_is plan {after_it = after_it} {fs = fs} whole =
      let left = final_is plan whole in
      let values = sym (map-map value_of object_of (final G plan).store.cells) in
      ap {B = Outcome} (λ vs. record { objects = take (length plan.roots.objects) vs; queues = take (length plan.roots.queues) (map items_of (final G plan).store.queues); faults = (final G plan).faults }) values
      ∙ ap (λ c. outcome_of plan.roots c (final G plan).faults) left.0
      ∙ ap (outcome_of plan.roots after_it) left.1

  -- a run whose end is written otherwise
  pub ends_so : {body : B} {a : Activation L} {before after_it after_it' : Contents} {fs fs' : List Fault} → after_it ≡ after_it' → fs ≡ fs' → RunsWhole G body a before after_it fs → RunsWhole G body a before after_it' fs'
  ends_so {body = body} {a = a} {before = before} {after_it' = after_it'} {fs = fs} same also whole =
      subst (RunsWhole G body a before after_it') also (subst (λ c. RunsWhole G body a before c fs) same whole)
