-- What each ask of a task does, in the words of the script.
use Rattle.std.proofs.Common.{◌≡◌, ℕ, zero, suc, ◌-◌, ◌<◌, ◌≤◌, true, false, nat_eq, cond, List, [], ◌∷◌, ◌++◌, Option, Some, None, refl, sym, ap, subst, ◌∙◌, arith, rules, tests}
use Rattle.std.proofs.lemmas.Option.{same_Some, slice_get-map}
use Rattle.std.specs.Option.{option_map, option_and_then}
use Rattle.std.specs.Prelude.{IfSome, IsSomeAnd, drop, slice_get, take}
use Rattle.swan_model.specs.declared.body.Answer.{Answer}
use Rattle.swan_model.specs.declared.body.Answer.TheVariants as answer
use Rattle.swan_model.specs.declared.body.Ask.{Ask}
use Rattle.swan_model.specs.declared.body.Ask.TheVariants as ask
use Rattle.swan_model.specs.declared.body.Body.{Ghosts}
use Rattle.swan_model.specs.declared.fault.FaultKind.TheVariants as kind
use Rattle.swan_model.specs.declared.fault.Trouble.{Trouble}
use Rattle.swan_model.specs.declared.origin.Origin.{Origin}
use Rattle.swan_model.specs.declared.plan.Plan.{Plan}
use Rattle.swan_model.specs.declared.rights.Mode.{Mode}
use Rattle.swan_model.specs.declared.rights.Mode.TheVariants.{In, Out, Push, Pop}
use Rattle.swan_model.specs.declared.script.Deed.{Deed}
use Rattle.swan_model.specs.declared.script.Deed.TheVariants as deed
use Rattle.swan_model.specs.declared.script.OriginGive.{OriginGive}
use Rattle.swan_model.specs.declared.script.Script.{Script}
use Rattle.swan_model.specs.declared.value.Value.{Value}
use Rattle.swan_model.specs.Rights.{allows, is_queue_mode}
use Rattle.swan_model.specs.Roots.{IsWithinBounds}
use Rattle.swan_model.specs.Script.{about, asked, deed_of, entry_of, give_of, origin_at, origin_of, script}
use Rattle.swan_model.specs.SerialState.{Activation, Cell, Holding, Queue, Store}
use Rattle.swan_model.specs.SerialStep.{Effect, goes_on, faults, effect, synced, is_nothing_left, after_next, number_at, on_cell, on_list, on_object, on_queue, popped, spawn_effect, with_answer, used_by, with_items, with_value}
use Rattle.swan_model.specs.SerialTime.{time}
use Rattle.swan_model.specs.Told.{cell, count, deed_at, items, pushes, taken}
use Rattle.swan_model.specs.TrueFrames.{StandsAt, effect_at, state_at}
use Rattle.swan_model.proofs.Lists.{some_within}
use Rattle.swan_model.proofs.ScriptCounts.{count_le}
use Rattle.swan_model.proofs.ScriptSteps.{deed_is}
use Rattle.serial_elision.specs.TaskSteps.{MeetsFault, GoesOn, GoesOnAs, IsAsking, LacksRight, MayUseAt, Syncs}
use Rattle.serial_elision.specs.TaskSteps as step
use Rattle.serial_elision.proofs.Endings.{entry_now}
use Rattle.serial_elision.proofs.Held.{origin-kind}
use Rattle.serial_elision.proofs.NamesStay.{held-named, names-stay}
use Rattle.serial_elision.proofs.SerialTold.{cells_told, items_told}
use Rattle.serial_elision.proofs.TaskSteps.{goes_on_next}
use Rattle.swan_model.proofs.Elements.{mapped_is}
use Rattle.swan_model.proofs.Uses.{same_kind}

-- what is left of a list from an item on begins with it
begins-at : {X : Type 0} (xs : List X) (i n : ℕ) (x : X) → slice_get xs i ≡ Some x → i < n → (rest : List X) × (drop i (take n xs) ≡ x ∷ rest)
begins-at [] i n x is less = absurd (cc)
begins-at (y ∷ xs) zero zero x is less = absurd (omega arith)
begins-at (y ∷ xs) zero (suc n) x is less = let same : y ≡ x = cc in (take n xs, ap {B = List _} (λ z. z ∷ take n xs) same)
begins-at (y ∷ xs) (suc i) zero x is less = absurd (omega arith)
begins-at (y ∷ xs) (suc i) (suc n) x is less = begins-at xs i n x is (omega arith)

-- and nothing is left from its end on
none-left : {X : Type 0} (xs : List X) (i n : ℕ) → n ≤ i → drop i (take n xs) ≡ []
none-left [] zero zero less = refl
none-left [] zero (suc n) less = absurd (omega arith)
none-left [] (suc i) zero less = refl
none-left [] (suc i) (suc n) less = refl
none-left (x ∷ xs) zero zero less = refl
none-left (x ∷ xs) zero (suc n) less = absurd (omega arith)
none-left (x ∷ xs) (suc i) zero less = refl
none-left (x ∷ xs) (suc i) (suc n) less = none-left xs i n (omega arith)

named-origin : (mode : Mode) (origin found : Option Origin) (give : OriginGive) → found ≡ origin → option_map (λ o. let g : OriginGive = record { origin = o; mode = mode } in g) found ≡ Some give → origin ≡ Some give.origin
named-origin mode origin None give is named = absurd (cc)
named-origin mode origin (Some o) give is named = sym is ∙ ap (λ (g : Option OriginGive). option_map (λ (x : OriginGive). x.origin) g) named

module _ {B L : Type 0} (G : Ghosts B L) (plan : Plan B L) (path : List ℕ) (k : ℕ) (top : Activation L) where
  abbrev now : ℕ
  now = time (script G plan) path k

  abbrev store : Store
  store = (state_at G plan path k).store

  abbrev steps : ℕ
  steps = (state_at G plan path k).steps

  -- a task without fuel ends by a fault
  pub dry : StandsAt G plan path k top → top.fuel ≡ 0 → MeetsFault G plan path k top kind.Fuel deed.Quiet
  dry at none =
      let yes : nat_eq top.fuel 0 ≡ true = search (rules, tests) in
      let said = G.next plan.body top.local top.answer (top.fuel - 1) in
      let is : effect_at G plan path k top ≡ faults kind.Fuel = ap (λ b. cond b (faults kind.Fuel) (effect steps store (after_next top said.0) said.1)) yes in
      record {
        effect = is;
        deed = deed_is (script G plan) now (entry_of G plan.body steps store top) (entry_now G plan now top at.below at.stack)
            ∙ ap (deed_of (asked store top.holdings said.1)) is;
      }

  -- ---- what stands at a place

  -- the number of what the task may use, which stands in the store by the origin that names it
  pub record UsesPlace (place : ℕ) (mode : Mode) (origin : Origin) : Type 0 where
    pub number : ℕ
    pub at : number_at top.holdings place mode ≡ Some number
    pub origin_is : origin_of store mode number ≡ Some origin
    pub named : origin_at store top.holdings place mode ≡ Some origin

  pub used : (place : ℕ) (mode : Mode) (origin : Origin) → MayUseAt G plan path k top place mode origin → UsesPlace place mode origin
  used place mode origin has =
      let h = has.holding in
      let give : OriginGive = record { origin = origin; mode = h.mode } in
      let at : number_at top.holdings place mode ≡ Some h.number = ap (used_by mode) has.stands ∙ ap {B = Option ℕ} (λ b. cond b (Some h.number) None) has.may in
      let one : Some (give_of store h) ≡ Some (Some give) = sym (slice_get-map (give_of store) top.holdings place ∙ ap (option_map (give_of store)) has.stands) ∙ has.named in
      let is : origin_of store h.mode h.number ≡ Some origin = named-origin h.mode (origin_of store h.mode h.number) (origin_of store h.mode h.number) give refl (same_Some (give_of store h) (Some give) one) in
      let by : origin_of store mode h.number ≡ Some origin = sym (origin-kind store h.mode mode h.number (same_kind h.mode mode has.may)) ∙ is in
      record { number = h.number; at = at; origin_is = by; named = ap (option_and_then (origin_of store mode)) at ∙ by }

  -- what may be used has a name
  pub use-named : IsWithinBounds plan.roots.queues plan.roots.objects → StandsAt G plan path k top → (place : ℕ) (h : Holding) (mode : Mode) → slice_get top.holdings place ≡ Some h → allows h.mode mode ≡ true
      → (origin : Origin) × MayUseAt G plan path k top place mode origin
  use-named bounds at place h mode stands may =
      let held = held-named G plan bounds path k top at place h stands in
      (held.0, record { holding = h; stands = stands; may = may; named = held.1 })

  module _ (local : L) where
    pub effect-is : (asks : Ask L) → IsAsking G plan path k top local asks → effect_at G plan path k top ≡ effect steps store (after_next top local) asks
    effect-is asks is =
        let paid = is.paid in
        let yes : nat_eq top.fuel 0 ≡ false = search (rules, tests) in
        let said = G.next plan.body top.local top.answer (top.fuel - 1) in
        ap (λ b. cond b (faults kind.Fuel) (effect steps store (after_next top said.0) said.1)) yes
        ∙ ap (λ p. effect steps store (after_next top p.0) p.1) (sym is.said)

    pub deed-is : (asks : Ask L) → IsAsking G plan path k top local asks → deed_at (script G plan) now ≡ deed_of (asked store top.holdings asks) (effect_at G plan path k top)
    deed-is asks is =
        deed_is (script G plan) now (entry_of G plan.body steps store top) (entry_now G plan now top is.stands.below is.stands.stack)
        ∙ ap (λ p. deed_of (asked store top.holdings p.1) (effect_at G plan path k top)) (sym is.said)

    -- a step with this effect, whose ask is to do this
    pub faults-by : (asks : Ask L) (fault : _) → IsAsking G plan path k top local asks → effect steps store (after_next top local) asks ≡ faults fault
        → MeetsFault G plan path k top fault (deed_of {L = L} (asked store top.holdings asks) (faults fault))
    faults-by asks fault is does =
        let effect_is = effect-is asks is ∙ does in
        record { effect = effect_is; deed = deed-is asks is ∙ ap (deed_of (asked store top.holdings asks)) effect_is }

    pub finishes : IsAsking G plan path k top local ask.Finish → step.EndsTask G plan path k top
    finishes is =
        let effect_is = effect-is ask.Finish is in
        record { effect = effect_is; deed = deed-is ask.Finish is ∙ ap (deed_of deed.Quiet) effect_is }

    pub fails : (trouble : Trouble) → IsAsking G plan path k top local (ask.Fail trouble) → MeetsFault G plan path k top (kind.Trouble trouble) deed.Quiet
    fails trouble is = faults-by (ask.Fail trouble) (kind.Trouble trouble) is refl

    -- a use of what may not be used so
    pub refused : (asks : Ask L) → IsAsking G plan path k top local asks → LacksRight G plan path k top asks → MeetsFault G plan path k top kind.Privilege deed.Quiet
    refused ask.Work is none = absurd none
    refused (ask.Read place) is none = faults-by (ask.Read place) kind.Privilege is (ap (λ n. on_object store n (λ number c. goes_on (with_answer (after_next top local) (answer.Item c.value)) store)) none)
    refused (ask.Write place value) is none =
        faults-by (ask.Write place value) kind.Privilege is (ap (λ n. on_object store n (λ number c. goes_on (with_answer (after_next top local) answer.Nothing) (with_value store number c value))) none)
    refused (ask.Push place value) is none =
        faults-by (ask.Push place value) kind.Privilege is (ap (λ n. on_queue store n (λ number q. goes_on (with_answer (after_next top local) answer.Nothing) (with_items store number q (q.items ++ value ∷ [])))) none)
    refused (ask.Pop place) is none = faults-by (ask.Pop place) kind.Privilege is (ap (λ n. on_queue store n (λ number q. popped store (after_next top local) number q q.items)) none)
    refused (ask.Empty place) is none =
        faults-by (ask.Empty place) kind.Privilege is (ap (λ n. on_queue store n (λ number q. goes_on (with_answer (after_next top local) (answer.Flag (is_nothing_left q.items))) store)) none)
    refused ask.NewQueue is none = absurd none
    refused (ask.NewObject value) is none = absurd none
    refused (ask.Spawn child) is none = faults-by (ask.Spawn child) kind.Privilege is (ap (spawn_effect store (after_next top local) child) none)
    refused ask.Sync is none = absurd none
    refused ask.Finish is none = absurd none
    refused (ask.Fail trouble) is none = absurd none

    module _ (bounds : IsWithinBounds plan.roots.queues plan.roots.objects) where
      -- a step that leaves the task so
      leaves-by : (asks : Ask L) (next : Activation L) (after : Store) (does : Deed) → IsAsking G plan path k top local asks
          → effect steps store (after_next top local) asks ≡ goes_on next after → next.holdings ≡ top.holdings → asked store top.holdings asks ≡ does → GoesOnAs G plan path k top next does
      leaves-by asks next after does is effect_is holds_same asks_for =
          let goes : effect_at G plan path k top ≡ goes_on next after = effect-is asks is ∙ effect_is in
          record {
            store = after;
            effect = goes;
            deed = deed-is asks is ∙ ap (deed_of (asked store top.holdings asks)) goes ∙ asks_for;
            names = names-stay G plan bounds path k top is.stands next (goes_on_next G plan path k top is.stands next after goes) holds_same;
          }

      -- a step that answers
      goes-by : (asks : Ask L) (said : Answer) (after : Store) (does : Deed) → IsAsking G plan path k top local asks
          → effect steps store (after_next top local) asks ≡ goes_on (with_answer (after_next top local) said) after → asked store top.holdings asks ≡ does → GoesOn G plan path k top local said does
      goes-by asks said after does is effect_is asks_for = leaves-by asks (with_answer (after_next top local) said) after does is effect_is refl asks_for

      pub works : IsAsking G plan path k top local ask.Work → GoesOn G plan path k top local answer.Nothing deed.Quiet
      works is = goes-by ask.Work answer.Nothing store deed.Quiet is refl refl

      pub syncs : IsAsking G plan path k top local ask.Sync → Syncs G plan path k top local
      syncs is = leaves-by ask.Sync (synced (after_next top local)) store deed.Sync is refl refl refl

      -- ---- an object

      object-found : (place : ℕ) (mode : Mode) (origin : Origin) (has : MayUseAt G plan path k top place mode origin) → is_queue_mode mode ≡ false
          → (c : Cell) × (slice_get store.cells (used place mode origin has).number ≡ Some c) × (c.origin ≡ origin)
      object-found place mode origin has of_objects =
          let use_is = used place mode origin has in
          mapped_is (λ (c : Cell). c.origin) (slice_get store.cells use_is.number) origin
          (sym (ap (λ b. cond b (option_map (λ (q : Queue). q.origin) (slice_get store.queues use_is.number)) (option_map (λ (c : Cell). c.origin) (slice_get store.cells use_is.number))) of_objects) ∙ use_is.origin_is)

      pub reads : (place : ℕ) (origin : Origin) → IsAsking G plan path k top local (ask.Read place) → MayUseAt G plan path k top place In origin
          → IsSomeAnd (cell (script G plan) origin now) (λ value. GoesOn G plan path k top local (answer.Item value) (deed.Read origin))
      reads place origin is has =
          let use_is = used place In origin has in
          let found = object-found place In origin has refl in
          let does : ℕ → Cell → Effect L = λ number c. goes_on (with_answer (after_next top local) (answer.Item c.value)) store in
          let told_is : cell (script G plan) found.0.origin now ≡ Some found.0.value =
          subst (λ o. IfSome o (λ (c : Cell). cell (script G plan) c.origin now ≡ Some c.value)) found.1 (cells_told G plan now use_is.number) in
          let is_value : cell (script G plan) origin now ≡ Some found.0.value = ap (λ o. cell (script G plan) o now) (sym found.2) ∙ told_is in
          subst (λ o. IsSomeAnd o (λ value. GoesOn G plan path k top local (answer.Item value) (deed.Read origin))) (sym is_value)
          (goes-by (ask.Read place) (answer.Item found.0.value) store (deed.Read origin) is
          (ap (λ n. on_object store n does) use_is.at ∙ ap (λ c. on_cell c (does use_is.number)) found.1)
          (ap (λ o. about o deed.Read) use_is.named))

      pub writes : (place : ℕ) (value : Value) (origin : Origin) → IsAsking G plan path k top local (ask.Write place value) → MayUseAt G plan path k top place Out origin
          → GoesOn G plan path k top local answer.Nothing (deed.Write origin value)
      writes place value origin is has =
          let use_is = used place Out origin has in
          let found = object-found place Out origin has refl in
          let does : ℕ → Cell → Effect L = λ number c. goes_on (with_answer (after_next top local) answer.Nothing) (with_value store number c value) in
          goes-by (ask.Write place value) answer.Nothing (with_value store use_is.number found.0 value) (deed.Write origin value) is
          (ap (λ n. on_object store n does) use_is.at ∙ ap (λ c. on_cell c (does use_is.number)) found.1)
          (ap (λ o. about o (λ (x : Origin). deed.Write x value)) use_is.named)

      -- ---- a queue

      queue-found : (place : ℕ) (mode : Mode) (origin : Origin) (has : MayUseAt G plan path k top place mode origin) → is_queue_mode mode ≡ true
          → (q : Queue) × (slice_get store.queues (used place mode origin has).number ≡ Some q) × (q.origin ≡ origin)
      queue-found place mode origin has of_queues =
          let use_is = used place mode origin has in
          mapped_is (λ (q : Queue). q.origin) (slice_get store.queues use_is.number) origin
          (sym (ap (λ b. cond b (option_map (λ (q : Queue). q.origin) (slice_get store.queues use_is.number)) (option_map (λ (c : Cell). c.origin) (slice_get store.cells use_is.number))) of_queues) ∙ use_is.origin_is)

      items-here : (number : ℕ) (queue : Queue) (origin : Origin) → slice_get store.queues number ≡ Some queue → queue.origin ≡ origin → queue.items ≡ items (script G plan) origin now
      items-here number queue origin stands is =
          subst (λ found. IfSome found (λ (q : Queue). q.items ≡ items (script G plan) q.origin now)) stands (items_told G plan now number)
          ∙ ap (λ o. items (script G plan) o now) is

      pub pushes-on : (place : ℕ) (value : Value) (origin : Origin) → IsAsking G plan path k top local (ask.Push place value) → MayUseAt G plan path k top place Push origin
          → GoesOn G plan path k top local answer.Nothing (deed.Push origin value)
      pushes-on place value origin is has =
          let use_is = used place Push origin has in
          let found = queue-found place Push origin has refl in
          let does : ℕ → Queue → Effect L = λ number q. goes_on (with_answer (after_next top local) answer.Nothing) (with_items store number q (q.items ++ value ∷ [])) in
          goes-by (ask.Push place value) answer.Nothing (with_items store use_is.number found.0 (found.0.items ++ value ∷ [])) (deed.Push origin value) is
          (ap (λ n. on_queue store n does) use_is.at ∙ ap (λ q. on_list q (does use_is.number)) found.1)
          (ap (λ o. about o (λ (x : Origin). deed.Push x value)) use_is.named)

      module _ (place : ℕ) (origin : Origin) (has : MayUseAt G plan path k top place Pop origin) where
        abbrev s : Script
        s = script G plan

        -- an item that is left
        record HasItem : Type 0 where
          pub value : Value
          pub item : slice_get (pushes s origin) (taken s origin now) ≡ Some value
          pub rest : List Value
          pub all : (queue-found place Pop origin has refl).0.items ≡ value ∷ rest

        has-item : taken s origin now < count s origin now → HasItem
        has-item some =
            let use_is = used place Pop origin has in
            let found = queue-found place Pop origin has refl in
            let item = some_within (pushes s origin) (taken s origin now) (omega (arith, some, count_le s origin now)) in
            let begins = begins-at (pushes s origin) (taken s origin now) (count s origin now) item.0 item.1 some in
            record { value = item.0; item = item.1; rest = begins.0; all = items-here use_is.number found.0 origin found.1 found.2 ∙ begins.1 }

        none-is : count s origin now ≤ taken s origin now → (queue-found place Pop origin has refl).0.items ≡ []
        none-is none =
            let use_is = used place Pop origin has in
            let found = queue-found place Pop origin has refl in
            items-here use_is.number found.0 origin found.1 found.2 ∙ none-left (pushes s origin) (taken s origin now) (count s origin now) none

        pub pops-on : IsAsking G plan path k top local (ask.Pop place) → taken s origin now < count s origin now
            → IsSomeAnd (slice_get (pushes s origin) (taken s origin now)) (λ value. GoesOn G plan path k top local (answer.Item value) (deed.Pop origin))
        pops-on is some =
            let use_is = used place Pop origin has in
            let found = queue-found place Pop origin has refl in
            let item = has-item some in
            subst (λ o. IsSomeAnd o (λ value. GoesOn G plan path k top local (answer.Item value) (deed.Pop origin))) (sym item.item)
            (goes-by (ask.Pop place) (answer.Item item.value) (with_items store use_is.number found.0 item.rest) (deed.Pop origin) is
            (ap (λ n. on_queue store n (λ number q. popped store (after_next top local) number q q.items)) use_is.at
            ∙ ap (λ q. on_list q (λ q. popped store (after_next top local) use_is.number q q.items)) found.1
            ∙ ap (popped store (after_next top local) use_is.number found.0) item.all)
            (ap (λ o. about o deed.Pop) use_is.named))

        pub pops-none : IsAsking G plan path k top local (ask.Pop place) → count s origin now ≤ taken s origin now → MeetsFault G plan path k top kind.PopEmpty (deed.Pop origin)
        pops-none is none =
            let use_is = used place Pop origin has in
            let found = queue-found place Pop origin has refl in
            subst (MeetsFault G plan path k top kind.PopEmpty) (ap (λ o. about o deed.Pop) use_is.named)
            (faults-by (ask.Pop place) kind.PopEmpty is
            (ap (λ n. on_queue store n (λ number q. popped store (after_next top local) number q q.items)) use_is.at
            ∙ ap (λ q. on_list q (λ q. popped store (after_next top local) use_is.number q q.items)) found.1
            ∙ ap (popped store (after_next top local) use_is.number found.0) (none-is none)))

        tests-by : IsAsking G plan path k top local (ask.Empty place) → (items : List Value) → (queue-found place Pop origin has refl).0.items ≡ items
            → GoesOn G plan path k top local (answer.Flag (is_nothing_left items)) (deed.Test origin)
        tests-by is items items_are =
            let use_is = used place Pop origin has in
            let found = queue-found place Pop origin has refl in
            let does : ℕ → Queue → Effect L = λ number q. goes_on (with_answer (after_next top local) (answer.Flag (is_nothing_left q.items))) store in
            goes-by (ask.Empty place) (answer.Flag (is_nothing_left items)) store (deed.Test origin) is
            (ap (λ n. on_queue store n does) use_is.at ∙ ap (λ q. on_list q (does use_is.number)) found.1
            ∙ ap (λ is. goes_on (with_answer (after_next top local) (answer.Flag (is_nothing_left is))) store) items_are)
            (ap (λ o. about o deed.Test) use_is.named)

        pub tests-some : IsAsking G plan path k top local (ask.Empty place) → taken s origin now < count s origin now → GoesOn G plan path k top local (answer.Flag false) (deed.Test origin)
        tests-some is some = let item = has-item some in tests-by is (item.value ∷ item.rest) item.all

        pub tests-none : IsAsking G plan path k top local (ask.Empty place) → count s origin now ≤ taken s origin now → GoesOn G plan path k top local (answer.Flag true) (deed.Test origin)
        tests-none is none = tests-by is [] (none-is none)
