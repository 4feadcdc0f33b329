-- The asks that make a queue, an object or a child, in the words of the script.
use Rattle.std.proofs.Common.{◌≡◌, ℕ, suc, ◌+◌, ◌-◌, ◌<◌, ◌≤◌, Bool, true, false, nat_lt, nat_le, cond, List, [], ◌∷◌, ◌++◌, Option, Some, None, length, map, refl, sym, ap, subst, ◌∙◌, arith, rules, tests}
use Rattle.std.proofs.lemmas.List.{map_push}
use Rattle.std.proofs.lemmas.Option.{same_Some, slice_get-map}
use Rattle.std.specs.Option.{option_map, option_and_then}
use Rattle.std.specs.Prelude.{slice_get}
use Rattle.swan_model.specs.declared.body.Ask.{Ask}
use Rattle.swan_model.specs.declared.body.Ask.TheVariants as ask
use Rattle.swan_model.specs.declared.body.Body.{Ghosts}
use Rattle.swan_model.specs.declared.body.Child.{Child}
use Rattle.swan_model.specs.declared.fault.FaultKind.TheVariants as kind
use Rattle.swan_model.specs.declared.origin.Origin.{Origin}
use Rattle.swan_model.specs.declared.origin.Origin.TheVariants.{Step}
use Rattle.swan_model.specs.declared.path.TheConstants.{PATH_MOST}
use Rattle.swan_model.specs.declared.plan.Plan.{Plan}
use Rattle.swan_model.specs.declared.rights.Give.{Give}
use Rattle.swan_model.specs.declared.rights.Mode.{Mode}
use Rattle.swan_model.specs.declared.rights.Mode.TheVariants.{InOut, PushPop}
use Rattle.swan_model.specs.declared.script.Deed.{Deed}
use Rattle.swan_model.specs.declared.script.Deed.TheVariants as deed
use Rattle.swan_model.specs.declared.script.OriginGive.{OriginGive}
use Rattle.swan_model.specs.declared.value.Value.{Value}
use Rattle.swan_model.specs.Elision.{outcome, serial}
use Rattle.swan_model.specs.Granted.{holds}
use Rattle.swan_model.specs.Rights.{is_aliased}
use Rattle.swan_model.specs.Roots.{IsWithinBounds}
use Rattle.swan_model.specs.Script.{asked, deed_of, give_of, gives_of, origin_at, origin_of, script, spawn_of}
use Rattle.swan_model.specs.SerialState.{Activation, Cell, Holding, Queue, Store}
use Rattle.swan_model.specs.SerialStep.{Effect, goes_on, spawns, faults, state_after, effect, given, after_next, number_at, spawn_effect, with_place, cells_with_zeros}
use Rattle.swan_model.specs.SerialTime.{time}
use Rattle.swan_model.specs.TrueFrames.{effect_at, gives_at, state_at}
use Rattle.swan_model.specs.Values.{kind_of}
use Rattle.swan_model.proofs.Elements.{last_more}
use Rattle.swan_model.proofs.Times.{times_rise}
use Rattle.serial_elision.specs.Laws.{named_give}
use Rattle.serial_elision.specs.Caught.{once_ended}
use Rattle.serial_elision.specs.TaskSteps.{MeetsFault, GetsPlace, IsAsking, MayUseAt, child_activation, parent_activation}
use Rattle.serial_elision.specs.TaskSteps as step
use Rattle.serial_elision.proofs.AskSteps.{deed-is, effect-is, faults-by, used}
use Rattle.serial_elision.proofs.Held.{gives-held, give-of, given-each, used-at}
use Rattle.serial_elision.proofs.NamesStay.{all-named, held-at-step, held-named, names-kept, names-later, names-stay, stand-later}
use Rattle.serial_elision.proofs.SerialTold.{steps-are}
use Rattle.serial_elision.proofs.SpawnGives.{named-gives}
use Rattle.serial_elision.proofs.Onward.{spawns_next}
use Rattle.serial_elision.proofs.TaskSteps.{child-time, goes_on_next, next-state, spawns_child}

-- what a list of gives names at an index
record IsGiveAt (store : Store) (holdings : List Holding) (gives : List OriginGive) (i : ℕ) (give : Give) : Type 0 where
  pub origin : Origin
  pub stands : slice_get gives i ≡ Some (record { origin = origin; mode = give.mode })
  pub at : origin_at store holdings give.place give.mode ≡ Some origin

give-by : (store : Store) (holdings : List Holding) (gives : List OriginGive) (i : ℕ) (give : Give) (found : Option OriginGive) (origin : Option Origin)
    → slice_get gives i ≡ found → origin_at store holdings give.place give.mode ≡ origin
    → option_map Some found ≡ Some (option_map (λ o. let g : OriginGive = record { origin = o; mode = give.mode } in g) origin) → IsGiveAt store holdings gives i give
give-by store holdings gives i give None origin at of is = absurd (cc)
give-by store holdings gives i give (Some g) None at of is = absurd (cc)
give-by store holdings gives i give (Some g) (Some o) at of is =
    let named : OriginGive = record { origin = o; mode = give.mode } in
    record { origin = o; stands = at ∙ same_Some (Some g) (Some named) is; at = of }

give-at : (store : Store) (holdings : List Holding) (asks : List Give) (gives : List OriginGive) (i : ℕ) (give : Give) → map Some gives ≡ map (named_give store holdings) asks → slice_get asks i ≡ Some give → IsGiveAt store holdings gives i give
give-at store holdings asks gives i give named is =
    give-by store holdings gives i give (slice_get gives i) (origin_at store holdings give.place give.mode) refl refl
    (sym (slice_get-map Some gives i) ∙ ap (λ os. slice_get os i) named ∙ slice_get-map (named_give store holdings) asks i ∙ ap (option_map (named_give store holdings)) is)

number-some : (store : Store) (mode : Mode) (found : Option ℕ) (origin : Origin) → option_and_then (origin_of store mode) found ≡ Some origin → (n : ℕ) × (found ≡ Some n)
number-some store mode None origin is = absurd (cc)
number-some store mode (Some n) origin is = (n, refl)

module _ {B L : Type 0} (G : Ghosts B L) (plan : Plan B L) (path : List ℕ) (k : ℕ) (top : Activation L) (local : L) where
  abbrev now : ℕ
  now = time (script G plan) path k

  abbrev store : Store
  store = (state_at G plan path k).store

  abbrev steps : ℕ
  steps = (state_at G plan path k).steps

  -- ---- a queue or an object

  gets-by : IsWithinBounds plan.roots.queues plan.roots.objects → (asks : Ask L) (mode : Mode) (number : ℕ) (then : Store) (does : Deed) → IsAsking G plan path k top local asks
      → effect steps store (after_next top local) asks ≡ goes_on (with_place (after_next top local) (record { mode = mode; number = number })) then
      → asked store top.holdings asks ≡ does → origin_of then mode number ≡ Some (Step steps) → GetsPlace G plan path k top local mode does
  gets-by bounds asks mode number then does is effect_is asks_for made =
      let s = script G plan in
      let holding : Holding = record { mode = mode; number = number } in
      let next = with_place (after_next top local) holding in
      let goes : effect_at G plan path k top ≡ goes_on next then = effect-is G plan path k top local asks is ∙ effect_is in
      let stands = goes_on_next G plan path k top is.stands next then goes in
      let late = times_rise s path k (k + 1) (omega arith) stands.left in
      let store_is : (serial G plan (suc now)).store ≡ then =
      ap (λ t. t.store) (next-state G plan path k top is.stands) ∙ ap (λ d. (state_after (serial G plan now) is.stands.below top.path (G.place_of plan.body top.local) d).store) goes in
      let step_is : Step steps ≡ Step now = ap Step (steps-are G plan now top is.stands.below is.stands.stack) in
      let made_now : origin_of (serial G plan (suc now)).store mode number ≡ Some (Step now) = ap (λ t. origin_of t mode number) store_is ∙ made ∙ ap Some step_is in
      let later : origin_of (state_at G plan path (k + 1)).store mode number ≡ Some (Step now) =
      (stand-later G plan (suc now) (time s path (k + 1)) (omega (arith, late))).origins mode number (Step now) made_now in
      record {
        number = number;
        store = then;
        effect = goes;
        deed = deed-is G plan path k top local asks is ∙ ap (deed_of (asked store top.holdings asks)) goes ∙ asks_for;
        names = map_push (give_of (state_at G plan path (k + 1)).store) top.holdings holding
            ∙ ap (λ gs. gs ++ give_of (state_at G plan path (k + 1)).store holding ∷ []) (names-later G plan bounds path k top is.stands (time s path (k + 1)) (omega (arith, late)))
            ∙ ap (λ g. gives_at G plan path k top ++ g ∷ []) (give-of (state_at G plan path (k + 1)).store holding (Step now) later);
      }

  pub makes-queue : IsWithinBounds plan.roots.queues plan.roots.objects → IsAsking G plan path k top local ask.NewQueue → GetsPlace G plan path k top local PushPop deed.MakeQueue
  makes-queue bounds is = gets-by bounds ask.NewQueue PushPop (length store.queues) (record store { queues = store.queues ++ (record { origin = Step steps; items = [] }) ∷ [] }) deed.MakeQueue is refl refl
      (ap (option_map (λ (queue : Queue). queue.origin)) (last_more store.queues (record { origin = Step steps; items = [] })))

  pub makes-object : IsWithinBounds plan.roots.queues plan.roots.objects → (value : Value) → IsAsking G plan path k top local (ask.NewObject value) → GetsPlace G plan path k top local InOut (deed.MakeObject value)
  makes-object bounds value is =
      let new : Cell = record { origin = Step steps; kind = kind_of value; value = value } in
      gets-by bounds (ask.NewObject value) InOut (length store.cells) (record store { cells = store.cells ++ new ∷ [] }) (deed.MakeObject value) is refl refl
      (ap (option_map (λ (cell : Cell). cell.origin)) (last_more store.cells new))

  -- ---- a child

  module _ (child : Child L) (is : IsAsking G plan path k top local (ask.Spawn child)) (hs : List Holding) (held : given top.holdings child.gives ≡ Some hs) where
    spawned-is : effect steps store (after_next top local) (ask.Spawn child) ≡ spawn_effect store (after_next top local) child (Some hs)
    spawned-is = ap (spawn_effect store (after_next top local) child) held

    pub aliased : is_aliased child.gives ≡ true → MeetsFault G plan path k top kind.Alias deed.Quiet
    aliased twice = faults-by G plan path k top local (ask.Spawn child) kind.Alias is (spawned-is ∙ ap (λ b. cond b (faults kind.Alias) (deeper b)) twice) where
      deeper : Bool → Effect L
      deeper b = cond (nat_le PATH_MOST (length top.path)) (faults kind.Depth)
          (cond (nat_lt (top.fuel - 1) child.fuel) (faults kind.Fuel)
          (spawns (parent_activation (after_next top local) child) (child_activation top child hs) (record store { cells = cells_with_zeros store.cells hs })))

    module _ (once : is_aliased child.gives ≡ false) where
      deeper-is : spawn_effect store (after_next top local) child (Some hs)
          ≡ cond (nat_le PATH_MOST (length top.path)) (faults kind.Depth)
          (cond (nat_lt (top.fuel - 1) child.fuel) (faults kind.Fuel)
          (spawns (parent_activation (after_next top local) child) (child_activation top child hs) (record store { cells = cells_with_zeros store.cells hs })))
      deeper-is = ap (λ b. cond b (faults kind.Alias) (cond (nat_le PATH_MOST (length top.path)) (faults kind.Depth)
          (cond (nat_lt (top.fuel - 1) child.fuel) (faults kind.Fuel)
          (spawns (parent_activation (after_next top local) child) (child_activation top child hs) (record store { cells = cells_with_zeros store.cells hs }))))) once

      pub too-deep : PATH_MOST ≤ length top.path → MeetsFault G plan path k top kind.Depth deed.Quiet
      too-deep deep =
          let yes : nat_le PATH_MOST (length top.path) ≡ true = search (rules, tests) in
          faults-by G plan path k top local (ask.Spawn child) kind.Depth is
          (spawned-is ∙ deeper-is ∙ ap (λ b. cond b (faults kind.Depth)
          (cond (nat_lt (top.fuel - 1) child.fuel) (faults kind.Fuel)
          (spawns (parent_activation (after_next top local) child) (child_activation top child hs) (record store { cells = cells_with_zeros store.cells hs })))) yes)

      module _ (shallow : length top.path < PATH_MOST) where
        fuel-is : spawn_effect store (after_next top local) child (Some hs)
            ≡ cond (nat_lt (top.fuel - 1) child.fuel) (faults kind.Fuel)
            (spawns (parent_activation (after_next top local) child) (child_activation top child hs) (record store { cells = cells_with_zeros store.cells hs }))
        fuel-is =
            let no : nat_le PATH_MOST (length top.path) ≡ false = search (rules, tests) in
            deeper-is ∙ ap (λ b. cond b (faults kind.Depth)
            (cond (nat_lt (top.fuel - 1) child.fuel) (faults kind.Fuel)
            (spawns (parent_activation (after_next top local) child) (child_activation top child hs) (record store { cells = cells_with_zeros store.cells hs })))) no

        pub too-dear : top.fuel - 1 < child.fuel → MeetsFault G plan path k top kind.Fuel deed.Quiet
        too-dear dear =
            let yes : nat_lt (top.fuel - 1) child.fuel ≡ true = search (rules, tests) in
            faults-by G plan path k top local (ask.Spawn child) kind.Fuel is
            (spawned-is ∙ fuel-is ∙ ap (λ b. cond b (faults kind.Fuel)
            (spawns (parent_activation (after_next top local) child) (child_activation top child hs) (record store { cells = cells_with_zeros store.cells hs }))) yes)

        module _ (enough : child.fuel ≤ top.fuel - 1) (bounds : IsWithinBounds plan.roots.queues plan.roots.objects) where
          abbrev parent : Activation L
          parent = parent_activation (after_next top local) child

          abbrev begun : Activation L
          begun = child_activation top child hs

          abbrev then : Store
          then = record store { cells = cells_with_zeros store.cells hs }

          spawns-it : effect_at G plan path k top ≡ spawns parent begun then
          spawns-it =
              let no : nat_lt (top.fuel - 1) child.fuel ≡ false = search (rules, tests) in
              effect-is G plan path k top local (ask.Spawn child) is ∙ spawned-is ∙ fuel-is ∙ ap (λ b. cond b (faults kind.Fuel) (spawns parent begun then)) no

          abbrev gives : List OriginGive
          gives = gives_of store hs

          origin-used : (give : Give) (origin : Origin) → origin_at store top.holdings give.place give.mode ≡ Some origin → MayUseAt G plan path k top give.place give.mode origin
          origin-used give origin at =
              let number = number-some store give.mode (number_at top.holdings give.place give.mode) origin at in
              let use_is = used-at top.holdings give.place number.0 give.mode (slice_get top.holdings give.place) refl number.1 in
              let held_is = held-named G plan bounds path k top is.stands give.place use_is.holding use_is.stands in
              let has : MayUseAt G plan path k top give.place give.mode held_is.0 = record { holding = use_is.holding; stands = use_is.stands; may = use_is.allowed; named = held_is.1 } in
              let both : Some held_is.0 ≡ Some origin = sym (used G plan path k top give.place give.mode held_is.0 has).named ∙ at in
              subst (MayUseAt G plan path k top give.place give.mode) (same_Some held_is.0 origin both) has

          pub spawns-child : step.Spawns G plan path k top local child
          spawns-child =
              let s = script G plan in
              let has = held-at-step G plan bounds path k top is.stands in
              let named = named-gives (holds s top.path now) store top.holdings child.gives hs has held in
              let own = gives-held (holds s top.path now) store top.holdings hs has (given-each top.holdings child hs held) in
              let next = spawns_next G plan path k top is.stands parent begun then spawns-it in
              let first = spawns_child G plan path k top is.stands parent begun then spawns-it in
              let starts : time s begun.path 0 ≡ suc now = child-time G plan path k top is.stands parent begun then spawns-it in
              record {
                holdings = hs;
                held = held;
                store = then;
                effect = spawns-it;
                gives = gives;
                deed = deed-is G plan path k top local (ask.Spawn child) is ∙ ap (deed_of (asked store top.holdings (ask.Spawn child))) spawns-it ∙ ap (spawn_of store) held;
                many = named.many;
                each = λ i give at. let g = give-at store top.holdings child.gives gives i give named.named at in (g.origin, origin-used give g.origin g.at, g.stands);
                names = names-stay G plan bounds path k top is.stands (once_ended (outcome G plan).faults parent begun) next refl;
                begins = names-kept gives store (state_at G plan begun.path 0).store hs own (stand-later G plan now (time s begun.path 0) (omega (arith, starts))) ∙ all-named gives store hs own;
              }
