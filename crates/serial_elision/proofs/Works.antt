-- Steps of work in a row: the state goes on with the task that worked, and nothing else of it changes.
use Rattle.std.proofs.Common.{◌≡◌, ℕ, zero, suc, ◌+◌, ◌-◌, ◌<◌, ◌≤◌, List, ◌∷◌, true, nat_eq, cond, rules, tests, sym, ap, subst, ◌∙◌, refl, arith, add-suc, add-zero, Option, Some, None}
use Rattle.std.specs.Prelude.{IfSome, IfNone, min}
use Rattle.swan_model.specs.declared.body.Answer.TheVariants as answer
use Rattle.swan_model.specs.declared.body.Ask.{Ask}
use Rattle.swan_model.specs.declared.body.Ask.TheVariants as ask
use Rattle.swan_model.specs.declared.body.Body.{Ghosts}
use Rattle.swan_model.specs.declared.body.Stop.{Stop}
use Rattle.swan_model.specs.declared.body.Worked.{Worked}
use Rattle.swan_model.specs.declared.fault.FaultKind.{FaultKind}
use Rattle.swan_model.specs.declared.fault.FaultKind.TheVariants as kind
use Rattle.swan_model.specs.SerialState.{Activation, State, Store}
use Rattle.swan_model.specs.SerialStep.{Effect, goes_on, spawns, ends, faults, state_after, effect, effect_of, after_next, step, with_answer}
use Rattle.swan_model.specs.Work.{ask_after, AreWork, local_after, told_after}
use Rattle.serial_elision.specs.Working.{after_steps}
use Rattle.serial_elision.proofs.Steps.{effect-paid, stepped}

-- the state in which so many more steps were taken, and this is the stack
abbrev pub on : {L : Type 0} → State L → ℕ → List (Activation L) → State L
on s n stack = record s { steps = s.steps + n; stack = stack }

-- what stands below the top is all that counts of a stack
after-below : {L : Type 0} (s : State L) (stack below : List (Activation L)) (path : List ℕ) (place : ℕ) (done : Effect L) → state_after s below path place done ≡ state_after (record s { stack = stack }) below path place done
after-below s stack below path place (goes_on a store) = refl
after-below s stack below path place (spawns parent child store) = refl
after-below s stack below path place ends = refl
after-below s stack below path place (faults kind) = refl

-- what a clause says of the value that there is
some-has : {A : Type 0} (P : A → Type 0) (o : Option A) (x : A) → o ≡ Some x → IfSome o P → P x
some-has P None x is has = absurd (cc)
some-has P (Some y) x is has = let e : y ≡ x = cc in subst P e has

-- and where there is none
none-has : {A : Type 0} (P : Type 0) (o : Option A) → o ≡ None → IfNone o P → P
none-has P None is has = has
none-has P (Some y) is has = absurd (cc)

module _ {B L : Type 0} (G : Ghosts B L) where
  -- the activation after n steps of work
  abbrev worked : B → Activation L → ℕ → Activation L
  worked body a n = record a { local = local_after (G.next body) a.local a.answer a.fuel n; answer = told_after a.answer n; fuel = a.fuel - n }

  one-more : (body : B) (a : Activation L) (n : ℕ) → worked body a (suc n) ≡ with_answer (after_next (worked body a n) (stepped G body (worked body a n)).0) answer.Nothing
  one-more body a n = ap (λ fuel. record (worked body a (suc n)) { fuel = fuel }) (let e : a.fuel - suc n ≡ a.fuel - n - 1 = omega arith in e)

  -- a step of work
  step-work : (body : B) (s : State L) (n : ℕ) (a : Activation L) (below : List (Activation L)) → n < a.fuel → ask_after (G.next body) a.local a.answer a.fuel n ≡ ask.Work → step G body (on s n (worked body a n ∷ below)) ≡ on s (suc n) (worked body a (suc n) ∷ below)
  step-work body s n a below fuel works =
      let now = on s n (worked body a n ∷ below) in
      let full : a.fuel - n ≡ 0 → ⊥ = λ dry. omega (arith, dry) in
      ap (state_after now below a.path (G.place_of body (worked body a n).local)) (sym (effect-paid G body now.steps s.store (worked body a n) (worked body a (suc n)) ask.Work full (one-more body a n) (sym works)))
      ∙ ap {B = State L} (λ k. record s { steps = k; stack = worked body a (suc n) ∷ below }) (let e : s.steps + n + 1 ≡ s.steps + suc n = omega arith in e)

  -- n steps of work
  steps-work : (body : B) (s : State L) (a : Activation L) (below : List (Activation L)) (n : ℕ) → s.stack ≡ a ∷ below → n ≤ a.fuel → AreWork (G.next body) a.local a.answer a.fuel n → after_steps G body s n ≡ on s n (worked body a n ∷ below)
  steps-work body s a below zero stack most works =
      ap {B = State L} (λ rest. record s { stack = rest }) stack
      ∙ ap {B = State L} (λ k. record s { steps = k; stack = a ∷ below }) (let e : s.steps ≡ s.steps + 0 = omega arith in e)
      ∙ ap {B = State L} (λ fuel. record s { steps = s.steps + 0; stack = (record a { fuel = fuel }) ∷ below }) (let e : a.fuel ≡ a.fuel - 0 = omega arith in e)
  steps-work body s a below (suc n) stack most works =
      ap (step G body) (steps-work body s a below n stack (omega arith) works.0)
      ∙ step-work body s n a below (omega arith) works.1

  -- the state after n steps of work and then one by which the task asks for something
  asked-step : (body : B) (s : State L) (a : Activation L) (below : List (Activation L)) (n place : ℕ) (local : L) (asked : Ask L) → s.stack ≡ a ∷ below → n < a.fuel → AreWork (G.next body) a.local a.answer a.fuel n → local ≡ local_after (G.next body) a.local a.answer a.fuel (suc n) → asked ≡ ask_after (G.next body) a.local a.answer a.fuel n → place ≡ G.place_of body (local_after (G.next body) a.local a.answer a.fuel n) → state_after (on s n below) below a.path place (effect (s.steps + n) s.store (record a { local = local; answer = answer.Nothing; fuel = a.fuel - n - 1 }) asked) ≡ after_steps G body s (suc n)
  asked-step body s a below n place local asked stack fuel works local_is asked_is place_is =
      let top = worked body a n in
      let paid : Activation L = record a { local = local; answer = answer.Nothing; fuel = a.fuel - n - 1 } in
      let said : Effect L = effect (s.steps + n) s.store paid asked in
      let full : a.fuel - n ≡ 0 → ⊥ = λ dry. omega (arith, dry) in
      let moved_is : paid ≡ with_answer (after_next top (stepped G body top).0) answer.Nothing = ap (λ (l : L). record paid { local = l }) local_is in
      ap (λ p. state_after (on s n below) below a.path p said) place_is
      ∙ ap (state_after (on s n below) below a.path (G.place_of body top.local)) (effect-paid G body (s.steps + n) s.store top paid asked full moved_is asked_is)
      ∙ after-below (on s n below) (top ∷ below) below a.path (G.place_of body top.local) (effect_of G body (s.steps + n) s.store top)
      ∙ sym (ap (step G body) (steps-work body s a below n stack (omega arith) works))

  -- the state after work with all the fuel, and then a step without any
  dry-step : (body : B) (s : State L) (a : Activation L) (below : List (Activation L)) (n place : ℕ) → s.stack ≡ a ∷ below → n ≡ a.fuel → AreWork (G.next body) a.local a.answer a.fuel n → place ≡ G.place_of body (local_after (G.next body) a.local a.answer a.fuel n) → state_after (on s n below) below a.path place (faults kind.Fuel) ≡ after_steps G body s (suc n)
  dry-step body s a below n place stack all works place_is =
      let top = worked body a n in
      let dry : a.fuel - n ≡ 0 = omega arith in
      let is : nat_eq (a.fuel - n) 0 ≡ true = search (rules, tests) in
      let asked = stepped G body top in
      ap (λ p. state_after (on s n below) below a.path p (faults kind.Fuel)) place_is
      ∙ ap (λ b. state_after (on s n below) below a.path (G.place_of body top.local) (cond b (faults kind.Fuel) (effect (s.steps + n) s.store (after_next top asked.0) asked.1))) (sym is)
      ∙ after-below (on s n below) (top ∷ below) below a.path (G.place_of body top.local) (effect_of G body (s.steps + n) s.store top)
      ∙ sym (ap (step G body) (steps-work body s a below n stack (omega arith) works))

  -- what the body says of steps of work in a row that the activation took
  pub record HasRow (body : B) (a : Activation L) (budget : ℕ) (w : Worked L) : Type 0 where
    pub works : AreWork (G.next body) a.local a.answer a.fuel w.works
    pub all : IfNone w.stop (w.works ≡ min budget a.fuel)
    pub last : IfNone w.stop (w.local ≡ local_after (G.next body) a.local a.answer a.fuel w.works)
    pub stopped : IfSome w.stop (λ stop. w.works < min budget a.fuel)
    pub moved : IfSome w.stop (λ stop. w.local ≡ local_after (G.next body) a.local a.answer a.fuel (suc w.works))
    pub ask : IfSome w.stop (λ stop. stop.ask ≡ ask_after (G.next body) a.local a.answer a.fuel w.works)
    pub place : IfSome w.stop (λ stop. stop.place ≡ G.place_of body (local_after (G.next body) a.local a.answer a.fuel w.works))

  -- the state after a row that has ended by an ask
  pub asked-row : (body : B) (s : State L) (a : Activation L) (below : List (Activation L)) (budget : ℕ) (w : Worked L) (stop : Stop L) → s.stack ≡ a ∷ below → HasRow body a budget w → w.stop ≡ Some stop → state_after (on s w.works below) below a.path stop.place (effect (s.steps + w.works) s.store (record a { local = w.local; answer = answer.Nothing; fuel = a.fuel - w.works - 1 }) stop.ask) ≡ after_steps G body s (suc w.works)
  asked-row body s a below budget w stop stack row is =
      let fuel : w.works < min budget a.fuel = some-has (λ (stop : Stop L). w.works < min budget a.fuel) w.stop stop is row.stopped in
      let moved : w.local ≡ local_after (G.next body) a.local a.answer a.fuel (suc w.works) = some-has (λ (stop : Stop L). w.local ≡ local_after (G.next body) a.local a.answer a.fuel (suc w.works)) w.stop stop is row.moved in
      let asked : stop.ask ≡ ask_after (G.next body) a.local a.answer a.fuel w.works = some-has (λ (stop : Stop L). stop.ask ≡ ask_after (G.next body) a.local a.answer a.fuel w.works) w.stop stop is row.ask in
      let place : stop.place ≡ G.place_of body (local_after (G.next body) a.local a.answer a.fuel w.works) = some-has (λ (stop : Stop L). stop.place ≡ G.place_of body (local_after (G.next body) a.local a.answer a.fuel w.works)) w.stop stop is row.place in
      asked-step body s a below w.works stop.place w.local stop.ask stack (omega arith) row.works moved asked place

  -- the state after a row that has taken all the fuel, and then a step without any
  pub dry-row : (body : B) (s : State L) (a : Activation L) (below : List (Activation L)) (budget : ℕ) (w : Worked L) (place : ℕ) → s.stack ≡ a ∷ below → HasRow body a budget w → w.stop ≡ None → a.fuel ≤ budget → place ≡ G.place_of body w.local → state_after (on s w.works below) below a.path place (faults kind.Fuel) ≡ after_steps G body s (suc w.works)
  dry-row body s a below budget w place stack row is most place_is =
      let all : w.works ≡ min budget a.fuel = none-has (w.works ≡ min budget a.fuel) w.stop is row.all in
      let last : w.local ≡ local_after (G.next body) a.local a.answer a.fuel w.works = none-has (w.local ≡ local_after (G.next body) a.local a.answer a.fuel w.works) w.stop is row.last in
      dry-step body s a below w.works place stack (omega arith) row.works (place_is ∙ ap (G.place_of body) last)

  -- n steps, and then k more
  pub after_steps-more : (body : B) (s : State L) (n k : ℕ) → after_steps G body (after_steps G body s n) k ≡ after_steps G body s (n + k)
  after_steps-more body s n zero = ap (after_steps G body s) (sym (add-zero n))
  after_steps-more body s n (suc k) =
      ap (step G body) (after_steps-more body s n k) ∙ ap (after_steps G body s) (sym (add-suc n k))

  -- A turn so far: this is the state with its activation, which has so much fuel left after so many rows.
  pub record HasTurned (body : B) (s now : State L) (rows left fuel : ℕ) : Type 0 where
    pub steps : ℕ
    pub is_now : now ≡ after_steps G body s steps
    pub bound : rows + left ≤ fuel
    pub count : now.steps + left ≤ s.steps + fuel

  -- a state that some steps have led to, one at least
  abbrev pub IsLater : B → State L → State L → Type 0
  IsLater body s new = (n : ℕ) × (new ≡ after_steps G body s (suc n))

  later : (body : B) (s now new : State L) (n k : ℕ) → now ≡ after_steps G body s n → new ≡ after_steps G body now (suc k) → IsLater body s new
  later body s now new n k is_now is =
      (n + k, is ∙ ap (λ t. after_steps G body t (suc k)) is_now ∙ ap (step G body) (after_steps-more body s n k))

  -- an ask that the store has answered, or a Sync: the turn goes on
  pub told-row : (body : B) (s now : State L) (a next : Activation L) (below : List (Activation L)) (budget rows fuel : ℕ) (w : Worked L) (stop : Stop L) (store : Store) → HasTurned body s now rows a.fuel fuel → now.stack ≡ a ∷ below → HasRow body a budget w → w.stop ≡ Some stop → effect (now.steps + w.works) now.store (record a { local = w.local; answer = answer.Nothing; fuel = a.fuel - w.works - 1 }) stop.ask ≡ goes_on next store → HasTurned body s (record { steps = now.steps + w.works + 1; stack = next ∷ below; store = store; faults = now.faults }) (rows + 1) (a.fuel - w.works - 1) fuel
  told-row body s now a next below budget rows fuel w stop store so stack row stopped is =
      let less : w.works < min budget a.fuel = some-has (λ (stop : Stop L). w.works < min budget a.fuel) w.stop stop stopped row.stopped in
      let more = later body s now _ so.steps w.works so.is_now (ap (state_after (on now w.works below) below a.path stop.place) (sym is) ∙ asked-row body now a below budget w stop stack row stopped) in
      record {
        steps = suc more.0;
        is_now = more.1;
        bound = omega (arith, so.bound);
        count = omega (arith, so.count);
      }

  -- an ask by which the task ends with a fault
  pub fault-row : (body : B) (s now : State L) (a : Activation L) (below : List (Activation L)) (budget rows fuel : ℕ) (w : Worked L) (stop : Stop L) (kind : FaultKind) (store : Store) → HasTurned body s now rows a.fuel fuel → now.stack ≡ a ∷ below → HasRow body a budget w → w.stop ≡ Some stop → effect (now.steps + w.works) now.store (record a { local = w.local; answer = answer.Nothing; fuel = a.fuel - w.works - 1 }) stop.ask ≡ faults kind → store ≡ now.store → IsLater body s (state_after (record now { steps = now.steps + w.works; stack = below; store = store }) below a.path stop.place (faults kind))
  fault-row body s now a below budget rows fuel w stop kind store so stack row stopped is same =
      later body s now _ so.steps w.works so.is_now (ap (λ o. state_after (record now { steps = now.steps + w.works; stack = below; store = o }) below a.path stop.place (faults kind)) same ∙ ap (state_after (on now w.works below) below a.path stop.place) (sym is) ∙ asked-row body now a below budget w stop stack row stopped)

  -- an ask about the task itself
  pub own-row : (body : B) (s now : State L) (a : Activation L) (below : List (Activation L)) (budget rows fuel : ℕ) (w : Worked L) (stop : Stop L) (asks : Ask L) (store : Store) → HasTurned body s now rows a.fuel fuel → now.stack ≡ a ∷ below → HasRow body a budget w → w.stop ≡ Some stop → stop.ask ≡ asks → store ≡ now.store → IsLater body s (state_after (record now { steps = now.steps + w.works; stack = below; store = store }) below a.path stop.place (effect (now.steps + w.works) store (record a { local = w.local; answer = answer.Nothing; fuel = a.fuel - w.works - 1 }) asks))
  own-row body s now a below budget rows fuel w stop asks store so stack row stopped is same =
      let paid : Activation L = record a { local = w.local; answer = answer.Nothing; fuel = a.fuel - w.works - 1 } in
      later body s now _ so.steps w.works so.is_now (ap (λ o. state_after (record now { steps = now.steps + w.works; stack = below; store = o }) below a.path stop.place (effect (now.steps + w.works) o paid asks)) same ∙ ap (λ asks. state_after (on now w.works below) below a.path stop.place (effect (now.steps + w.works) now.store paid asks)) (sym is) ∙ asked-row body now a below budget w stop stack row stopped)

  -- no fuel is left after a row
  pub dry-end : (body : B) (s now : State L) (a : Activation L) (below : List (Activation L)) (budget rows fuel : ℕ) (w : Worked L) (place : ℕ) → HasTurned body s now rows a.fuel fuel → now.stack ≡ a ∷ below → HasRow body a budget w → w.stop ≡ None → a.fuel ≤ budget → place ≡ G.place_of body w.local → IsLater body s (state_after (on now w.works below) below a.path place (faults kind.Fuel))
  dry-end body s now a below budget rows fuel w place so stack row stopped most place_is =
      later body s now _ so.steps w.works so.is_now (dry-row body now a below budget w place stack row stopped most place_is)

  -- and none is left after the last
  pub last-end : (body : B) (s now : State L) (a : Activation L) (below : List (Activation L)) (rows fuel place : ℕ) → HasTurned body s now rows a.fuel fuel → now.stack ≡ a ∷ below → a.fuel ≡ 0 → place ≡ G.place_of body a.local → IsLater body s (state_after (record now { stack = below }) below a.path place (faults kind.Fuel))
  last-end body s now a below rows fuel place so stack dry place_is =
      let zero_more : now.steps ≡ now.steps + 0 = omega arith in
      later body s now _ so.steps 0 so.is_now (ap (λ k. state_after (record now { steps = k; stack = below }) below a.path place (faults kind.Fuel)) zero_more ∙ dry-step body now a below 0 place stack (sym dry) tt place_is)
