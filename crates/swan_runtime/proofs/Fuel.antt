-- What fuel a task has at its steps: each costs it a unit at least, and a spawn its child's fuel too.
use Rattle.std.proofs.Common.{◌≡◌, inl, inr, ℕ, zero, suc, ◌+◌, ◌≤◌, ◌<◌, true, false, List, [], ◌∷◌, ◌++◌, sym, ap, ◌∙◌, subst, arith}
use Rattle.swan_model.specs.declared.body.Body.{Ghosts}
use Rattle.swan_model.specs.declared.plan.Plan.{Plan}
use Rattle.swan_model.specs.Granted.{is_spawn}
use Rattle.swan_model.specs.Script.{deed_of, entry_of, script}
use Rattle.swan_model.specs.SerialState.{Activation}
use Rattle.swan_model.specs.SerialStep.{goes_on, spawns}
use Rattle.swan_model.specs.SerialTime.{time}
use Rattle.swan_model.specs.Told.{deed_at}
use Rattle.swan_model.specs.TrueFrames.{StandsAt, effect_at, state_at}
use Rattle.swan_model.proofs.ScriptSteps.{deed_is}
use Rattle.serial_elision.proofs.Endings.{entry_now}
use Rattle.serial_elision.proofs.FewHeld.{LeavesLess, step-less}
use Rattle.serial_elision.proofs.Onward.{stood-before}
use Rattle.serial_elision.proofs.TaskSteps.{spawns_child, stands-one, top_path}
use Rattle.serial_elision.proofs.Turns.{FitsDeed, next_deed, step-fits}

module _ {B L : Type 0} (G : Ghosts B L) (plan : Plan B L) where
  -- a step that goes on, or spawns, leaves less fuel
  goes-less : (path : List ℕ) (k : ℕ) (top next : Activation L) (store : _) → effect_at G plan path k top ≡ goes_on next store → next.fuel < top.fuel
  goes-less path k top next store is =
      let s = state_at G plan path k in
      let less : LeavesLess top.fuel (goes_on next store) = subst (LeavesLess top.fuel) is (step-less G plan s.steps s.store top) in
      less

  spawn-less : (path : List ℕ) (k : ℕ) (top parent child : Activation L) (store : _) → effect_at G plan path k top ≡ spawns parent child store → parent.fuel + child.fuel < top.fuel
  spawn-less path k top parent child store is =
      let s = state_at G plan path k in
      let less : LeavesLess top.fuel (spawns parent child store) = subst (LeavesLess top.fuel) is (step-less G plan s.steps s.store top) in
      less

  -- what a task has at its next step
  pub next-less : (path : List ℕ) (k : ℕ) (top next : Activation L) → StandsAt G plan path k top → StandsAt G plan path (k + 1) next → next.fuel < top.fuel
  next-less path k top next at then =
      let stood = stood-before G plan path k next then in
      let same = stands-one G plan path k stood.before top stood.stands at in
      let less : next.fuel < stood.before.fuel = elim stood.effect [
        | inl goes ↦ goes-less path k stood.before next stood.store goes
        | inr made ↦
            let both = spawn-less path k stood.before made.0 made.1 stood.store made.2 in
            let same_fuel : next.fuel ≡ made.0.fuel = ap (λ (a : Activation L). a.fuel) made.3 in
            omega (arith, both, same_fuel)
      ] in
      subst (λ (a : Activation L). next.fuel < a.fuel) same less

  -- and so many steps later
  pub later-less : (many : ℕ) (path : List ℕ) (k : ℕ) (top next : Activation L) → StandsAt G plan path k top → StandsAt G plan path (k + many) next → next.fuel + many ≤ top.fuel
  later-less zero path k top next at then =
      let none : k + 0 ≡ k = omega arith in
      let same = stands-one G plan path k next top (subst (λ n. StandsAt G plan path n next) none then) at in
      omega (arith, ap (λ (a : Activation L). a.fuel) same)
  later-less (suc many) path k top next at then =
      let one : k + suc many ≡ (k + many) + 1 = omega arith in
      let there = subst (λ n. StandsAt G plan path n next) one then in
      let stood = stood-before G plan path (k + many) next there in
      let less = next-less path (k + many) stood.before next stood.stands there in
      let before = later-less many path k top stood.before at stood.stands in
      omega (arith, less, before)

  -- the deed of a step, by what the step does
  deed-now : (path : List ℕ) (k : ℕ) (top : Activation L) → (at : StandsAt G plan path k top)
      → deed_at (script G plan) (time (script G plan) path k) ≡ deed_of (next_deed G plan.body (state_at G plan path k).store top) (effect_at G plan path k top)
  deed-now path k top at =
      let t = time (script G plan) path k in
      let s = state_at G plan path k in
      deed_is (script G plan) t (entry_of G plan.body s.steps s.store top) (entry_now G plan t top at.below at.stack)

  -- a spawn: parent and child have less than the parent had
  pub spawned-less : (path : List ℕ) (k : ℕ) (top parent child : Activation L) → StandsAt G plan path k top → StandsAt G plan path (k + 1) parent
      → is_spawn (deed_at (script G plan) (time (script G plan) path k)) ≡ true → StandsAt G plan (path ++ top.children ∷ []) 0 child
      → parent.fuel + child.fuel < top.fuel
  spawned-less path k top parent child at then is-spawn begins =
      let stood = stood-before G plan path k parent then in
      let same = stands-one G plan path k stood.before top stood.stands at in
      let s = state_at G plan path k in
      let does = next_deed G plan.body s.store stood.before in
      let fits = step-fits G plan.body s.steps s.store stood.before in
      let deed = deed-now path k stood.before stood.stands in
      let less : parent.fuel + child.fuel < stood.before.fuel = elim stood.effect [
        | inl goes ↦
            let here : FitsDeed stood.before does (goes_on parent stood.store) = subst (FitsDeed stood.before does) goes fits in
            let is : deed_at (script G plan) (time (script G plan) path k) ≡ deed_of does (goes_on parent stood.store) = deed ∙ ap (deed_of does) goes in
            let no : true ≡ false = sym is-spawn ∙ ap is_spawn is ∙ here.2 in
            absurd (cc)
        | inr made ↦
            let here : FitsDeed stood.before does (spawns made.0 made.1 stood.store) = subst (FitsDeed stood.before does) made.2 fits in
            let own = top_path G plan path k stood.before stood.stands in
            let child-path : made.1.path ≡ path ++ top.children ∷ [] =
            here.2 ∙ ap (λ p. p ++ stood.before.children ∷ []) own.1 ∙ ap (λ (a : Activation L). path ++ a.children ∷ []) same in
            let first = spawns_child G plan path k stood.before stood.stands made.0 made.1 stood.store made.2 in
            let one = stands-one G plan (path ++ top.children ∷ []) 0 made.1 child (subst (λ p. StandsAt G plan p 0 made.1) child-path first) begins in
            let both = spawn-less path k stood.before made.0 made.1 stood.store made.2 in
            let same_fuel : parent.fuel ≡ made.0.fuel = ap (λ (a : Activation L). a.fuel) made.3 in
            let less : made.0.fuel + child.fuel < stood.before.fuel = subst (λ (a : Activation L). made.0.fuel + a.fuel < stood.before.fuel) one both in
            omega (arith, less, same_fuel)
      ] in
      subst (λ (a : Activation L). parent.fuel + child.fuel < a.fuel) same less
