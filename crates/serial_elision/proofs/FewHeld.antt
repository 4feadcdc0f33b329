-- How many children and places a task can have: each costs it a unit of fuel.
use Rattle.std.proofs.Common.{◌≡◌, ◌⊎◌, inl, inr, ℕ, zero, suc, ◌+◌, ◌-◌, ◌≤◌, ◌<◌, Bool, true, false, nat_eq, cond, List, [], ◌∷◌, Option, Some, None, length, refl, sym, ap, subst, arith, rules, tests, length-append}
use Rattle.std.proofs.lemmas.Option.{same_Some}
use Rattle.swan_model.specs.declared.body.Ask.{Ask}
use Rattle.swan_model.specs.declared.body.Body.{Ghosts}
use Rattle.swan_model.specs.declared.fault.FaultKind.TheVariants as kind
use Rattle.swan_model.specs.declared.plan.Plan.{Plan}
use Rattle.swan_model.specs.declared.rights.Give.{Give}
use Rattle.swan_model.specs.declared.script.Deed.{Deed}
use Rattle.swan_model.specs.Elision.{serial}
use Rattle.swan_model.specs.SerialState.{Activation, Holding, State, Store}
use Rattle.swan_model.specs.SerialStep.{Effect, goes_on, spawns, ends, faults, state_after, with_failed, effect, effect_of, given, given_also, after_next, number_at, step_on}
use Rattle.swan_model.specs.TrueFrames.{StandsAt, state_at}
use Rattle.swan_model.specs.SerialTime.{time}
use Rattle.swan_model.specs.Script.{script}
use Rattle.serial_elision.proofs.Ends.{IsWithinFuel, effect-within}
use Rattle.serial_elision.proofs.Granting.{Grants, IsMadeByStep}
use Rattle.serial_elision.proofs.RightsTold.{step-grants}
use Rattle.serial_elision.proofs.Onward.{HasStood, stood-before}
use Rattle.serial_elision.proofs.TaskSteps.{stands-one}
use Rattle.serial_elision.proofs.Turns.{FitsDeed, next_deed, step-fits}

-- an effect leaves less fuel than this
abbrev pub LeavesLess : {L : Type 0} → ℕ → Effect L → Type 0
LeavesLess fuel (goes_on a store) = a.fuel < fuel
LeavesLess fuel (spawns parent child store) = parent.fuel + child.fuel < fuel
LeavesLess fuel ends = Unit {0}
LeavesLess fuel (faults kind) = Unit {0}

leaves-less : {L : Type 0} (fuel : ℕ) (done : Effect L) → 0 < fuel → IsWithinFuel (fuel - 1) done → LeavesLess fuel done
leaves-less fuel (goes_on a store) paid within = omega arith
leaves-less fuel (spawns parent child store) paid within = omega arith
leaves-less fuel ends paid within = tt
leaves-less fuel (faults kind) paid within = tt

asked-less : {L : Type 0} (n : ℕ) (store : Store) (top : Activation L) (said : L × Ask L) (dry : Bool) → nat_eq top.fuel 0 ≡ dry → LeavesLess top.fuel (cond dry (faults kind.Fuel) (effect n store (after_next top said.0) said.1))
asked-less n store top said true is = tt
asked-less n store top said false is =
    let paid : 0 < top.fuel = search (rules, tests) in
    leaves-less top.fuel (effect n store (after_next top said.0) said.1) paid (effect-within n store (after_next top said.0) said.1)

-- so many children go with this fuel
abbrev AreWithin : {L : Type 0} → ℕ → List (Activation L) → Type 0
AreWithin most [] = Unit {0}
AreWithin most (a ∷ below) = (a.children + a.fuel ≤ most) × AreWithin most below

within-failed : {L : Type 0} (most : ℕ) (stack : List (Activation L)) → AreWithin most stack → AreWithin most (with_failed stack)
within-failed most [] are = tt
within-failed most (parent ∷ below) are = are

after-within : {L : Type 0} (most : ℕ) (s : State L) (top : Activation L) (below : List (Activation L)) (place : ℕ) (does : Deed) (done : Effect L) → FitsDeed top does done → LeavesLess top.fuel done
    → AreWithin most (top ∷ below) → AreWithin most (state_after s below top.path place done).stack
after-within most s top below place does (goes_on a store) fits less are = (omega (arith, fits.1, are.0), are.1)
after-within most s top below place does (spawns parent child store) fits less are = (omega (arith, fits.3, are.0), (omega (arith, fits.1, are.0), are.1))
after-within most s top below place does ends fits less are = are.1
after-within most s top below place does (faults kind) fits less are = within-failed most below are.1

module _ {B L : Type 0} (G : Ghosts B L) (plan : Plan B L) where
  pub step-less : (n : ℕ) (store : Store) (top : Activation L) → LeavesLess top.fuel (effect_of G plan.body n store top)
  step-less n store top = asked-less n store top (G.next plan.body top.local top.answer (top.fuel - 1)) (nat_eq top.fuel 0) refl

  within-on : (s : State L) (stack : List (Activation L)) → s.stack ≡ stack → AreWithin plan.fuel stack → AreWithin plan.fuel (step_on G plan.body s stack).stack
  within-on s [] is are = subst (AreWithin plan.fuel) (sym is) are
  within-on s (top ∷ below) is are =
      after-within plan.fuel s top below (G.place_of plan.body top.local) (next_deed G plan.body s.store top) (effect_of G plan.body s.steps s.store top)
      (step-fits G plan.body s.steps s.store top) (step-less s.steps s.store top) are

  within : (n : ℕ) → AreWithin plan.fuel (serial G plan n).stack
  within zero = (omega arith, tt)
  within (suc n) = within-on (serial G plan n) (serial G plan n).stack refl (within n)

  -- each child that a task has spawned has cost a unit of the plan's fuel
  pub few-children : (path : List ℕ) (k : ℕ) (top : Activation L) → StandsAt G plan path k top → top.children + top.fuel ≤ plan.fuel
  few-children path k top at =
      let are : AreWithin plan.fuel (top ∷ at.below) = subst (AreWithin plan.fuel) at.stack (within (time (script G plan) path k)) in
      are.0

  -- ---- places

  placed-less : (n : ℕ) (store : Store) (before top : Activation L) (does : Deed) → (top.holdings ≡ before.holdings) ⊎ IsMadeByStep n does store before.holdings top.holdings → top.fuel < before.fuel
      → length top.holdings + top.fuel ≤ length before.holdings + before.fuel
  placed-less n store before top does (inl same) less = omega (arith, ap length same)
  placed-less n store before top does (inr made) less = omega (arith, ap length made.last, length-append before.holdings (made.holding ∷ []))

  fewer-by : (path : List ℕ) (k : ℕ) (top : Activation L) → HasStood G plan path k top → (before : Activation L) × StandsAt G plan path k before × (length top.holdings + top.fuel ≤ length before.holdings + before.fuel)
  fewer-by path k top stood =
      let t = time (script G plan) path k in
      let s = state_at G plan path k in
      let before = stood.before in
      let grants = step-grants G plan t before stood.stands.below stood.stands.stack in
      let less = step-less s.steps s.store before in
      let does = next_deed G plan.body s.store before in (
        before,
        stood.stands,
        elim stood.effect [
          | inl goes ↦
              let left : LeavesLess before.fuel (goes_on top stood.store) = subst (LeavesLess before.fuel) goes less in
              let given : Grants t s.store before does (goes_on top stood.store) = subst (Grants t s.store before does) goes grants in
              placed-less t stood.store before top does given left
          | inr made ↦
              let left : LeavesLess before.fuel (spawns made.0 made.1 stood.store) = subst (LeavesLess before.fuel) made.2 less in
              let given : Grants t s.store before does (spawns made.0 made.1 stood.store) = subst (Grants t s.store before does) made.2 grants in
              omega (arith, left, ap length given.0, ap (λ (a : Activation L). length a.holdings + a.fuel) made.3)
        ],
      )

  -- each place that a task has got since it began has cost it a unit of its fuel
  pub few-places : (path : List ℕ) (k : ℕ) (first top : Activation L) → StandsAt G plan path 0 first → StandsAt G plan path k top → length top.holdings + top.fuel ≤ length first.holdings + first.fuel
  few-places path zero first top begins at = let same = stands-one G plan path 0 first top begins at in omega (arith, ap (λ (a : Activation L). length a.holdings + a.fuel) same)
  few-places path (suc k) first top begins at =
      let one : suc k ≡ k + 1 = omega arith in
      let by = fewer-by path k top (stood-before G plan path k top (subst (λ n. StandsAt G plan path n top) one at)) in
      omega (arith, by.2, few-places path k first by.0 begins by.1)

-- a child begins with as many places as it is given
also-many : (give : Give) (number : Option ℕ) (rest : Option (List Holding)) (many : ℕ) (hs : List Holding) → ((more : List Holding) → rest ≡ Some more → length more ≡ many) → given_also give number rest ≡ Some hs → length hs ≡ suc many
also-many give None rest many hs each is = absurd (cc)
also-many give (Some n) None many hs each is = absurd (cc)
also-many give (Some n) (Some more) many hs each is = omega (arith, each more refl, ap length (same_Some _ hs is))

pub given-many : (holdings : List Holding) (gives : List Give) (hs : List Holding) → given holdings gives ≡ Some hs → length hs ≡ length gives
given-many holdings [] hs is = sym (ap length (same_Some [] hs is))
given-many holdings (give ∷ gives) hs is = also-many give (number_at holdings give.place give.mode) (given holdings gives) (length gives) hs (λ more rest. given-many holdings gives more rest) is
