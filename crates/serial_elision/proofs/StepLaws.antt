-- What each step of the elision does to the state and to its faults.
use Rattle.std.proofs.Common.{◌≡◌, ℕ, ◌+◌, List, [], ◌∷◌, inl, inr, refl, ap, add-one}
use Rattle.swan_model.specs.declared.body.Body.{Ghosts}
use Rattle.swan_model.specs.declared.plan.Plan.{Plan}
use Rattle.swan_model.specs.Elision.{serial}
use Rattle.swan_model.specs.SerialState.{Activation, State}
use Rattle.swan_model.specs.SerialStep.{Effect, goes_on, spawns, ends, faults, state_after, step, step_on, effect_of}
use Rattle.serial_elision.specs.Laws.{EndsWhereItFaults}

module _ {B L : Type 0} (G : Ghosts B L) where
  pub serial_add_one : (plan : Plan B L) (n : ℕ) → serial G plan (n + 1) ≡ step G plan.body (serial G plan n)
  serial_add_one plan n = ap (serial G plan) (add-one n)

  -- an effect that is a fault ends the activation whose step it was
  after-faults : (body : B) (s : State L) (top : Activation L) (below : List (Activation L)) (done : Effect L) → s.stack ≡ top ∷ below → EndsWhereItFaults G body s (state_after s below top.path (G.place_of body top.local) done)
  after-faults body s top below (goes_on a store) is = inl refl
  after-faults body s top below (spawns parent child store) is = inl refl
  after-faults body s top below ends is = inl refl
  after-faults body s top below (faults kind) is =
      inr (record { top = top; below = below; counted = refl; fault = record { path = top.path; place = G.place_of body top.local; kind = kind }; ended = is; path = refl; place = refl; booked = refl; store = refl })

  step_on-faults : (body : B) (s : State L) (stack : List (Activation L)) → s.stack ≡ stack → EndsWhereItFaults G body s (step_on G body s stack)
  step_on-faults body s [] is = inl refl
  step_on-faults body s (top ∷ below) is = after-faults body s top below (effect_of G body s.steps s.store top) is

  pub serial-faults : (plan : Plan B L) (n : ℕ) → EndsWhereItFaults G plan.body (serial G plan n) (serial G plan (n + 1))
  serial-faults plan n =
      rw add-one (step_on-faults plan.body (serial G plan n) (serial G plan n).stack refl)
