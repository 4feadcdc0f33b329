-- When a run of the elision has come to its final state.
use Rattle.std.proofs.Common.{◌≡◌, ℕ, ◌+◌, ◌-◌, ◌≤◌, inl, inr, [], sym, ap, ◌∙◌, arith}
use Rattle.std.proofs.lemmas.Bool.{cases_lt}
use Rattle.swan_model.specs.declared.body.Body.{Ghosts}
use Rattle.swan_model.specs.declared.plan.Plan.{Plan}
use Rattle.swan_model.specs.Elision.{serial, final, most_steps}
use Rattle.serial_elision.proofs.Ends.{serial_ends}
use Rattle.serial_elision.proofs.Runs.{le-serial, final-over, serial-over}

module _ {B L : Type 0} (G : Ghosts B L) where
  -- past the most steps the state is the final one
  pub final-past : (plan : Plan B L) (n : ℕ) → most_steps plan ≤ n → serial G plan n ≡ final G plan
  final-past plan n past =
      let most = most_steps plan in
      let e : most + (n - most) ≡ n = omega arith in
      ap (serial G plan) (sym e) ∙ serial-over G plan most (n - most) (serial_ends G plan)

  -- and so it is as soon as no activation is left
  pub final-empty : (plan : Plan B L) (n : ℕ) → (serial G plan n).stack ≡ [] → serial G plan n ≡ final G plan
  final-empty plan n over = elim (cases_lt n (most_steps plan)) [
    | inl less ↦ final-over G plan n (omega arith) over
    | inr past ↦ final-past plan n past
  ]

  -- no state counts more than the most steps
  pub le-most : (plan : Plan B L) (n : ℕ) → (serial G plan n).steps ≤ most_steps plan
  le-most plan n = elim (cases_lt n (most_steps plan)) [
    | inl less ↦ omega (arith, le-serial G plan n)
    | inr past ↦ omega (arith, le-serial G plan (most_steps plan), ap (λ s. s.steps) (final-past plan n past))
  ]
