-- A script has one entry for each step of the elision, at the step's place.
use Rattle.std.proofs.Common.{◌≡◌, ℕ, zero, suc, ◌+◌, ◌-◌, ◌<◌, ◌≤◌, List, [], ◌∷◌, ◌++◌, ◌⊎◌, inl, inr, length, Option, Some, None, refl, sym, ap, ◌∙◌, arith, length-append}
use Rattle.std.proofs.lemmas.Bool.{cases_lt}
use Rattle.std.proofs.lemmas.Option.{slice_get_past}
use Rattle.std.specs.Prelude.{slice_get}
use Rattle.swan_model.specs.declared.body.Body.{Ghosts}
use Rattle.swan_model.specs.declared.plan.Plan.{Plan}
use Rattle.swan_model.specs.declared.script.Entry.{Entry}
use Rattle.swan_model.specs.Elision.{serial, final, most_steps}
use Rattle.swan_model.specs.Script.{entry_of, entry_on, next_entry, with_entry, entries, script}
use Rattle.swan_model.specs.SerialState.{Activation, State}
use Rattle.swan_model.specs.SerialStep.{step_on, effect_of}
use Rattle.swan_model.proofs.Elements.{last_more}
use Rattle.swan_model.proofs.Lists.{get-before}
use Rattle.serial_elision.proofs.Ends.{serial_ends}
use Rattle.serial_elision.proofs.Runs.{steps-after, serial-over}
use Rattle.serial_elision.proofs.Scripts.{none-over}
use Rattle.swan_model.proofs.ScriptLength.{le-entries, le_script}

-- what stood among the entries stands there still; and one more stands at the end
get-with-before : (es : List Entry) (more : Option Entry) (n : ℕ) → (n < length es) ⊎ (more ≡ None) → slice_get (with_entry es more) n ≡ slice_get es n
get-with-before es None n either = refl
get-with-before es (Some entry) n (inl within) = get-before es (entry ∷ []) n within
get-with-before es (Some entry) n (inr none) = absurd (cc)

get-with-at : (es : List Entry) (more : Option Entry) (n : ℕ) → length es ≤ n → (length es ≡ n) ⊎ (more ≡ None) → slice_get (with_entry es more) n ≡ more
get-with-at es None n past either = slice_get_past es n past
get-with-at es (Some entry) n past (inl is) = ap (slice_get (es ++ entry ∷ [])) (sym is) ∙ last_more es entry
get-with-at es (Some entry) n past (inr none) = absurd (cc)

module _ {B L : Type 0} (G : Ghosts B L) where
  length-with_on : (body : B) (s : State L) (stack : List (Activation L)) (es : List Entry) → length es ≡ s.steps → length (with_entry es (entry_on G body s stack)) ≡ (step_on G body s stack).steps
  length-with_on body s [] es is = is
  length-with_on body s (top ∷ below) es is =
      omega (arith, length-append es (entry_of G body s.steps s.store top ∷ []), steps-after s below top.path (G.place_of body top.local) (effect_of G body s.steps s.store top))

  -- there are as many entries as steps
  pub length-entries : (plan : Plan B L) (n : ℕ) → length (entries G plan n) ≡ (serial G plan n).steps
  length-entries plan zero = refl
  length-entries plan (suc n) =
      length-with_on plan.body (serial G plan n) (serial G plan n).stack (entries G plan n) (length-entries plan n)

  steps-on : (body : B) (s : State L) (n : ℕ) (stack : List (Activation L)) → s.stack ≡ stack → (s.steps ≡ n) ⊎ (s.stack ≡ []) → ((step_on G body s stack).steps ≡ suc n) ⊎ ((step_on G body s stack).stack ≡ [])
  steps-on body s n [] is either = inr is
  steps-on body s n (top ∷ below) is (inl same) =
      inl (omega (arith, steps-after s below top.path (G.place_of body top.local) (effect_of G body s.steps s.store top)))
  steps-on body s n (top ∷ below) is (inr over) = absurd (cc)

  -- as long as an activation is left, as many steps were taken as the state counts
  pub steps-exact : (plan : Plan B L) (n : ℕ) → ((serial G plan n).steps ≡ n) ⊎ ((serial G plan n).stack ≡ [])
  steps-exact plan zero = inl refl
  steps-exact plan (suc n) =
      steps-on plan.body (serial G plan n) n (serial G plan n).stack refl (steps-exact plan n)

  entries-exact : (plan : Plan B L) (n : ℕ) → (length (entries G plan n) ≡ n) ⊎ (next_entry G plan.body (serial G plan n) ≡ None)
  entries-exact plan n = elim (steps-exact plan n) [
    | inl is ↦ inl (length-entries plan n ∙ is)
    | inr over ↦ inr (none-over G plan.body (serial G plan n) over)
  ]

  within-or-over : (plan : Plan B L) (n m : ℕ) → n < m → (n < length (entries G plan m)) ⊎ (next_entry G plan.body (serial G plan m) ≡ None)
  within-or-over plan n m less = elim (entries-exact plan m) [
    | inl is ↦ inl (omega arith)
    | inr none ↦ inr none
  ]

  -- the entry of each step stands among the entries of more steps
  get-entries : (plan : Plan B L) (n k : ℕ) → slice_get (entries G plan (suc (n + k))) n ≡ next_entry G plan.body (serial G plan n)
  get-entries plan n zero =
      ap (λ m. slice_get (entries G plan (suc m)) n) (let e : n + 0 ≡ n = omega arith in e)
      ∙ get-with-at (entries G plan n) (next_entry G plan.body (serial G plan n)) n (le-entries G plan n) (entries-exact plan n)
  get-entries plan n (suc k) =
      let m = suc (n + k) in
      ap (λ t. slice_get (entries G plan (suc t)) n) (let e : n + suc k ≡ m = omega arith in e)
      ∙ get-with-before (entries G plan m) (next_entry G plan.body (serial G plan m)) n (within-or-over plan n m (omega arith))
      ∙ get-entries plan n k

  pub over-after : (plan : Plan B L) (n : ℕ) → most_steps plan ≤ n → (serial G plan n).stack ≡ []
  over-after plan n past =
      let most = most_steps plan in
      let e : most + (n - most) ≡ n = omega arith in
      ap (λ m. (serial G plan m).stack) (sym e)
      ∙ ap (λ s. s.stack) (serial-over G plan most (n - most) (serial_ends G plan))
      ∙ serial_ends G plan

  get-either : (plan : Plan B L) (n : ℕ) → (n < most_steps plan) ⊎ (most_steps plan ≤ n) → slice_get (script G plan).entries n ≡ next_entry G plan.body (serial G plan n)
  get-either plan n (inl less) =
      let k = most_steps plan - suc n in
      let e : most_steps plan ≡ suc (n + k) = omega arith in
      ap (λ m. slice_get (entries G plan m) n) e ∙ get-entries plan n k
  get-either plan n (inr past) =
      let length_past : length (script G plan).entries ≤ n = omega (arith, le_script G plan) in
      slice_get_past (script G plan).entries n length_past
      ∙ sym (none-over G plan.body (serial G plan n) (over-after plan n past))

  -- at each place of the script stands the entry of the step that comes then
  pub get_script : (plan : Plan B L) (n : ℕ) → slice_get (script G plan).entries n ≡ next_entry G plan.body (serial G plan n)
  get_script plan n = get-either plan n (cases_lt n (most_steps plan))

  pub length_script : (plan : Plan B L) → length (script G plan).entries ≡ (final G plan).steps
  length_script plan = length-entries plan (most_steps plan)
