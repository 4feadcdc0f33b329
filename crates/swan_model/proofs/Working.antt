-- Steps of work in a row, one step more.
use Rattle.std.proofs.Common.{◌≡◌, ℕ, suc, ◌+◌, ◌-◌, ◌∙◌, ap, sym, subst, refl, arith}
use Rattle.swan_model.specs.declared.body.Answer.{Answer}
use Rattle.swan_model.specs.declared.body.Answer.TheVariants as answer
use Rattle.swan_model.specs.declared.body.Ask.{Ask}
use Rattle.swan_model.specs.declared.body.Ask.TheVariants as ask
use Rattle.swan_model.specs.Work.{ask_after, AreWork, local_after, told_after}

module _ {L : Type 0} (next : L → Answer → ℕ → L × Ask L) where
  -- a task that has taken n steps of work in a row: where it is, and what its next step is told
  pub record HasWorked (local : L) (first : Answer) (fuel n : ℕ) (now : L) (told : Answer) : Type 0 where
    pub works : AreWork next local first fuel n
    pub is_now : now ≡ local_after next local first fuel n
    pub is_told : told ≡ told_after first n

  -- what its next step leaves and asks for
  pub stepped : (local : L) (first : Answer) (fuel n : ℕ) (now : L) (told : Answer) (moved : L) (asks : Ask L) → HasWorked local first fuel n now told → (moved, asks) ≡ next now told (fuel - n - 1) → (moved ≡ local_after next local first fuel (suc n)) × (asks ≡ ask_after next local first fuel n)
  stepped local first fuel n now told moved asks so is =
      let left = fuel - n - 1 in
      let step = is ∙ ap (λ l. next l told left) so.is_now ∙ ap (λ a. next (local_after next local first fuel n) a left) so.is_told in
      (ap (λ r. r.0) step, ap (λ r. r.1) step)

  pub one-more : (local : L) (first : Answer) (fuel n : ℕ) (now : L) (told : Answer) (moved : L) (asks : Ask L) → HasWorked local first fuel n now told → (moved, asks) ≡ next now told (fuel - n - 1) → asks ≡ ask.Work → HasWorked local first fuel (n + 1) moved answer.Nothing
  one-more local first fuel n now told moved asks so is work =
      let both = stepped local first fuel n now told moved asks so is in
      let e : suc n ≡ n + 1 = omega arith in
      let more : HasWorked local first fuel (suc n) moved answer.Nothing = record { works = (so.works, sym both.1 ∙ work); is_now = both.0; is_told = refl } in
      subst (λ k. HasWorked local first fuel k moved answer.Nothing) e more
