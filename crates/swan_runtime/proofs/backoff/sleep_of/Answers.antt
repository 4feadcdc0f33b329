use Rattle.std.proofs.Common.{◌≡◌, ℕ, ◌*◌, ◌%◌, ◌^◌, ◌<◌, ◌≤◌, min, ap, inl, inr, nat_lt, rules, tests, ◌∙◌, arith}
use Rattle.std.proofs.Math.Pow.{pow_mono}
use Rattle.std.proofs.lemmas.Bool.{cases_Bool}
use Rattle.swan_runtime.proofs.backoff.sleep_of.Goals as goal

doubled : (k m : ℕ) → m ≡ min k 6 → 50 * 2 ^ m % 18446744073709551616 ≡ min (50 * 2 ^ k) 3200
doubled k m is = elim (cases_Bool (nat_lt k 6)) [
  | inl few ↦
      let below : k < 6 = search (rules, tests) in
      let less : 2 ^ k ≤ 2 ^ 6 = pow_mono {i = k} {j = 6} (omega arith) in
      let same : m ≡ k = omega arith in
      ap (λ n. 50 * 2 ^ n % 18446744073709551616) same ∙ grind (arith, less)
  | inr many ↦
      let above : 6 ≤ k = search (rules, tests) in
      let most : 2 ^ 6 ≤ 2 ^ k = pow_mono above in
      let six : m ≡ 6 = omega arith in
      ap (λ n. 50 * 2 ^ n % 18446744073709551616) six ∙ omega (arith, most)
]

pub returns : goal.returns
returns c = doubled c.args.sleeps c.min.result c.min.ensures
