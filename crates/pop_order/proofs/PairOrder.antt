-- The order of pairs of numbers.
use Rattle.std.proofs.Common.{◌≡◌, ℕ, ◌≤◌, Bool, true, false, ◌&&◌, ◌||◌, not, cond, arith}
use Rattle.std.specs.Ordering.{is_gt, is_eq}
use Rattle.std.proofs.lemmas.Bool.Decides.{nat_tests}
use Rattle.pop_order.specs.NumberPairs.{NumberPair, pair_cmp, IsPairNotAfter, is_pair}
use Rattle.pop_order.proofs.Entries.{with_one, without_one}

is_eq-pair_cmp : (first second f s : ℕ) → is_eq (pair_cmp (first, second) (f, s)) ≡ is_pair first second f s
is_eq-pair_cmp first second f s = grind (arith, nat_tests)

-- what is in after a pair came in
pub inserted : (first second f s : ℕ) (was now : Bool) → now ≡ cond (is_eq (pair_cmp (first, second) (f, s))) true was → now ≡ (is_pair first second f s || was)
inserted first second f s was now h = with_one _ _ was now (is_eq-pair_cmp first second f s) h

-- what is in after a pair went out
pub removed : (first second f s : ℕ) (was now : Bool) → now ≡ cond (is_eq (pair_cmp (first, second) (f, s))) false was → now ≡ (not (is_pair first second f s) && was)
removed first second f s was now h = without_one _ _ was now (is_eq-pair_cmp first second f s) h

-- a pair that stands between two of one first number has it too
pub between : (e : NumberPair) (first from number : ℕ) → IsPairNotAfter (first, from) e → IsPairNotAfter e (first, number) → (e.0 ≡ first) × (from ≤ e.1) × (e.1 ≤ number)
unfolding IsPairNotAfter
between e first from number low high = (grind (arith, nat_tests), grind (arith, nat_tests), grind (arith, nat_tests))

pub not_before : (e : NumberPair) (first from : ℕ) → e.0 ≡ first → IsPairNotAfter (first, from) e → from ≤ e.1
unfolding IsPairNotAfter
not_before e first from same low = grind (arith, nat_tests)

pub from_number : (first from number : ℕ) → from ≤ number → is_gt (pair_cmp (first, from) (first, number)) ≡ false
from_number first from number le = grind (arith, nat_tests)

pub ruleset of_one_first = (between, not_before)
