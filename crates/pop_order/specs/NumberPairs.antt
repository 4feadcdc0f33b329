-- A set of pairs of numbers.
use Rattle.std.specs.Prelude.{◌≡◌, ℕ, ◌≤◌, Bool, true, false, ◌&&◌, ◌||◌, not, ◌==◌, List}
use Rattle.std.specs.List.{list_any}
use Rattle.std.specs.Ordering.{nat_cmp, ordering_then, is_gt}
use Rattle.std.specs.BTreeMap.{is_at}
use Rattle.std.specs.declared.cmp.Ordering.{Ordering}

abbrev pub NumberPair : Type 0
NumberPair = ℕ × ℕ

-- by the first number, and then by the second
abbrev pub pair_cmp : NumberPair → NumberPair → Ordering
pair_cmp a b = ordering_then (nat_cmp a.0 b.0) (nat_cmp a.1 b.1)

-- a pair isn't after another in that order
unfoldable pub IsPairNotAfter : NumberPair → NumberPair → Type 0
IsPairNotAfter a b = is_gt (pair_cmp a b) ≡ false

-- whether a set has the pair of two numbers
unfoldable pub has_pair : List NumberPair → (first second : ℕ) → Bool
has_pair pairs first second = list_any (is_at (pair_cmp (first, second))) pairs

-- whether two numbers are those of a pair
abbrev pub is_pair : (first second f s : ℕ) → Bool
is_pair first second f s = (first == f) && (second == s)

-- the least number, from a given one on, that a set has behind a first number
pub record IsNext (pairs : List NumberPair) (first from number : ℕ) : Type 0 where
  pub known : has_pair pairs first number ≡ true
  pub from_there : from ≤ number
  pub least : (other : ℕ) → from ≤ other → has_pair pairs first other ≡ true → number ≤ other

-- the set after a pair came in
abbrev pub IsWithPair : List NumberPair → (first second : ℕ) → List NumberPair → Type 0
IsWithPair before first second after = (f s : ℕ) → has_pair after f s ≡ (is_pair first second f s || has_pair before f s)

-- the set after a pair went out
abbrev pub IsWithoutPair : List NumberPair → (first second : ℕ) → List NumberPair → Type 0
IsWithoutPair before first second after = (f s : ℕ) → has_pair after f s ≡ (not (is_pair first second f s) && has_pair before f s)
