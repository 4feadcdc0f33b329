-- The first step from a line on is the one that the table has for it.
use Rattle.std.proofs.Common.{◌≡◌, ◌+◌, ◌<◌, ◌≤◌, get_or, ap, ℕ, zero, suc, List, [], ◌∷◌, drop, length, refl, arith}
use Rattle.std.proofs.lemmas.List.{drop_all}
use native.Mathlib.Numerals.{unary_clauses}
use Rattle.job_reader.specs.declared.line.Line.{Line}
use Rattle.job_body.specs.Firsts.{firsts_from, firsts_of}
use Rattle.job_body.specs.Tasks.{executed_from, passed_over}

length_from : (j : ℕ) (lines : List Line) → length (firsts_from j lines) ≡ length lines
length_from j [] = refl
length_from j (line ∷ lines) = ap suc (length_from (j + 1) lines)

pub length_firsts : (lines : List Line) → length (firsts_of lines) ≡ length lines
length_firsts lines = length_from 0 lines

first_from : (j i k x : ℕ) (lines : List Line) → k ≡ j + i → i < length lines → get_or (firsts_from j lines) i x ≡ k + passed_over (drop i lines)
first_from j i k x [] e h = absurd (omega arith)
first_from j zero k x (line ∷ lines) e h = let same : k ≡ j = omega arith in rw same refl
first_from j (suc i) k x (line ∷ lines) e h = simp unary_clauses (simp unary_clauses at (first_from (j + 1) i k x lines (omega arith) (omega arith)))

pub first_is : (lines : List Line) (i x : ℕ) → i < length lines → get_or (firsts_of lines) i x ≡ executed_from lines i
first_is lines i x h = first_from 0 i i x lines (omega arith) h

pub none_is : (lines : List Line) (i : ℕ) → length lines ≤ i → i ≡ executed_from lines i
none_is lines i h = let past : drop i lines ≡ [] = drop_all i lines h in rw past (omega arith)
