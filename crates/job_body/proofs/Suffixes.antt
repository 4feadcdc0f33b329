-- The ends of lists from an index on.
use Rattle.std.proofs.Common.{◌≡◌, ◌<◌, ◌≤◌, ◌+◌, get_or, ap, ℕ, zero, suc, List, [], ◌∷◌, drop, length, zip, refl, arith}
use Rattle.std.proofs.lemmas.List.{drop_all}
use native.Mathlib.Numerals.{unary_clauses}
use Rattle.job_reader.specs.declared.line.Line.{Line}
use Rattle.job_body.specs.declared.exit.Exit.{Exit}
use Rattle.job_body.specs.Blocks.{exit_at, exits, first_exit}
use Rattle.job_body.specs.Compiled.{exits_from, exits_of}

pub zip_nil : {A B : Type 0} (xs : List A) (ys : List B) → ys ≡ [] → zip xs ys ≡ []
zip_nil [] ys h = refl
zip_nil (x ∷ xs) [] h = refl
zip_nil (x ∷ xs) (y ∷ ys) h = absurd (cc)

-- past the end of the second of two lists there are no pairs
pub zip_past : {A B : Type 0} (xs : List A) (ys : List B) (i : ℕ) → length ys ≤ i → zip (drop i xs) (drop i ys) ≡ []
zip_past xs ys i h = zip_nil (drop i xs) (drop i ys) (drop_all i ys h)

-- ---- the exits of lines

pub length_exits : (end i : ℕ) (lines : List Line) → length (exits_from end i lines) ≡ length lines
length_exits end i [] = refl
length_exits end i (line ∷ lines) = ap suc (length_exits end (i + 1) lines)

exit_from : (end j i k : ℕ) (lines : List Line) (x : Exit) → k ≡ j + i → i < length lines → get_or (exits_from end j lines) i x ≡ first_exit end (exits (k + 1) (drop (i + 1) lines))
exit_from end j i k [] x e h = absurd (omega arith)
exit_from end j zero k (line ∷ lines) x e h = let same : k ≡ j = omega arith in rw same refl
exit_from end j (suc i) k (line ∷ lines) x e h =
    let before : get_or (exits_from end (j + 1) lines) i x ≡ first_exit end (exits (k + 1) (drop (i + 1) lines)) = exit_from end (j + 1) i k lines x (omega arith) (omega arith) in
    simp unary_clauses (simp unary_clauses at before)

pub exit_is : (lines : List Line) (i : ℕ) (x : Exit) → i < length lines → get_or (exits_of lines) i x ≡ exit_at lines i
exit_is lines i x h = exit_from (length lines) 0 i i lines x (omega arith) h
