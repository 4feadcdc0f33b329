-- Bytes at the front of the first of a text's pieces; and the first line of a text, which is what stands before its first line feed.
use Rattle.std.proofs.Common.{◌≡◌, ℕ, suc, ◌+◌, ◌<◌, ◌≤◌, true, false, not, ◌==◌, eqb, cond, List, [], ◌∷◌, ◌++◌, length, take, drop, refl, ap, ◌∙◌, arith, add-one, Some}
use Rattle.std.proofs.lemmas.Bool.{and_parts, cond-false, not-true}
use Rattle.std.proofs.lemmas.Grind.{common_steps}
use Rattle.std.specs.List.{list_all, prefix_len}
use Rattle.swan_model.specs.declared.lines.LinesAnswer.TheVariants as answer
use Rattle.swan_model.specs.declared.lines.TheConstants.{LINES_MOST}
use Rattle.swan_model.specs.Lines.{lines, in_front, refusal_from}

-- the pieces with more bytes at the front of the first
abbrev pub with_front : List ℕ → List (List ℕ) → List (List ℕ)
with_front front [] = front ∷ []
with_front front (piece ∷ pieces) = (front ++ piece) ∷ pieces

pub in_front_of : (byte : ℕ) (front : List ℕ) (pieces : List (List ℕ)) → in_front byte (with_front front pieces) ≡ with_front (byte ∷ front) pieces
in_front_of byte front [] = refl
in_front_of byte front (piece ∷ pieces) = refl

abbrev pub first_len : List ℕ → ℕ
first_len bytes = prefix_len (λ byte. not (eqb byte 10)) bytes

-- one byte more before the first line
more_before : (byte : ℕ) (bytes : List ℕ) (n : ℕ) → lines bytes ≡ take n bytes ∷ lines (drop (n + 1) bytes) → in_front byte (lines bytes) ≡ take (1 + n) (byte ∷ bytes) ∷ lines (drop (1 + n + 1) (byte ∷ bytes))
more_before byte bytes n first =
    let one : 1 + n ≡ suc n = omega arith in
    rw (one, add-one, first, add-one) refl

-- the first line of a text that isn't empty, and the rest
pub lines_front : (bytes : List ℕ) → 0 < length bytes → lines bytes ≡ take (first_len bytes) bytes ∷ lines (drop (first_len bytes + 1) bytes)
lines_front [] some = absurd (omega arith)
lines_front (byte ∷ []) some =
    elim (eqb byte 10) as (λ b. cond b ([] ∷ []) ((byte ∷ []) ∷ []) ≡ take (cond (not b) 1 0) (byte ∷ []) ∷ lines (drop (cond (not b) 1 0 + 1) (byte ∷ []))) [ true ↦ refl | false ↦ refl ]
lines_front (byte ∷ (next ∷ bytes)) some =
    let later : lines (next ∷ bytes) ≡ take (first_len (next ∷ bytes)) (next ∷ bytes) ∷ lines (drop (first_len (next ∷ bytes) + 1) (next ∷ bytes)) = lines_front (next ∷ bytes) (omega arith) in
    elim (eqb byte 10) as (λ b. cond b ([] ∷ lines (next ∷ bytes)) (in_front byte (lines (next ∷ bytes))) ≡ take (cond (not b) (1 + first_len (next ∷ bytes)) 0) (byte ∷ (next ∷ bytes)) ∷ lines (drop (cond (not b) (1 + first_len (next ∷ bytes)) 0 + 1) (byte ∷ (next ∷ bytes)))) [
      | true ↦ refl
      | false ↦ more_before byte (next ∷ bytes) (first_len (next ∷ bytes)) later
    ]

-- a line without a line feed ends at the next one
pub line_ended : (line rest : List ℕ) → list_all (λ byte. not (byte == 10)) line ≡ true → lines (line ++ 10 ∷ rest) ≡ line ∷ lines rest
line_ended [] rest none = refl
line_ended (byte ∷ line) rest none =
    let parts = and_parts (not (byte == 10)) (list_all (λ b. not (b == 10)) line) none in
    cond-false (byte == 10) ([] ∷ lines (line ++ 10 ∷ rest)) (in_front byte (lines (line ++ 10 ∷ rest))) (not-true (byte == 10) parts.0)
    ∙ ap (in_front byte) (line_ended line rest parts.1)

-- a line where there may be none is one too many
pub too_many : (before : ℕ) (bytes : List ℕ) → 0 < length bytes → LINES_MOST ≤ before → refusal_from before (lines bytes) ≡ Some answer.TooMany
too_many before bytes some most = rw (lines_front bytes some) (grind (arith, common_steps))
