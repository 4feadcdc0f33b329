-- Lines that aren't refused are few enough for a queue.
use Rattle.std.proofs.Common.{◌≡◌, ◌≤◌, ◌<◌, ℕ, ◌+◌, Bool, true, false, nat_le, nat_lt, Some, None, List, [], ◌∷◌, length, if◌then◌else◌, refl, arith}
use Rattle.std.proofs.lemmas.Bool.Decides.{nat_tests}
use Rattle.swan_model.specs.declared.record.TheConstants.{RECORD_MOST}
use Rattle.swan_model.specs.Lines.{refusal_from}
use Rattle.swan_model.specs.declared.lines.LinesAnswer.TheVariants.{TooLong, TooMany}
use Rattle.swan_model.specs.declared.lines.TheConstants.{LINES_MOST}

few_more : (before : ℕ) (line : List ℕ) (lines : List (List ℕ)) (is_past is_long : Bool)
    → is_past ≡ nat_le LINES_MOST before
    → (before + 1 ≤ LINES_MOST → refusal_from (before + 1) lines ≡ None → before + 1 + length lines ≤ LINES_MOST)
    → (if is_past then Some TooMany else (if is_long then Some (TooLong (before + 1)) else refusal_from (before + 1) lines)) ≡ None
    → before + length (line ∷ lines) ≤ LINES_MOST
few_more before line lines true is_long e rest h = absurd (cc)
few_more before line lines false true e rest h = absurd (cc)
few_more before line lines false false e rest h =
    let below : before < LINES_MOST = grind (arith, nat_tests, e) in
    omega (arith, rest (omega arith) h)

pub few_lines : (before : ℕ) (lines : List (List ℕ)) → before ≤ LINES_MOST → refusal_from before lines ≡ None → before + length lines ≤ LINES_MOST
few_lines before [] few h = omega arith
few_lines before (line ∷ lines) few h =
    few_more before line lines (nat_le LINES_MOST before) (nat_lt RECORD_MOST (length line)) refl (few_lines (before + 1) lines) h
