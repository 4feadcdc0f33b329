-- The fold of lines by the reducer of sums is exact: it never comes to 128 bits.
use Rattle.std.proofs.Common.{◌≡◌, ℕ, ◌+◌, ◌*◌, ◌^◌, ◌≤◌, ◌<◌, Option, Some, None, List, [], ◌∷◌, length, refl, sym, ap, ◌∙◌, arith}
use Rattle.std.proofs.lemmas.Int.{int_wrap_fits}
use Rattle.std.proofs.Math.IntN.{+ℤ_assoc, +ℤ_idl, +ℤ_idr}
use Rattle.std.specs.Prelude.{ℤ, pos, ◌+ℤ◌, option_map, unsigned_abs}
use Rattle.std.specs.Int.{w128}
use Rattle.swan_model.specs.declared.lines.TheConstants.{LINES_MOST}
use Rattle.job_reader.specs.Atoms.{number}
use Rattle.swan_reducers.specs.contracts.sum_reducer.SumReducerReducer.TheImpl.{ghosts}
use Rattle.swan_reducers.specs.declared.sum_reducer.SumReducer.{SumReducer}
use Rattle.swan_reducers.specs.Fold.{fold_of, joined_from}
use Rattle.swan_reducers.specs.LineFolds.{with_part}
use Rattle.swan_reducers.specs.SumLaws.{sum_back, summed-is}
use Rattle.swan_reducers.specs.Sums.{decimal_text, or_zero, sum_end, sum_part, total}
use Rattle.swan_reducers.proofs.SumBlocks.{abs_add, fits, number_most}

sums_all : (reducer : SumReducer) (z : ℤ) (ls : List (List ℕ)) → unsigned_abs z + length ls * 2 ^ 63 < 2 ^ 127 → joined_from ghosts reducer (sum_part z) ls ≡ sum_part (z +ℤ total ls)
sums_all reducer z [] small = ap sum_part (sym (+ℤ_idr z))
sums_all reducer z (line ∷ ls) small = by_case (number line) refl (λ v. sums_all reducer v ls)
  where
    by_case : (at : Option ℤ) → number line ≡ at → ((v : ℤ) → unsigned_abs v + length ls * 2 ^ 63 < 2 ^ 127 → joined_from ghosts reducer (sum_part v) ls ≡ sum_part (v +ℤ total ls))
        → joined_from ghosts reducer (sum_part z) (line ∷ ls) ≡ sum_part (z +ℤ total (line ∷ ls))
    by_case None is rest =
        ap (λ o. joined_from ghosts reducer (with_part (ghosts.joined reducer) (sum_part z) (option_map sum_part o)) ls) is
        ∙ rest z (omega (arith, small))
        ∙ ap (λ t. sum_part (z +ℤ t)) (sym (ap (λ o. or_zero o +ℤ total ls) is ∙ +ℤ_idl (total ls)))
    by_case (Some n) is rest =
        let most = number_most line n is in
        let sum_most = abs_add z n in
        let wraps_not = int_wrap_fits w128 (z +ℤ n) (fits (z +ℤ n) (omega (arith, sum_most, most, small))) in
        ap (λ o. joined_from ghosts reducer (with_part (ghosts.joined reducer) (sum_part z) (option_map sum_part o)) ls) is
        ∙ ap (λ v. joined_from ghosts reducer v ls) (summed-is z n (fits z (omega (arith, small))) (fits n (omega (arith, most))) ∙ ap sum_part wraps_not)
        ∙ rest (z +ℤ n) (omega (arith, sum_most, most, small))
        ∙ ap sum_part (+ℤ_assoc z n (total ls))
        ∙ ap (λ t. sum_part (z +ℤ t)) (sym (ap (λ o. or_zero o +ℤ total ls) is))

total_most : (ls : List (List ℕ)) → unsigned_abs (total ls) ≤ length ls * 2 ^ 63
total_most [] = omega arith
total_most (line ∷ ls) = by_case (number line) refl (total_most ls)
  where
    by_case : (at : Option ℤ) → number line ≡ at → unsigned_abs (total ls) ≤ length ls * 2 ^ 63 → unsigned_abs (or_zero at +ℤ total ls) ≤ length (line ∷ ls) * 2 ^ 63
    by_case None is rest = omega (arith, ap unsigned_abs (+ℤ_idl (total ls)), rest)
    by_case (Some n) is rest = omega (arith, abs_add n (total ls), number_most line n is, rest)

pub sums_are_exact : (reducer : SumReducer) (ls : List (List ℕ)) → length ls ≤ LINES_MOST → sum_end (fold_of ghosts reducer ls) ≡ decimal_text (total ls)
sums_are_exact reducer ls few =
    ap sum_end (sums_all reducer (pos 0) ls (omega (arith, few)) ∙ ap sum_part (+ℤ_idl (total ls)))
    ∙ ap decimal_text (sum_back (total ls) (fits (total ls) (omega (arith, total_most ls, few))))
