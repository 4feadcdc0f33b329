-- The bytes of lines, line by line.
use Rattle.std.proofs.Common.{◌≡◌, ℕ, zero, suc, ◌+◌, List, [], ◌∷◌, ◌++◌, take, refl, arith, add-one}
use Rattle.std.specs.Prelude.{slice_get}
use Rattle.swan_model.specs.declared.value.Value.{Value}
use Rattle.line_blocks.specs.LineBlocks.{byte_count, line_len}

count_suc : (lines : List Value) (i : ℕ) → byte_count (take (suc i) lines) ≡ byte_count (take i lines) + line_len (slice_get lines i)
count_suc [] zero = refl
count_suc [] (suc i) = refl
count_suc (line ∷ lines) zero = omega arith
count_suc (line ∷ lines) (suc i) = omega (arith, count_suc lines i)

pub count_next : (lines : List Value) (i : ℕ) → byte_count (take (i + 1) lines) ≡ byte_count (take i lines) + line_len (slice_get lines i)
count_next lines i = rw (add-one) (count_suc lines i)

-- the bytes of lines in two pieces
pub count-append : (xs ys : List Value) → byte_count (xs ++ ys) ≡ byte_count xs + byte_count ys
count-append [] ys = omega arith
count-append (x ∷ xs) ys = omega (arith, count-append xs ys)
