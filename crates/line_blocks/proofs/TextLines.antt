-- How many lines a text has, and how many bytes they have.
use Rattle.std.proofs.Common.{◌≡◌, ℕ, ◌+◌, ◌≤◌, Bool, true, false, cond, nat_eq, List, [], ◌∷◌, length, map, arith}
use Rattle.swan_model.specs.declared.value.Value.TheVariants.{Bytes}
use Rattle.swan_model.specs.Lines.{lines, in_front}
use Rattle.line_blocks.specs.LineBlocks.{byte_count}

one_before : (byte : ℕ) (ls : List (List ℕ)) → length (in_front byte ls) ≤ 1 + length ls
one_before byte [] = omega arith
one_before byte (line ∷ ls) = omega arith

-- no text has more lines than bytes
pub few_lines : (text : List ℕ) → length (lines text) ≤ length text
few_lines [] = omega arith
few_lines (byte ∷ text) = by_case (nat_eq byte 10) (few_lines text)
  where
    by_case : (b : Bool) → length (lines text) ≤ length text → length (cond b ([] ∷ lines text) (in_front byte (lines text))) ≤ length (byte ∷ text)
    by_case true rest = omega arith
    by_case false rest = omega (arith, one_before byte (lines text))

bytes_before : (byte : ℕ) (ls : List (List ℕ)) → byte_count (map Bytes (in_front byte ls)) ≡ 1 + byte_count (map Bytes ls)
bytes_before byte [] = omega arith
bytes_before byte (line ∷ ls) = omega arith

-- and its lines have no more bytes than it has
pub few_bytes : (text : List ℕ) → byte_count (map Bytes (lines text)) ≤ length text
few_bytes [] = omega arith
few_bytes (byte ∷ text) = by_case (nat_eq byte 10) (few_bytes text)
  where
    by_case : (b : Bool) → byte_count (map Bytes (lines text)) ≤ length text → byte_count (map Bytes (cond b ([] ∷ lines text) (in_front byte (lines text)))) ≤ length (byte ∷ text)
    by_case true rest = omega arith
    by_case false rest = omega (arith, bytes_before byte (lines text))
