-- The fold of lines, by the part of each line and the join of two parts. A line without a part is a bad one, and left out.
use Rattle.std.specs.Prelude.{ℕ, Option, Some, None, List, [], ◌∷◌}
use Rattle.line_blocks.specs.LineBlocks.{later}

-- with one more part, where there is one
abbrev pub with_part : (List ℕ → List ℕ → List ℕ) → List ℕ → Option (List ℕ) → List ℕ
with_part join whole None = whole
with_part join whole (Some part) = join whole part

-- the join, from the left, of a part and the parts of lines
abbrev pub joined_lines : (List ℕ → Option (List ℕ)) → (List ℕ → List ℕ → List ℕ) → List ℕ → List (List ℕ) → List ℕ
joined_lines part_of join whole [] = whole
joined_lines part_of join whole (line ∷ lines) = joined_lines part_of join (with_part join whole (part_of line)) lines

-- the number of a line without a part, and else that of a later line
abbrev pub unless_part : Option (List ℕ) → ℕ → Option ℕ → Option ℕ
unless_part None number others = Some number
unless_part (Some part) number others = others

-- the number of the first bad line of a block, the first line of which has this number
abbrev pub bad_number : (List ℕ → Option (List ℕ)) → ℕ → List (List ℕ) → Option ℕ
bad_number part_of number [] = None
bad_number part_of number (line ∷ lines) = unless_part (part_of line) number (bad_number part_of (later number 1) lines)
