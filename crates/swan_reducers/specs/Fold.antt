-- The fold of lines by a reducer. A line without a part is a bad one, and left out.
use Rattle.std.specs.Prelude.{ℕ, ◌+◌, ◌==◌, Option, Some, None, if◌then◌else◌, List, [], ◌∷◌, ◌++◌, length}
use Rattle.swan_model.specs.declared.fault.Fault.{Fault}
use Rattle.swan_model.specs.declared.fault.FaultKind.TheVariants as kind
use Rattle.swan_model.specs.declared.fault.Trouble.TheVariants.{BadNumber}
use Rattle.line_blocks.specs.declared.line_block.TheConstants.{BLOCK_LINES}
use Rattle.swan_reducers.specs.declared.reducer.Reducer.{Ghosts}
use Rattle.swan_reducers.specs.LineFolds.{joined_lines, unless_part}

-- the lines in blocks, where these are held already: each has BLOCK_LINES lines, and the last one what is left
abbrev pub last_block : {X : Type 0} → List X → List (List X)
last_block [] = []
last_block (line ∷ lines) = (line ∷ lines) ∷ []

abbrev pub in_blocks : {X : Type 0} → List X → List X → List (List X)
in_blocks held [] = last_block held
in_blocks held (line ∷ lines) =
    if length held + 1 == BLOCK_LINES then (held ++ line ∷ []) ∷ in_blocks [] lines else in_blocks (held ++ line ∷ []) lines

-- the fault of a block's task, where the block has a bad line
abbrev pub bad_line : List ℕ → Option ℕ → List Fault
bad_line path None = []
bad_line path (Some number) = (record { path = path; place = number; kind = kind.Trouble BadNumber }) ∷ []

module _ {R : Type 0} (G : Ghosts R) (reducer : R) where
  -- the join, from the left, of a part and the parts of lines
  abbrev pub joined_from : List ℕ → List (List ℕ) → List ℕ
  joined_from = joined_lines (G.part_of reducer) (G.joined reducer)

  -- the fold of lines
  abbrev pub fold_of : List (List ℕ) → List ℕ
  fold_of lines = joined_from (G.zero_part reducer) lines

  -- the number of the first bad line, where the first line has this number
  abbrev pub first_bad : ℕ → List (List ℕ) → Option ℕ
  first_bad number [] = None
  first_bad number (line ∷ lines) = unless_part (G.part_of reducer line) number (first_bad (number + 1) lines)

  -- one fault for each block with a bad line, where the first block's task is this child, and so many lines stand before
  abbrev pub bad_blocks : ℕ → ℕ → List (List (List ℕ)) → List Fault
  bad_blocks child before [] = []
  bad_blocks child before (block ∷ blocks) = bad_line (child ∷ []) (first_bad (before + 1) block) ++ bad_blocks (child + 1) (before + length block) blocks
