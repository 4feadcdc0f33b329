-- Lines in a row.
use Rattle.std.specs.Prelude.{ℕ, ◌+◌, min, Option, Some, None, List, [], ◌∷◌, ◌++◌, length}
use Rattle.swan_model.specs.declared.value.Value.{Value}
use Rattle.swan_model.specs.Values.{bytes_of, COUNT_MOST}

-- lines in a row, and the number of the first of them
pub record Lines : Type 0 where
  pub number : ℕ
  pub lines : List Value

-- before the first line, which has the number 1
abbrev pub no_lines : Lines
no_lines = record { number = 1; lines = [] }

-- The number of the line that comes so many lines later. No number passes COUNT_MOST, the largest of 64 bits.
abbrev pub later : ℕ → ℕ → ℕ
later number count = min (number + count) COUNT_MOST

-- these lines and one more
abbrev pub with_line : Lines → Value → Lines
with_line held line = record held { lines = held.lines ++ line ∷ [] }

-- before the line that comes after these
abbrev pub after_lines : Lines → Lines
after_lines held = record { number = later held.number (length held.lines); lines = [] }

-- how many bytes a line has, where there is one
abbrev pub line_len : Option Value → ℕ
line_len None = 0
line_len (Some line) = length (bytes_of line)

-- how many bytes lines have
abbrev pub byte_count : List Value → ℕ
byte_count [] = 0
byte_count (line ∷ lines) = length (bytes_of line) + byte_count lines
