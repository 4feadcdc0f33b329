-- Fields and netstrings. The fields of a line are the pieces between its TAB bytes, so the empty line has one empty
-- field.
use Rattle.std.specs.Prelude.{ℕ, ◌==◌, List, [], ◌∷◌, ◌++◌, length, flat_map}
use Rattle.std.specs.Fmt.{decimal}
use Rattle.line_blocks.specs.Pieces.{pieces}

abbrev pub fields : List ℕ → List (List ℕ)
fields line = pieces (λ byte. byte == 9) line

-- the length of the field in decimal, a colon, the field and a comma
abbrev pub netstring : List ℕ → List ℕ
netstring field = decimal (length field) ++ (58 ∷ field) ++ 44 ∷ []

-- the netstrings of the fields, joined
abbrev pub netstrings : List ℕ → List ℕ
netstrings line = flat_map netstring (fields line)
