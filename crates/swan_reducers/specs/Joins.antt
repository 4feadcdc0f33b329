-- The reducer of joins. A part is the byte 0 and then at most JOIN_MOST bytes, which are what is joined; or it is the byte 1
-- alone, which stands for more bytes than that.
use Rattle.std.specs.Prelude.{ℕ, ◌+◌, ◌==◌, nat_lt, nat_le, Bool, false, ◌&&◌, ◌||◌, Option, Some, Result, Ok, Err, if◌then◌else◌, List, [], ◌∷◌, ◌++◌, drop, length}
use Rattle.swan_model.specs.declared.fault.Trouble.{Trouble}
use Rattle.swan_model.specs.declared.fault.Trouble.TheVariants.{TooLong}
use Rattle.swan_reducers.specs.declared.join_reducer.TheConstants.{JOIN_MOST}

abbrev pub too_long : List ℕ
too_long = 1 ∷ []

abbrev pub is_too_long : List ℕ → Bool
is_too_long [] = false
is_too_long (byte ∷ []) = byte == 1
is_too_long (byte ∷ next ∷ bytes) = false

abbrev pub is_whole : List ℕ → Bool
is_whole [] = false
is_whole (byte ∷ bytes) = (byte == 0) && nat_le (length bytes) JOIN_MOST

abbrev pub is_join_part : List ℕ → Bool
is_join_part part = is_whole part || is_too_long part

-- the part of bytes
abbrev pub bytes_part : List ℕ → List ℕ
bytes_part bytes = if nat_lt JOIN_MOST (length bytes) then too_long else 0 ∷ bytes

abbrev pub line_part : List ℕ → Option (List ℕ)
line_part line = Some (bytes_part line)

abbrev pub bytes_joined : List ℕ → List ℕ → List ℕ
bytes_joined left right = if is_too_long left || is_too_long right then too_long else bytes_part (drop 1 left ++ drop 1 right)

-- whether a line makes the bytes of a part too many
abbrev pub passes : List ℕ → List ℕ → Bool
passes part line = nat_lt (JOIN_MOST + 1) (length part + length line)

abbrev pub join_end : List ℕ → Result (List ℕ) Trouble
join_end part = if is_too_long part then Err TooLong else Ok (drop 1 part)

-- the bytes of lines, in order, unless they are too many
abbrev pub all_bytes : List (List ℕ) → List ℕ
all_bytes [] = []
all_bytes (line ∷ lines) = line ++ all_bytes lines

abbrev pub whole_text : List ℕ → Result (List ℕ) Trouble
whole_text bytes = if nat_lt JOIN_MOST (length bytes) then Err TooLong else Ok bytes
