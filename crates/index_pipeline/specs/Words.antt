-- The words of a line: its longest runs of the bytes 0 to 9, A to Z and a to z, in order. In a word A to Z are
-- lowered, and of a longer run the first WORD_MOST bytes are the word.
use Rattle.std.specs.Prelude.{ℕ, Bool, true, false, not, List, [], ◌∷◌, map, filter, take}
use Rattle.std.specs.Char.{is_ascii_alphanumeric, to_ascii_lowercase}
use Rattle.index_pipeline.specs.declared.word.TheConstants.{WORD_MOST}
use Rattle.line_blocks.specs.Pieces.{pieces}

-- the word of a run
abbrev pub word_of : List ℕ → List ℕ
word_of run = map to_ascii_lowercase (take WORD_MOST run)

abbrev pub is_some_byte : List ℕ → Bool
is_some_byte [] = false
is_some_byte (byte ∷ bytes) = true

-- the longest runs are the pieces between all other bytes that have a byte
abbrev pub runs : List ℕ → List (List ℕ)
runs line = filter is_some_byte (pieces (λ byte. not (is_ascii_alphanumeric byte)) line)

abbrev pub words : List ℕ → List (List ℕ)
words line = map word_of (runs line)
