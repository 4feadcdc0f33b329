-- What the lines of a text are, the tokens of a line, and the bytes that a literal stands for, said of the
-- pieces that they are made of. `lines`, `tokens` and `literal` compute these, and no others.
use Rattle.std.specs.Prelude.{◌≡◌, ℕ, ◌+◌, ◌*◌, ◌==◌, true, false, not, List, [], ◌∷◌, ◌++◌}
use Rattle.std.specs.Char.{digit_value, is_digit}
use Rattle.std.specs.List.{list_all}
use Rattle.job_reader.specs.Characters.{tab, line_feed, space, quote, backslash, letter_n, letter_t, letter_x}

abbrev pub HasNoLineFeed : List ℕ → Type 0
HasNoLineFeed bytes = list_all (λ byte. not (byte == line_feed)) bytes ≡ true

-- The lines of a text: each ends with a line feed, which the last may lack where it isn't empty.
pub data AreLines : List ℕ → List (List ℕ) → Type 0 where
  no_lines : AreLines [] []
  ended : (line rest : List ℕ) (lines : List (List ℕ)) → HasNoLineFeed line → AreLines rest lines → AreLines (line ++ line_feed ∷ rest) (line ∷ lines)
  last_line : (byte : ℕ) (line : List ℕ) → HasNoLineFeed (byte ∷ line) → AreLines (byte ∷ line) ((byte ∷ line) ∷ [])

abbrev pub HasNoSpace : List ℕ → Type 0
HasNoSpace bytes = list_all (λ byte. not (byte == space)) bytes ≡ true

-- What stands between two quotes: bytes that are neither a quote nor a backslash, and pairs of a backslash
-- and any byte.
pub data IsQuoted : List ℕ → Type 0 where
  nothing : IsQuoted []
  plain : (byte : ℕ) (more : List ℕ) → (byte == quote) ≡ false → (byte == backslash) ≡ false → IsQuoted more → IsQuoted (byte ∷ more)
  pair : (byte : ℕ) (more : List ℕ) → IsQuoted more → IsQuoted (backslash ∷ byte ∷ more)

-- A token. It has no space and begins with no quote; or it is what stands between two quotes, with them and
-- with what follows the second one without a space.
pub data IsToken : List ℕ → Type 0 where
  word : (byte : ℕ) (more : List ℕ) → (byte == space) ≡ false → (byte == quote) ≡ false → HasNoSpace more → IsToken (byte ∷ more)
  quoted : (inside more : List ℕ) → IsQuoted inside → HasNoSpace more → IsToken (quote ∷ inside ++ quote ∷ more)

-- A token whose quote isn't closed. It ends where its line does, perhaps after a backslash.
pub data IsUnclosed : List ℕ → Type 0 where
  whole : (inside : List ℕ) → IsQuoted inside → IsUnclosed (quote ∷ inside)
  cut : (inside : List ℕ) → IsQuoted inside → IsUnclosed (quote ∷ inside ++ backslash ∷ [])

-- The tokens of a line: spaces stand around them and between them, and all else is of one of them.
pub data AreTokens : List ℕ → List (List ℕ) → Type 0 where
  none : AreTokens [] []
  after_space : (line : List ℕ) (tokens : List (List ℕ)) → AreTokens line tokens → AreTokens (space ∷ line) tokens
  before_space : (token line : List ℕ) (tokens : List (List ℕ)) → IsToken token → AreTokens (space ∷ line) tokens → AreTokens (token ++ space ∷ line) (token ∷ tokens)
  last : (token : List ℕ) → IsToken token → AreTokens token (token ∷ [])
  unclosed : (token : List ℕ) → IsUnclosed token → AreTokens token (token ∷ [])

-- a piece of a literal, and the byte that it stands for
pub data Piece : List ℕ → ℕ → Type 0 where
  itself : (byte : ℕ) → (byte == quote) ≡ false → (byte == backslash) ≡ false → Piece (byte ∷ []) byte
  a_backslash : Piece (backslash ∷ backslash ∷ []) backslash
  a_quote : Piece (backslash ∷ quote ∷ []) quote
  a_line_feed : Piece (backslash ∷ letter_n ∷ []) line_feed
  a_tab : Piece (backslash ∷ letter_t ∷ []) tab
  by_digits : (high low : ℕ) → is_digit high 16 ≡ true → is_digit low 16 ≡ true → Piece (backslash ∷ letter_x ∷ high ∷ low ∷ []) (16 * digit_value high + digit_value low)

-- What follows the first quote of a literal, and the bytes that it stands for: pieces, and the closing quote.
pub data StandsFor : List ℕ → List ℕ → Type 0 where
  closed : StandsFor (quote ∷ []) []
  piece : (text : List ℕ) (byte : ℕ) (rest bytes : List ℕ) → Piece text byte → StandsFor rest bytes → StandsFor (text ++ rest) (byte ∷ bytes)
