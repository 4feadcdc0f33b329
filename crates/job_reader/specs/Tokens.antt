-- The tokens of a line, as they are found byte by byte; `AreTokens` says what they are. Spaces separate them.
-- A token that begins with a quote goes on to the next quote that isn't escaped, and the spaces inside are its
-- own. A backslash inside the quotes escapes the byte after it. What follows the closing quote without a space
-- is still of the token, which is then no literal.
use Rattle.std.specs.Prelude.{ℕ, ◌==◌, Bool, true, false, List, [], ◌∷◌, if◌then◌else◌}
use Rattle.swan_model.specs.Lines.{in_front}
use Rattle.job_reader.specs.Characters.{space, quote, backslash}
use Rattle.job_reader.specs.declared.scan.Scan.{Scan}
use Rattle.job_reader.specs.declared.scan.Scan.TheVariants.{Between, Token, Quoted, Escaped}

-- where one stands after a byte: between two tokens, in a token, inside the quotes of a literal, or
-- inside them and after a backslash
abbrev pub next : Scan → ℕ → Scan
next Between byte = if byte == space then Between else (if byte == quote then Quoted else Token)
next Token byte = if byte == space then Between else Token
next Quoted byte = if byte == quote then Token else (if byte == backslash then Escaped else Quoted)
next Escaped byte = Quoted

abbrev pub is_between : Scan → Bool
is_between Between = true
is_between _ = false

-- What a byte does to the tokens after it: a space between two tokens is of none, a space after a token
-- ends it, and any other byte is of the first token.
abbrev pub with_byte : Scan → ℕ → Scan → List (List ℕ) → List (List ℕ)
with_byte Between byte Between tokens = tokens
with_byte _ byte Between tokens = [] ∷ tokens
with_byte _ byte _ tokens = in_front byte tokens

-- the tokens of what is left of a line, the first of them being the rest of the token that is open
abbrev pub tokens_from : Scan → List ℕ → List (List ℕ)
tokens_from Between [] = []
tokens_from _ [] = [] ∷ []
tokens_from scan (byte ∷ bytes) = with_byte scan byte (next scan byte) (tokens_from (next scan byte) bytes)

abbrev pub tokens : List ℕ → List (List ℕ)
tokens line = tokens_from Between line

-- a line without its outer spaces
abbrev pub without_front_spaces : List ℕ → List ℕ
without_front_spaces [] = []
without_front_spaces (byte ∷ bytes) = if byte == space then without_front_spaces bytes else byte ∷ bytes

abbrev pub before_trimmed : ℕ → List ℕ → List ℕ
before_trimmed byte [] = if byte == space then [] else byte ∷ []
before_trimmed byte (other ∷ bytes) = byte ∷ other ∷ bytes

abbrev pub without_end_spaces : List ℕ → List ℕ
without_end_spaces [] = []
without_end_spaces (byte ∷ bytes) = before_trimmed byte (without_end_spaces bytes)

abbrev pub trimmed : List ℕ → List ℕ
trimmed line = without_end_spaces (without_front_spaces line)
