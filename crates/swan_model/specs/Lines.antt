-- The lines of a text: the pieces between line feeds, the last piece only where it isn't empty.
use Rattle.std.specs.Prelude.{ℕ, ◌+◌, ◌==◌, nat_lt, nat_le, Option, Some, None, List, [], ◌∷◌, length, if◌then◌else◌}
use Rattle.swan_model.specs.declared.lines.LinesAnswer.{LinesAnswer}
use Rattle.swan_model.specs.declared.lines.LinesAnswer.TheVariants.{TooLong, TooMany}
use Rattle.swan_model.specs.declared.lines.TheConstants.{LINES_MOST}
use Rattle.swan_model.specs.declared.record.TheConstants.{RECORD_MOST}

-- the pieces of a text, such as its lines, with one more byte at the front of the first
abbrev pub in_front : ℕ → List (List ℕ) → List (List ℕ)
in_front byte [] = (byte ∷ []) ∷ []
in_front byte (piece ∷ pieces) = (byte ∷ piece) ∷ pieces

abbrev pub lines : List ℕ → List (List ℕ)
lines [] = []
lines (byte ∷ bytes) = if byte == 10 then [] ∷ lines bytes else in_front byte (lines bytes)

-- Why lines are refused as the records of an input, with so many lines before them: the first line
-- that is one too many, or too long for a record.
abbrev pub refusal_from : ℕ → List (List ℕ) → Option LinesAnswer
refusal_from before [] = None
refusal_from before (line ∷ lines) =
    if nat_le LINES_MOST before then Some TooMany
    else if nat_lt RECORD_MOST (length line) then Some (TooLong (before + 1))
    else refusal_from (before + 1) lines

-- why the lines of a text are refused
abbrev pub refusal_of : List ℕ → Option LinesAnswer
refusal_of text = refusal_from 0 (lines text)
