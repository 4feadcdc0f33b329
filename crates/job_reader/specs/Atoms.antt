-- Names, numbers, literals, and the atoms that tokens are.
use Rattle.std.specs.Prelude.{ℕ, ◌+◌, ◌*◌, ◌^◌, ◌<◌, ◌==◌, nat_lt, nat_le, Bool, true, false, not, ◌&&◌, ◌||◌, ℤ, pos, neg_ℤ, Option, Some, None, option_map, option_to_list, Result, Ok, Err, List, [], ◌∷◌, ◌++◌, length, if◌then◌else◌}
use Rattle.std.specs.Char.{digit_value, is_digit, is_ascii_digit, is_ascii_lowercase}
use Rattle.std.specs.List.{list_all}
use Rattle.std.specs.Str.Parse.{digits_value}
use Rattle.swan_model.specs.declared.record.TheConstants.{RECORD_MOST}
use Rattle.job_reader.specs.Characters.{tab, line_feed, quote, minus, zero_digit, underscore, backslash, letter_n, letter_t, letter_x}
use Rattle.job_reader.specs.Faults.{both}
use Rattle.job_reader.specs.declared.atom.Atom.{Atom}
use Rattle.job_reader.specs.declared.atom.Atom.TheVariants.{Int, Bytes, Name}
use Rattle.job_reader.specs.declared.atom.TheConstants.{NAME_MOST}
use Rattle.job_reader.specs.declared.fault.JobKind.{JobKind}
use Rattle.job_reader.specs.declared.fault.JobKind.TheVariants as kind
use Rattle.job_reader.specs.declared.literal.Inside.{Inside}
use Rattle.job_reader.specs.declared.literal.Inside.TheVariants.{Plain, Escape, HighDigit, LowDigit, Closed}

-- A name: a letter a to z, then letters a to z, digits and underscores, 32 bytes at most.
abbrev pub is_name_byte : ℕ → Bool
is_name_byte byte = is_ascii_lowercase byte || is_ascii_digit byte || (byte == underscore)

abbrev pub is_name : List ℕ → Bool
is_name [] = false
is_name (byte ∷ bytes) = is_ascii_lowercase byte && list_all is_name_byte bytes && nat_le (length (byte ∷ bytes)) NAME_MOST

-- A number without its sign: 0 alone, or digits that begin with 1 to 9.
abbrev pub is_alone : List ℕ → Bool
is_alone [] = true
is_alone (byte ∷ bytes) = false

abbrev pub is_natural : List ℕ → Bool
is_natural [] = false
is_natural (byte ∷ bytes) = list_all is_ascii_digit (byte ∷ bytes) && (not (byte == zero_digit) || is_alone bytes)

-- a number that fits 64 bits with its sign; there is no negative 0
abbrev pub plain_number : List ℕ → Option ℤ
plain_number text =
    if is_natural text && nat_lt (digits_value 10 text) (2 ^ 63) then Some (pos (digits_value 10 text)) else None

abbrev pub negative_number : List ℕ → Option ℤ
negative_number text =
    if is_natural text && nat_lt 0 (digits_value 10 text) && nat_le (digits_value 10 text) (2 ^ 63)
    then Some (neg_ℤ (pos (digits_value 10 text))) else None

abbrev pub number : List ℕ → Option ℤ
number [] = None
number (byte ∷ bytes) = if byte == minus then negative_number bytes else plain_number (byte ∷ bytes)

-- A literal, as it is decoded byte by byte; `StandsFor` says what it stands for.

-- What a byte inside a literal does: where one stands after it, and the byte that is complete by it, if one is.
-- A quote closes the literal. After a backslash stand a backslash, a quote, n for a line feed, t for a tab, or x
-- and two hexadecimal digits. Nothing follows the closing quote.
abbrev pub decode : Inside → ℕ → Option (Inside × Option ℕ)
decode Plain byte =
    if byte == quote then Some (Closed, None)
    else (if byte == backslash then Some (Escape, None)
    else Some (Plain, Some byte))
decode Escape byte =
    if (byte == backslash) || (byte == quote) then Some (Plain, Some byte)
    else (if byte == letter_n then Some (Plain, Some line_feed)
    else (if byte == letter_t then Some (Plain, Some tab)
    else (if byte == letter_x then Some (HighDigit, None)
    else None)))
decode HighDigit byte = if is_digit byte 16 then Some (LowDigit (digit_value byte), None) else None
decode (LowDigit high) byte = if is_digit byte 16 then Some (Plain, Some (16 * high + digit_value byte)) else None
decode Closed byte = None

-- a first digit that waits for its second is a digit
abbrev pub IsDecoding : Inside → Type 0
IsDecoding (LowDigit high) = high < 16
IsDecoding _ = Unit {0}

abbrev pub and_then : {A B : Type 0} → Option A → (A → Option B) → Option B
and_then None f = None
and_then (Some a) f = f a

-- the bytes that the rest of a literal stands for
abbrev pub decoded : Inside → List ℕ → Option (List ℕ)
decoded Closed [] = Some []
decoded _ [] = None
decoded inside (byte ∷ bytes) =
    and_then (decode inside byte) (λ step. option_map (λ more. option_to_list step.1 ++ more) (decoded step.0 bytes))

-- A literal, by what follows its first quote. It fits a record.
abbrev pub fitting_literal : Option (List ℕ) → Result (List ℕ) JobKind
fitting_literal None = Err kind.BadLine
fitting_literal (Some bytes) = if nat_le (length bytes) RECORD_MOST then Ok bytes else Err kind.BadLine

abbrev pub literal : List ℕ → Result (List ℕ) JobKind
literal rest = fitting_literal (decoded Plain rest)

-- An atom. A token that begins with a quote is a literal, one that begins with a digit or a minus is a
-- number, and any other is a name.
abbrev pub as_bytes : Result (List ℕ) JobKind → Result Atom JobKind
as_bytes (Ok bytes) = Ok (Bytes bytes)
as_bytes (Err k) = Err k

abbrev pub as_number : Option ℤ → Result Atom JobKind
as_number (Some n) = Ok (Int n)
as_number None = Err kind.BadNumber

abbrev pub atom : List ℕ → Result Atom JobKind
atom [] = Err kind.BadName
atom (byte ∷ bytes) =
    if byte == quote then as_bytes (literal bytes)
    else (if is_ascii_digit byte || (byte == minus) then as_number (number (byte ∷ bytes))
    else (if is_name (byte ∷ bytes) then Ok (Name (byte ∷ bytes)) else Err kind.BadName))

-- A token in a name's position. A literal that isn't one is no line in any position.
abbrev pub as_name : Result Atom JobKind → Result (List ℕ) JobKind
as_name (Ok (Name name)) = Ok name
as_name (Ok _) = Err kind.BadName
as_name (Err kind.BadLine) = Err kind.BadLine
as_name (Err _) = Err kind.BadName

abbrev pub name : List ℕ → Result (List ℕ) JobKind
name token = as_name (atom token)

-- Several atoms: each of them, or the first kind of fault that they have.
abbrev pub as_list : {A : Type 0} → Result (A × List A) JobKind → Result (List A) JobKind
as_list (Ok (a, others)) = Ok (a ∷ others)
as_list (Err k) = Err k

abbrev pub atoms : List (List ℕ) → Result (List Atom) JobKind
atoms [] = Ok []
atoms (token ∷ tokens) = as_list (both (atom token) (atoms tokens))
