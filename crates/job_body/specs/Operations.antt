-- The operations of assignments. Each takes values, and gives a value or a trouble.
use Rattle.std.specs.Prelude.{ℕ, ◌+◌, ◌==◌, nat_le, Bool, true, false, not, ◌&&◌, ◌||◌, ℤ, pos, negsuc, ◌+ℤ◌, ◌-ℤ◌, ◌*ℤ◌, int_lt, int_le, int_div, int_rem, Option, Some, None, Result, Ok, Err, List, ◌++◌, length, drop, bytes_eq, position, slice_get, slice_range, if◌then◌else◌}
use Rattle.std.specs.Fmt.{signed_decimal}
use Rattle.std.specs.Ordering.{int_eq}
use Rattle.job_reader.specs.Atoms.{number}
use Rattle.job_reader.specs.declared.op.Op.{Op}
use Rattle.job_reader.specs.declared.op.Op.TheVariants as op
use Rattle.swan_model.specs.declared.fault.Trouble.{Trouble}
use Rattle.swan_model.specs.declared.fault.Trouble.TheVariants.{Overflow, DivideByZero, Range, TooLong, BadNumber}
use Rattle.swan_model.specs.declared.record.TheConstants.{RECORD_MOST}
use Rattle.swan_model.specs.declared.value.Value.{Value}
use Rattle.swan_model.specs.declared.value.Value.TheVariants.{Int, Bytes}
use Rattle.swan_model.specs.Values.{bytes_of, fits_64}

-- A value where a number is asked. One of bytes counts as 0, as a number counts as no bytes where bytes are asked (`bytes_of`);
-- in a checked job there is none of the other kind.
abbrev pub number_of : Value → ℤ
number_of (Int n) = n
number_of (Bytes bytes) = pos 0

-- a number is true unless it is 0
abbrev pub is_zero : ℤ → Bool
is_zero (pos n) = n == 0
is_zero (negsuc n) = false

abbrev pub is_true : Value → Bool
is_true a = not (is_zero (number_of a))

-- the number that says yes or no
abbrev pub flag : Bool → Value
flag true = Int (pos 1)
flag false = Int (pos 0)

-- a number that fits 64 bits with its sign, and bytes that fit a record
abbrev pub fitting_number : ℤ → Result Value Trouble
fitting_number n = if fits_64 n then Ok (Int n) else Err Overflow

abbrev pub fitting_bytes : List ℕ → Result Value Trouble
fitting_bytes bytes = if nat_le (length bytes) RECORD_MOST then Ok (Bytes bytes) else Err TooLong

-- The quotient is truncated, and the rest has the sign of the first number.
abbrev pub quotient : ℤ → ℤ → Result Value Trouble
quotient a b = if is_zero b then Err DivideByZero else fitting_number (int_div a b)

abbrev pub rest : ℤ → ℤ → Result Value Trouble
rest a b = if is_zero b then Err DivideByZero else Ok (Int (int_rem a b))

-- whether two values are the same
abbrev pub is_equal : Value → Value → Bool
is_equal (Int a) (Int b) = int_eq a b
is_equal (Bytes a) (Bytes b) = bytes_eq a b
is_equal _ _ = false

-- a number that isn't negative and at most this
abbrev pub up_to : ℕ → ℤ → Option ℕ
up_to most (pos n) = if nat_le n most then Some n else None
up_to most (negsuc n) = None

-- with the number that is there, or else out of range
abbrev pub in_range : Option ℕ → (ℕ → Result Value Trouble) → Result Value Trouble
in_range None f = Err Range
in_range (Some n) f = f n

-- the byte at a place, as a number
abbrev pub byte_at : List ℕ → ℤ → Result Value Trouble
byte_at bytes (pos i) = in_range (slice_get bytes i) (λ byte. Ok (Int (pos byte)))
byte_at bytes (negsuc i) = Err Range

-- the bytes from the place i on up to, without, the place j
abbrev pub part : List ℕ → ℤ → ℤ → Result Value Trouble
part bytes i j =
    in_range (up_to (length bytes) j) (λ to. in_range (up_to to i) (λ from. Ok (Bytes (slice_range bytes from to))))

-- The least place from i on at which the byte c stands, or -1.
abbrev pub place_after : ℕ → Option ℕ → ℤ
place_after from None = negsuc 0
place_after from (Some n) = pos (from + n)

abbrev pub found : List ℕ → ℤ → ℤ → Result Value Trouble
found bytes c i =
    in_range (up_to 255 c) (λ byte. in_range (up_to (length bytes) i) (λ from.
    Ok (Int (place_after from (position (λ other. other == byte) (drop from bytes))))))

-- the number that bytes are the text of
abbrev pub numbered : Option ℤ → Result Value Trouble
numbered None = Err BadNumber
numbered (Some n) = Ok (Int n)

-- The value of an operation. An operation that takes fewer values doesn't look at the others.
abbrev pub operation : Op → Value → Value → Value → Result Value Trouble
operation op.Set a b c = Ok a
operation op.Add a b c = fitting_number (number_of a +ℤ number_of b)
operation op.Sub a b c = fitting_number (number_of a -ℤ number_of b)
operation op.Mul a b c = fitting_number (number_of a *ℤ number_of b)
operation op.Div a b c = quotient (number_of a) (number_of b)
operation op.Rem a b c = rest (number_of a) (number_of b)
operation op.Lt a b c = Ok (flag (int_lt (number_of a) (number_of b)))
operation op.Le a b c = Ok (flag (int_le (number_of a) (number_of b)))
operation op.Eq a b c = Ok (flag (is_equal a b))
operation op.And a b c = Ok (flag (is_true a && is_true b))
operation op.Or a b c = Ok (flag (is_true a || is_true b))
operation op.Not a b c = Ok (flag (not (is_true a)))
operation op.Len a b c = Ok (Int (pos (length (bytes_of a))))
operation op.At a b c = byte_at (bytes_of a) (number_of b)
operation op.Slice a b c = part (bytes_of a) (number_of b) (number_of c)
operation op.Cat a b c = fitting_bytes (bytes_of a ++ bytes_of b)
operation op.Find a b c = found (bytes_of a) (number_of b) (number_of c)
operation op.Num a b c = numbered (number (bytes_of a))
operation op.Text a b c = Ok (Bytes (signed_decimal (number_of a)))
