-- The reducer of sums. A part is the 16 bytes (PART_BYTES) of a number of 128 bits in two's complement, the highest first,
-- and parts are joined by their sum, which wraps there.
use Rattle.std.specs.Prelude.{ℕ, ◌==◌, nat_lt, Bool, ◌&&◌, ℤ, pos, ◌+ℤ◌, Option, Some, None, option_map, Result, Ok, Err, if◌then◌else◌, List, [], ◌∷◌, length}
use Rattle.std.specs.Fmt.{signed_decimal}
use Rattle.std.specs.Int.{w128, cast_signed, cast_unsigned, from_be_bytes, int_wrap, to_be_bytes}
use Rattle.std.specs.List.{list_all}
use Rattle.swan_model.specs.Values.{fits_64}
use Rattle.swan_model.specs.declared.fault.Trouble.{Trouble}
use Rattle.swan_model.specs.declared.fault.Trouble.TheVariants.{Overflow}
use Rattle.job_reader.specs.Atoms.{number}
use Rattle.swan_reducers.specs.declared.sum_reducer.TheConstants.{PART_BYTES}

abbrev pub is_byte : ℕ → Bool
is_byte byte = nat_lt byte 256

-- the number that a part stands for, and the part of a number
abbrev pub sum_of : List ℕ → ℤ
sum_of part = cast_signed w128 (from_be_bytes w128 part)

abbrev pub sum_part : ℤ → List ℕ
sum_part sum = to_be_bytes w128 (cast_unsigned w128 sum)

abbrev pub is_sum_part : List ℕ → Bool
is_sum_part bytes = (length bytes == PART_BYTES) && list_all is_byte bytes

abbrev pub number_part : List ℕ → Option (List ℕ)
number_part line = option_map sum_part (number line)

abbrev pub summed : List ℕ → List ℕ → List ℕ
summed left right = sum_part (int_wrap w128 (sum_of left +ℤ sum_of right))

-- The sum of lines, from a sum on, as it is kept in 128 bits. A line that is no number adds nothing.
abbrev pub added_number : ℤ → Option ℤ → ℤ
added_number sum None = sum
added_number sum (Some number) = int_wrap w128 (sum +ℤ number)

abbrev pub lines_summed : ℤ → List (List ℕ) → ℤ
lines_summed sum [] = sum
lines_summed sum (line ∷ lines) = lines_summed (added_number sum (number line)) lines

-- the decimal text of a number of 64 bits, and an overflow past them
abbrev pub narrowed : ℤ → Option ℤ
narrowed sum = if fits_64 sum then Some sum else None

abbrev pub or_overflow : Option ℤ → Result (List ℕ) Trouble
or_overflow None = Err Overflow
or_overflow (Some sum) = Ok (signed_decimal sum)

abbrev pub decimal_text : ℤ → Result (List ℕ) Trouble
decimal_text sum = or_overflow (narrowed sum)

abbrev pub sum_end : List ℕ → Result (List ℕ) Trouble
sum_end part = decimal_text (sum_of part)

-- the sum of the lines that are numbers, without any bound
abbrev pub or_zero : Option ℤ → ℤ
or_zero None = pos 0
or_zero (Some n) = n

abbrev pub total : List (List ℕ) → ℤ
total [] = pos 0
total (line ∷ lines) = or_zero (number line) +ℤ total lines
