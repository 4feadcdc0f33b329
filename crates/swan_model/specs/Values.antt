-- Values. A value is a signed number of 64 bits, or a record: a list of at most RECORD_MOST bytes.
use Rattle.std.specs.Prelude.{ℕ, ◌^◌, nat_lt, Bool, ℤ, pos, negsuc, List, []}
use Rattle.swan_model.specs.declared.value.Kind.{Kind}
use Rattle.swan_model.specs.declared.value.Kind.TheVariants as kind
use Rattle.swan_model.specs.declared.value.Value.{Value}
use Rattle.swan_model.specs.declared.value.Value.TheVariants.{Int, Bytes}

-- what a value is
abbrev pub kind_of : Value → Kind
kind_of (Int n) = kind.Int
kind_of (Bytes bytes) = kind.Bytes

-- the zero of a kind: the number 0, or the empty record
abbrev pub zero_of : Kind → Value
zero_of kind.Int = Int (pos 0)
zero_of kind.Bytes = Bytes []

-- the bytes of a value; a number has none
abbrev pub bytes_of : Value → List ℕ
bytes_of (Bytes bytes) = bytes
bytes_of (Int n) = []

-- whether a number fits 64 bits with its sign
abbrev pub fits_64 : ℤ → Bool
fits_64 (pos n) = nat_lt n (2 ^ 63)
fits_64 (negsuc n) = nat_lt n (2 ^ 63)

-- the most that is counted, of lines, faults, deeds, steps, frames and items: counts have 64 bits
abbrev pub COUNT_MOST : ℕ
COUNT_MOST = 18446744073709551615
