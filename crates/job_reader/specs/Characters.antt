-- The bytes of a job's text, and the names of those that have a meaning of their own.
use Rattle.std.specs.Prelude.{ℕ, Bool, ◌&&◌, nat_le}

abbrev pub tab : ℕ
tab = 9

abbrev pub line_feed : ℕ
line_feed = 10

abbrev pub space : ℕ
space = 32

abbrev pub quote : ℕ
quote = 34

abbrev pub hash : ℕ
hash = 35

abbrev pub minus : ℕ
minus = 45

abbrev pub zero_digit : ℕ
zero_digit = 48

abbrev pub underscore : ℕ
underscore = 95

abbrev pub backslash : ℕ
backslash = 92

abbrev pub letter_n : ℕ
letter_n = 110

abbrev pub letter_t : ℕ
letter_t = 116

abbrev pub letter_x : ℕ
letter_x = 120

-- whether a byte may stand in a line: the printable bytes of ASCII, which the space is one of
abbrev pub is_allowed : ℕ → Bool
is_allowed byte = nat_le 32 byte && nat_le byte 126
