-- Pairs of a word and the number of a line on which it stands, their order, and their text.
use Rattle.std.specs.Prelude.{ℕ, ◌==◌, ◌+◌, ◌*◌, ◌%◌, ◌^◌, not, List, ◌∷◌, ◌++◌, take, drop}
use Rattle.std.specs.Cmp.Lexicographic.{slice_cmp}
use Rattle.std.specs.Fmt.{decimal}
use Rattle.std.specs.List.{fold, prefix_len}
use Rattle.std.specs.Ordering.{nat_cmp, ordering_then}
use Rattle.std.specs.declared.cmp.Ordering.{Ordering}

pub record Pair : Type 0 where
  pub word : List ℕ
  pub line : ℕ

-- by the words' bytes, and then by the numbers
abbrev pub pair_order : Pair → Pair → Ordering
pair_order a b = ordering_then (slice_cmp nat_cmp a.word b.word) (nat_cmp a.line b.line)

-- the word, a space, and the number in decimal
abbrev pub pair_text : Pair → List ℕ
pair_text pair = pair.word ++ 32 ∷ decimal pair.line

-- The way back. The number of digits is told modulo 2 ^ 64, and of any other bytes as if they were digits.
abbrev pub with_digit : ℕ → ℕ → ℕ
with_digit number digit = (number * 10 + (digit + 208) % 256) % 2 ^ 64

abbrev pub number_of : List ℕ → ℕ
number_of digits = fold with_digit 0 digits

abbrev pub word_len : List ℕ → ℕ
word_len text = prefix_len (λ byte. not (byte == 32)) text

abbrev pub pair_of : List ℕ → Pair
pair_of text = record { word = take (word_len text) text; line = number_of (drop (word_len text + 1) text) }
