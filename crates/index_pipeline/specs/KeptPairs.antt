-- Pairs as the collector keeps them: the numbers of each word, by the words in their order.
use Rattle.std.specs.Prelude.{ℕ, List, [], ◌∷◌, ◌++◌, map}
use Rattle.index_pipeline.specs.Pairs.{Pair}

-- a word with each of these numbers
abbrev pub pairs_of_word : List ℕ → List ℕ → List Pair
pairs_of_word word numbers = map (λ number. record { word = word; line = number }) numbers

-- the pairs of these words, each with its numbers
abbrev pub kept_pairs : List (List ℕ × List ℕ) → List Pair
kept_pairs [] = []
kept_pairs (entry ∷ entries) = pairs_of_word entry.0 entry.1 ++ kept_pairs entries

-- a word with the numbers that are left of it, and the pairs of the words after it
abbrev pub pairs_from_word : List ℕ → List ℕ → List (List ℕ × List ℕ) → List Pair
pairs_from_word word numbers entries = pairs_of_word word numbers ++ kept_pairs entries
