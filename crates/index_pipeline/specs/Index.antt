-- The index of a text.
use Rattle.std.specs.Prelude.{ℕ, ◌+◌, List, [], ◌∷◌, ◌++◌, map, flat_map}
use Rattle.std.specs.BTreeSet.{insert_key}
use Rattle.std.specs.List.{fold}
use Rattle.swan_model.specs.Lines.{lines}
use Rattle.swan_model.specs.Texts.{line}
use Rattle.index_pipeline.specs.Pairs.{Pair, pair_order, pair_text}
use Rattle.index_pipeline.specs.Words.{words}

-- each word of these lines with the number of its line, the first line having this number
abbrev pub pairs_from : ℕ → List (List ℕ) → List Pair
pairs_from number [] = []
pairs_from number (line ∷ lines) = map (λ word. record { word = word; line = number }) (words line) ++ pairs_from (number + 1) lines

-- pairs as a set: each once, in their order
abbrev pub set_of : List Pair → List Pair
set_of pairs = fold (insert_key pair_order) [] pairs

-- the pairs of these lines, which are numbered from 1 on
abbrev pub index_pairs : List (List ℕ) → List Pair
index_pairs lines = set_of (pairs_from 1 lines)

-- the records of the index of these lines
abbrev pub index_records : List (List ℕ) → List (List ℕ)
index_records lines = map pair_text (index_pairs lines)

-- the index of a text, a record on each of its lines
abbrev pub index_of : List ℕ → List ℕ
index_of text = flat_map line (index_records (lines text))
