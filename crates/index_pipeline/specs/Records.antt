-- What a block task and the collector push.
use Rattle.std.specs.Prelude.{ℕ, List, [], ◌∷◌, ◌++◌, map}
use Rattle.swan_model.specs.declared.value.Value.{Value}
use Rattle.swan_model.specs.declared.value.Value.TheVariants.{Bytes}
use Rattle.swan_model.specs.Values.{bytes_of}
use Rattle.line_blocks.specs.LineBlocks.{Lines, later}
use Rattle.index_pipeline.specs.Pairs.{Pair, pair_text}
use Rattle.index_pipeline.specs.Words.{words}

-- the record of a pair
abbrev pub record_of : Pair → Value
record_of pair = Bytes (pair_text pair)

-- the records of the words of a line with this number
abbrev pub line_records : ℕ → List ℕ → List Value
line_records number line = map (λ word. record_of (record { word = word; line = number })) (words line)

-- the records of the words of these lines
abbrev pub records_from : ℕ → List Value → List Value
records_from number [] = []
records_from number (line ∷ lines) = line_records number (bytes_of line) ++ records_from (later number 1) lines

abbrev pub block_records : Lines → List Value
block_records block = records_from block.number block.lines
