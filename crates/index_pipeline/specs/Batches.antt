-- Records that stand one after the other, and when one more has room beside them.
use Rattle.std.specs.Prelude.{ℕ, ◌+◌, nat_le, Bool, true, List, [], ◌∷◌, take, drop}
use Rattle.swan_model.specs.declared.value.Value.{Value}
use Rattle.swan_model.specs.declared.value.Value.TheVariants.{Bytes}
use Rattle.line_blocks.specs.LineBlocks.{byte_count}
use Rattle.index_pipeline.specs.declared.batch.TheConstants.{BATCH_MOST, NUMBER_MOST}

-- the records that have these lengths and stand one after the other in front of these bytes
abbrev pub cuts : List ℕ → List ℕ → List Value
cuts [] bytes = []
cuts (len ∷ lens) bytes = Bytes (take len bytes) ∷ cuts lens (drop len bytes)

-- Whether the record of a word of so many bytes has room beside these records, so that all of them have at most BATCH_MOST bytes
-- together. Where none is there it has.
abbrev pub has_room : List Value → ℕ → Bool
has_room [] word_len = true
has_room (first ∷ others) word_len = nat_le (byte_count (first ∷ others) + word_len + NUMBER_MOST) BATCH_MOST
