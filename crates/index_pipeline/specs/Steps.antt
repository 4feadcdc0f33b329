-- The steps of the index.
use Rattle.std.specs.Prelude.{ℕ, ◌+◌, ◌*◌, List, [], ◌∷◌, map}
use Rattle.std.specs.BTreeSet.{insert_key}
use Rattle.swan_model.specs.declared.body.Answer.{Answer}
use Rattle.swan_model.specs.declared.body.Ask.{Ask}
use Rattle.swan_model.specs.declared.body.Ask.TheVariants as ask
use Rattle.swan_model.specs.declared.body.Child.{Child}
use Rattle.swan_model.specs.declared.rights.Mode.TheVariants.{Push, Pop}
use Rattle.swan_model.specs.declared.value.Value.{Value}
use Rattle.swan_model.specs.Values.{bytes_of}
use Rattle.line_blocks.specs.declared.line_reader.LineStep.{LineStep}
use Rattle.line_blocks.specs.declared.line_reader.LineStep.TheVariants as lines
use Rattle.line_blocks.specs.declared.queue_reader.QueueReader.TheVariants as reader
use Rattle.line_blocks.specs.declared.queue_reader.ReaderStep.{ReaderStep}
use Rattle.line_blocks.specs.declared.queue_reader.ReaderStep.TheVariants as step
use Rattle.line_blocks.specs.declared.text_roots.TheConstants.{INPUT, OUTPUT}
use Rattle.line_blocks.specs.LineBlocks.{Lines, byte_count, no_lines}
use Rattle.line_blocks.specs.LineReading.{line_step}
use Rattle.line_blocks.specs.Readers.{step_of}
use Rattle.index_pipeline.specs.declared.body.IndexBody.{IndexBody}
use Rattle.index_pipeline.specs.declared.body.TheConstants.{WORDS}
use Rattle.index_pipeline.specs.declared.local.IndexLocal.{IndexLocal}
use Rattle.index_pipeline.specs.declared.local.IndexLocal.TheVariants as local
use Rattle.index_pipeline.specs.Pairs.{Pair, pair_of, pair_order}
use Rattle.index_pipeline.specs.Records.{block_records, record_of}

-- a block task, which may push words
abbrev pub block_task : Lines → Child IndexLocal
block_task block = record {
  local = local.Words (block_records block);
  gives = (record { place = WORDS; mode = Push }) ∷ [];
  fuel = 2 * byte_count block.lines + 2;
}

-- the collector, which may pop words and push to the output
abbrev pub collector : IndexBody → Child IndexLocal
collector body = record {
  local = local.Collects (reader.Looks []);
  gives = (record { place = WORDS; mode = Pop }) ∷ (record { place = OUTPUT; mode = Push }) ∷ [];
  fuel = body.collector_fuel;
}

-- the root's step as it reads: each block is given to a task, and then the collector begins
abbrev pub reads : IndexBody → LineStep → IndexLocal × Ask IndexLocal
reads body (lines.Tests at) = (local.Reads at, ask.Empty INPUT)
reads body (lines.Pops at) = (local.Reads at, ask.Pop INPUT)
reads body (lines.Hands block at) = (local.Reads at, ask.Spawn (block_task block))
reads body (lines.HandsLast block) = (local.SpawnsCollector, ask.Spawn (block_task block))
reads body lines.Ends = (local.Ends, ask.Spawn (collector body))

-- what is left is pushed, record by record
abbrev pub words_left : List Value → IndexLocal × Ask IndexLocal
words_left [] = (local.Ends, ask.Finish)
words_left (item ∷ items) = (local.Words items, ask.Push 0 item)

abbrev pub pairs_left : List Value → IndexLocal × Ask IndexLocal
pairs_left [] = (local.Ends, ask.Finish)
pairs_left (item ∷ items) = (local.Prints items, ask.Push 1 item)

abbrev pub collects : ReaderStep (List Pair) → IndexLocal × Ask IndexLocal
collects (step.Tests pairs) = (local.Collects (reader.Tested pairs), ask.Empty 0)
collects (step.Pops pairs) = (local.Collects (reader.Popped pairs), ask.Pop 0)
collects (step.Takes pairs item) = (local.Collects (reader.Tested (insert_key pair_order pairs (pair_of (bytes_of item)))), ask.Empty 0)
collects (step.Ends pairs) = pairs_left (map record_of pairs)

abbrev pub next : IndexBody → IndexLocal → Answer → ℕ → IndexLocal × Ask IndexLocal
next body local.Begins told fuel = (local.Reads (reader.Looks no_lines), ask.NewQueue)
next body (local.Reads at) told fuel = reads body (line_step (step_of at told))
next body local.SpawnsCollector told fuel = (local.Ends, ask.Spawn (collector body))
next body (local.Words items) told fuel = words_left items
next body (local.Collects at) told fuel = collects (step_of at told)
next body (local.Prints items) told fuel = pairs_left items
next body local.Ends told fuel = (local.Ends, ask.Finish)
