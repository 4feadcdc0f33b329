-- The steps of the conversion.
use Rattle.std.specs.Prelude.{ℕ, ◌+◌, ◌*◌, Option, Some, None, List, [], ◌∷◌, length}
use Rattle.swan_model.specs.declared.body.Answer.{Answer}
use Rattle.swan_model.specs.declared.body.Ask.{Ask}
use Rattle.swan_model.specs.declared.body.Ask.TheVariants as ask
use Rattle.swan_model.specs.declared.body.Child.{Child}
use Rattle.swan_model.specs.declared.fault.Trouble.{Trouble}
use Rattle.swan_model.specs.declared.rights.Mode.TheVariants.{Push}
use Rattle.swan_model.specs.declared.value.Value.{Value}
use Rattle.swan_model.specs.declared.value.Value.TheVariants.{Bytes}
use Rattle.swan_model.specs.Values.{bytes_of}
use Rattle.line_blocks.specs.declared.line_reader.LineStep.{LineStep}
use Rattle.line_blocks.specs.declared.line_reader.LineStep.TheVariants as lines
use Rattle.line_blocks.specs.declared.text_roots.TheConstants.{INPUT, OUTPUT}
use Rattle.line_blocks.specs.LineBlocks.{Lines, later}
use Rattle.line_blocks.specs.LineReading.{line_step}
use Rattle.line_blocks.specs.Readers.{step_of}
use Rattle.record_pipeline.specs.declared.body.RecordBody.{RecordBody}
use Rattle.record_pipeline.specs.declared.local.RecordLocal.{RecordLocal}
use Rattle.record_pipeline.specs.declared.local.RecordLocal.TheVariants as local
use Rattle.record_pipeline.specs.Conversion.{trouble_of}
use Rattle.record_pipeline.specs.Netstrings.{netstrings}

-- a line's task, which may push its record
abbrev pub line_task : ℕ → Value → Child RecordLocal
line_task number line = record { local = local.Line number line; gives = (record { place = 0; mode = Push }) ∷ []; fuel = 2 }

-- a block task, which may push to the output
abbrev pub block_task : Lines → Child RecordLocal
block_task block = record { local = local.Lines block; gives = (record { place = OUTPUT; mode = Push }) ∷ []; fuel = 3 * length block.lines + 1 }

-- the root's step as it reads: each block is given to a task
abbrev pub reads : LineStep → RecordLocal × Ask RecordLocal
reads (lines.Tests at) = (local.Reads at, ask.Empty INPUT)
reads (lines.Pops at) = (local.Reads at, ask.Pop INPUT)
reads (lines.Hands block at) = (local.Reads at, ask.Spawn (block_task block))
reads (lines.HandsLast block) = (local.Ends, ask.Spawn (block_task block))
reads lines.Ends = (local.Ends, ask.Finish)

-- each line is given to a task
abbrev pub spawns_lines : ℕ → List Value → RecordLocal × Ask RecordLocal
spawns_lines number [] = (local.Ends, ask.Finish)
spawns_lines number (line ∷ lines) = (local.Lines (record { number = later number 1; lines = lines }), ask.Spawn (line_task number line))

-- the push of the line's record, or its fault
abbrev pub converted : Option Trouble → List ℕ → Ask RecordLocal
converted None line = ask.Push 0 (Bytes (netstrings line))
converted (Some trouble) line = ask.Fail trouble

abbrev pub next : RecordBody → RecordLocal → Answer → ℕ → RecordLocal × Ask RecordLocal
next body (local.Reads at) told fuel = reads (line_step (step_of at told))
next body (local.Lines block) told fuel = spawns_lines block.number block.lines
next body (local.Line number line) told fuel = (local.Done number, converted (trouble_of body.width (bytes_of line)) (bytes_of line))
next body (local.Done number) told fuel = (local.Done number, ask.Finish)
next body local.Ends told fuel = (local.Ends, ask.Finish)

-- a line's task stands at its line, and each other task at 0
abbrev pub place_of : RecordBody → RecordLocal → ℕ
place_of body (local.Line number line) = number
place_of body (local.Done number) = number
place_of body _ = 0
