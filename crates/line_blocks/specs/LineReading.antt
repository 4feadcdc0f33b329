-- Tasks that read lines in blocks: what they do next, by what the loop over the queue does.
use Rattle.std.specs.Prelude.{ℕ, List, [], ◌∷◌}
use Rattle.swan_model.specs.declared.value.Value.{Value}
use Rattle.line_blocks.specs.declared.held_lines.AfterLine.{AfterLine}
use Rattle.line_blocks.specs.declared.held_lines.AfterLine.TheVariants as held
use Rattle.line_blocks.specs.declared.line_reader.LineStep.{LineStep}
use Rattle.line_blocks.specs.declared.line_reader.LineStep.TheVariants.{Tests, Pops, Hands, HandsLast, Ends}
use Rattle.line_blocks.specs.declared.queue_reader.QueueReader.TheVariants as reader
use Rattle.line_blocks.specs.declared.queue_reader.ReaderStep.{ReaderStep}
use Rattle.line_blocks.specs.declared.queue_reader.ReaderStep.TheVariants as step
use Rattle.line_blocks.specs.HeldLines.{held_with}
use Rattle.line_blocks.specs.LineBlocks.{Lines}

-- a block is handed out
abbrev pub held_step : AfterLine → LineStep
held_step (held.Fewer lines) = Tests (reader.Tested lines)
held_step (held.Block block lines) = Hands block (reader.Looks lines)

-- once no line is left, lines that are held are a last block
abbrev pub last_step : ℕ → List Value → LineStep
last_step number [] = Ends
last_step number (line ∷ lines) = HandsLast (record { number = number; lines = line ∷ lines })

abbrev pub line_step : ReaderStep Lines → LineStep
line_step (step.Tests lines) = Tests (reader.Tested lines)
line_step (step.Pops lines) = Pops (reader.Popped lines)
line_step (step.Takes lines line) = held_step (held_with lines line)
line_step (step.Ends lines) = last_step lines.number lines.lines
