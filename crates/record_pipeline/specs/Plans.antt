-- The plan of the conversion.
use Rattle.std.specs.Prelude.{ℕ, ◌+◌, ◌*◌, List, [], ◌∷◌, length}
use Rattle.swan_model.specs.declared.plan.Plan.{Plan}
use Rattle.swan_model.specs.declared.value.Value.{Value}
use Rattle.swan_model.specs.Lines.{lines}
use Rattle.swan_model.specs.Values.{bytes_of}
use Rattle.line_blocks.specs.declared.queue_reader.QueueReader.TheVariants.{Looks}
use Rattle.line_blocks.specs.LineBlocks.{no_lines}
use Rattle.line_blocks.specs.TextRoots.{text_roots}
use Rattle.record_pipeline.specs.declared.body.RecordBody.{RecordBody}
use Rattle.record_pipeline.specs.declared.local.RecordLocal.{RecordLocal}
use Rattle.record_pipeline.specs.declared.local.RecordLocal.TheVariants.{Reads}
use Rattle.record_pipeline.specs.Conversion.{width_of}
use Rattle.record_pipeline.specs.Netstrings.{fields}

-- how many fields the first of these lines has
abbrev pub first_width : List Value → ℕ
first_width [] = 0
first_width (line ∷ lines) = length (fields (bytes_of line))

-- The root pops the lines of the text and may push to the output. The fuel is 8 units a byte and 8 more.
abbrev pub record_plan : List ℕ → Plan RecordBody RecordLocal
record_plan text = record {
  body = record { width = width_of (lines text) };
  root_local = Reads (Looks no_lines);
  roots = text_roots text;
  fuel = 8 * length text + 8;
}
