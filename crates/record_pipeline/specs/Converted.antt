-- What the outcome of the conversion's plan is.
use Rattle.std.specs.Prelude.{◌≡◌, ℕ, List, [], ◌∷◌, map}
use Rattle.swan_model.specs.declared.outcome.Outcome.{Outcome}
use Rattle.swan_model.specs.declared.value.Value.TheVariants.{Bytes}
use Rattle.swan_model.specs.Lines.{lines}
use Rattle.swan_model.specs.Texts.{out_bytes}
use Rattle.line_blocks.specs.TextRoots.{text_names}
use Rattle.record_pipeline.specs.Conversion.{convert_of, faults_from, records_of, width_of}

-- No line is left in the input, the output has the records of the lines that aren't left out, in order, and there is
-- exactly one fault for each line that is left out, in order. So the output is the conversion of the text.
pub record IsConverted (text : List ℕ) (outcome : Outcome) : Type 0 where
  pub outcome_is : outcome ≡ record {
    objects = [];
    queues = [] ∷ map Bytes (records_of (width_of (lines text)) (lines text)) ∷ [];
    faults = faults_from 0 (width_of (lines text)) (lines text);
  }
  pub output : out_bytes text_names outcome ≡ convert_of text
