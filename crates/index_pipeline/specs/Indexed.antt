-- What the outcome of the index's plan is.
use Rattle.std.specs.Prelude.{◌≡◌, ℕ, List, [], ◌∷◌, map}
use Rattle.swan_model.specs.declared.outcome.Outcome.{Outcome}
use Rattle.swan_model.specs.declared.value.Value.TheVariants.{Bytes}
use Rattle.swan_model.specs.Lines.{lines}
use Rattle.swan_model.specs.Texts.{out_bytes}
use Rattle.line_blocks.specs.TextRoots.{text_names}
use Rattle.index_pipeline.specs.Index.{index_of, index_records}

-- No line is left in the input, the output has the index's records in order, and nothing went wrong. So the
-- output is the index of the text.
pub record IsIndexed (text : List ℕ) (outcome : Outcome) : Type 0 where
  pub outcome_is : outcome ≡ record { objects = []; queues = [] ∷ map Bytes (index_records (lines text)) ∷ []; faults = [] }
  pub output : out_bytes text_names outcome ≡ index_of text
