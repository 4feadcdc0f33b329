-- The plan of a fold.
use Rattle.std.specs.Prelude.{ℕ, ◌+◌, ◌-◌, ◌*◌, ◌/◌, List, length}
use Rattle.swan_model.specs.declared.plan.Plan.{Plan}
use Rattle.swan_model.specs.Lines.{lines}
use Rattle.line_blocks.specs.declared.line_block.TheConstants.{BLOCK_LINES}
use Rattle.line_blocks.specs.TextRoots.{text_roots}
use Rattle.swan_reducers.specs.declared.body.FoldBody.{FoldBody}
use Rattle.swan_reducers.specs.declared.local.FoldLocal.{FoldLocal}
use Rattle.swan_reducers.specs.declared.local.FoldLocal.TheVariants.{Begins}

-- how many blocks so many lines are, the last of which may be smaller
abbrev pub block_count : ℕ → ℕ
block_count lines = (lines + (BLOCK_LINES - 1)) / BLOCK_LINES

-- The root pops the lines of the text and may push to the output. The fuel is 8 units a line and 16 more, of
-- which the collector gets 2 units a block and 3 more.
abbrev pub fold_plan : {R : Type 0} → R → List ℕ → Plan (FoldBody R) FoldLocal
fold_plan reducer text = record {
  body = record { reducer = reducer; collector_fuel = 2 * block_count (length (lines text)) + 3 };
  root_local = Begins;
  roots = text_roots text;
  fuel = 8 * length (lines text) + 16;
}
