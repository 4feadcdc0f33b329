-- The plan of the index.
use Rattle.std.specs.Prelude.{ℕ, ◌+◌, ◌*◌, List, length}
use Rattle.swan_model.specs.declared.plan.Plan.{Plan}
use Rattle.line_blocks.specs.TextRoots.{text_roots}
use Rattle.index_pipeline.specs.declared.body.IndexBody.{IndexBody}
use Rattle.index_pipeline.specs.declared.local.IndexLocal.{IndexLocal}
use Rattle.index_pipeline.specs.declared.local.IndexLocal.TheVariants.{Begins}

-- The root pops the lines of the text and may push to the output. The fuel is 16 units a byte and 64 more, of which
-- the collector gets 3 a byte and 8 more.
abbrev pub index_plan : List ℕ → Plan IndexBody IndexLocal
index_plan text = record {
  body = record { collector_fuel = 3 * length text + 8 };
  root_local = Begins;
  roots = text_roots text;
  fuel = 16 * length text + 64;
}
