-- How the run of a plan ends, for each kind of body that a command runs: what it leaves is what the elision leaves.
use Rattle.std.specs.Prelude.{ℕ, nat_le, List, if◌then◌else◌}
use Rattle.index_pipeline.specs.Plans.{index_plan}
use Rattle.index_pipeline.specs.contracts.body.IndexBodyBody.TheImpl.{ghosts as index_ghosts}
use Rattle.index_pipeline.specs.declared.body.IndexBody.{IndexBody}
use Rattle.index_pipeline.specs.declared.local.IndexLocal.{IndexLocal}
use Rattle.job_body.specs.Standing.{Standing}
use Rattle.job_body.specs.contracts.body.JobBodyBody.TheImpl.{ghosts as job_ghosts}
use Rattle.job_reader.specs.declared.line.Line.{Line}
use Rattle.record_pipeline.specs.Plans.{record_plan}
use Rattle.record_pipeline.specs.contracts.body.RecordBodyBody.TheImpl.{ghosts as record_ghosts}
use Rattle.record_pipeline.specs.declared.body.RecordBody.{RecordBody}
use Rattle.record_pipeline.specs.declared.local.RecordLocal.{RecordLocal}
use Rattle.swan_model.specs.Elision.{outcome}
use Rattle.swan_model.specs.Script.{script}
use Rattle.swan_model.specs.declared.body.Body.{Ghosts}
use Rattle.swan_model.specs.declared.plan.Plan.{Plan}
use Rattle.swan_top.specs.declared.how.How.{How}
use Rattle.swan_top.specs.declared.how.How.TheVariants as how
use Rattle.swan_top.specs.declared.run_end.RunEnd.{RunEnd}
use Rattle.swan_top.specs.declared.way.Way.{Way}
use Rattle.swan_top.specs.declared.way.Way.TheVariants as way

-- what shows by which way a plan was run: a run shows the script of its plan, by which it went
abbrev pub shown_by : {B L : Type 0} → Ghosts B L → Plan B L → Way → How
shown_by G plan way.Elide = how.Plain
shown_by G plan (way.Run workers) = how.Ran (script G plan)

-- Whatever the way, the outcome is that of the elision.
abbrev pub end_by : {B L : Type 0} → Ghosts B L → Way → Plan B L → RunEnd
end_by G taken plan = record { outcome = outcome G plan; how = shown_by G plan taken }

-- the cheapest way with so many workers: one does what the elision does
abbrev pub cheapest : ℕ → Way
cheapest workers = if nat_le workers 1 then way.Elide else way.Run workers

pub record Elisions : Type 0 where
  pub of_job : Way → Plan (List Line) Standing → RunEnd
  pub of_index : Way → Plan IndexBody IndexLocal → RunEnd
  pub of_conversion : Way → Plan RecordBody RecordLocal → RunEnd

-- by the steps of each body
abbrev pub elisions : Elisions
elisions = record { of_job = end_by job_ghosts; of_index = end_by index_ghosts; of_conversion = end_by record_ghosts }

-- of the plan of a text's index, and of its conversion, by so many workers
abbrev pub index_end : Elisions → ℕ → List ℕ → RunEnd
index_end elisions workers text = elisions.of_index (cheapest workers) (index_plan text)

abbrev pub conversion_end : Elisions → ℕ → List ℕ → RunEnd
conversion_end elisions workers text = elisions.of_conversion (cheapest workers) (record_plan text)
