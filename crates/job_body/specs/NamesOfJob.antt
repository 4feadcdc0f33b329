-- The names with which the outcome of a job is printed. Of an input is printed how many items are left,
-- and of an output each item.
use Rattle.std.specs.Prelude.{◌≡◌, List, [], ◌∷◌, length, flat_map}
use Rattle.job_reader.specs.declared.line.Line.{Line}
use Rattle.job_reader.specs.declared.line.Line.TheVariants.{Input, Output}
use Rattle.swan_model.specs.declared.outcome.Names.{Names}
use Rattle.swan_model.specs.declared.outcome.QueueName.{QueueName}
use Rattle.swan_model.specs.declared.outcome.Shown.TheVariants.{Left, Out}
use Rattle.swan_model.specs.Roots.{RootLists}
use Rattle.job_body.specs.Tasks.{top_lines, root_object_of}

abbrev pub queue_name : Line → List QueueName
queue_name (Input name) = (record { name = name; shown = Left }) ∷ []
queue_name (Output name kind) = (record { name = name; shown = Out }) ∷ []
queue_name _ = []

abbrev pub names_of_job : List Line → Names
names_of_job job = record {
  queues = flat_map queue_name (top_lines job);
  objects = flat_map root_object_of (top_lines job);
}

-- there is a name for each queue and for each object of a plan
pub record IsNaming (names : Names) (roots : RootLists) : Type 0 where
  pub queues : length names.queues ≡ length roots.queues
  pub objects : length names.objects ≡ length roots.objects
