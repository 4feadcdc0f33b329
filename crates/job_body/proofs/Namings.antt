-- The names of a job are as many as the queues and objects of its plans.
use Rattle.std.proofs.Common.{◌≡◌, ℕ, suc, List, [], ◌∷◌, length, flat_map, refl, ap}
use Rattle.job_reader.specs.declared.line.Line.{Line}
use Rattle.job_reader.specs.declared.line.Line.TheVariants as line
use Rattle.job_body.specs.NamesOfJob.{IsNaming, names_of_job, queue_name}
use Rattle.job_body.specs.PlanOfJob.{plan_of_job, root_objects, root_queues}
use Rattle.job_body.specs.Tasks.{root_object_of, top_lines}

queues-named : (lines : List Line) (texts : List (List ℕ)) → length (flat_map queue_name lines) ≡ length (root_queues lines texts)
queues-named [] texts = refl
queues-named (line.Input name ∷ lines) [] = ap suc (queues-named lines [])
queues-named (line.Input name ∷ lines) (text ∷ texts) = ap suc (queues-named lines texts)
queues-named (line.Output name kind ∷ lines) texts = ap suc (queues-named lines texts)
queues-named (line ∷ lines) texts = queues-named lines texts

objects-named : (lines : List Line) → length (flat_map root_object_of lines) ≡ length (root_objects lines)
objects-named [] = refl
objects-named (line.Object name kind ∷ lines) = ap suc (objects-named lines)
objects-named (line ∷ lines) = objects-named lines

pub is_naming : (job : List Line) (texts : List (List ℕ)) (fuel : ℕ) → IsNaming (names_of_job job) (plan_of_job job texts fuel).roots
is_naming job texts fuel = record {
  queues = queues-named (top_lines job) texts;
  objects = objects-named (top_lines job);
}
