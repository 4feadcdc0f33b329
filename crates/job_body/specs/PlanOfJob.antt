-- The plan of a job over its inputs, and why there is none.
use Rattle.std.specs.Prelude.{ℕ, ◌+◌, ◌==◌, Bool, true, false, Option, Some, None, List, [], ◌∷◌, length, map, filter, flat_map, codes, if◌then◌else◌}
use Rattle.job_reader.specs.declared.line.Line.{Line}
use Rattle.job_reader.specs.declared.line.Line.TheVariants.{Input, Output, Object}
use Rattle.swan_model.specs.Lines.{lines, refusal_of}
use Rattle.swan_model.specs.Values.{zero_of}
use Rattle.swan_model.specs.declared.lines.LinesAnswer.{LinesAnswer}
use Rattle.swan_model.specs.declared.lines.LinesAnswer.TheVariants as refusal
use Rattle.swan_model.specs.declared.plan.Plan.{Plan}
use Rattle.swan_model.specs.declared.plan.RootQueue.{RootQueue}
use Rattle.swan_model.specs.declared.rights.Mode.TheVariants.{Push, Pop}
use Rattle.swan_model.specs.declared.value.Value.{Value}
use Rattle.swan_model.specs.declared.value.Value.TheVariants.{Bytes}
use Rattle.job_body.specs.declared.answer.PlanAnswer.{PlanAnswer}
use Rattle.job_body.specs.declared.answer.PlanAnswer.TheVariants as answer
use Rattle.job_body.specs.Standing.{Standing}
use Rattle.job_body.specs.Steps.{begun}
use Rattle.job_body.specs.Tasks.{task_index, top_lines}

-- the items of an input: its lines as records
abbrev pub items_of : List ℕ → List Value
items_of text = map Bytes (lines text)

-- The root queues: the inputs, each with the lines of its text and to pop from, and the outputs, empty and
-- to push to.
abbrev pub root_queues : List Line → List (List ℕ) → List RootQueue
root_queues [] texts = []
root_queues (Input name ∷ top) [] = (record { mode = Pop; items = [] }) ∷ root_queues top []
root_queues (Input name ∷ top) (text ∷ texts) = (record { mode = Pop; items = items_of text }) ∷ root_queues top texts
root_queues (Output name kind ∷ top) texts = (record { mode = Push; items = [] }) ∷ root_queues top texts
root_queues (line ∷ top) texts = root_queues top texts

-- the root objects: each starts at the zero of its kind
abbrev pub root_object : Line → List Value
root_object (Object name kind) = zero_of kind ∷ []
root_object _ = []

abbrev pub root_objects : List Line → List Value
root_objects top = flat_map root_object top

-- the plan: the task `main` over the root queues and the root objects
abbrev pub plan_of_job : List Line → List (List ℕ) → ℕ → Plan (List Line) Standing
plan_of_job job texts fuel = record {
  body = job;
  root_local = begun job (task_index job (codes "main")) [];
  roots = record { queues = root_queues (top_lines job) texts; objects = root_objects (top_lines job) };
  fuel = fuel;
}

-- how many inputs a job has
abbrev pub is_input : Line → Bool
is_input (Input name) = true
is_input _ = false

abbrev pub input_count : List Line → ℕ
input_count job = length (filter is_input (top_lines job))

-- why an input is refused, by its number from 1 on
abbrev pub of_input : ℕ → LinesAnswer → PlanAnswer
of_input number (refusal.TooLong line) = answer.RecordTooLong number line
of_input number refusal.TooMany = answer.TooManyRecords number
of_input number refusal.NoMemory = answer.NoMemory

-- the first of these texts that has no lines to run with, where the first of them has this number
abbrev pub or_refused : ℕ → Option LinesAnswer → Option PlanAnswer → Option PlanAnswer
or_refused number (Some why) others = Some (of_input number why)
or_refused number None others = others

abbrev pub first_refused : ℕ → List (List ℕ) → Option PlanAnswer
first_refused number [] = None
first_refused number (text ∷ texts) = or_refused number (refusal_of text) (first_refused (number + 1) texts)

-- Why there is no plan: the number of inputs is another than the job's, or an input is refused.
abbrev pub refusal_of_plan : List Line → List (List ℕ) → Option PlanAnswer
refusal_of_plan job texts =
    if length texts == input_count job then first_refused 1 texts
    else Some (answer.Inputs (input_count job) (length texts))
