-- The tasks of a job: their lines, the names that are known in them, and what is given to them.
use Rattle.std.specs.Prelude.{ℕ, ◌+◌, Bool, true, false, List, [], ◌∷◌, ◌++◌, drop, flat_map, map, take, bytes_eq, if◌then◌else◌}
use Rattle.std.specs.List.{position_or_len}
use Rattle.job_reader.specs.declared.line.Line.{Line}
use Rattle.job_reader.specs.declared.line.Line.TheVariants.{Input, Output, Object, Task, Param, Access, Var, Queue, Assign, Read, Write, Push, Pop, Empty, Spawn, Sync, Caught, Fuel, Fail, If, Else, While, End}
use Rattle.swan_model.specs.declared.value.Kind.{Kind}
use Rattle.swan_model.specs.declared.value.Value.{Value}
use Rattle.privilege_check.specs.Names.{is_main}
use Rattle.job_body.specs.declared.take.Take.{Take}
use Rattle.job_body.specs.declared.take.Take.TheVariants as given
use Rattle.swan_model.specs.Values.{zero_of}

-- The lines that are steps. They are the queues and objects of a task, and all lines after its `do`; other
-- lines are passed over.
unfoldable pub is_executed : Line → Bool
is_executed (Object name kind) = true
is_executed (Queue name kind) = true
is_executed (Assign v o args) = true
is_executed (Read v o) = true
is_executed (Write o a) = true
is_executed (Push q a) = true
is_executed (Pop v q) = true
is_executed (Empty v q) = true
is_executed (Spawn fuel task args) = true
is_executed Sync = true
is_executed (Caught v) = true
is_executed (Fuel v) = true
is_executed (Fail a) = true
is_executed (If a) = true
is_executed Else = true
is_executed (While a) = true
is_executed End = true
is_executed _ = false

-- how many lines stand before the first step
abbrev pub passed_over : List Line → ℕ
passed_over [] = 0
passed_over (line ∷ lines) = if is_executed line then 0 else passed_over lines + 1

-- the index of the first line from this index on that is a step, or past all lines
abbrev pub executed_from : List Line → ℕ → ℕ
executed_from lines i = i + passed_over (drop i lines)

-- of some lines, those before the first `task` line
abbrev pub before_task : List Line → List Line
before_task [] = []
before_task (Task name ∷ lines) = []
before_task (line ∷ lines) = line ∷ before_task lines

-- the lines at the top level before the first task
abbrev pub top_lines : List Line → List Line
top_lines lines = before_task lines

-- the index of the `task` line of a task, or the number of lines where there is none
abbrev pub begins : List ℕ → Line → Bool
begins name (Task other) = bytes_eq other name
begins name _ = false

abbrev pub task_index : List Line → List ℕ → ℕ
task_index lines name = position_or_len (begins name) lines

-- the lines of the task that begins at an index, without its `task` line
abbrev pub lines_of_task : List Line → ℕ → List Line
lines_of_task lines index = before_task (drop (index + 1) lines)

-- A task as far as one has read it: its name, and its lines so far.
pub record TaskSoFar : Type 0 where
  pub name : List ℕ
  pub lines : List Line

-- the task so far, once one has read one more line
abbrev pub so_far_after : TaskSoFar → Line → TaskSoFar
so_far_after so_far (Task name) = record { name = name; lines = [] }
so_far_after so_far line = record { name = so_far.name; lines = so_far.lines ++ line ∷ [] }

abbrev pub so_far_from : TaskSoFar → List Line → TaskSoFar
so_far_from so_far [] = so_far
so_far_from so_far (line ∷ lines) = so_far_from (so_far_after so_far line) lines

-- the task in which a line stands, as far as the lines before it
abbrev pub so_far_at : List Line → ℕ → TaskSoFar
so_far_at lines i = so_far_from (record { name = []; lines = [] }) (take i lines)

-- The variables of a task: its `param` lines in order, then its `var` lines in order.
abbrev pub param_of : Line → List (List ℕ)
param_of (Param name kind) = name ∷ []
param_of _ = []

abbrev pub var_of : Line → List (List ℕ)
var_of (Var name kind) = name ∷ []
var_of _ = []

abbrev pub variables : List Line → List (List ℕ)
variables lines = flat_map param_of lines ++ flat_map var_of lines

-- what the `var` lines begin with: the zeros of their kinds
abbrev pub kind_of_var : Line → List Kind
kind_of_var (Var name kind) = kind ∷ []
kind_of_var _ = []

abbrev pub var_kinds : List Line → List Kind
var_kinds lines = flat_map kind_of_var lines

abbrev pub zeros : List Line → List Value
zeros lines = map zero_of (var_kinds lines)

-- what a task takes: values by its `param` lines, and objects and queues by its access lines, in order
abbrev pub take_of : Line → List Take
take_of (Param name kind) = given.Param ∷ []
take_of (Access mode name kind) = given.Access mode ∷ []
take_of _ = []

abbrev pub takes : List Line → List Take
takes lines = flat_map take_of lines

-- The objects and queues of a task by their places: what it is given in order, and then what it makes
-- in order. The task `main` has the inputs and outputs in the order of their lines before these, and then
-- the objects of the top level.
abbrev pub access_name_of : Line → List (List ℕ)
access_name_of (Access mode name kind) = name ∷ []
access_name_of _ = []

abbrev pub made_of : Line → List (List ℕ)
made_of (Queue name kind) = name ∷ []
made_of (Object name kind) = name ∷ []
made_of _ = []

abbrev pub root_queue_of : Line → List (List ℕ)
root_queue_of (Input name) = name ∷ []
root_queue_of (Output name kind) = name ∷ []
root_queue_of _ = []

abbrev pub root_object_of : Line → List (List ℕ)
root_object_of (Object name kind) = name ∷ []
root_object_of _ = []

abbrev pub roots : List Line → List (List ℕ)
roots top = flat_map root_queue_of top ++ flat_map root_object_of top

abbrev pub roots_of : List Line → List ℕ → List (List ℕ)
roots_of lines name = if is_main name then roots (top_lines lines) else []

abbrev pub places : List Line → TaskSoFar → List (List ℕ)
places lines so_far =
    roots_of lines so_far.name ++ (flat_map access_name_of so_far.lines ++ flat_map made_of so_far.lines)
