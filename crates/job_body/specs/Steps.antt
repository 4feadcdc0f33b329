-- The steps of a job. One executed line is one step: by the line at which an activation stands, the
-- values of its variables by their names, and the answer to its last ask, it asks for something and
-- stands at another line.
use Rattle.std.specs.Prelude.{ℕ, ◌+◌, ◌-◌, ◌^◌, min, Bool, true, false, ℤ, pos, negsuc, Option, Some, None, Result, Ok, Err, List, [], ◌∷◌, ◌++◌, length, flat_map, zip, bytes_eq, slice_get, if◌then◌else◌}
use Rattle.std.specs.List.{position_or_len}
use Rattle.job_reader.specs.declared.atom.Atom.{Atom}
use Rattle.job_reader.specs.declared.atom.Atom.TheVariants as atom
use Rattle.job_reader.specs.declared.line.Line.{Line}
use Rattle.job_reader.specs.declared.line.Line.TheVariants as line
use Rattle.swan_model.specs.declared.body.Answer.{Answer}
use Rattle.swan_model.specs.declared.body.Answer.TheVariants as answer
use Rattle.swan_model.specs.declared.body.Ask.{Ask}
use Rattle.swan_model.specs.declared.body.Ask.TheVariants as ask
use Rattle.swan_model.specs.declared.fault.Trouble.{Trouble}
use Rattle.swan_model.specs.declared.fault.Trouble.TheVariants as trouble
use Rattle.swan_model.specs.declared.rights.Give.{Give}
use Rattle.swan_model.specs.declared.value.Kind.{Kind}
use Rattle.swan_model.specs.declared.value.Kind.TheVariants as kind
use Rattle.swan_model.specs.declared.value.Value.{Value}
use Rattle.swan_model.specs.declared.value.Value.TheVariants.{Int, Bytes}
use Rattle.swan_model.specs.Values.{kind_of, zero_of}
use Rattle.job_body.specs.declared.block.BlockWithLine.{BlockWithLine}
use Rattle.job_body.specs.declared.block.BlockWithLine.TheVariants as opened
use Rattle.job_body.specs.declared.take.Take.{Take}
use Rattle.job_body.specs.declared.take.Take.TheVariants as given
use Rattle.job_body.specs.Blocks.{blocks_at, exit_at}
use Rattle.job_body.specs.Operations.{number_of, is_true, flag, operation}
use Rattle.job_body.specs.Standing.{Standing}
use Rattle.job_body.specs.Tasks.{executed_from, task_index, lines_of_task, so_far_at, variables, zeros, takes, places}

-- the value of the variable with this name, where the values stand in the order of the names; the number 0
-- where there is none
abbrev pub value_named : List (List ℕ) → List Value → List ℕ → Value
value_named (other ∷ names) (value ∷ values) name = if bytes_eq other name then value else value_named names values name
value_named _ _ name = Int (pos 0)

-- the values where the variable with this name has a new one
abbrev pub values_with : List (List ℕ) → List Value → List ℕ → Value → List Value
values_with (other ∷ names) (value ∷ values) name new =
    if bytes_eq other name then new ∷ values else value ∷ values_with names values name new
values_with _ values name new = values

-- the names of the variables at a line
abbrev pub names_at : List Line → ℕ → List (List ℕ)
names_at lines i = variables (so_far_at lines i).lines

-- what an atom means at a line
abbrev pub value_at : List Line → ℕ → List Value → Atom → Value
value_at lines i values (atom.Int n) = Int n
value_at lines i values (atom.Bytes bytes) = Bytes bytes
value_at lines i values (atom.Name name) = value_named (names_at lines i) values name

-- the place of an object or a queue at a line; the number of places where it isn't there
abbrev pub place_at : List Line → ℕ → List ℕ → ℕ
place_at lines i name = position_or_len (λ other. bytes_eq other name) (places lines (so_far_at lines i))

abbrev pub place_of_atom : List Line → ℕ → Atom → ℕ
place_of_atom lines i (atom.Name name) = place_at lines i name
place_of_atom lines i _ = length (places lines (so_far_at lines i))

abbrev pub is_kind : Kind → Kind → Bool
is_kind kind.Int kind.Int = true
is_kind kind.Bytes kind.Bytes = true
is_kind _ _ = false

-- What is received for the last ask. An answer that wasn't asked for is nothing, and a value of the
-- other kind leaves the variable as it is.
abbrev pub received : List Line → Standing → List ℕ → Value → List Value
received lines s name new =
    if is_kind (kind_of (value_named (names_at lines s.before) s.values name)) (kind_of new)
    then values_with (names_at lines s.before) s.values name new
    else s.values

abbrev pub received_by : List Line → Standing → Option Line → Answer → List Value
received_by lines s (Some (line.Read v o)) (answer.Item value) = received lines s v value
received_by lines s (Some (line.Pop v q)) (answer.Item value) = received lines s v value
received_by lines s (Some (line.Empty v q)) (answer.Flag is_empty) = received lines s v (flag is_empty)
received_by lines s _ _ = s.values

-- how many children failed, once an answer to the last ask has come
abbrev pub caught_by : ℕ → Option Line → Answer → ℕ
caught_by caught (Some line.Sync) (answer.Caught failed) = failed
caught_by caught _ _ = caught

abbrev pub after_answer : List Line → Standing → Answer → Standing
after_answer lines s answer =
    record s { values = received_by lines s (slice_get lines s.before) answer; caught = caught_by s.caught (slice_get lines s.before) answer }

-- the activation once it has moved on to the first step from this line on
abbrev pub after_move_to : List Line → Standing → ℕ → Standing
after_move_to lines s to = record { before = s.at; at = executed_from lines to; values = s.values; caught = s.caught }

abbrev pub after_move_on : List Line → Standing → Standing
after_move_on lines s = after_move_to lines s (s.at + 1)

-- the activation once a variable has a new value and it has moved on
abbrev pub with_variable : List Line → Standing → List ℕ → Value → Standing
with_variable lines s name new =
    record { before = s.at; at = executed_from lines (s.at + 1); values = values_with (names_at lines s.at) s.values name new; caught = s.caught }

-- an assignment, by what its operation gives
abbrev pub step_of_assignment : List Line → Standing → List ℕ → Result Value Trouble → Standing × Ask Standing
step_of_assignment lines s name (Ok value) = (with_variable lines s name value, ask.Work)
step_of_assignment lines s name (Err why) = (s, ask.Fail why)

-- the value of the atom at an index among those of an operation, or the number 0 where there is none
abbrev pub value_of_argument : List Line → Standing → Option Atom → Value
value_of_argument lines s None = Int (pos 0)
value_of_argument lines s (Some a) = value_at lines s.at s.values a

abbrev pub result_of : List Line → Standing → List Atom → ℕ → Value
result_of lines s args index = value_of_argument lines s (slice_get args index)

-- What a child is given: the values of its `param` lines, and the places of its access lines.
abbrev pub value_given : List Line → Standing → Take × Atom → List Value
value_given lines s (given.Param, a) = value_at lines s.at s.values a ∷ []
value_given lines s _ = []

abbrev pub access_given : List Line → Standing → Take × Atom → List Give
access_given lines s (given.Access mode, a) = (record { place = place_of_atom lines s.at a; mode = mode }) ∷ []
access_given lines s _ = []

-- an activation of the task at this index before its first step, by the values of its `param` lines
abbrev pub begun : List Line → ℕ → List Value → Standing
begun lines index values =
    record { before = index; at = executed_from lines (index + 1); values = values ++ zeros (lines_of_task lines index); caught = 0 }

-- a spawn, by its fuel, by the index of its task, and by what the task is given
abbrev pub step_of_spawn : List Line → Standing → ℤ → ℕ → List (Take × Atom) → Standing × Ask Standing
step_of_spawn lines s (negsuc n) index given = (s, ask.Fail trouble.Range)
step_of_spawn lines s (pos fuel) index given =
    (after_move_on lines s, ask.Spawn (record { local = begun lines index (flat_map (value_given lines s) given); gives = flat_map (access_given lines s) given; fuel = fuel }))

-- the end of the innermost of these blocks, or of the task where there is none
abbrev pub ended : List Line → Standing → List BlockWithLine → Standing × Ask Standing
ended lines s [] = (s, ask.Finish)
ended lines s (opened.If ∷ blocks) = (after_move_on lines s, ask.Work)
ended lines s (opened.While i ∷ blocks) = (after_move_to lines s i, ask.Work)

-- a count as a number of the language; a run has less fuel and fewer children than a number can say
abbrev pub counted : ℕ → Value
counted n = Int (pos (min n (2 ^ 63 - 1)))

-- The step of a line. The number is the fuel that is left after the step's own unit.
abbrev pub step : List Line → Standing → ℕ → Line → Standing × Ask Standing
step lines s fuel (line.Queue name kind) = (after_move_on lines s, ask.NewQueue)
step lines s fuel (line.Object name kind) = (after_move_on lines s, ask.NewObject (zero_of kind))
step lines s fuel (line.Assign v o args) =
    step_of_assignment lines s v (operation o (result_of lines s args 0) (result_of lines s args 1) (result_of lines s args 2))
step lines s fuel (line.Read v o) = (after_move_on lines s, ask.Read (place_at lines s.at o))
step lines s fuel (line.Write o a) = (after_move_on lines s, ask.Write (place_at lines s.at o) (value_at lines s.at s.values a))
step lines s fuel (line.Push q a) = (after_move_on lines s, ask.Push (place_at lines s.at q) (value_at lines s.at s.values a))
step lines s fuel (line.Pop v q) = (after_move_on lines s, ask.Pop (place_at lines s.at q))
step lines s fuel (line.Empty v q) = (after_move_on lines s, ask.Empty (place_at lines s.at q))
step lines s fuel (line.Spawn a task args) =
    step_of_spawn lines s (number_of (value_at lines s.at s.values a)) (task_index lines task)
    (zip (takes (lines_of_task lines (task_index lines task))) args)
step lines s fuel line.Sync = (after_move_on lines s, ask.Sync)
step lines s fuel (line.Caught v) = (with_variable lines s v (counted s.caught), ask.Work)
step lines s fuel (line.Fuel v) = (with_variable lines s v (counted fuel), ask.Work)
step lines s fuel (line.Fail a) = (s, ask.Fail (trouble.User (number_of (value_at lines s.at s.values a))))
step lines s fuel (line.If a) =
    ((if is_true (value_at lines s.at s.values a) then after_move_on lines s else after_move_to lines s (exit_at lines s.at).otherwise), ask.Work)
step lines s fuel line.Else = (after_move_to lines s (exit_at lines s.at).after, ask.Work)
step lines s fuel (line.While a) =
    ((if is_true (value_at lines s.at s.values a) then after_move_on lines s else after_move_to lines s (exit_at lines s.at).after), ask.Work)
step lines s fuel line.End = ended lines s (blocks_at lines s.at)
step lines s fuel _ = (s, ask.Finish)

-- at a line that isn't there the task finishes
abbrev pub step_at : List Line → Standing → ℕ → Option Line → Standing × Ask Standing
step_at lines s fuel None = (s, ask.Finish)
step_at lines s fuel (Some line) = step lines s fuel line

abbrev pub next : List Line → Standing → Answer → ℕ → Standing × Ask Standing
next lines s answer fuel = step_at lines (after_answer lines s answer) fuel (slice_get lines s.at)

-- the number of the line at which an activation stands, from 1 on
abbrev pub place_of : List Line → Standing → ℕ
place_of lines s = s.at + 1
