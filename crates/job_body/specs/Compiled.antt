-- How the code keeps a job: an instruction for each line, which knows the places of its variables,
-- objects and queues and where it goes on. The code alone is stated by this, and no public clause.
use Rattle.std.specs.Prelude.{◌≡◌, ◌≤◌, ℕ, ◌+◌, false, Option, Some, None, List, [], ◌∷◌, ◌++◌, length, drop, flat_map, zip, slice_get, unwrap_or, pos, if◌then◌else◌}
use Rattle.job_body.specs.Blocks.{blocks_after_end, blocks_at, exits, first_exit, innermost}
use Rattle.job_body.specs.Names.{slot}
use Rattle.job_body.specs.Tasks.{access_name_of, before_task, executed_from, made_of, param_of, roots, so_far_at, takes, top_lines, var_kinds, var_of}
use Rattle.privilege_check.specs.Names.{is_main}
use Rattle.job_body.specs.declared.block.BlockWithLine.{BlockWithLine}
use Rattle.job_body.specs.declared.block.BlockWithLine.TheVariants as opened
use Rattle.job_body.specs.declared.exit.Exit.{Exit}
use Rattle.job_body.specs.declared.instruction.Action.{Action}
use Rattle.job_body.specs.declared.instruction.Action.TheVariants as action
use Rattle.job_body.specs.declared.instruction.Demand.TheVariants as demand
use Rattle.job_body.specs.declared.instruction.Instruction.{Instruction}
use Rattle.job_body.specs.declared.instruction.IntOp.{IntOp}
use Rattle.job_body.specs.declared.instruction.IntOp.TheVariants as int
use Rattle.job_body.specs.declared.instruction.Num.{Num}
use Rattle.job_body.specs.declared.instruction.Num.TheVariants as num
use Rattle.job_body.specs.declared.instruction.Operand.{Operand}
use Rattle.job_body.specs.declared.instruction.Operand.TheVariants as operand
use Rattle.job_body.specs.declared.instruction.Work.{Work}
use Rattle.job_body.specs.declared.instruction.Work.TheVariants as work
use Rattle.job_body.specs.declared.scope.Scope.{Scope}
use Rattle.job_body.specs.declared.take.Take.{Take}
use Rattle.job_body.specs.declared.take.Take.TheVariants as given
use Rattle.job_body.specs.declared.tasks.Task.{Task}
use Rattle.job_body.specs.declared.tasks.Tasks.{Tasks}
use Rattle.job_reader.specs.declared.atom.Atom.{Atom}
use Rattle.job_reader.specs.declared.atom.Atom.TheVariants as atom
use Rattle.job_reader.specs.declared.line.Line.{Line}
use Rattle.job_reader.specs.declared.line.Line.TheVariants as line
use Rattle.job_reader.specs.declared.op.Op.{Op}
use Rattle.job_reader.specs.declared.op.Op.TheVariants as op
use Rattle.swan_model.specs.declared.rights.Give.{Give}
use Rattle.swan_model.specs.declared.rights.TheConstants.{GIVES_MOST}
use Rattle.swan_model.specs.declared.value.Kind.{Kind}

-- what is known of the tasks: their names, and for each its index and what it takes
abbrev pub name_of_task : Line → List (List ℕ)
name_of_task (line.Task name) = name ∷ []
name_of_task _ = []

abbrev pub tasks_from : ℕ → List Line → List Task
tasks_from i [] = []
tasks_from i (line.Task name ∷ lines) =
    (record { index = i; takes = takes (before_task lines) }) ∷ tasks_from (i + 1) lines
tasks_from i (line ∷ lines) = tasks_from (i + 1) lines

abbrev pub tasks_of : List Line → Tasks
tasks_of lines = record { names = flat_map name_of_task lines; tasks = tasks_from 0 lines }

abbrev pub task_at : List Task → Option ℕ → Option Task
task_at tasks None = None
task_at tasks (Some i) = slice_get tasks i

abbrev pub task_of_name : Tasks → List ℕ → Option Task
task_of_name tasks name = task_at tasks.tasks (slot tasks.names name)

-- no task takes more than a spawn may give
pub record TakeFew (tasks : Tasks) : Type 0 where
  pub each : (name : List ℕ) (task : Task) → task_of_name tasks name ≡ Some task → length task.takes ≤ GIVES_MOST

-- how the block goes on that each line opens
abbrev pub exits_from : ℕ → ℕ → List Line → List Exit
exits_from end i [] = []
exits_from end i (line ∷ lines) = first_exit end (exits (i + 1) lines) ∷ exits_from end (i + 1) lines

abbrev pub exits_of : List Line → List Exit
exits_of lines = exits_from (length lines) 0 lines

-- what is known before the first line, and after a `task` line
abbrev pub scope_before : List (List ℕ) → Scope
scope_before roots = record { roots = roots; is_main = false; params = []; vars = []; accesses = []; made = []; blocks = [] }

abbrev pub scope_past_task : List (List ℕ) → List ℕ → Scope
scope_past_task roots name = record { roots = roots; is_main = is_main name; params = []; vars = []; accesses = []; made = []; blocks = [] }

-- what is known after a line
abbrev pub scope_past : ℕ → Scope → Line → Scope
scope_past i s (line.Task name) = scope_past_task s.roots name
scope_past i s (line.Param name kind) = record s { params = s.params ++ name ∷ [] }
scope_past i s (line.Var name kind) = record s { vars = s.vars ++ name ∷ [] }
scope_past i s (line.Access mode name kind) = record s { accesses = s.accesses ++ name ∷ [] }
scope_past i s (line.Queue name kind) = record s { made = s.made ++ name ∷ [] }
scope_past i s (line.Object name kind) = record s { made = s.made ++ name ∷ [] }
scope_past i s (line.If a) = record s { blocks = opened.If ∷ s.blocks }
scope_past i s (line.While a) = record s { blocks = opened.While i ∷ s.blocks }
scope_past i s line.End = record s { blocks = blocks_after_end s.blocks }
scope_past i s _ = s

-- no more names of one sort than this are known of a task
pub record KnowsFew (s : Scope) (most : ℕ) : Type 0 where
  pub params : length s.params ≤ most
  pub vars : length s.vars ≤ most
  pub accesses : length s.accesses ≤ most
  pub made : length s.made ≤ most

-- what is known at the line with an index
abbrev pub seen_at : List Line → ℕ → Scope
seen_at lines i = record {
  roots = roots (top_lines lines);
  is_main = is_main (so_far_at lines i).name;
  params = flat_map param_of (so_far_at lines i).lines;
  vars = flat_map var_of (so_far_at lines i).lines;
  accesses = flat_map access_name_of (so_far_at lines i).lines;
  made = flat_map made_of (so_far_at lines i).lines;
  blocks = blocks_at lines i;
}

-- the slot of a variable, and the place of an object or a queue
abbrev pub slot_in : Scope → List ℕ → Option ℕ
slot_in s name = slot (s.params ++ s.vars) name

abbrev pub roots_in : Scope → List (List ℕ)
roots_in s = if s.is_main then s.roots else []

abbrev pub places_in : Scope → List (List ℕ)
places_in s = roots_in s ++ (s.accesses ++ s.made)

abbrev pub place_in : Scope → List ℕ → ℕ
place_in s name = unwrap_or (slot (places_in s) name) (length (places_in s))

-- an atom as an operand; an unknown name is the number 0
abbrev pub variable : Option ℕ → Operand
variable None = operand.Int (pos 0)
variable (Some i) = operand.Variable i

abbrev pub operand_of : Scope → Atom → Operand
operand_of s (atom.Int n) = operand.Int n
operand_of s (atom.Bytes bytes) = operand.Bytes bytes
operand_of s (atom.Name name) = variable (slot_in s name)

abbrev pub or_zero : Scope → Option Atom → Operand
or_zero s None = operand.Int (pos 0)
or_zero s (Some a) = operand_of s a

abbrev pub atom_place_in : Scope → Atom → ℕ
atom_place_in s (atom.Name name) = place_in s name
atom_place_in s _ = length (places_in s)

-- the number that an operand means; bytes count as 0
abbrev pub num_of : Operand → Num
num_of (operand.Int n) = num.Const n
num_of (operand.Bytes bytes) = num.Const (pos 0)
num_of (operand.Variable i) = num.Slot i

-- an operation as one on numbers, where it looks at nothing but numbers and gives one
abbrev pub int_op : Op → Option IntOp
int_op op.Add = Some int.Add
int_op op.Sub = Some int.Sub
int_op op.Mul = Some int.Mul
int_op op.Div = Some int.Div
int_op op.Rem = Some int.Rem
int_op op.Lt = Some int.Lt
int_op op.Le = Some int.Le
int_op op.And = Some int.And
int_op op.Or = Some int.Or
int_op op.Not = Some int.Not
int_op _ = None

-- an assignment; one on numbers to a known variable takes them from where they stand
abbrev pub assign_by : Option IntOp → Op → Option ℕ → Operand → Operand → Operand → Work
assign_by (Some o) op (Some slot) a b c = work.Ints o slot (num_of a) (num_of b)
assign_by _ op slot a b c = work.Assign slot op a b c

abbrev pub assign_of : Op → Option ℕ → Operand → Operand → Operand → Work
assign_of op slot a b c = assign_by (int_op op) op slot a b c

-- what a child is given
abbrev pub param_given : Scope → Take × Atom → List Operand
param_given s (given.Param, a) = operand_of s a ∷ []
param_given s _ = []

abbrev pub give_given : Scope → Take × Atom → List Give
give_given s (given.Access mode, a) = (record { place = atom_place_in s a; mode = mode }) ∷ []
give_given s _ = []

-- a spawn; an unknown task stands past all lines and takes nothing
abbrev pub spawn_action : List Line → Scope → Atom → Option Task → List Atom → Action
spawn_action lines s fuel None args = action.Demand (demand.Spawn (operand_of s fuel) (length lines) [] [])
spawn_action lines s fuel (Some task) args =
    action.Demand (demand.Spawn (operand_of s fuel) task.index (flat_map (param_given s) (zip task.takes args)) (flat_map (give_given s) (zip task.takes args)))

-- the kinds of the variables of the task at an index
abbrev pub kinds_after : List Line → ℕ → List Kind
kinds_after lines i = var_kinds (before_task (drop (i + 1) lines))

-- a branch, by where it goes on if the atom is false
abbrev pub branch_of : List Line → Scope → Atom → ℕ → Action
branch_of lines s a otherwise = action.Work (work.Branch (num_of (operand_of s a)) (executed_from lines otherwise))

-- what the `end` of the innermost block does, or that of the task
abbrev pub end_action : Option BlockWithLine → Action
end_action None = action.Demand demand.Finish
end_action (Some block) = action.Work work.Go

abbrev pub after_end_of : List Line → ℕ → Option BlockWithLine → ℕ
after_end_of lines i (Some (opened.While index)) = executed_from lines index
after_end_of lines i _ = executed_from lines (i + 1)

-- what a line does
abbrev pub action_of : List Line → Tasks → Scope → Exit → ℕ → Line → Action
action_of lines tasks s exit i (line.Task name) = action.Demand (demand.Begin (kinds_after lines i))
action_of lines tasks s exit i (line.Queue name kind) = action.Demand demand.NewQueue
action_of lines tasks s exit i (line.Object name kind) = action.Demand (demand.NewObject kind)
action_of lines tasks s exit i (line.Assign v op args) =
    action.Work (assign_of op (slot_in s v) (or_zero s (slice_get args 0)) (or_zero s (slice_get args 1)) (or_zero s (slice_get args 2)))
action_of lines tasks s exit i (line.Read v o) = action.Demand (demand.Read (slot_in s v) (place_in s o))
action_of lines tasks s exit i (line.Write o a) = action.Demand (demand.Write (place_in s o) (operand_of s a))
action_of lines tasks s exit i (line.Push q a) = action.Demand (demand.Push (place_in s q) (operand_of s a))
action_of lines tasks s exit i (line.Pop v q) = action.Demand (demand.Pop (slot_in s v) (place_in s q))
action_of lines tasks s exit i (line.Empty v q) = action.Demand (demand.Empty (slot_in s v) (place_in s q))
action_of lines tasks s exit i (line.Spawn fuel task args) = spawn_action lines s fuel (task_of_name tasks task) args
action_of lines tasks s exit i line.Sync = action.Demand demand.Sync
action_of lines tasks s exit i (line.Caught v) = action.Work (work.Caught (slot_in s v))
action_of lines tasks s exit i (line.Fuel v) = action.Work (work.Fuel (slot_in s v))
action_of lines tasks s exit i (line.Fail a) = action.Demand (demand.Fail (operand_of s a))
action_of lines tasks s exit i (line.If a) = branch_of lines s a exit.otherwise
action_of lines tasks s exit i line.Else = action.Work work.Go
action_of lines tasks s exit i (line.While a) = branch_of lines s a exit.after
action_of lines tasks s exit i line.End = end_action (innermost s.blocks)
action_of lines tasks s exit i _ = action.Demand demand.Finish

-- where a line goes on
abbrev pub next_of : List Line → Scope → Exit → ℕ → Line → ℕ
next_of lines s exit i line.Else = executed_from lines exit.after
next_of lines s exit i line.End = after_end_of lines i (innermost s.blocks)
next_of lines s exit i _ = executed_from lines (i + 1)

abbrev pub instruction_of : List Line → Tasks → Scope → Exit → ℕ → Line → Instruction
instruction_of lines tasks s exit i line =
    record { action = action_of lines tasks s exit i line; next = next_of lines s exit i line }

-- the instructions of lines, the first of which has this index
abbrev pub instructions_from : List Line → ℕ → List Line → List Instruction
instructions_from job i [] = []
instructions_from job i (line ∷ lines) =
    instruction_of job (tasks_of job) (seen_at job i) (first_exit (length job) (exits (i + 1) lines)) i line
    ∷ instructions_from job (i + 1) lines

abbrev pub program_of : List Line → List Instruction
program_of job = instructions_from job 0 job
