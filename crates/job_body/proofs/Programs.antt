-- The instruction of a line, the task of a name, and how an activation begins.
use Rattle.std.proofs.Common.{◌≡◌, ℕ, zero, suc, ◌+◌, Bool, true, false, cond, not, Option, Some, None, List, [], ◌∷◌, ◌++◌, length, drop, flat_map, map, slice_get, bytes_eq, option_map, if◌then◌else◌, refl, sym, ap, ◌∙◌, arith}
use Rattle.std.proofs.lemmas.List.{append-nil, drop_all}
use Rattle.std.proofs.lemmas.Option.{slice_get_past}
use Rattle.std.specs.List.{position_or_len}
use native.Mathlib.Numerals.{unary_clauses}
use Rattle.job_reader.specs.declared.line.Line.{Line}
use Rattle.job_reader.specs.declared.line.Line.TheVariants as line
use Rattle.swan_model.specs.declared.value.Value.{Value}
use Rattle.job_body.specs.declared.instruction.Instruction.{Instruction}
use Rattle.job_body.specs.declared.tasks.Task.{Task}
use Rattle.job_body.specs.Blocks.{exit_at, exits, first_exit}
use Rattle.job_body.specs.Compiled.{instruction_of, instructions_from, name_of_task, program_of, seen_at, task_at, task_of_name, tasks_from, tasks_of}
use Rattle.job_body.specs.Names.{slot}
use Rattle.job_body.specs.Runs.{begun_by, begun_in}
use Rattle.job_body.specs.Steps.{begun}
use Rattle.swan_model.specs.Values.{zero_of}
use Rattle.job_body.specs.Tasks.{before_task, begins, passed_over, var_kinds, takes, task_index}

-- ---- the instruction of a line

instruction-from : (job lines : List Line) (j k i : ℕ) → i ≡ j + k → slice_get (instructions_from job j lines) k ≡ option_map (λ line. instruction_of job (tasks_of job) (seen_at job i) (first_exit (length job) (exits (i + 1) (drop (k + 1) lines))) i line) (slice_get lines k)
instruction-from job [] j k i e = refl
instruction-from job (first ∷ lines) j zero i e = let same : i ≡ j = omega arith in rw same refl
instruction-from job (first ∷ lines) j (suc k) i e = simp unary_clauses (simp unary_clauses at (instruction-from job lines (j + 1) k i (omega arith)))

-- the instruction that a line has in the program of its job
pub instruction-at : (job : List Line) (i : ℕ) → slice_get (program_of job) i ≡ option_map (λ line. instruction_of job (tasks_of job) (seen_at job i) (exit_at job i) i line) (slice_get job i)
instruction-at job i = instruction-from job job 0 i i (omega arith)

-- ---- the task of a name

found_from : ℕ → List Line → List ℕ → Option Task
found_from j [] name = None
found_from j (line.Task other ∷ lines) name =
    if bytes_eq other name then Some (record { index = j; takes = takes (before_task lines) }) else found_from (j + 1) lines name
found_from j (line ∷ lines) name = found_from (j + 1) lines name

later : (task : Task) (tasks : List Task) (i : Option ℕ) → task_at (task ∷ tasks) (option_map (λ k. suc k) i) ≡ task_at tasks i
later task tasks None = refl
later task tasks (Some i) = refl

task-chosen : (b : Bool) (j : ℕ) (other : List ℕ) (lines : List Line) (name : List ℕ)
    → task_at (tasks_from (j + 1) lines) (slot (flat_map name_of_task lines) name) ≡ found_from (j + 1) lines name
    → task_at (tasks_from j (line.Task other ∷ lines)) (if b then Some 0 else option_map (λ i. suc i) (slot (flat_map name_of_task lines) name))
    ≡ (if b then Some (record { index = j; takes = takes (before_task lines) }) else found_from (j + 1) lines name)
task-chosen true j other lines name e = refl
task-chosen false j other lines name e = later _ (tasks_from (j + 1) lines) (slot (flat_map name_of_task lines) name) ∙ e

task-from : (j : ℕ) (lines : List Line) (name : List ℕ) → task_at (tasks_from j lines) (slot (flat_map name_of_task lines) name) ≡ found_from j lines name
unfolding found_from
task-from j [] name = refl
task-from j (line.Task other ∷ lines) name = task-chosen (bytes_eq other name) j other lines name (task-from (j + 1) lines name)
task-from j (line ∷ lines) name = task-from (j + 1) lines name

-- What is found of a name: the task of the `task` line at an index; or nothing, where the index is that past
-- all lines.
pub data IsFound (lines : List Line) (j p : ℕ) (found : Option Task) : Type 0 where
  at_line : (name : List ℕ) → slice_get lines p ≡ Some (line.Task name)
      → found ≡ Some (record { index = j + p; takes = takes (before_task (drop (p + 1) lines)) }) → IsFound lines j p found
  nowhere : p ≡ length lines → found ≡ None → IsFound lines j p found

dropped : {A : Type 0} (x : A) (xs : List A) (p : ℕ) → drop (p + 1) xs ≡ drop (1 + p + 1) (x ∷ xs)
dropped x xs p = let e : 1 + p + 1 ≡ suc (p + 1) = omega arith in rw e refl

gotten : {A : Type 0} (x : A) (xs : List A) (p : ℕ) → slice_get (x ∷ xs) (1 + p) ≡ slice_get xs p
gotten x xs p = let e : 1 + p ≡ suc p = omega arith in rw e refl

skipped : (line : Line) (lines : List Line) (j p : ℕ) (found : Option Task) → IsFound lines (j + 1) p found → IsFound (line ∷ lines) j (1 + p) found
skipped first lines j p found (at_line name h e) =
    at_line name (gotten first lines p ∙ h)
    (e ∙ ap (λ i. Some (record { index = i; takes = takes (before_task (drop (p + 1) lines)) })) (let same : j + 1 + p ≡ j + (1 + p) = omega arith in same)
    ∙ ap (λ rest. Some (record { index = j + (1 + p); takes = takes (before_task rest) })) (dropped first lines p))
skipped first lines j p found (nowhere e f) = nowhere (omega arith) f

find-task : (j : ℕ) (lines : List Line) (name : List ℕ) → IsFound lines j (position_or_len (begins name) lines) (found_from j lines name)
unfolding found_from
find-task j [] name = nowhere refl refl
find-task j (line.Task other ∷ lines) name =
    elim (bytes_eq other name) as (λ b. IsFound (line.Task other ∷ lines) j (cond (not b) (1 + position_or_len (begins name) lines) 0) (if b then Some (record { index = j; takes = takes (before_task lines) }) else found_from (j + 1) lines name)) [
      | true ↦ at_line other refl (ap (λ i. Some (record { index = i; takes = takes (before_task lines) })) (let same : j ≡ j + 0 = omega arith in same))
      | false ↦ skipped (line.Task other) lines j (position_or_len (begins name) lines) (found_from (j + 1) lines name) (find-task (j + 1) lines name)
    ]
find-task j (line ∷ lines) name = skipped line lines j (position_or_len (begins name) lines) (found_from (j + 1) lines name) (find-task (j + 1) lines name)

-- what the tasks of a job answer for a name
pub task-found : (lines : List Line) (name : List ℕ) → IsFound lines 0 (task_index lines name) (task_of_name (tasks_of lines) name)
task-found lines name = rw (task-from 0 lines name) (find-task 0 lines name)

-- ---- how an activation begins

abbrev pub instruction : List Line → ℕ → Line → Instruction
instruction job i line = instruction_of job (tasks_of job) (seen_at job i) (exit_at job i) i line

begun-at-task : (job : List Line) (i : ℕ) (name : List ℕ) (values : List Value) → slice_get job i ≡ Some (line.Task name) → begun_in (program_of job) i values ≡ begun job i values
begun-at-task job i name values h = ap (begun_by i values) (instruction-at job i ∙ ap (option_map (instruction job i)) h)

begun-past : (job : List Line) (values : List Value) → begun_in (program_of job) (length job) values ≡ begun job (length job) values
begun-past job values =
    ap (begun_by (length job) values) (instruction-at job (length job) ∙ ap (option_map (instruction job (length job))) (slice_get_past job (length job) (omega arith)))
    ∙ ap (λ at. record { before = length job; at = at; values = values; caught = 0 }) (let same : length job + 1 ≡ length job + 1 + 0 = omega arith in same)
    ∙ ap (λ all. record { before = length job; at = length job + 1 + 0; values = all; caught = 0 }) (sym (append-nil values))
    ∙ ap (λ rest. record { before = length job; at = length job + 1 + passed_over rest; values = values ++ map zero_of (var_kinds (before_task rest)); caught = 0 }) (sym (drop_all (length job + 1) job (omega arith)))

begun-found : (job : List Line) (p : ℕ) (found : Option Task) (values : List Value) → IsFound job 0 p found → begun_in (program_of job) p values ≡ begun job p values
begun-found job p found values (at_line name h e) = begun-at-task job p name values h
begun-found job p found values (nowhere e f) = rw e (begun-past job values)

pub begun-named : (job : List Line) (name : List ℕ) (values : List Value) → begun_in (program_of job) (task_index job name) values ≡ begun job (task_index job name) values
begun-named job name values = begun-found job (task_index job name) (task_of_name (tasks_of job) name) values (task-found job name)
