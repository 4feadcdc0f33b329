-- No task takes more than a job has lines.
use Rattle.std.proofs.Common.{◌≡◌, ◌+◌, ◌≤◌, ℕ, zero, suc, List, [], ◌∷◌, Option, Some, None, length, slice_get, ap, arith, length-append}
use Rattle.std.proofs.lemmas.Option.{same_Some}
use Rattle.job_reader.specs.declared.line.Line.{Line}
use Rattle.job_reader.specs.declared.line.Line.TheVariants as line
use Rattle.swan_model.specs.declared.rights.TheConstants.{GIVES_MOST}
use Rattle.job_body.specs.declared.tasks.Task.{Task}
use Rattle.job_body.specs.Compiled.{TakeFew, task_at, tasks_from, tasks_of}
use Rattle.job_body.specs.Names.{slot}
use Rattle.job_body.specs.Tasks.{before_task, take_of, takes}

take_one : (l : Line) → length (take_of l) ≤ 1
take_one (line.Header edition) = omega arith
take_one (line.Note text) = omega arith
take_one (line.Input name) = omega arith
take_one (line.Output name kind) = omega arith
take_one (line.Object name kind) = omega arith
take_one (line.Task name) = omega arith
take_one (line.Param name kind) = omega arith
take_one (line.Access mode name kind) = omega arith
take_one (line.Var name kind) = omega arith
take_one (line.Queue name kind) = omega arith
take_one line.Do = omega arith
take_one (line.Assign v o args) = omega arith
take_one (line.Read v o) = omega arith
take_one (line.Write o a) = omega arith
take_one (line.Push q a) = omega arith
take_one (line.Pop v q) = omega arith
take_one (line.Empty v q) = omega arith
take_one (line.Spawn fuel task given) = omega arith
take_one line.Sync = omega arith
take_one (line.Caught v) = omega arith
take_one (line.Fuel v) = omega arith
take_one (line.Fail a) = omega arith
take_one (line.If a) = omega arith
take_one line.Else = omega arith
take_one (line.While a) = omega arith
take_one line.End = omega arith

takes_most : (lines : List Line) → length (takes lines) ≤ length lines
takes_most [] = omega arith
takes_most (l ∷ lines) = omega (arith, length-append (take_of l) (takes lines), take_one l, takes_most lines)

before_most : (lines : List Line) → length (before_task lines) ≤ length lines
before_most [] = omega arith
before_most (line.Task name ∷ lines) = omega arith
before_most (l ∷ lines) = omega (arith, before_most lines)

some_most : (lines : List Line) (k i : ℕ) (task : Task) → slice_get (tasks_from k lines) i ≡ Some task → length task.takes ≤ length lines
some_most [] k i task is = absurd (cc)
some_most (line.Task name ∷ lines) k zero task is =
    let many : length (takes (before_task lines)) ≡ length task.takes = ap (λ (t : Task). length t.takes) (same_Some _ task is) in
    omega (arith, many, takes_most (before_task lines), before_most lines)
some_most (line.Task name ∷ lines) k (suc i) task is = omega (arith, some_most lines (k + 1) i task is)
some_most (l ∷ lines) k i task is = omega (arith, some_most lines (k + 1) i task is)

named_most : (lines : List Line) (at : Option ℕ) (task : Task) → task_at (tasks_from 0 lines) at ≡ Some task → length task.takes ≤ length lines
named_most lines None task is = absurd (cc)
named_most lines (Some i) task is = some_most lines 0 i task is

-- so where there are few lines each task takes few
pub few_takes : (lines : List Line) → length lines ≤ GIVES_MOST → TakeFew (tasks_of lines)
few_takes lines few = record { each = λ name task is. omega (arith, few, named_most lines (slot (tasks_of lines).names name) task is) }
