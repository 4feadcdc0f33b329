-- The first fault of a job: the first faulty line, with the first kind of fault that it has.
use Rattle.std.specs.Prelude.{ℕ, suc, Bool, false, Option, Some, None, Result, Ok, Err, List, [], ◌∷◌, codes, if◌then◌else◌}
use Rattle.swan_model.specs.declared.rights.Mode.{Mode}
use Rattle.swan_model.specs.declared.rights.Mode.TheVariants.{In, Out, Push, Pop}
use Rattle.swan_model.specs.declared.value.Kind.TheVariants.{Int}
use Rattle.job_reader.specs.Faults.{◌>>=◌}
use Rattle.job_reader.specs.declared.atom.Atom.{Atom}
use Rattle.job_reader.specs.declared.fault.JobFault.{JobFault}
use Rattle.job_reader.specs.declared.fault.JobKind.{JobKind}
use Rattle.job_reader.specs.declared.fault.JobKind.TheVariants as fault
use Rattle.job_reader.specs.declared.line.Line.{Line}
use Rattle.job_reader.specs.declared.line.Line.TheVariants as line
use Rattle.privilege_check.specs.Names.{Before, after_line, before_first_line, is_main, known, KnownNames}
use Rattle.privilege_check.specs.Operations.{check_assignment}
use Rattle.privilege_check.specs.Spawns.{spawn}
use Rattle.privilege_check.specs.Uses.{held, value, variable}

-- a name that is declared isn't known yet
abbrev pub fresh : {A : Type 0} → Option A → Result (Unit {0}) JobKind
fresh None = Ok tt
fresh (Some known) = Err fault.Duplicate

-- whether the open task is main
abbrev pub is_in_main : Option (List ℕ) → Bool
is_in_main None = false
is_in_main (Some task) = is_main task

-- main takes nothing
abbrev pub outside_main : Option (List ℕ) → Result (Unit {0}) JobKind
outside_main task = if is_in_main task then Err fault.MainParams else Ok tt

-- a check of a use, whatever kind was found
abbrev pub kind_dropped : {A : Type 0} → Result A JobKind → Result (Unit {0}) JobKind
kind_dropped (Ok a) = Ok tt
kind_dropped (Err k) = Err k

-- a name that the open task takes
abbrev pub fresh_taken : KnownNames → Option (List ℕ) → List ℕ → Result (Unit {0}) JobKind
fresh_taken names task name = fresh (names name) >>= λ _. outside_main task

-- what goes from an object or a queue into a variable: the variable, and then the other, of its kind
abbrev pub taken_out : KnownNames → List ℕ → Mode → List ℕ → Result (Unit {0}) JobKind
taken_out names v mode name = kind_dropped (variable names None v >>= λ k. held names (Some k) mode name)

-- what goes into an object or a queue: the object or queue, and then the atom, of its kind
abbrev pub put_in : KnownNames → Mode → List ℕ → Atom → Result (Unit {0}) JobKind
put_in names mode name a = kind_dropped (held names None mode name >>= λ k. value names (Some k) a)

-- an emptiness test: the variable, which is a number, and then the queue, of any kind
abbrev pub emptiness : KnownNames → List ℕ → List ℕ → Result (Unit {0}) JobKind
emptiness names v q = kind_dropped (variable names (Some Int) v >>= λ _. held names None Pop q)

-- a declaration, or a statement that names neither a task nor an operation
abbrev pub plain : KnownNames → Option (List ℕ) → Line → Result (Unit {0}) JobKind
plain names task (line.Input name) = fresh (names name)
plain names task (line.Output name k) = fresh (names name)
plain names task (line.Object name k) = fresh (names name)
plain names task (line.Param name k) = fresh_taken names task name
plain names task (line.Access mode name k) = fresh_taken names task name
plain names task (line.Var name k) = fresh (names name)
plain names task (line.Queue name k) = fresh (names name)
plain names task (line.Read v o) = taken_out names v In o
plain names task (line.Write o a) = put_in names Out o a
plain names task (line.Push q a) = put_in names Push q a
plain names task (line.Pop v q) = taken_out names v Pop q
plain names task (line.Empty v q) = emptiness names v q
plain names task (line.Caught v) = kind_dropped (variable names (Some Int) v)
plain names task (line.Fuel v) = kind_dropped (variable names (Some Int) v)
plain names task (line.Fail a) = kind_dropped (value names (Some Int) a)
plain names task (line.If a) = kind_dropped (value names (Some Int) a)
plain names task (line.While a) = kind_dropped (value names (Some Int) a)
plain names task _ = Ok tt

-- a line, by what the lines before it say
abbrev pub check_line : Before → Line → Result (Unit {0}) JobKind
check_line before (line.Task name) = fresh (before.tasks name)
check_line before (line.Assign v op atoms) = check_assignment (known before) v op atoms
check_line before (line.Spawn fuel task args) = spawn before fuel task args
check_line before other = plain (known before) before.open_task other

-- a job has a task main; where it has none, its last line is named
abbrev pub has_main : {A : Type 0} → ℕ → Option A → Option JobFault
has_main last (Some takes) = None
has_main last None = Some (record { line = last; kind = fault.NoMain })

-- the fault of a line by its number, or a later one
abbrev pub or_later : ℕ → Result (Unit {0}) JobKind → Option JobFault → Option JobFault
or_later number (Ok _) later = later
or_later number (Err k) later = Some (record { line = number; kind = k })

-- the first fault of lines, before which so many lines stand
abbrev pub fault_from : ℕ → Before → List Line → Option JobFault
fault_from number before [] = has_main number (before.tasks (codes "main"))
fault_from number before (line ∷ more) =
    or_later (suc number) (check_line before line) (fault_from (suc number) (after_line before line) more)

-- the first fault of a job, if it has one
abbrev pub first_fault : List Line → Option JobFault
first_fault job = fault_from 0 before_first_line job
