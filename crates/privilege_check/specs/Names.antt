-- What the lines before a line say: which names are known at it and what they stand for, which tasks
-- there are, and what each of them takes.
use Rattle.std.specs.Prelude.{ℕ, Bool, Option, Some, None, List, [], ◌∷◌, ◌++◌, codes, bytes_eq, option_map, if◌then◌else◌}
use Rattle.std.specs.Map.{update}
use Rattle.std.specs.Option.{option_or}
use Rattle.swan_model.specs.declared.rights.Mode.TheVariants.{InOut, Push, Pop, PushPop}
use Rattle.swan_model.specs.declared.value.Kind.TheVariants as kind
use Rattle.job_reader.specs.declared.line.Line.{Line}
use Rattle.job_reader.specs.declared.line.Line.TheVariants as line
use Rattle.privilege_check.specs.declared.declaration.Declaration.{Declaration}
use Rattle.privilege_check.specs.declared.declaration.Declaration.TheVariants.{Variable, Held}

-- what each name stands for, if it is known
abbrev pub KnownNames : Type 0
KnownNames = List ℕ → Option Declaration

abbrev pub no_names : {A : Type 0} → List ℕ → Option A
no_names name = None

-- What the lines before a line say: the names of the top level; the open task, if a task is open or
-- was, and the names that it declares; and what each task takes, in order: values where it takes a
-- variable, and else an object or a queue and the rights to it.
pub record Before : Type 0 where
  pub top : List ℕ → Option Declaration
  pub open_task : Option (List ℕ)
  pub own : List ℕ → Option Declaration
  pub tasks : List ℕ → Option (List Declaration)

-- before the first line
abbrev pub before_first_line : Before
before_first_line = record { top = no_names; open_task = None; own = no_names; tasks = no_names }

abbrev pub is_main : List ℕ → Bool
is_main task = bytes_eq task (codes "main")

-- The names that are known: at the top level its own, in a task those that it declares, and in main
-- those of the top level too.
abbrev pub known_in : Option (List ℕ) → KnownNames → KnownNames → KnownNames
known_in None own top name = top name
known_in (Some task) own top name = option_or (own name) (if is_main task then top name else None)

abbrev pub known : Before → KnownNames
known before = known_in before.open_task before.own before.top

-- A declaration adds a name at the top level, or to the open task.
abbrev pub with_name : List ℕ → Declaration → KnownNames → KnownNames
with_name name declaration names = update bytes_eq names name (Some declaration)

abbrev pub after_declare_in : Option (List ℕ) → List ℕ → Declaration → Before → Before
after_declare_in None name declaration before = record before { top = with_name name declaration before.top }
after_declare_in (Some task) name declaration before = record before { own = with_name name declaration before.own }

abbrev pub after_declare : List ℕ → Declaration → Before → Before
after_declare name declaration before = after_declare_in before.open_task name declaration before

-- A `param` or access line says what the open task takes next.
abbrev pub with_next : List ℕ → Declaration → (List ℕ → Option (List Declaration)) → List ℕ → Option (List Declaration)
with_next task declaration tasks = update bytes_eq tasks task (option_map (λ takes. takes ++ declaration ∷ []) (tasks task))

abbrev pub taken_by : Option (List ℕ) → Declaration → Before → Before
taken_by None declaration before = before
taken_by (Some task) declaration before = record before { tasks = with_next task declaration before.tasks }

abbrev pub with_taken : Declaration → Before → Before
with_taken declaration before = taken_by before.open_task declaration before

abbrev pub after_declare_taken : List ℕ → Declaration → Before → Before
after_declare_taken name declaration before = with_taken declaration (after_declare name declaration before)

-- a `task` line opens a task, which takes and declares nothing so far
abbrev pub after_open : List ℕ → Before → Before
after_open task before =
    record {
      top = before.top;
      open_task = Some task;
      own = no_names;
      tasks = update bytes_eq before.tasks task (Some []);
    }

-- what the lines up to a line say, by what the lines before it say
abbrev pub after_line : Before → Line → Before
after_line before (line.Input name) = after_declare name (Held Pop kind.Bytes) before
after_line before (line.Output name k) = after_declare name (Held Push k) before
after_line before (line.Object name k) = after_declare name (Held InOut k) before
after_line before (line.Task name) = after_open name before
after_line before (line.Param name k) = after_declare_taken name (Variable k) before
after_line before (line.Access mode name k) = after_declare_taken name (Held mode k) before
after_line before (line.Var name k) = after_declare name (Variable k) before
after_line before (line.Queue name k) = after_declare name (Held PushPop k) before
after_line before _ = before
