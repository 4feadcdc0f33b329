-- What a spawn may give to a task.
use Rattle.std.specs.Prelude.{ℕ, ◌==◌, Bool, false, not, ◌&&◌, ◌||◌, Option, Some, None, Result, Ok, Err, List, [], ◌∷◌, length, bytes_eq, if◌then◌else◌}
use Rattle.std.specs.List.{list_any}
use Rattle.swan_model.specs.Rights.{is_in}
use Rattle.swan_model.specs.declared.rights.Mode.{Mode}
use Rattle.swan_model.specs.declared.value.Kind.{Kind}
use Rattle.swan_model.specs.declared.value.Kind.TheVariants as kind
use Rattle.job_reader.specs.Faults.{◌>>=◌}
use Rattle.job_reader.specs.declared.atom.Atom.{Atom}
use Rattle.job_reader.specs.declared.atom.Atom.TheVariants as atom
use Rattle.job_reader.specs.declared.fault.JobKind.{JobKind}
use Rattle.job_reader.specs.declared.fault.JobKind.TheVariants as fault
use Rattle.privilege_check.specs.Names.{Before, is_main, known, KnownNames}
use Rattle.privilege_check.specs.Uses.{held, value}
use Rattle.privilege_check.specs.declared.declaration.Declaration.{Declaration}
use Rattle.privilege_check.specs.declared.declaration.Declaration.TheVariants.{Variable, Held}

-- the task that is spawned, as what it takes; main is never spawned
abbrev pub as_child : List ℕ → Option (List Declaration) → Result (List Declaration) JobKind
as_child task None = Err fault.Unknown
as_child task (Some takes) = if is_main task then Err fault.MainParams else Ok takes

-- an argument for what a task takes: an atom for a variable, and else a name with the rights
abbrev pub argument : KnownNames → Declaration → Atom → Result Kind JobKind
argument names (Variable k) a = value names (Some k) a
argument names (Held mode k) (atom.Name name) = held names (Some k) mode name
argument names (Held mode k) _ = Err fault.Kind

-- arguments in their order
abbrev pub arguments : KnownNames → List Declaration → List Atom → Result (Unit {0}) JobKind
arguments names (takes ∷ more) (a ∷ others) = argument names takes a >>= λ _. arguments names more others
arguments names _ _ = Ok tt

-- the objects and queues among them, each with how the child may use it
abbrev pub with_gift : Declaration → Atom → List (List ℕ × Mode) → List (List ℕ × Mode)
with_gift (Held mode k) (atom.Name name) others = (name, mode) ∷ others
with_gift _ _ others = others

abbrev pub lent : List Declaration → List Atom → List (List ℕ × Mode)
lent (takes ∷ more) (a ∷ others) = with_gift takes a (lent more others)
lent _ _ = []

-- whether some object or queue stands twice among them, and not only to read
abbrev pub lends_clash : List ℕ × Mode → List ℕ × Mode → Bool
lends_clash a b = bytes_eq a.0 b.0 && not (is_in a.1 && is_in b.1)

abbrev pub is_lent_twice : List (List ℕ × Mode) → Bool
is_lent_twice [] = false
is_lent_twice (one ∷ others) = list_any (lends_clash one) others || is_lent_twice others

abbrev pub unaliased : List (List ℕ × Mode) → Result (Unit {0}) JobKind
unaliased gifts = if is_lent_twice gifts then Err fault.Alias else Ok tt

-- what a task is given: as many arguments as it takes, each as it takes it, and nothing twice
abbrev pub spawn_arguments : KnownNames → List Atom → List Declaration → Result (Unit {0}) JobKind
spawn_arguments names args takes =
    if length args == length takes
    then (arguments names takes args >>= λ _. unaliased (lent takes args))
    else Err fault.Arity

-- a spawn: the child's fuel, its task, and what it is given
abbrev pub spawn : Before → Atom → List ℕ → List Atom → Result (Unit {0}) JobKind
spawn before fuel task args =
    value (known before) (Some kind.Int) fuel >>= λ _.
    as_child task (before.tasks task) >>= spawn_arguments (known before) args
