-- How names and atoms may be used. A name is tried to its end, for being known, then for its sort and
-- kind, then for the rights to it, before the next one is.
use Rattle.std.specs.Prelude.{ℕ, Bool, true, false, not, ◌&&◌, Option, Some, None, Result, Ok, Err, List, if◌then◌else◌}
use Rattle.swan_model.specs.Rights.{allows, is_queue_mode}
use Rattle.swan_model.specs.declared.rights.Mode.{Mode}
use Rattle.swan_model.specs.declared.value.Kind.{Kind}
use Rattle.swan_model.specs.declared.value.Kind.TheVariants as kind
use Rattle.job_reader.specs.declared.atom.Atom.{Atom}
use Rattle.job_reader.specs.declared.atom.Atom.TheVariants as atom
use Rattle.job_reader.specs.declared.fault.JobKind.{JobKind}
use Rattle.job_reader.specs.declared.fault.JobKind.TheVariants as fault
use Rattle.privilege_check.specs.Names.{KnownNames}
use Rattle.privilege_check.specs.declared.declaration.Declaration.{Declaration}
use Rattle.privilege_check.specs.declared.declaration.Declaration.TheVariants.{Variable, Held}

-- whether a kind is the one that a place asks, if it asks one
abbrev pub is_asked : Option Kind → Kind → Bool
is_asked None k = true
is_asked (Some kind.Int) kind.Int = true
is_asked (Some kind.Bytes) kind.Bytes = true
is_asked (Some _) _ = false

abbrev pub of_kind : Option Kind → Kind → Result Kind JobKind
of_kind asked k = if is_asked asked k then Ok k else Err fault.Kind

-- a name in a variable's place: the kind of the variable
abbrev pub as_variable : Option Kind → Option Declaration → Result Kind JobKind
as_variable asked None = Err fault.Unknown
as_variable asked (Some (Variable k)) = of_kind asked k
as_variable asked (Some (Held mode k)) = Err fault.Kind

abbrev pub variable : KnownNames → Option Kind → List ℕ → Result Kind JobKind
variable names asked name = as_variable asked (names name)

-- whether both are modes of objects, or both of queues
abbrev pub is_same_sort : Mode → Mode → Bool
is_same_sort a b = if is_queue_mode a then is_queue_mode b else not (is_queue_mode b)

-- a name in the place of an object or a queue that is used by a mode: its kind
abbrev pub as_held : Option Kind → Mode → Option Declaration → Result Kind JobKind
as_held asked mode None = Err fault.Unknown
as_held asked mode (Some (Variable k)) = Err fault.Kind
as_held asked mode (Some (Held own k)) =
    if is_same_sort mode own && is_asked asked k
    then (if allows own mode then Ok k else Err fault.Privilege)
    else Err fault.Kind

abbrev pub held : KnownNames → Option Kind → Mode → List ℕ → Result Kind JobKind
held names asked mode name = as_held asked mode (names name)

-- an atom: the kind of the number, of the literal, or of the variable
abbrev pub value : KnownNames → Option Kind → Atom → Result Kind JobKind
value names asked (atom.Int n) = of_kind asked kind.Int
value names asked (atom.Bytes bytes) = of_kind asked kind.Bytes
value names asked (atom.Name name) = variable names asked name
