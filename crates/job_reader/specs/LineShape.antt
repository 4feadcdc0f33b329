-- The line that a text is at a position in a job of an edition, by its tokens, or what is wrong with it: BadHeader, BadLine,
-- BadName or BadNumber.
use Rattle.std.specs.Prelude.{ℕ, ◌==◌, Bool, true, false, not, ◌&&◌, Option, Some, None, Result, Ok, Err, List, [], ◌∷◌, length, codes, bytes_eq, if◌then◌else◌}
use Rattle.swan_model.specs.declared.rights.Mode.TheVariants as mode
use Rattle.swan_model.specs.declared.value.Kind.{Kind}
use Rattle.job_reader.specs.Atoms.{atom, atoms, name}
use Rattle.job_reader.specs.Characters.{hash}
use Rattle.job_reader.specs.Faults.{both, ◌>>=◌}
use Rattle.job_reader.specs.Tokens.{tokens}
use Rattle.job_reader.specs.Words.{arity, edition_named, has_caught, kind_named, op_named, top_named, task_named, do_named}
use Rattle.job_reader.specs.declared.atom.Atom.{Atom}
use Rattle.job_reader.specs.declared.fault.JobKind.{JobKind}
use Rattle.job_reader.specs.declared.fault.JobKind.TheVariants as kind
use Rattle.job_reader.specs.declared.line.Edition.{Edition}
use Rattle.job_reader.specs.declared.line.Line.{Line}
use Rattle.job_reader.specs.declared.line.Line.TheVariants as line
use Rattle.job_reader.specs.declared.op.Op.{Op}
use Rattle.job_reader.specs.declared.position.Position.{Position}
use Rattle.job_reader.specs.declared.position.Position.TheVariants.{First, Top, InTask, InDo, Outside}
use Rattle.job_reader.specs.declared.words.DoWord.{DoWord}
use Rattle.job_reader.specs.declared.words.DoWord.TheVariants as step
use Rattle.job_reader.specs.declared.words.TaskWord.{TaskWord}
use Rattle.job_reader.specs.declared.words.TaskWord.TheVariants as task
use Rattle.job_reader.specs.declared.words.TopWord.{TopWord}
use Rattle.job_reader.specs.declared.words.TopWord.TheVariants as top

-- a word that may stand there, or no line
abbrev pub or_bad_line : {A : Type 0} → Option A → Result A JobKind
or_bad_line (Some a) = Ok a
or_bad_line None = Err kind.BadLine

-- What may follow a line's first word: nothing, a name, a name and a kind, two names, a name and an
-- atom, or an atom.
abbrev pub nothing : {A : Type 0} → A → List (List ℕ) → Result A JobKind
nothing line [] = Ok line
nothing line _ = Err kind.BadLine

abbrev pub one_name : List (List ℕ) → Result (List ℕ) JobKind
one_name (token ∷ []) = name token
one_name _ = Err kind.BadLine

abbrev pub name_and_kind : List (List ℕ) → Result (List ℕ × Kind) JobKind
name_and_kind (first ∷ second ∷ []) = both (name first) (or_bad_line (kind_named second))
name_and_kind _ = Err kind.BadLine

abbrev pub two_names : List (List ℕ) → Result (List ℕ × List ℕ) JobKind
two_names (first ∷ second ∷ []) = both (name first) (name second)
two_names _ = Err kind.BadLine

abbrev pub name_and_atom : List (List ℕ) → Result (List ℕ × Atom) JobKind
name_and_atom (first ∷ second ∷ []) = both (name first) (atom second)
name_and_atom _ = Err kind.BadLine

abbrev pub one_atom : List (List ℕ) → Result Atom JobKind
one_atom (token ∷ []) = atom token
one_atom _ = Err kind.BadLine

-- a spawn: the fuel, the task, and what it is given
abbrev pub spawned : List (List ℕ) → Result (Atom × (List ℕ × List Atom)) JobKind
spawned (fuel ∷ task ∷ given) = both (atom fuel) (both (name task) (atoms given))
spawned _ = Err kind.BadLine

-- The first line: the word `swan` and the number of an edition.
abbrev pub headed : Option Edition → Result Line JobKind
headed (Some edition) = Ok (line.Header edition)
headed None = Err kind.BadHeader

abbrev pub header : List (List ℕ) → Result Line JobKind
header (first ∷ second ∷ []) = if bytes_eq first (codes "swan") then headed (edition_named second) else Err kind.BadHeader
header _ = Err kind.BadHeader

-- a line at the top level before the first task
abbrev pub top_form : TopWord → List (List ℕ) → Result Line JobKind
top_form top.Input rest = one_name rest >>= λ n. Ok (line.Input n)
top_form top.Output rest = name_and_kind rest >>= λ d. Ok (line.Output d.0 d.1)
top_form top.Object rest = name_and_kind rest >>= λ d. Ok (line.Object d.0 d.1)
top_form top.Task rest = one_name rest >>= λ n. Ok (line.Task n)

-- a line after a task
abbrev pub outside_form : TopWord → List (List ℕ) → Result Line JobKind
outside_form top.Task rest = top_form top.Task rest
outside_form _ rest = Err kind.BadLine

-- a line of a task before its statements
abbrev pub task_form : TaskWord → List (List ℕ) → Result Line JobKind
task_form task.Param rest = name_and_kind rest >>= λ d. Ok (line.Param d.0 d.1)
task_form task.In rest = name_and_kind rest >>= λ d. Ok (line.Access mode.In d.0 d.1)
task_form task.Out rest = name_and_kind rest >>= λ d. Ok (line.Access mode.Out d.0 d.1)
task_form task.InOut rest = name_and_kind rest >>= λ d. Ok (line.Access mode.InOut d.0 d.1)
task_form task.Push rest = name_and_kind rest >>= λ d. Ok (line.Access mode.Push d.0 d.1)
task_form task.Pop rest = name_and_kind rest >>= λ d. Ok (line.Access mode.Pop d.0 d.1)
task_form task.PushPop rest = name_and_kind rest >>= λ d. Ok (line.Access mode.PushPop d.0 d.1)
task_form task.Var rest = name_and_kind rest >>= λ d. Ok (line.Var d.0 d.1)
task_form task.Queue rest = name_and_kind rest >>= λ d. Ok (line.Queue d.0 d.1)
task_form task.Object rest = name_and_kind rest >>= λ d. Ok (line.Object d.0 d.1)
task_form task.Do rest = nothing line.Do rest

-- a `caught`, which the first edition doesn't have
abbrev pub caught_form : Edition → List (List ℕ) → Result Line JobKind
caught_form edition rest = if has_caught edition then (one_name rest >>= λ n. Ok (line.Caught n)) else Err kind.BadLine

-- a statement that isn't an assignment
abbrev pub do_form : Edition → DoWord → List (List ℕ) → Result Line JobKind
do_form edition step.Read rest = two_names rest >>= λ p. Ok (line.Read p.0 p.1)
do_form edition step.Write rest = name_and_atom rest >>= λ p. Ok (line.Write p.0 p.1)
do_form edition step.Push rest = name_and_atom rest >>= λ p. Ok (line.Push p.0 p.1)
do_form edition step.Pop rest = two_names rest >>= λ p. Ok (line.Pop p.0 p.1)
do_form edition step.Empty rest = two_names rest >>= λ p. Ok (line.Empty p.0 p.1)
do_form edition step.Spawn rest = spawned rest >>= λ p. Ok (line.Spawn p.0 p.1.0 p.1.1)
do_form edition step.Sync rest = nothing line.Sync rest
do_form edition step.Caught rest = caught_form edition rest
do_form edition step.Fuel rest = one_name rest >>= λ n. Ok (line.Fuel n)
do_form edition step.Fail rest = one_atom rest >>= λ a. Ok (line.Fail a)
do_form edition step.If rest = one_atom rest >>= λ a. Ok (line.If a)
do_form edition step.Else rest = nothing line.Else rest
do_form edition step.While rest = one_atom rest >>= λ a. Ok (line.While a)
do_form edition step.End rest = nothing line.End rest

-- An assignment: the variable, and an operation with as many atoms as it takes.
abbrev pub assigned : List ℕ → Op → List (List ℕ) → Result Line JobKind
assigned v o args =
    if length args == arity o
    then (both (name v) (atoms args) >>= λ p. Ok (line.Assign p.0 o p.1))
    else Err kind.BadLine

abbrev pub assignment : List ℕ → List (List ℕ) → Result Line JobKind
assignment v [] = Err kind.BadLine
assignment v (o ∷ args) = or_bad_line (op_named o) >>= λ o. assigned v o args

-- whether the tokens after the first make an assignment of a statement
abbrev pub is_assignment : List (List ℕ) → Bool
is_assignment [] = false
is_assignment (token ∷ tokens) = bytes_eq token (codes "=")

abbrev pub after_equals : List (List ℕ) → List (List ℕ)
after_equals [] = []
after_equals (token ∷ tokens) = tokens

abbrev pub statement : Edition → List ℕ → List (List ℕ) → Result Line JobKind
statement edition first rest =
    if is_assignment rest then assignment first (after_equals rest)
    else or_bad_line (do_named first) >>= λ w. do_form edition w rest

-- the line that the tokens of a text that isn't a note make at a position
abbrev pub form : Edition → Position → List ℕ → List (List ℕ) → Result Line JobKind
form edition First first rest = header (first ∷ rest)
form edition (Top inputs_left) first rest = or_bad_line (top_named first) >>= λ w. top_form w rest
form edition InTask first rest = or_bad_line (task_named first) >>= λ w. task_form w rest
form edition (InDo blocks) first rest = statement edition first rest
form edition Outside first rest = or_bad_line (top_named first) >>= λ w. outside_form w rest

abbrev pub formed : Edition → Position → List (List ℕ) → Result Line JobKind
formed edition position [] = Err kind.BadHeader
formed edition position (first ∷ rest) = form edition position first rest

-- A text without outer spaces that is empty or begins with # is a note, but on the first line.
abbrev pub is_note : List ℕ → Bool
is_note [] = true
is_note (byte ∷ bytes) = byte == hash

abbrev pub is_first : Position → Bool
is_first First = true
is_first _ = false

abbrev pub shape : Edition → Position → List ℕ → Result Line JobKind
shape edition position text =
    if is_note text && not (is_first position) then Ok (line.Note text) else formed edition position (tokens text)
