-- The words of the language: its editions, operations, kinds, and the words that lines begin with.
use Rattle.std.specs.Prelude.{ℕ, Bool, true, false, Option, List, [], ◌∷◌, codes, bytes_eq, find}
use Rattle.swan_model.specs.declared.value.Kind.{Kind}
use Rattle.swan_model.specs.declared.value.Kind.TheVariants as kind
use Rattle.job_reader.specs.declared.line.Edition.{Edition}
use Rattle.job_reader.specs.declared.line.Edition.TheVariants as edition
use Rattle.job_reader.specs.declared.op.Op.{Op}
use Rattle.job_reader.specs.declared.op.Op.TheVariants as op
use Rattle.job_reader.specs.declared.words.TopWord.{TopWord}
use Rattle.job_reader.specs.declared.words.TopWord.TheVariants as top
use Rattle.job_reader.specs.declared.words.TaskWord.{TaskWord}
use Rattle.job_reader.specs.declared.words.TaskWord.TheVariants as task
use Rattle.job_reader.specs.declared.words.DoWord.{DoWord}
use Rattle.job_reader.specs.declared.words.DoWord.TheVariants as step

-- the number of an edition, as the first line has it
abbrev pub edition_text : Edition → List ℕ
edition_text edition.One = codes "1"
edition_text edition.Two = codes "2"

-- whether an edition has the statement `caught`
abbrev pub has_caught : Edition → Bool
has_caught edition.One = false
has_caught edition.Two = true

abbrev pub kind_text : Kind → List ℕ
kind_text kind.Int = codes "int"
kind_text kind.Bytes = codes "bytes"

abbrev pub op_text : Op → List ℕ
op_text op.Set = codes "set"
op_text op.Add = codes "add"
op_text op.Sub = codes "sub"
op_text op.Mul = codes "mul"
op_text op.Div = codes "div"
op_text op.Rem = codes "rem"
op_text op.Lt = codes "lt"
op_text op.Le = codes "le"
op_text op.Eq = codes "eq"
op_text op.And = codes "and"
op_text op.Or = codes "or"
op_text op.Not = codes "not"
op_text op.Len = codes "len"
op_text op.At = codes "at"
op_text op.Slice = codes "slice"
op_text op.Cat = codes "cat"
op_text op.Find = codes "find"
op_text op.Num = codes "num"
op_text op.Text = codes "text"

-- how many atoms an operation takes
abbrev pub arity : Op → ℕ
arity op.Set = 1
arity op.Not = 1
arity op.Len = 1
arity op.Num = 1
arity op.Text = 1
arity op.Slice = 3
arity op.Find = 3
arity _ = 2

-- the words of a line at the top level
abbrev pub top_text : TopWord → List ℕ
top_text top.Input = codes "input"
top_text top.Output = codes "output"
top_text top.Object = codes "object"
top_text top.Task = codes "task"

-- the words of a line of a task before its statements
abbrev pub task_text : TaskWord → List ℕ
task_text task.Param = codes "param"
task_text task.In = codes "in"
task_text task.Out = codes "out"
task_text task.InOut = codes "inout"
task_text task.Push = codes "push"
task_text task.Pop = codes "pop"
task_text task.PushPop = codes "pushpop"
task_text task.Var = codes "var"
task_text task.Queue = codes "queue"
task_text task.Object = codes "object"
task_text task.Do = codes "do"

-- the words of a statement
abbrev pub do_text : DoWord → List ℕ
do_text step.Read = codes "read"
do_text step.Write = codes "write"
do_text step.Push = codes "push"
do_text step.Pop = codes "pop"
do_text step.Empty = codes "empty"
do_text step.Spawn = codes "spawn"
do_text step.Sync = codes "sync"
do_text step.Caught = codes "caught"
do_text step.Fuel = codes "fuel"
do_text step.Fail = codes "fail"
do_text step.If = codes "if"
do_text step.Else = codes "else"
do_text step.While = codes "while"
do_text step.End = codes "end"

-- all editions, kinds, operations, and first words of a line at the top level, of a task and of a statement
abbrev pub editions : List Edition
editions = edition.One ∷ edition.Two ∷ []

abbrev pub kinds : List Kind
kinds = kind.Int ∷ kind.Bytes ∷ []

abbrev pub ops : List Op
ops =
    op.Set ∷ op.Add ∷ op.Sub ∷ op.Mul ∷ op.Div ∷ op.Rem ∷ op.Lt ∷ op.Le ∷ op.Eq ∷ op.And ∷ op.Or ∷ op.Not
    ∷ op.Len ∷ op.At ∷ op.Slice ∷ op.Cat ∷ op.Find ∷ op.Num ∷ op.Text ∷ []

abbrev pub top_words : List TopWord
top_words = top.Input ∷ top.Output ∷ top.Object ∷ top.Task ∷ []

abbrev pub task_words : List TaskWord
task_words =
    task.Param ∷ task.In ∷ task.Out ∷ task.InOut ∷ task.Push ∷ task.Pop ∷ task.PushPop
    ∷ task.Var ∷ task.Queue ∷ task.Object ∷ task.Do ∷ []

abbrev pub do_words : List DoWord
do_words =
    step.Read ∷ step.Write ∷ step.Push ∷ step.Pop ∷ step.Empty ∷ step.Spawn ∷ step.Sync ∷ step.Caught ∷ step.Fuel
    ∷ step.Fail ∷ step.If ∷ step.Else ∷ step.While ∷ step.End ∷ []

-- the one of them that is written so, if one is
abbrev pub edition_named : List ℕ → Option Edition
edition_named token = find (λ e. bytes_eq token (edition_text e)) editions

abbrev pub kind_named : List ℕ → Option Kind
kind_named token = find (λ k. bytes_eq token (kind_text k)) kinds

abbrev pub op_named : List ℕ → Option Op
op_named token = find (λ o. bytes_eq token (op_text o)) ops

abbrev pub top_named : List ℕ → Option TopWord
top_named token = find (λ w. bytes_eq token (top_text w)) top_words

abbrev pub task_named : List ℕ → Option TaskWord
task_named token = find (λ w. bytes_eq token (task_text w)) task_words

abbrev pub do_named : List ℕ → Option DoWord
do_named token = find (λ w. bytes_eq token (do_text w)) do_words
