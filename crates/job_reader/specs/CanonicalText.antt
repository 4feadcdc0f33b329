-- The one text of a job. Each line ends with a line feed, its tokens are joined by one space, and it is
-- indented by where it stands: not at all at the top level, by two spaces in a task, and by two more
-- for each block that is open.
use Rattle.std.specs.Prelude.{Bool, true, false, ℕ, ◌+◌, ◌*◌, ◌==◌, List, [], ◌∷◌, ◌++◌, length, replicate, codes, flat_map, map, if◌then◌else◌}
use Rattle.std.specs.Fmt.{signed_decimal}
use Rattle.std.specs.List.{join_with_byte}
use Rattle.hex.specs.Hex.{encode_lower}
use Rattle.swan_model.specs.declared.rights.Mode.{Mode}
use Rattle.swan_model.specs.declared.rights.Mode.TheVariants.{In, Out, InOut, Push, Pop, PushPop}
use Rattle.job_reader.specs.Characters.{tab, line_feed, space, quote, backslash, letter_n, letter_t, letter_x, is_allowed}
use Rattle.job_reader.specs.Positions.{after}
use Rattle.job_reader.specs.Words.{edition_text, kind_text, op_text}
use Rattle.job_reader.specs.declared.atom.Atom.{Atom}
use Rattle.job_reader.specs.declared.atom.Atom.TheVariants as atom
use Rattle.job_reader.specs.declared.line.Line.{Line}
use Rattle.job_reader.specs.declared.line.Line.TheVariants as line
use Rattle.job_reader.specs.declared.position.Position.{Position}
use Rattle.job_reader.specs.declared.position.Position.TheVariants as position

-- a byte in a literal, and a literal
abbrev pub escaped : ℕ → List ℕ
escaped byte =
    if byte == quote then backslash ∷ quote ∷ []
    else (if byte == backslash then backslash ∷ backslash ∷ []
    else (if byte == line_feed then backslash ∷ letter_n ∷ []
    else (if byte == tab then backslash ∷ letter_t ∷ []
    else (if is_allowed byte then byte ∷ []
    else backslash ∷ letter_x ∷ encode_lower (byte ∷ [])))))

abbrev pub literal_text : List ℕ → List ℕ
literal_text bytes = quote ∷ flat_map escaped bytes ++ quote ∷ []

abbrev pub atom_text : Atom → List ℕ
atom_text (atom.Int number) = signed_decimal number
atom_text (atom.Bytes bytes) = literal_text bytes
atom_text (atom.Name name) = name

abbrev pub mode_text : Mode → List ℕ
mode_text In = codes "in"
mode_text Out = codes "out"
mode_text InOut = codes "inout"
mode_text Push = codes "push"
mode_text Pop = codes "pop"
mode_text PushPop = codes "pushpop"

-- the tokens of a line; a note is one piece
abbrev pub line_tokens : Line → List (List ℕ)
line_tokens (line.Note text) = text ∷ []
line_tokens (line.Header edition) = codes "swan" ∷ edition_text edition ∷ []
line_tokens (line.Input name) = codes "input" ∷ name ∷ []
line_tokens (line.Output name k) = codes "output" ∷ name ∷ kind_text k ∷ []
line_tokens (line.Object name k) = codes "object" ∷ name ∷ kind_text k ∷ []
line_tokens (line.Task name) = codes "task" ∷ name ∷ []
line_tokens (line.Param name k) = codes "param" ∷ name ∷ kind_text k ∷ []
line_tokens (line.Access m name k) = mode_text m ∷ name ∷ kind_text k ∷ []
line_tokens (line.Var name k) = codes "var" ∷ name ∷ kind_text k ∷ []
line_tokens (line.Queue name k) = codes "queue" ∷ name ∷ kind_text k ∷ []
line_tokens line.Do = codes "do" ∷ []
line_tokens (line.Assign v o args) = v ∷ codes "=" ∷ op_text o ∷ map atom_text args
line_tokens (line.Read v o) = codes "read" ∷ v ∷ o ∷ []
line_tokens (line.Write o a) = codes "write" ∷ o ∷ atom_text a ∷ []
line_tokens (line.Push q a) = codes "push" ∷ q ∷ atom_text a ∷ []
line_tokens (line.Pop v q) = codes "pop" ∷ v ∷ q ∷ []
line_tokens (line.Empty v q) = codes "empty" ∷ v ∷ q ∷ []
line_tokens (line.Spawn fuel task given) = codes "spawn" ∷ atom_text fuel ∷ task ∷ map atom_text given
line_tokens line.Sync = codes "sync" ∷ []
line_tokens (line.Caught v) = codes "caught" ∷ v ∷ []
line_tokens (line.Fuel v) = codes "fuel" ∷ v ∷ []
line_tokens (line.Fail a) = codes "fail" ∷ atom_text a ∷ []
line_tokens (line.If a) = codes "if" ∷ atom_text a ∷ []
line_tokens line.Else = codes "else" ∷ []
line_tokens (line.While a) = codes "while" ∷ atom_text a ∷ []
line_tokens line.End = codes "end" ∷ []

-- a line without its indentation and line feed
abbrev pub line_text : Line → List ℕ
line_text line = join_with_byte space (line_tokens line)

-- How many steps of indentation a line has where so many blocks are open. An `else` and the `end` of a block
-- stand as the line that opened the block, the `end` of the task as its `task`.
abbrev pub statement_depth : ℕ → Line → ℕ
statement_depth blocks line.Else = blocks
statement_depth blocks line.End = blocks
statement_depth blocks _ = blocks + 1

abbrev pub depth : Position → Line → ℕ
depth position.InTask line = 1
depth (position.InDo blocks) line = statement_depth (length blocks) line
depth _ line = 0

-- a note that says nothing is an empty line
abbrev pub is_blank : Line → Bool
is_blank (line.Note []) = true
is_blank _ = false

abbrev pub indentation : Position → Line → ℕ
indentation position line = if is_blank line then 0 else depth position line

abbrev pub whole_line : Position → Line → List ℕ
whole_line position line = replicate (2 * indentation position line) space ++ line_text line ++ line_feed ∷ []

-- the text of lines from a position on
abbrev pub text_from : Position → List Line → List ℕ
text_from position [] = []
text_from position (line ∷ more) = whole_line position line ++ text_from (after position line) more

abbrev pub text_of : List Line → List ℕ
text_of job = text_from position.First job
