-- The job that a text is, or its first fault: the first faulty line, with the first kind of fault that
-- it has.
use Rattle.std.specs.Prelude.{ℕ, ◌+◌, ◌==◌, nat_lt, nat_le, Bool, true, false, not, ◌&&◌, ◌||◌, Option, Some, None, Result, Ok, Err, List, [], ◌∷◌, length, codes, bytes_eq, if◌then◌else◌}
use Rattle.std.specs.List.{list_all}
use Rattle.swan_model.specs.Lines.{lines}
use Rattle.job_reader.specs.Characters.{is_allowed}
use Rattle.job_reader.specs.Faults.{◌>>=◌}
use Rattle.job_reader.specs.LineShape.{is_assignment, shape}
use Rattle.job_reader.specs.Positions.{after, is_open, takes_else}
use Rattle.job_reader.specs.Tokens.{tokens, trimmed}
use Rattle.job_reader.specs.declared.fault.JobFault.{JobFault}
use Rattle.job_reader.specs.declared.fault.JobKind.{JobKind}
use Rattle.job_reader.specs.declared.fault.JobKind.TheVariants as kind
use Rattle.job_reader.specs.declared.job.TheConstants.{JOB_LINES_MOST}
use Rattle.job_reader.specs.declared.line.Edition.{Edition}
use Rattle.job_reader.specs.declared.line.Edition.TheVariants.{One}
use Rattle.job_reader.specs.declared.line.Line.{Line}
use Rattle.job_reader.specs.declared.line.Line.TheVariants as line
use Rattle.job_reader.specs.declared.position.Position.{Position}
use Rattle.job_reader.specs.declared.position.Position.TheVariants.{First, Top, InDo}
use Rattle.job_reader.specs.declared.position.TheConstants.{BLOCKS_MOST}
use Rattle.job_reader.specs.declared.read.TheConstants.{LINE_MOST}

-- Whether the tokens are one input or one block too many. It goes by the first token, whatever else is
-- wrong with the line.
abbrev pub opens_block : List ℕ → List (List ℕ) → Bool
opens_block first rest = (bytes_eq first (codes "if") || bytes_eq first (codes "while")) && not (is_assignment rest)

abbrev pub is_one_too_many : Position → List (List ℕ) → Bool
is_one_too_many (Top inputs_left) (first ∷ rest) = (inputs_left == 0) && bytes_eq first (codes "input")
is_one_too_many (InDo blocks) (first ∷ rest) = nat_le BLOCKS_MOST (length blocks) && opens_block first rest
is_one_too_many _ _ = false

-- whether the text of the line with this number, without outer spaces, passes a limit
abbrev pub is_past_limit : ℕ → Position → List ℕ → Bool
is_past_limit number position text =
    nat_lt JOB_LINES_MOST number || nat_lt LINE_MOST (length text) || is_one_too_many position (tokens text)

-- Whether the line is out of balance: an `else` without its `if`, or the last line while a task is open
-- after it.
abbrev pub is_stray_else : Position → Line → Bool
is_stray_else (InDo blocks) line.Else = not (takes_else blocks)
is_stray_else _ _ = false

abbrev pub is_unbalanced : Bool → Position → Line → Bool
is_unbalanced is_last position line = is_stray_else position line || (is_last && is_open (after position line))

abbrev pub balanced : Bool → Position → Line → Result Line JobKind
balanced is_last position line = if is_unbalanced is_last position line then Err kind.Unbalanced else Ok line

-- The line that bytes are, or the first kind of fault that they have, in a job of an edition, by their
-- number in the text and at a position. Balance comes last.
abbrev pub line_alone : Edition → ℕ → Position → List ℕ → Result Line JobKind
line_alone edition number position bytes =
    if not (list_all is_allowed bytes) then Err kind.BadByte
    else (if is_past_limit number position (trimmed bytes) then Err kind.Limit
    else shape edition position (trimmed bytes))

abbrev pub line_at : Edition → ℕ → Bool → Position → List ℕ → Result Line JobKind
line_at edition number is_last position bytes = line_alone edition number position bytes >>= balanced is_last position

-- a line, and the position after it
abbrev pub with_position : Position → Result Line JobKind → Result (Line × Position) JobKind
with_position position (Ok line) = Ok (line, after position line)
with_position position (Err k) = Err k

-- whether no lines follow
abbrev pub is_nothing : List (List ℕ) → Bool
is_nothing [] = true
is_nothing (line ∷ lines) = false

-- a line, and then the others, or the first fault
abbrev pub and_others : Line → Result (List Line) JobFault → Result (List Line) JobFault
and_others line (Ok lines) = Ok (line ∷ lines)
and_others line (Err fault) = Err fault

abbrev pub or_fault : ℕ → Result Line JobKind → (Line → Result (List Line) JobFault) → Result (List Line) JobFault
or_fault number (Ok line) f = f line
or_fault number (Err k) f = Err (record { line = number; kind = k })

-- The edition by which the lines after a line are read: the one that the first line names. That line is read
-- alike in all editions.
abbrev pub edition_after : Edition → Line → Edition
edition_after edition (line.Header named) = named
edition_after edition _ = edition

-- the job that lines are, the first of which is read by this edition, has this number and stands at this
-- position
abbrev pub job_from : Edition → ℕ → Position → List (List ℕ) → Result (List Line) JobFault
job_from edition number position [] = Ok []
job_from edition number position (bytes ∷ more) =
    or_fault number (line_at edition number (is_nothing more) position bytes)
    (λ line. and_others line (job_from (edition_after edition line) (number + 1) (after position line) more))

-- a text without lines has no header
abbrev pub job_of_lines : List (List ℕ) → Result (List Line) JobFault
job_of_lines [] = Err (record { line = 1; kind = kind.BadHeader })
job_of_lines (bytes ∷ more) = job_from One 1 First (bytes ∷ more)

abbrev pub job_of : List ℕ → Result (List Line) JobFault
job_of text = job_of_lines (lines text)

abbrev pub fault_of : {A : Type 0} → Result A JobFault → Option JobFault
fault_of (Ok a) = None
fault_of (Err fault) = Some fault

-- the first fault of a text, if it has one
abbrev pub first_fault : List ℕ → Option JobFault
first_fault text = fault_of (job_of text)
