-- The conversion of a text.
use Rattle.std.specs.Prelude.{ℕ, ◌+◌, ◌/◌, ◌%◌, ◌==◌, nat_lt, pos, Option, Some, None, if◌then◌else◌, List, [], ◌∷◌, ◌++◌, length, flat_map}
use Rattle.swan_model.specs.declared.fault.Fault.{Fault}
use Rattle.swan_model.specs.declared.fault.FaultKind.TheVariants as kind
use Rattle.swan_model.specs.declared.fault.Trouble.{Trouble}
use Rattle.swan_model.specs.declared.fault.Trouble.TheVariants.{TooLong, User}
use Rattle.swan_model.specs.declared.record.TheConstants.{RECORD_MOST}
use Rattle.swan_model.specs.Lines.{lines}
use Rattle.swan_model.specs.Texts.{line}
use Rattle.line_blocks.specs.declared.line_block.TheConstants.{BLOCK_LINES}
use Rattle.record_pipeline.specs.Netstrings.{fields, netstrings}

-- the width of lines is the number of fields of the first one
abbrev pub width_of : List (List ℕ) → ℕ
width_of [] = 0
width_of (line ∷ lines) = length (fields line)

-- Why a line of a text of this width is left out: it has another number of fields, or its netstrings don't fit a
-- record.
abbrev pub trouble_of : ℕ → List ℕ → Option Trouble
trouble_of width line =
    if length (fields line) == width then (if nat_lt RECORD_MOST (length (netstrings line)) then Some TooLong else None)
    else Some (User (pos 1))

-- a line's netstrings are a record, unless it is left out
abbrev pub unless_trouble : Option Trouble → List ℕ → List (List ℕ)
unless_trouble None line = netstrings line ∷ []
unless_trouble (Some trouble) line = []

abbrev pub records_of : ℕ → List (List ℕ) → List (List ℕ)
records_of width [] = []
records_of width (line ∷ lines) = unless_trouble (trouble_of width line) line ++ records_of width lines

-- the conversion of a text, a record on each of its lines
abbrev pub convert_of : List ℕ → List ℕ
convert_of text = flat_map line (records_of (width_of (lines text)) (lines text))

-- the fault of the line that has so many lines before it: that of its line's task, child of its block's task
abbrev pub fault_at_line : ℕ → Option Trouble → List Fault
fault_at_line before None = []
fault_at_line before (Some trouble) = (record { path = (before / BLOCK_LINES) ∷ (before % BLOCK_LINES) ∷ []; place = before + 1; kind = kind.Trouble trouble }) ∷ []

-- a fault for each line that is left out
abbrev pub faults_from : ℕ → ℕ → List (List ℕ) → List Fault
faults_from before width [] = []
faults_from before width (line ∷ lines) = fault_at_line before (trouble_of width line) ++ faults_from (before + 1) width lines
