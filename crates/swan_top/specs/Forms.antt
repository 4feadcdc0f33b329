-- What the code's own functions on words answer.
use Rattle.std.specs.Prelude.{◌≡◌, ℕ, ◌≤◌, true, false, ◌&&◌, Option, Some, None, Result, Ok, Err, List, [], ◌∷◌}
use Rattle.std.specs.List.{list_all}
use Rattle.std.specs.Borrow.{Bor}
use Rattle.swan_top.specs.Command.{Command, command_of, elide, fueled, is_file, manned, one_input, over_input, run, IsWithinLimits}
use Rattle.swan_top.specs.declared.command.Command.{Command as TheCommand}
use Rattle.swan_top.specs.declared.command.JobWords.{JobWords}
use Rattle.swan_top.specs.declared.command.TheConstants.{FUEL_WORD_MOST}
use Rattle.swan_top.specs.declared.command.Usage.{Usage}

-- what the words are was answered
abbrev pub ReadsWords : Option Command → Result TheCommand Usage → Type 0
ReadsWords wanted (Ok command) = (wanted ≡ Some (command_of command)) × IsWithinLimits (command_of command)
ReadsWords wanted (Err usage) = wanted ≡ None

-- a job and its inputs, where all words can name files
abbrev pub FilesOf : Option (Bor (List ℕ) × Bor (List (List ℕ))) → List (List ℕ) → Type 0
FilesOf (Some (job, inputs)) words = (words ≡ job.now ∷ inputs.now) × (is_file job.now ≡ true) × (list_all is_file inputs.now ≡ true)
FilesOf None [] = Unit {0}
FilesOf None (job ∷ inputs) = (is_file job && list_all is_file inputs) ≡ false

-- FUEL JOB INPUT*, whatever command they are for
abbrev pub JobOf : Option JobWords → List (List ℕ) → Type 0
JobOf (Some given) words = (given.fuel ≤ FUEL_WORD_MOST) × ((command : ℕ → List ℕ → List (List ℕ) → Command) → fueled command words ≡ Some (command given.fuel given.job.now given.inputs.now))
JobOf None words = (command : ℕ → List ℕ → List (List ℕ) → Command) → fueled command words ≡ None

-- the elision where no workers are named, and else a run by so many
abbrev pub elide_or_run : Option ℕ → ℕ → List ℕ → List (List ℕ) → Command
elide_or_run None = elide
elide_or_run (Some workers) = run workers

-- WORKERS, and the words after it, whatever they are for
abbrev pub WorkersOf : Option (ℕ × Bor (List (List ℕ))) → List (List ℕ) → Type 0
WorkersOf (Some (workers, rest)) words = (manned words ≡ fueled (run workers) rest.now) × ((command : ℕ → List ℕ → Command) → over_input command words ≡ one_input command (Some workers) rest.now)
WorkersOf None words = (manned words ≡ None) × ((command : ℕ → List ℕ → Command) → over_input command words ≡ None)

-- WORKERS INPUT, whatever command they are for
abbrev pub InputOf : Option (ℕ × Bor (List ℕ)) → List (List ℕ) → Type 0
InputOf (Some (workers, input)) words = (command : ℕ → List ℕ → Command) → over_input command words ≡ Some (command workers input.now)
InputOf None words = (command : ℕ → List ℕ → Command) → over_input command words ≡ None
