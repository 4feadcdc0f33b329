-- The command that words are, if they are one. A number is 0 or digits without a leading zero, and has
-- no sign. A word that names a file isn't empty.
use Rattle.std.specs.Prelude.{ℕ, ◌≤◌, ℤ, pos, nat_le, Bool, true, false, ◌&&◌, Option, Some, None, List, [], ◌∷◌, codes, bytes_eq, if◌then◌else◌}
use Rattle.std.specs.List.{list_all}
use Rattle.bulk_workload.specs.declared.texts.TheConstants.{BULK_MOST}
use Rattle.job_reader.specs.Atoms.{number}
use Rattle.swan_top.specs.declared.command.Command.{Command as TheCommand}
use Rattle.swan_top.specs.declared.command.Command.TheVariants as code
use Rattle.swan_runtime.specs.declared.shape.TheConstants.{WORKERS_MOST}
use Rattle.swan_top.specs.declared.command.TheConstants.{FUEL_WORD_MOST, NUMBER_WORD_MOST}

pub data Command : Type 0 where
  help : Command
  version : Command
  check : (job : List ℕ) → Command
  elide : (fuel : ℕ) (job : List ℕ) (inputs : List (List ℕ)) → Command
  run : (workers : ℕ) (fuel : ℕ) (job : List ℕ) (inputs : List (List ℕ)) → Command
  index : (workers : ℕ) (input : List ℕ) → Command
  convert : (workers : ℕ) (input : List ℕ) → Command
  bulk : (number : ℕ) (size : ℕ) (workers : ℕ) → Command

-- the number from low to high that a word is
abbrev pub within : ℕ → ℕ → Option ℤ → Option ℕ
within low high (Some (pos n)) = if nat_le low n && nat_le n high then Some n else None
within low high _ = None

abbrev pub number_within : ℕ → ℕ → List ℕ → Option ℕ
number_within low high word = within low high (number word)

abbrev pub is_file : List ℕ → Bool
is_file [] = false
is_file (byte ∷ bytes) = true

-- a command of no further words
abbrev pub alone : Command → List (List ℕ) → Option Command
alone command [] = Some command
alone command (word ∷ words) = None

-- JOB
abbrev pub job_alone : List (List ℕ) → Option Command
job_alone (job ∷ []) = if is_file job then Some (check job) else None
job_alone _ = None

-- JOB INPUT*, after a fuel
abbrev pub job_and_inputs : (ℕ → List ℕ → List (List ℕ) → Command) → Option ℕ → List (List ℕ) → Option Command
job_and_inputs command (Some fuel) (job ∷ inputs) = if is_file job && list_all is_file inputs then Some (command fuel job inputs) else None
job_and_inputs command _ _ = None

-- FUEL JOB INPUT*
abbrev pub fueled : (ℕ → List ℕ → List (List ℕ) → Command) → List (List ℕ) → Option Command
fueled command [] = None
fueled command (fuel ∷ words) = job_and_inputs command (number_within 1 FUEL_WORD_MOST fuel) words

-- WORKERS FUEL JOB INPUT*
abbrev pub with_workers : Option ℕ → List (List ℕ) → Option Command
with_workers (Some workers) words = fueled (run workers) words
with_workers None words = None

abbrev pub manned : List (List ℕ) → Option Command
manned [] = None
manned (workers ∷ words) = with_workers (number_within 1 WORKERS_MOST workers) words

-- INPUT, after workers
abbrev pub one_input : (ℕ → List ℕ → Command) → Option ℕ → List (List ℕ) → Option Command
one_input command (Some workers) (input ∷ []) = if is_file input then Some (command workers input) else None
one_input command _ _ = None

-- WORKERS INPUT
abbrev pub over_input : (ℕ → List ℕ → Command) → List (List ℕ) → Option Command
over_input command [] = None
over_input command (workers ∷ words) = one_input command (number_within 1 WORKERS_MOST workers) words

-- NUMBER SIZE WORKERS
abbrev pub generated_by : Option ℕ → Option ℕ → Option ℕ → Option Command
generated_by (Some number) (Some size) (Some workers) = Some (bulk number size workers)
generated_by _ _ _ = None

abbrev pub three_numbers : List (List ℕ) → Option Command
three_numbers (number' ∷ size ∷ workers ∷ []) =
    generated_by (number_within 0 NUMBER_WORD_MOST number') (number_within 0 BULK_MOST size) (number_within 1 WORKERS_MOST workers)
three_numbers _ = None

abbrev pub command : List (List ℕ) → Option Command
command [] = None
command (word ∷ words) =
    if bytes_eq word (codes "check") then job_alone words
    else if bytes_eq word (codes "elide") then fueled elide words
    else if bytes_eq word (codes "run") then manned words
    else if bytes_eq word (codes "index") then over_input index words
    else if bytes_eq word (codes "convert") then over_input convert words
    else if bytes_eq word (codes "bulk") then three_numbers words
    else if bytes_eq word (codes "--help") then alone help words
    else if bytes_eq word (codes "--version") then alone version words
    else None

-- a command as the code keeps it
abbrev pub command_of : TheCommand → Command
command_of code.Help = help
command_of code.Version = version
command_of (code.Check job) = check job.now
command_of (code.Elide fuel job inputs) = elide fuel job.now inputs.now
command_of (code.Run workers fuel job inputs) = run workers fuel job.now inputs.now
command_of (code.Index workers input) = index workers input.now
command_of (code.Convert workers input) = convert workers input.now
command_of (code.Bulk number size workers) = bulk number size workers

-- no command asks for more fuel, or for a longer input, than words can
abbrev pub IsWithinLimits : Command → Type 0
IsWithinLimits (elide fuel job inputs) = fuel ≤ FUEL_WORD_MOST
IsWithinLimits (run workers fuel job inputs) = fuel ≤ FUEL_WORD_MOST
IsWithinLimits (bulk number size workers) = size ≤ BULK_MOST
IsWithinLimits _ = Unit {0}
