-- Counts of what went wrong. A count never falls, and stops at COUNT_MOST, the last value of 64 bits.
use Rattle.std.specs.Prelude.{ℕ, ◌+◌, ◌≤◌, min, Result, Ok, Err}
use Rattle.swan_model.specs.Values.{COUNT_MOST}
use Rattle.swan_outside.specs.declared.answer.ReadAnswer.{ReadAnswer}
use Rattle.swan_outside.specs.declared.answer.ReadAnswer.TheVariants as answer
use Rattle.swan_outside.specs.declared.counts.ReadCounts.{ReadCounts}

-- the count after one more
abbrev pub next_count : ℕ → ℕ
next_count count = min (count + 1) COUNT_MOST

-- the count rose, or stands at its last value
abbrev pub Rose : ℕ → ℕ → Type 0
Rose before now = next_count before ≤ now

-- nothing went wrong yet
abbrev pub no_counts : ReadCounts
no_counts = record { faults = 0; long_reads = 0 }

-- the counts after a read was refused so
abbrev pub counts_after : ReadCounts → ReadAnswer → ReadCounts
counts_after counts answer.Failed = record counts { faults = next_count counts.faults }
counts_after counts answer.TooLong = record counts { long_reads = next_count counts.long_reads }
counts_after counts answer.NoMemory = counts

-- the counts after a read
abbrev pub counts_after_read : {T : Type 0} → ReadCounts → Result T ReadAnswer → ReadCounts
counts_after_read counts (Ok _) = counts
counts_after_read counts (Err refusal) = counts_after counts refusal

-- a count of faults after a put
abbrev pub faults_after_put : {T E : Type 0} → ℕ → Result T E → ℕ
faults_after_put faults (Ok _) = faults
faults_after_put faults (Err _) = next_count faults
