-- Files in memory, and what a read of them answers.
use Rattle.std.specs.Prelude.{◌≡◌, ℕ, ◌==◌, ◌≤◌, ◌<◌, List, length, Bool, if◌then◌else◌, Option, Some, None, Result, Ok, Err, find}
use Rattle.std.specs.Option.{option_map}
use Rattle.std.specs.List.{list_any}
use Rattle.std.specs.Str.{bytes_eq}
use Rattle.swan_outside.specs.declared.answer.ReadAnswer.{ReadAnswer}
use Rattle.swan_outside.specs.declared.answer.ReadAnswer.TheVariants as answer
use Rattle.swan_outside.specs.declared.counts.ReadCounts.{ReadCounts}
use Rattle.swan_outside.specs.declared.files.FileBlob.{FileBlob}
use Rattle.swan_outside.specs.declared.files.TheConstants.{FILE_MOST}
use Rattle.swan_outside.specs.Counts.{next_count, no_counts, counts_after_read}

-- the files, the numbers of the calls that fail, the number of calls so far, and the counts
pub record FilesState : Type 0 where
  pub files : List FileBlob
  pub fail : List ℕ
  pub calls : ℕ
  pub counts : ReadCounts

-- these files, with no call so far
abbrev pub fresh_files : List FileBlob → List ℕ → FilesState
fresh_files files fail = record { files = files; fail = fail; calls = 0; counts = no_counts }

-- the content of the first file of this name
abbrev pub content_of : List FileBlob → List ℕ → Option (List ℕ)
content_of files name = option_map (λ file. file.content) (find (λ file. bytes_eq file.name name) files)

-- whether the next call is one of those that fail
abbrev pub fails_next : List ℕ → ℕ → Bool
fails_next fail calls = list_any (λ number. number == next_count calls) fail

-- the content that the next call finds: none where the call is one of those that fail, or where no file has the name
abbrev pub content_found : FilesState → List ℕ → Option (List ℕ)
content_found state name = if fails_next state.fail state.calls then None else content_of state.files name

-- what a call may answer that finds this: Failed where it finds none, TooLong past the limit, and else Ok or NoMemory
abbrev pub IsAnswerTo : {T : Type 0} → Option (List ℕ) → Result T ReadAnswer → Type 0
IsAnswerTo None result = result ≡ Err answer.Failed
IsAnswerTo (Some content) (Err answer.Failed) = ⊥
IsAnswerTo (Some content) (Err answer.TooLong) = FILE_MOST < length content
IsAnswerTo (Some content) (Err answer.NoMemory) = length content ≤ FILE_MOST
IsAnswerTo (Some content) (Ok _) = length content ≤ FILE_MOST

-- the state after a call that answered so
abbrev pub after_read : {T : Type 0} → FilesState → Result T ReadAnswer → FilesState
after_read state result =
    record state { calls = next_count state.calls; counts = counts_after_read state.counts result }
