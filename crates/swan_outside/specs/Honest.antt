-- Files and sinks that never fail.
use Rattle.std.specs.Prelude.{ℕ, ◌+◌, List, [], ◌++◌, length, nat_le, if◌then◌else◌, Option, Some, None, Result, Ok, Err}
use Rattle.swan_outside.specs.Counts.{next_count}
use Rattle.swan_outside.specs.FilesState.{content_of}
use Rattle.swan_outside.specs.declared.answer.ReadAnswer.{ReadAnswer}
use Rattle.swan_outside.specs.declared.answer.ReadAnswer.TheVariants as answer
use Rattle.swan_outside.specs.declared.files.FileBlob.{FileBlob}

-- the files, and how many reads found a file that is too long
pub record HonestFilesState : Type 0 where
  pub files : List FileBlob
  pub long_reads : ℕ

abbrev pub or_empty : Option (List ℕ) → List ℕ
or_empty (Some content) = content
or_empty None = []

-- what stands under a name: the content of the first file of this name, and nothing where there is none
abbrev pub honest_content : List FileBlob → List ℕ → List ℕ
honest_content files name = or_empty (content_of files name)

-- the count of long reads after a read
abbrev pub long_reads_after : {T : Type 0} → ℕ → Result T ReadAnswer → ℕ
long_reads_after count (Ok _) = count
long_reads_after count (Err answer.Failed) = count
long_reads_after count (Err answer.TooLong) = next_count count
long_reads_after count (Err answer.NoMemory) = count

-- all bytes so far, where they are told, and the room for them
pub record HonestSinkState : Type 0 where
  pub written : Option (List ℕ)
  pub room : ℕ

-- what is told after a piece was taken: all bytes while they fit in the room, and nothing from then on
abbrev pub told_after_piece : ℕ → Option (List ℕ) → List ℕ → Option (List ℕ)
told_after_piece room (Some bytes) piece = if nat_le (length bytes + length piece) room then Some (bytes ++ piece) else None
told_after_piece room None piece = None
