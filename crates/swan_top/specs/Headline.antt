-- The headline: what a call answers, and what is then in the sinks.
use Rattle.std.specs.Prelude.{◌≡◌, ℕ, ◌≤◌, ◌⊎◌, length, Option, Some, None, List, [], ◌∷◌, codes}
use Rattle.swan_outside.specs.Counts.{Rose}
use Rattle.swan_outside.specs.Reads.{IsTooLong}
use Rattle.swan_outside.specs.Told.{Appends, AppendsFront, Tells}
use Rattle.swan_outside.specs.declared.files.Files.{Ghosts as FilesMeaning}
use Rattle.swan_outside.specs.declared.files.TheConstants.{FILE_MOST}
use Rattle.swan_outside.specs.declared.sink.Sink.{Ghosts as SinkMeaning}
use Rattle.swan_top.specs.Command.{Command}
use Rattle.swan_top.specs.Decision.{Verdict, prints, refuses, Decision, reads, settled, decision, files_of}
use Rattle.swan_top.specs.Elisions.{Elisions}
use Rattle.swan_top.specs.Refusals.{file_line}
use Rattle.swan_top.specs.declared.status.Status.{Status}
use Rattle.swan_top.specs.declared.status.Status.TheVariants as status

-- What is known of a sink before and after a call: all bytes in it, where it tells them, and its count
-- of faults.
pub record SinkSeen : Type 0 where
  pub before : Option (List ℕ)
  pub after : Option (List ℕ)
  pub faults_before : ℕ
  pub faults_after : ℕ

-- what is seen of a sink before a call and after it, by the ghost members of its trait
abbrev pub sink_over : {S : Type 0} → SinkMeaning S → (before after : S) → SinkSeen
sink_over meaning before after = record {
  before = meaning.written before;
  after = meaning.written after;
  faults_before = meaning.faults before;
  faults_after = meaning.faults after;
}

abbrev pub Took : SinkSeen → List ℕ → Type 0
Took sink text = Appends sink.before text sink.after

-- a put to the sink failed, and a front of the text was appended
abbrev pub TookFront : SinkSeen → List ℕ → Type 0
TookFront sink text = Rose sink.faults_before sink.faults_after × AppendsFront sink.before text sink.after

-- What was settled was written whole.
abbrev pub Wrote : (out report : SinkSeen) → Verdict → Type 0
Wrote out report (prints out_text report_text ends) = Took out out_text × Took report report_text
Wrote out report (refuses line ends) = Took out [] × Took report line

-- It wasn't: the sink that failed took a front of its text, and what comes after it wasn't begun.
abbrev pub FailedToWrite : (out report : SinkSeen) → Verdict → Type 0
FailedToWrite out report (prints out_text report_text ends) =
    (TookFront out out_text × Took report []) ⊎ (Took out out_text × TookFront report report_text)
FailedToWrite out report (refuses line ends) = Took out [] × TookFront report line

abbrev pub WroteNothing : (out report : SinkSeen) → Type 0
WroteNothing out report = Took out [] × Took report []

-- how the call ends where all is written
abbrev pub status_of_verdict : Verdict → Status
status_of_verdict (prints out report ends) = ends
status_of_verdict (refuses line ends) = ends

-- The call ends with this status after it settled this verdict.
abbrev pub Ends : (out report : SinkSeen) → Verdict → Status → Type 0
Ends out report verdict status.WriteFailed = FailedToWrite out report verdict
Ends out report verdict ends = (ends ≡ status_of_verdict verdict) × Wrote out report verdict

-- What is known of the files: what stands under each name, where that is told, and the counts of reads
-- that failed and of files that are too long, before and after.
pub record FilesSeen : Type 0 where
  pub content : List ℕ → Option (List ℕ)
  pub faults_before : ℕ
  pub faults_after : ℕ
  pub long_before : ℕ
  pub long_after : ℕ

abbrev pub files_seen : (List ℕ → Option (List ℕ)) → ℕ → ℕ → ℕ → ℕ → FilesSeen
files_seen content faults_before faults_after long_before long_after =
    record { content = content; faults_before = faults_before; faults_after = faults_after; long_before = long_before; long_after = long_after }

-- what is seen of files before a call and after it, by the ghost members of their trait
abbrev pub files_over : {F : Type 0} → FilesMeaning F → (before after : F) → FilesSeen
files_over meaning before after =
    files_seen (meaning.content before) (meaning.faults before) (meaning.faults after) (meaning.long_reads before) (meaning.long_reads after)

-- What a call saw: what is known of its files, of its output and of its report.
pub record CallSeen : Type 0 where
  pub files : FilesSeen
  pub out : SinkSeen
  pub report : SinkSeen

-- that of a call over files, an output and a report, before it and after it
abbrev pub call_over : {F O R : Type 0} → FilesMeaning F → SinkMeaning O → SinkMeaning R → (before after : F × O × R) → CallSeen
call_over of_files of_out of_report before after = record {
  files = files_over of_files before.0 after.0;
  out = sink_over of_out before.1 after.1;
  report = sink_over of_report before.2 after.2;
}

-- A text was read: it is within the limit of files, and it is the told content, where one is told.
pub record WasRead (content : Option (List ℕ)) (text : List ℕ) : Type 0 where
  pub told : Tells content text
  pub most : length text ≤ FILE_MOST

-- These texts were read of these files, one of each from the first on.
abbrev pub WereRead : (List ℕ → Option (List ℕ)) → (files : List (List ℕ)) → (texts : List (List ℕ)) → Type 0
WereRead content files [] = Unit {0}
WereRead content (file ∷ files) (text ∷ texts) = WasRead (content file) text × WereRead content files texts
WereRead content [] (text ∷ texts) = ⊥

abbrev pub NoReadFailed : FilesSeen → Type 0
NoReadFailed files = files.faults_after ≡ files.faults_before

abbrev pub NoneTooLong : FilesSeen → Type 0
NoneTooLong files = files.long_after ≡ files.long_before

-- A file couldn't be read, and the count of failed reads rose; or it is too long, where it tells its content,
-- and the count of long reads rose. The other count is as it was.
abbrev pub ReadRefused : FilesSeen → List ℕ → Verdict → Type 0
ReadRefused files file verdict =
    ((verdict ≡ refuses (file_line (codes "read failed ") file) status.ReadFailed)
    × Rose files.faults_before files.faults_after × NoneTooLong files)
    ⊎ ((verdict ≡ refuses (file_line (codes "too long ") file) status.ReadFailed)
    × Rose files.long_before files.long_after × NoReadFailed files × IsTooLong (files.content file))

-- A verdict that is settled comes only where no read was refused.
abbrev pub Follows : FilesSeen → Decision → Verdict → Type 0
Follows files (settled verdict) verdict' = (verdict' ≡ verdict) × NoReadFailed files × NoneTooLong files
Follows files (reads file) verdict = ReadRefused files file verdict

-- The verdict is what comes of these files, by texts that were read of them in their order.
pub record Leads (files : FilesSeen) (names : List (List ℕ)) (decision_of : List (List ℕ) → Decision) (verdict : Verdict) : Type 0 where
  pub texts : List (List ℕ)
  pub are_read : WereRead files.content names texts
  pub follows : Follows files (decision_of texts) verdict

-- the verdict is what comes of a command
abbrev pub Settles : Elisions → FilesSeen → Command → Verdict → Type 0
Settles elisions files command = Leads files (files_of command) (decision elisions command)

-- what words that are no command lead to
abbrev pub usage : Verdict
usage = refuses (codes "usage\n") status.Usage

-- What a call answers. Words that are no command are refused without memory, and no read was refused. Else the
-- call ends as the verdict says that its command leads to; or memory ran out, where no read was refused, and
-- nothing was written.
abbrev pub Answers : Elisions → CallSeen → Option Command → Status → Type 0
Answers elisions seen None ends = Ends seen.out seen.report usage ends × NoReadFailed seen.files × NoneTooLong seen.files
Answers elisions seen (Some command) status.NoMemory = WroteNothing seen.out seen.report × NoReadFailed seen.files × NoneTooLong seen.files
Answers elisions seen (Some command) ends =
    (verdict : Verdict) × Settles elisions seen.files command verdict × Ends seen.out seen.report verdict ends
