-- Completeness: a call ends as its command says where the command is in order and nothing outside fails.
use Rattle.std.specs.Prelude.{◌≡◌, ℕ, ◌≤◌, ◌⊎◌, length, Option, Some, None, Ok, List, [], ◌∷◌, codes}
use Rattle.std.specs.List.{Contains}
use Rattle.bulk_workload.specs.Bulk.{bulk_fuel, bulk_input, bulk_job}
use Rattle.job_body.specs.NamesOfJob.{names_of_job}
use Rattle.job_body.specs.PlanOfJob.{plan_of_job, refusal_of_plan}
use Rattle.job_body.specs.Standing.{Standing}
use Rattle.job_reader.specs.CanonicalText.{text_of}
use Rattle.job_reader.specs.declared.line.Line.{Line}
use Rattle.line_blocks.specs.TextRoots.{text_names}
use Rattle.swan_model.specs.Lines.{refusal_of}
use Rattle.swan_model.specs.declared.plan.Plan.{Plan}
use Rattle.swan_outside.specs.Counts.{Rose}
use Rattle.swan_outside.specs.Reads.{IsTooLong}
use Rattle.swan_outside.specs.declared.files.TheConstants.{FILE_MOST}
use Rattle.swan_top.specs.Command.{Command, help, version, check, elide, run, index, convert, bulk}
use Rattle.swan_top.specs.Decision.{Verdict, prints, accepted, printed, files_of}
use Rattle.swan_top.specs.Elisions.{Elisions, cheapest, conversion_end, index_end}
use Rattle.swan_top.specs.Headline.{CallSeen, Took, Wrote, status_of_verdict, usage}
use Rattle.swan_top.specs.Refusals.{file_line}
use Rattle.swan_top.specs.declared.help.TheConstants.{HELP, VERSION}
use Rattle.swan_top.specs.declared.how.How.TheVariants as how
use Rattle.swan_top.specs.declared.run_end.RunEnd.{RunEnd}
use Rattle.swan_top.specs.declared.status.Status.{Status}
use Rattle.swan_top.specs.declared.status.Status.TheVariants as status
use Rattle.swan_top.specs.declared.way.Way.TheVariants as way

-- the files tell this text, which is within their limit
pub record IsTold (content : Option (List ℕ)) (text : List ℕ) : Type 0 where
  pub told : content ≡ Some text
  pub most : length text ≤ FILE_MOST

-- the files tell these texts, one of each name
abbrev pub AreTold : (List ℕ → Option (List ℕ)) → (names : List (List ℕ)) → (texts : List (List ℕ)) → Type 0
AreTold content [] [] = Unit {0}
AreTold content [] (text ∷ texts) = ⊥
AreTold content (name ∷ names) [] = ⊥
AreTold content (name ∷ names) (text ∷ texts) = IsTold (content name) text × AreTold content names texts

-- no count of faults rose: neither that of the files nor that of a sink
pub record NothingFailed (seen : CallSeen) : Type 0 where
  pub files_well : ¬ Rose seen.files.faults_before seen.files.faults_after
  pub out_well : ¬ Rose seen.out.faults_before seen.out.faults_after
  pub report_well : ¬ Rose seen.report.faults_before seen.report.faults_after

-- A check is in order: its job is accepted.
pub record ChecksInOrder (text : List ℕ) (verdict : Verdict) : Type 0 where
  pub lines : List Line
  pub is_accepted : accepted text ≡ Ok lines
  pub prints_text : verdict ≡ prints (text_of lines) (codes "checked\n") (status.Done how.Plain)

module _ (end_of : Plan (List Line) Standing → RunEnd) where
  -- A run is in order: its job is accepted, and its inputs are as many as the job wants, each within the limits of
  -- lines. What is printed is what the run of the job's plan leaves.
  pub record RunsInOrder (fuel : ℕ) (text : List ℕ) (inputs : List (List ℕ)) (verdict : Verdict) : Type 0 where
    pub lines : List Line
    pub is_accepted : accepted text ≡ Ok lines
    pub none_refused : refusal_of_plan lines inputs ≡ None
    pub prints_outcome : verdict ≡ printed (names_of_job lines) (end_of (plan_of_job lines inputs fuel))

  -- The run of the generated job over its input is in order.
  unfoldable pub GeneratedInOrder : (number size : ℕ) → Verdict → Type 0
  GeneratedInOrder number size verdict = RunsInOrder (bulk_fuel size) (bulk_job size) (bulk_input number size ∷ []) verdict

-- A pipeline over a text is in order: the text is within the limits of lines.
pub record TextInOrder (end_over : List ℕ → RunEnd) (text : List ℕ) (verdict : Verdict) : Type 0 where
  pub none_refused : refusal_of text ≡ None
  pub prints_outcome : verdict ≡ printed text_names (end_over text)

module _ (elisions : Elisions) where
  -- A command is in order over the texts of its files, and this is what it comes to.
  abbrev pub InOrder : Command → (texts : List (List ℕ)) → Verdict → Type 0
  InOrder help texts verdict = verdict ≡ prints HELP.now [] (status.Done how.Plain)
  InOrder version texts verdict = verdict ≡ prints VERSION.now [] (status.Done how.Plain)
  InOrder (check job) (text ∷ texts) verdict = ChecksInOrder text verdict
  InOrder (elide fuel job names) (text ∷ inputs) verdict = RunsInOrder (elisions.of_job way.Elide) fuel text inputs verdict
  InOrder (run workers fuel job names) (text ∷ inputs) verdict = RunsInOrder (elisions.of_job (way.Run workers)) fuel text inputs verdict
  InOrder (index workers input) (text ∷ texts) verdict = TextInOrder (index_end elisions workers) text verdict
  InOrder (convert workers input) (text ∷ texts) verdict = TextInOrder (conversion_end elisions workers) text verdict
  InOrder (bulk number size workers) [] verdict = GeneratedInOrder (elisions.of_job (cheapest workers)) number size verdict
  InOrder (bulk number size workers) (text ∷ texts) verdict = ⊥
  InOrder command [] verdict = ⊥

  -- Where the files tell texts over which the command is in order, and no count of faults rises, the call wrote
  -- all that the command comes to and ends so; or memory ran out.
  abbrev pub Completes : CallSeen → Option Command → Status → Type 0
  Completes seen None ends = Unit {0}
  Completes seen (Some command) ends =
      (texts : List (List ℕ)) (verdict : Verdict)
      → AreTold seen.files.content (files_of command) texts → InOrder command texts verdict → NothingFailed seen
      → (ends ≡ status.NoMemory) ⊎ ((ends ≡ status_of_verdict verdict) × Wrote seen.out seen.report verdict)

  -- The same over files and sinks that never fail, so that nothing is asked of counts. Words that are no command
  -- are refused.
  abbrev pub CompletesWell : CallSeen → Option Command → Status → Type 0
  CompletesWell seen None ends = (ends ≡ status.Usage) × Wrote seen.out seen.report usage
  CompletesWell seen (Some command) ends =
      (texts : List (List ℕ)) (verdict : Verdict)
      → AreTold seen.files.content (files_of command) texts → InOrder command texts verdict
      → (ends ≡ status.NoMemory) ⊎ ((ends ≡ status_of_verdict verdict) × Wrote seen.out seen.report verdict)

-- How a call ends over files and sinks that never fail: it writes all that it settles, and a read is refused only
-- where a file of the command is too long. Then one line names the file, and the output takes nothing.
abbrev pub EndsWell : CallSeen → Option Command → Status → Type 0
EndsWell seen asked status.WriteFailed = ⊥
EndsWell seen None status.ReadFailed = ⊥
EndsWell seen (Some command) status.ReadFailed =
    (file : List ℕ) × Contains (files_of command) file × IsTooLong (seen.files.content file)
    × Took seen.out [] × Took seen.report (file_line (codes "too long ") file)
EndsWell seen asked ends = Unit {0}
