-- What is done for a command, by the texts that were read so far: read one more file, or settle it. So
-- the order of refusals is the order in which this definition asks.
use Rattle.std.specs.Prelude.{ℕ, if◌then◌else◌, Option, Some, None, Result, Ok, Err, List, [], ◌∷◌, ◌++◌, codes}
use Rattle.std.specs.Fmt.{decimal}
use Rattle.bulk_workload.specs.Bulk.{bulk_fuel, bulk_input, bulk_job}
use Rattle.job_body.specs.NamesOfJob.{names_of_job}
use Rattle.job_body.specs.PlanOfJob.{of_input, plan_of_job, refusal_of_plan}
use Rattle.job_body.specs.Standing.{Standing}
use Rattle.job_body.specs.declared.answer.PlanAnswer.{PlanAnswer}
use Rattle.job_body.specs.declared.answer.PlanAnswer.TheVariants as plan
use Rattle.job_reader.specs.CanonicalText.{text_of}
use Rattle.job_reader.specs.FirstFault.{job_of}
use Rattle.job_reader.specs.declared.fault.JobFault.{JobFault}
use Rattle.job_reader.specs.declared.fault.JobKind.{JobKind}
use Rattle.job_reader.specs.declared.fault.JobKind.TheVariants as kind
use Rattle.job_reader.specs.declared.line.Line.{Line}
use Rattle.line_blocks.specs.TextRoots.{text_names}
use Rattle.privilege_check.specs.FirstFault.{first_fault}
use Rattle.swan_model.specs.Lines.{refusal_of}
use Rattle.swan_model.specs.Texts.{out_bytes, report_bytes, has_fault}
use Rattle.swan_model.specs.declared.lines.LinesAnswer.{LinesAnswer}
use Rattle.swan_model.specs.declared.outcome.Names.{Names}
use Rattle.swan_model.specs.declared.plan.Plan.{Plan}
use Rattle.swan_top.specs.Command.{Command, help, version, check, elide, run, index, convert, bulk}
use Rattle.swan_top.specs.Elisions.{Elisions, cheapest, conversion_end, index_end}
use Rattle.swan_top.specs.declared.help.TheConstants.{HELP, VERSION}
use Rattle.swan_top.specs.declared.how.How.TheVariants as how
use Rattle.swan_top.specs.declared.run_end.RunEnd.{RunEnd}
use Rattle.swan_top.specs.declared.status.Status.{Status}
use Rattle.swan_top.specs.declared.status.Status.TheVariants as status
use Rattle.swan_top.specs.declared.way.Way.TheVariants as way

-- What is settled: both texts and a status, or a refusal's one line of the report and a status.
pub data Verdict : Type 0 where
  prints : (out : List ℕ) (report : List ℕ) → Status → Verdict
  refuses : (line : List ℕ) → Status → Verdict

-- What is done next: a file is read, or the call is settled.
pub data Decision : Type 0 where
  reads : (file : List ℕ) → Decision
  settled : Verdict → Decision

abbrev pub job_kind_text : JobKind → List ℕ
job_kind_text kind.BadByte = codes "BadByte"
job_kind_text kind.BadHeader = codes "BadHeader"
job_kind_text kind.BadLine = codes "BadLine"
job_kind_text kind.BadName = codes "BadName"
job_kind_text kind.BadNumber = codes "BadNumber"
job_kind_text kind.Unbalanced = codes "Unbalanced"
job_kind_text kind.Limit = codes "Limit"
job_kind_text kind.Duplicate = codes "Duplicate"
job_kind_text kind.Unknown = codes "Unknown"
job_kind_text kind.Kind = codes "Kind"
job_kind_text kind.Arity = codes "Arity"
job_kind_text kind.Privilege = codes "Privilege"
job_kind_text kind.Alias = codes "Alias"
job_kind_text kind.NoMain = codes "NoMain"
job_kind_text kind.MainParams = codes "MainParams"

-- A job is accepted where its text has no fault, and then its names, kinds and rights have none.
abbrev pub unless_fault : List Line → Option JobFault → Result (List Line) JobFault
unless_fault job None = Ok job
unless_fault job (Some fault) = Err fault

abbrev pub accepted_lines : Result (List Line) JobFault → Result (List Line) JobFault
accepted_lines (Ok job) = unless_fault job (first_fault job)
accepted_lines (Err fault) = Err fault

abbrev pub accepted : List ℕ → Result (List Line) JobFault
accepted text = accepted_lines (job_of text)

abbrev pub job_line : JobFault → List ℕ
job_line fault = codes "refused " ++ (decimal fault.line ++ (codes " " ++ (job_kind_text fault.kind ++ codes "\n")))

abbrev pub job_refused : JobFault → Verdict
job_refused fault = refuses (job_line fault) status.JobRefused

-- what `check` does with an accepted job
abbrev pub checked : Result (List Line) JobFault → Verdict
checked (Ok job) = prints (text_of job) (codes "checked\n") (status.Done how.Plain)
checked (Err fault) = job_refused fault

-- the status of a run that ended
abbrev pub status_of : RunEnd → Status
status_of end = if has_fault end.outcome then status.Faulted end.how else status.Done end.how

abbrev pub printed : Names → RunEnd → Verdict
printed names end = prints (out_bytes names end.outcome) (report_bytes names end.outcome) (status_of end)

abbrev pub input_line : PlanAnswer → List ℕ
input_line (plan.Inputs wanted given) = codes "inputs " ++ (decimal wanted ++ (codes " " ++ (decimal given ++ codes "\n")))
input_line (plan.RecordTooLong input line) = codes "long line " ++ (decimal input ++ (codes " " ++ (decimal line ++ codes "\n")))
input_line (plan.TooManyRecords input) = codes "too many lines " ++ (decimal input ++ codes "\n")
input_line plan.NoMemory = []

-- the first of these files of which no text was read
abbrev pub unread : (files : List (List ℕ)) → (texts : List (List ℕ)) → Option (List ℕ)
unread [] texts = None
unread (file ∷ files) [] = Some file
unread (file ∷ files) (text ∷ texts) = unread files texts

abbrev pub unless_unread : Option (List ℕ) → Verdict → Decision
unless_unread (Some file) verdict = reads file
unless_unread None verdict = settled verdict

abbrev pub decision_of_check : List ℕ → (texts : List (List ℕ)) → Decision
decision_of_check job [] = reads job
decision_of_check job (text ∷ texts) = settled (checked (accepted text))

-- A text that a pipeline runs over is refused as an input is, or this is settled.
abbrev pub unless_unfit : Option LinesAnswer → Verdict → Verdict
unless_unfit None verdict = verdict
unless_unfit (Some why) verdict = refuses (input_line (of_input 1 why)) status.InputRefused

-- a pipeline over a file: what is settled once its text was read
abbrev pub decision_of_text : (List ℕ → RunEnd) → List ℕ → (texts : List (List ℕ)) → Decision
decision_of_text end_over input [] = reads input
decision_of_text end_over input (text ∷ texts) = settled (unless_unfit (refusal_of text) (printed text_names (end_over text)))

-- How the run of a plan ends is an argument: `end_of`.
module _ (end_of : Plan (List Line) Standing → RunEnd) where
  -- the run of an accepted job over all its inputs
  abbrev pub unless_refused : List Line → List (List ℕ) → ℕ → Option PlanAnswer → Verdict
  unless_refused job inputs fuel None = printed (names_of_job job) (end_of (plan_of_job job inputs fuel))
  unless_refused job inputs fuel (Some why) = refuses (input_line why) status.InputRefused

  abbrev pub ran : List Line → List (List ℕ) → ℕ → Verdict
  ran job inputs fuel = unless_refused job inputs fuel (refusal_of_plan job inputs)

  -- a run, by whether its job is accepted, and by the inputs that were read
  abbrev pub decision_of_job : ℕ → (files : List (List ℕ)) → Result (List Line) JobFault → (inputs : List (List ℕ)) → Decision
  decision_of_job fuel files (Ok job) inputs = unless_unread (unread files inputs) (ran job inputs fuel)
  decision_of_job fuel files (Err fault) inputs = settled (job_refused fault)

  abbrev pub decision_of_run : ℕ → List ℕ → (files : List (List ℕ)) → (texts : List (List ℕ)) → Decision
  decision_of_run fuel job files [] = reads job
  decision_of_run fuel job files (text ∷ inputs) = decision_of_job fuel files (accepted text) inputs

  -- the run of the generated job over its input, for which no file is read
  unfoldable pub generated : (number size : ℕ) → Decision
  generated number size = decision_of_job (bulk_fuel size) [] (accepted (bulk_job size)) (bulk_input number size ∷ [])

abbrev pub decision : Elisions → Command → (texts : List (List ℕ)) → Decision
decision elisions help texts = settled (prints HELP.now [] (status.Done how.Plain))
decision elisions version texts = settled (prints VERSION.now [] (status.Done how.Plain))
decision elisions (check job) texts = decision_of_check job texts
decision elisions (elide fuel job inputs) texts = decision_of_run (elisions.of_job way.Elide) fuel job inputs texts
decision elisions (run workers fuel job inputs) texts = decision_of_run (elisions.of_job (way.Run workers)) fuel job inputs texts
decision elisions (index workers input) texts = decision_of_text (index_end elisions workers) input texts
decision elisions (convert workers input) texts = decision_of_text (conversion_end elisions workers) input texts
decision elisions (bulk number size workers) texts = generated (elisions.of_job (cheapest workers)) number size

-- the files of a command, in the order in which they are read
abbrev pub files_of : Command → List (List ℕ)
files_of help = []
files_of version = []
files_of (check job) = job ∷ []
files_of (elide fuel job inputs) = job ∷ inputs
files_of (run workers fuel job inputs) = job ∷ inputs
files_of (index workers input) = input ∷ []
files_of (convert workers input) = input ∷ []
files_of (bulk number size workers) = []
