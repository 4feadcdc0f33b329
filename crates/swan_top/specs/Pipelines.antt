-- What an index and a conversion write, told of the text that was read, and of no plan and no task.
use Rattle.std.specs.Prelude.{◌≡◌, ℕ, Bool, true, false, Option, Some, None, List, [], ◌++◌, length, codes, flat_map}
use Rattle.std.specs.Fmt.{decimal}
use Rattle.index_pipeline.specs.Index.{index_of}
use Rattle.record_pipeline.specs.Conversion.{convert_of, faults_from, width_of}
use Rattle.swan_model.specs.Lines.{lines, refusal_of}
use Rattle.swan_model.specs.Texts.{fault_line, is_some_fault, line}
use Rattle.swan_model.specs.declared.fault.Fault.{Fault}
use Rattle.swan_top.specs.Command.{Command, index, convert}
use Rattle.swan_top.specs.Headline.{CallSeen, WasRead, Took}
use Rattle.swan_top.specs.declared.status.Status.{Status}
use Rattle.swan_top.specs.declared.status.Status.TheVariants as status

-- a fault for each line of a text that the conversion leaves out, in order
abbrev pub conversion_faults : List ℕ → List Fault
conversion_faults text = faults_from 0 (width_of (lines text)) (lines text)

-- the report of a pipeline: no line is left in its input, and these are its faults
abbrev pub pipeline_report : List Fault → List ℕ
pipeline_report faults = codes "left input 0\n" ++ (line (codes "faults " ++ decimal (length faults)) ++ flat_map fault_line faults)

-- A text was read of a file, its lines are within their limits, and the sinks took what is said of it.
pub record WrittenOf (seen : CallSeen) (input : List ℕ) (out_of : List ℕ → List ℕ) (faults_of : List ℕ → List Fault) (is_faulted : Bool) : Type 0 where
  pub text : List ℕ
  pub is_read : WasRead (seen.files.content input) text
  pub none_refused : refusal_of text ≡ None
  pub faulted : is_some_fault (faults_of text) ≡ is_faulted
  pub wrote_out : Took seen.out (out_of text)
  pub wrote_report : Took seen.report (pipeline_report (faults_of text))

-- An index that is Done wrote the index of the text, and none is Faulted. A conversion wrote the conversion, and is
-- Faulted where a line was left out.
abbrev pub WroteOfText : CallSeen → Option Command → Status → Type 0
WroteOfText seen (Some (index workers input)) (status.Done how) = WrittenOf seen input index_of (λ text. []) false
WroteOfText seen (Some (index workers input)) (status.Faulted how) = ⊥
WroteOfText seen (Some (convert workers input)) (status.Done how) = WrittenOf seen input convert_of conversion_faults false
WroteOfText seen (Some (convert workers input)) (status.Faulted how) = WrittenOf seen input convert_of conversion_faults true
WroteOfText seen command ends = Unit {0}
