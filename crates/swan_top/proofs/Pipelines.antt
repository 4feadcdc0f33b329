-- What an index and a conversion write.
use Rattle.std.proofs.Common.{◌≡◌, ℕ, ◌≤◌, Bool, true, false, List, [], ◌∷◌, ◌++◌, length, arith, Option, Some, None, refl, sym, ap, subst, ◌∙◌, inl, inr}
use Rattle.std.specs.Prelude.{if◌then◌else◌, codes, flat_map, map}
use Rattle.std.specs.Fmt.{decimal}
use Rattle.std.proofs.lemmas.Fmt.{decimal_digit}
use Rattle.index_pipeline.specs.Index.{index_of, index_records}
use Rattle.index_pipeline.specs.Plans.{index_plan}
use Rattle.index_pipeline.specs.Indexed.{IsIndexed}
use Rattle.index_pipeline.specs.contracts.body.IndexBodyBody.TheImpl.{ghosts as index_ghosts}
use Rattle.index_pipeline.specs.declared.body.IndexBody.{IndexBody}
use Rattle.index_pipeline.specs.declared.local.IndexLocal.{IndexLocal}
use Rattle.line_blocks.specs.TextRoots.{text_names}
use Rattle.line_blocks.specs.declared.text_roots.TheConstants.{TEXT_MOST}
use Rattle.record_pipeline.specs.Conversion.{convert_of, records_of, width_of}
use Rattle.record_pipeline.specs.Plans.{record_plan}
use Rattle.record_pipeline.specs.Converted.{IsConverted}
use Rattle.record_pipeline.specs.contracts.body.RecordBodyBody.TheImpl.{ghosts as record_ghosts}
use Rattle.record_pipeline.specs.declared.body.RecordBody.{RecordBody}
use Rattle.record_pipeline.specs.declared.local.RecordLocal.{RecordLocal}
use Rattle.swan_model.specs.Elision.{outcome}
use Rattle.swan_model.specs.Lines.{lines, refusal_of}
use Rattle.swan_model.specs.Texts.{fault_line, has_fault, is_some_fault, line, out_bytes, report_bytes}
use Rattle.swan_model.specs.declared.body.Body.{Ghosts}
use Rattle.swan_model.specs.declared.fault.Fault.{Fault}
use Rattle.swan_model.specs.declared.lines.LinesAnswer.{LinesAnswer}
use Rattle.swan_model.specs.declared.outcome.Outcome.{Outcome}
use Rattle.swan_model.specs.declared.value.Value.{Value}
use Rattle.swan_model.specs.declared.value.Value.TheVariants.{Bytes}
use Rattle.swan_top.specs.Command.{Command, help, version, check, elide, run, index, convert, bulk}
use Rattle.swan_top.specs.Decision.{Verdict, prints, decision_of_text, printed, status_of, unless_unfit}
use Rattle.swan_top.specs.Elisions.{cheapest, elisions, end_by}
use Rattle.swan_top.specs.Headline.{Answers, CallSeen, WereRead, FilesSeen, Follows, WasRead, Leads, SinkSeen, Took, Wrote, status_of_verdict}
use Rattle.swan_top.specs.Pipelines.{WroteOfText, conversion_faults, pipeline_report}
use Rattle.swan_top.specs.declared.status.Status.{Status}
use Rattle.swan_top.specs.declared.how.How.{How}
use Rattle.swan_top.specs.declared.run_end.RunEnd.{RunEnd}
use Rattle.swan_top.specs.declared.status.Status.TheVariants as status
use Rattle.swan_top.specs.declared.way.Way.{Way}

-- whether texts were printed
abbrev pub is_run : Status → Bool
is_run (status.Done how) = true
is_run (status.Faulted how) = true
is_run _ = false

abbrev ends_by : How → Bool → Status
ends_by how faulted = if faulted then status.Faulted how else status.Done how

is_done : (how other : How) (faulted : Bool) → status.Done how ≡ ends_by other faulted → faulted ≡ false
is_done how other true is = cc
is_done how other false is = refl

is_faulted : (how other : How) (faulted : Bool) → status.Faulted how ≡ ends_by other faulted → faulted ≡ true
is_faulted how other true is = refl
is_faulted how other false is = cc

-- what was printed is no refusal
fit : (why : Option LinesAnswer) (verdict v : Verdict) → verdict ≡ unless_unfit why v → is_run (status_of_verdict verdict) ≡ true → (why ≡ None) × (verdict ≡ v)
fit None verdict v is runs = (refl, is)
fit (Some why) verdict v is runs = let bad : is_run (status_of_verdict verdict) ≡ false = ap (λ w. is_run (status_of_verdict w)) is in absurd (cc)

-- the laws of the pipelines
abbrev pub IndexLaw : Ghosts IndexBody IndexLocal → Type 0
IndexLaw index_ghosts = (text : List ℕ) → length text ≤ TEXT_MOST → IsIndexed text (outcome index_ghosts (index_plan text))

abbrev pub ConversionLaw : Ghosts RecordBody RecordLocal → Type 0
ConversionLaw record_ghosts = (text : List ℕ) → length text ≤ TEXT_MOST → IsConverted text (outcome record_ghosts (record_plan text))

module _ (files : FilesSeen) (out report : SinkSeen) (input : List ℕ) where
  read_of : (end_over : List ℕ → RunEnd) (verdict : Verdict) (texts : List (List ℕ)) → is_run (status_of_verdict verdict) ≡ true → WereRead files.content (input ∷ []) texts → Follows files (decision_of_text end_over input texts) verdict
      → (text : List ℕ) × WasRead (files.content input) text × (refusal_of text ≡ None) × (verdict ≡ printed text_names (end_over text))
  read_of end_over verdict [] runs read (inl failed) = let bad : is_run (status_of_verdict verdict) ≡ false = ap (λ w. is_run (status_of_verdict w)) failed.0 in absurd (cc)
  read_of end_over verdict [] runs read (inr longer) = let bad : is_run (status_of_verdict verdict) ≡ false = ap (λ w. is_run (status_of_verdict w)) longer.0 in absurd (cc)
  read_of end_over verdict (text ∷ texts) runs read follows =
      let fits = fit (refusal_of text) verdict (printed text_names (end_over text)) follows.0 runs in
      (text, read.0, fits.0, fits.1)

  report_is : (items : List Value) (faults : List Fault) → report_bytes text_names (record { objects = []; queues = [] ∷ items ∷ []; faults = faults }) ≡ pipeline_report faults
  report_is items faults =
      ap (λ none. ((line (codes "left " ++ codes "input" ++ codes " " ++ none) ++ []) ++ line (codes "faults " ++ decimal (length faults))) ++ flat_map fault_line faults) (decimal_digit 0 (omega arith))

  -- what an outcome of this form writes
  told_of : (end : RunEnd) (items : List Value) (faults : List Fault) (text : List ℕ) (verdict : Verdict) (ends : Status)
      → end.outcome ≡ record { objects = []; queues = [] ∷ items ∷ []; faults = faults } → out_bytes text_names end.outcome ≡ text → verdict ≡ printed text_names end → ends ≡ status_of_verdict verdict → Wrote out report verdict
      → (ends ≡ ends_by end.how (is_some_fault faults)) × Took out text × Took report (pipeline_report faults)
  told_of end items faults text verdict ends is output prints_it same wrote =
      let settled : verdict ≡ prints text (pipeline_report faults) (ends_by end.how (is_some_fault faults)) =
      prints_it ∙ ap (λ t. prints t (report_bytes text_names end.outcome) (status_of end)) output
      ∙ ap {A = Outcome} (λ o. prints text (report_bytes text_names o) (ends_by end.how (has_fault o))) is
      ∙ ap (λ t. prints text t (ends_by end.how (is_some_fault faults))) (report_is items faults) in
      let P : Verdict → Type 0 = λ v. (ends ≡ status_of_verdict v) × Wrote out report v in
      let w = subst P settled (same, wrote) in
      (w.0, w.1.0, w.1.1)

  module _ (verdict : Verdict) (ends : Status) (runs : is_run (status_of_verdict verdict) ≡ true) (same : ends ≡ status_of_verdict verdict) (wrote : Wrote out report verdict) where
    indexed : (index_ghosts : Ghosts IndexBody IndexLocal) (taken : Way) → IndexLaw index_ghosts → Leads files (input ∷ []) (decision_of_text (λ t. end_by index_ghosts taken (index_plan t)) input) verdict
        → (text : List ℕ) × WasRead (files.content input) text × (refusal_of text ≡ None) × ((how : How) × (ends ≡ status.Done how)) × Took out (index_of text) × Took report (pipeline_report [])
    indexed index_ghosts taken index_law leads =
        let r = read_of (λ t. end_by index_ghosts taken (index_plan t)) verdict leads.texts runs leads.are_read leads.follows in
        let law = index_law r.0 r.1.most in
        let end = end_by index_ghosts taken (index_plan r.0) in
        let t = told_of end (map Bytes (index_records (lines r.0))) [] (index_of r.0) verdict ends law.outcome_is law.output r.3 same wrote in
        (r.0, r.1, r.2, (end.how, t.0), t.1, t.2)

    converted : (record_ghosts : Ghosts RecordBody RecordLocal) (taken : Way) → ConversionLaw record_ghosts → Leads files (input ∷ []) (decision_of_text (λ t. end_by record_ghosts taken (record_plan t)) input) verdict
        → (text : List ℕ) × WasRead (files.content input) text × (refusal_of text ≡ None) × ((how : How) × (ends ≡ ends_by how (is_some_fault (conversion_faults text)))) × Took out (convert_of text) × Took report (pipeline_report (conversion_faults text))
    converted record_ghosts taken conversion_law leads =
        let r = read_of (λ t. end_by record_ghosts taken (record_plan t)) verdict leads.texts runs leads.are_read leads.follows in
        let law = conversion_law r.0 r.1.most in
        let end = end_by record_ghosts taken (record_plan r.0) in
        let t = told_of end (map Bytes (records_of (width_of (lines r.0)) (lines r.0))) (conversion_faults r.0) (convert_of r.0) verdict ends law.outcome_is law.output r.3 same wrote in
        (r.0, r.1, r.2, (end.how, t.0), t.1, t.2)

module _ (index_law : IndexLaw index_ghosts) (conversion_law : ConversionLaw record_ghosts) (seen : CallSeen) where
  pub wrote_of_text : (asked : Option Command) (ends : Status) → Answers elisions seen asked ends → WroteOfText seen asked ends
  wrote_of_text None ends is = tt
  wrote_of_text (Some (help)) ends is = tt
  wrote_of_text (Some (version)) ends is = tt
  wrote_of_text (Some (check job)) ends is = tt
  wrote_of_text (Some (elide fuel job inputs)) ends is = tt
  wrote_of_text (Some (run workers fuel job inputs)) ends is = tt
  wrote_of_text (Some (bulk number size workers)) ends is = tt
  wrote_of_text (Some (index workers input)) (status.Done how) is =
      let told = indexed seen.files seen.out seen.report input is.0 (status.Done how) (ap is_run (sym is.2.0)) is.2.0 is.2.1 index_ghosts (cheapest workers) index_law is.1 in
      record { text = told.0; is_read = told.1; none_refused = told.2; faulted = refl; wrote_out = told.4; wrote_report = told.5 }
  wrote_of_text (Some (index workers input)) (status.Faulted how) is =
      let told = indexed seen.files seen.out seen.report input is.0 (status.Faulted how) (ap is_run (sym is.2.0)) is.2.0 is.2.1 index_ghosts (cheapest workers) index_law is.1 in
      let bad : status.Faulted how ≡ status.Done told.3.0 = told.3.1 in absurd (cc)
  wrote_of_text (Some (convert workers input)) (status.Done how) is =
      let told = converted seen.files seen.out seen.report input is.0 (status.Done how) (ap is_run (sym is.2.0)) is.2.0 is.2.1 record_ghosts (cheapest workers) conversion_law is.1 in
      record { text = told.0; is_read = told.1; none_refused = told.2; faulted = is_done how told.3.0 (is_some_fault (conversion_faults told.0)) told.3.1; wrote_out = told.4; wrote_report = told.5 }
  wrote_of_text (Some (convert workers input)) (status.Faulted how) is =
      let told = converted seen.files seen.out seen.report input is.0 (status.Faulted how) (ap is_run (sym is.2.0)) is.2.0 is.2.1 record_ghosts (cheapest workers) conversion_law is.1 in
      record { text = told.0; is_read = told.1; none_refused = told.2; faulted = is_faulted how told.3.0 (is_some_fault (conversion_faults told.0)) told.3.1; wrote_out = told.4; wrote_report = told.5 }
  wrote_of_text (Some (index workers input)) status.Usage is = tt
  wrote_of_text (Some (index workers input)) status.JobRefused is = tt
  wrote_of_text (Some (index workers input)) status.ReadFailed is = tt
  wrote_of_text (Some (index workers input)) status.WriteFailed is = tt
  wrote_of_text (Some (index workers input)) status.NoMemory is = tt
  wrote_of_text (Some (index workers input)) status.InputRefused is = tt
  wrote_of_text (Some (convert workers input)) status.Usage is = tt
  wrote_of_text (Some (convert workers input)) status.JobRefused is = tt
  wrote_of_text (Some (convert workers input)) status.ReadFailed is = tt
  wrote_of_text (Some (convert workers input)) status.WriteFailed is = tt
  wrote_of_text (Some (convert workers input)) status.NoMemory is = tt
  wrote_of_text (Some (convert workers input)) status.InputRefused is = tt
