-- What is in order is settled so, and without a count that rises nothing stands in its way.
use Rattle.std.proofs.Common.{◌≡◌, ℕ, ◌<◌, List, [], ◌∷◌, length, Option, Some, None, Result, Ok, Err, Bool, true, false, suc, refl, sym, ap, subst, arith, ◌∙◌, inl, inr}
use Rattle.std.specs.List.{Contains}
use Rattle.std.specs.Prelude.{◌⊎◌, if◌then◌else◌}
use Rattle.bulk_workload.specs.Bulk.{bulk_fuel, bulk_input, bulk_job}
use Rattle.job_body.specs.PlanOfJob.{plan_of_job, refusal_of_plan}
use Rattle.job_body.specs.Standing.{Standing}
use Rattle.job_body.specs.declared.answer.PlanAnswer.{PlanAnswer}
use Rattle.job_reader.specs.declared.fault.JobFault.{JobFault}
use Rattle.job_reader.specs.declared.line.Line.{Line}
use Rattle.line_blocks.specs.TextRoots.{text_names}
use Rattle.swan_model.specs.Lines.{refusal_of}
use Rattle.swan_model.specs.Texts.{has_fault}
use Rattle.swan_model.specs.declared.lines.LinesAnswer.{LinesAnswer}
use Rattle.swan_model.specs.declared.plan.Plan.{Plan}
use Rattle.swan_outside.specs.Counts.{Rose}
use Rattle.swan_outside.specs.Reads.{IsTooLong}
use Rattle.swan_outside.specs.Told.{Tells}
use Rattle.swan_outside.specs.declared.files.TheConstants.{FILE_MOST}
use Rattle.swan_top.specs.Command.{Command, help, version, check, elide, run, index, convert, bulk}
use Rattle.swan_top.specs.Completeness.{IsTold, AreTold, NothingFailed, RunsInOrder, ChecksInOrder, TextInOrder, InOrder, GeneratedInOrder, Completes, CompletesWell, EndsWell}
use Rattle.swan_top.specs.Decision.{Verdict, prints, refuses, Decision, reads, settled, decision, files_of, unread, unless_unread, accepted, checked, generated, ran, printed, unless_refused, unless_unfit, decision_of_check, decision_of_job, decision_of_run, decision_of_text}
use Rattle.swan_top.specs.Elisions.{Elisions, cheapest, conversion_end, index_end}
use Rattle.swan_top.specs.Headline.{CallSeen, FilesSeen, SinkSeen, Answers, WereRead, WasRead, Ends, FailedToWrite, Follows, ReadRefused, Settles, Wrote, status_of_verdict, usage}
use Rattle.swan_top.specs.declared.status.Status.{Status}
use Rattle.swan_top.specs.declared.how.How.{How}
use Rattle.swan_top.specs.declared.run_end.RunEnd.{RunEnd}
use Rattle.swan_top.specs.declared.status.Status.TheVariants as status
use Rattle.swan_top.specs.declared.way.Way.TheVariants as way

-- a text that was read of a file that tells its text is that one
told_text : (content : Option (List ℕ)) (text read : List ℕ) → IsTold content text → WasRead content read → read ≡ text
told_text content text read told is = let P : Option (List ℕ) → Type 0 = λ o. Tells o read in subst P told.told is.told

module _ (content : List ℕ → Option (List ℕ)) where
  -- texts that were read of files that tell theirs are these, or one file is still unread
  front_told : (names texts read : List (List ℕ)) → AreTold content names texts → WereRead content names read → (read ≡ texts) ⊎ ((file : List ℕ) × (unread names read ≡ Some file))
  front_told [] [] [] told is = inl refl
  front_told [] [] (x ∷ xs) told is = absurd is
  front_told [] (t ∷ ts) read told is = absurd told
  front_told (name ∷ names) [] read told is = absurd told
  front_told (name ∷ names) (t ∷ ts) [] told is = inr (name, refl)
  front_told (name ∷ names) (t ∷ ts) (x ∷ xs) told is =
      let same : x ≡ t = told_text (content name) t x told.0 is.0 in
      elim (front_told names ts xs told.1 is.1) [ inl e ↦ inl (cc) | inr u ↦ inr u ]

  -- none is unread then
  told_all : (names texts : List (List ℕ)) → AreTold content names texts → unread names texts ≡ None
  told_all [] [] told = refl
  told_all [] (t ∷ ts) told = absurd told
  told_all (name ∷ names) [] told = absurd told
  told_all (name ∷ names) (t ∷ ts) told = told_all names ts told.1

  -- an unread file tells its text
  unread_told : (names texts read : List (List ℕ)) (file : List ℕ) → AreTold content names texts → unread names read ≡ Some file → (text : List ℕ) × IsTold (content file) text
  unread_told [] texts read file told is = cc
  unread_told (name ∷ names) [] read file told is = absurd told
  unread_told (name ∷ names) (t ∷ ts) [] file told is =
      let same : name ≡ file = cc in
      let P : List ℕ → Type 0 = λ f. IsTold (content f) t in
      (t, subst P same told.0)
  unread_told (name ∷ names) (t ∷ ts) (x ∷ xs) file told is = unread_told names ts xs file told.1 is

-- the read of a file that tells its text isn't refused where no count of faults rose
not_refused : (files : FilesSeen) (file text : List ℕ) (verdict : Verdict) → IsTold (files.content file) text → ¬ Rose files.faults_before files.faults_after → ReadRefused files file verdict → ⊥
not_refused files file text verdict told well (inl failed) = well failed.1
not_refused files file text verdict told well (inr longer) =
    let P : Option (List ℕ) → Type 0 = λ o. IsTooLong o in
    let long : FILE_MOST < length text = subst P told.told longer.3 in
    let most = told.most in
    omega arith

module _ (files : FilesSeen) (well : ¬ Rose files.faults_before files.faults_after) (verdict verdict' : Verdict) where
  check_settles : (job text : List ℕ) (read : List (List ℕ)) → IsTold (files.content job) text → ChecksInOrder text verdict → WereRead files.content (job ∷ []) read → Follows files (decision_of_check job read) verdict' → verdict' ≡ verdict
  check_settles job text [] told order is follows = absurd (not_refused files job text verdict' told well follows)
  check_settles job text (x ∷ xs) told order is follows =
      let same : x ≡ text = told_text (files.content job) text x told is.0 in
      follows.0 ∙ ap (λ t. checked (accepted t)) same ∙ ap checked order.is_accepted ∙ sym order.prints_text

  text_settles : (end_over : List ℕ → RunEnd) (input text : List ℕ) (read : List (List ℕ)) → IsTold (files.content input) text → TextInOrder end_over text verdict → WereRead files.content (input ∷ []) read → Follows files (decision_of_text end_over input read) verdict' → verdict' ≡ verdict
  text_settles end_over input text [] told order is follows = absurd (not_refused files input text verdict' told well follows)
  text_settles end_over input text (x ∷ xs) told order is follows =
      let same : x ≡ text = told_text (files.content input) text x told is.0 in
      follows.0 ∙ ap (λ t. unless_unfit (refusal_of t) (printed text_names (end_over t))) same
      ∙ ap (λ why. unless_unfit why (printed text_names (end_over text))) order.none_refused ∙ sym order.prints_outcome

  module _ (end_of : Plan (List Line) Standing → RunEnd) where
    -- a job and inputs that are at hand
    at_hand : (fuel : ℕ) (text : List ℕ) (inputs : List (List ℕ)) → RunsInOrder end_of fuel text inputs verdict → Follows files (decision_of_job end_of fuel [] (accepted text) inputs) verdict' → verdict' ≡ verdict
    at_hand fuel text inputs order follows =
        let P : Result (List Line) JobFault → Type 0 = λ r. Follows files (decision_of_job end_of fuel [] r inputs) verdict' in
        let comes = subst P order.is_accepted follows in
        comes.0 ∙ ap (λ why. unless_refused end_of order.lines inputs fuel why) order.none_refused ∙ sym order.prints_outcome

    generated_settles : (number size : ℕ) → GeneratedInOrder end_of number size verdict → Follows files (generated end_of number size) verdict' → verdict' ≡ verdict
    unfolding generated GeneratedInOrder
    generated_settles number size = at_hand (bulk_fuel size) (bulk_job size) (bulk_input number size ∷ [])

    run_settles : (fuel : ℕ) (job text : List ℕ) (names inputs read : List (List ℕ)) → IsTold (files.content job) text → AreTold files.content names inputs → RunsInOrder end_of fuel text inputs verdict → WereRead files.content (job ∷ names) read → Follows files (decision_of_run end_of fuel job names read) verdict' → verdict' ≡ verdict
    run_settles fuel job text names inputs [] told all order is follows = absurd (not_refused files job text verdict' told well follows)
    run_settles fuel job text names inputs (x ∷ xs) told all order is follows =
        let same : accepted x ≡ Ok order.lines = ap (λ t. accepted t) (told_text (files.content job) text x told is.0) ∙ order.is_accepted in
        let P : Result (List Line) JobFault → Type 0 = λ r. Follows files (decision_of_job end_of fuel names r xs) verdict' in
        let Q : List (List ℕ) → Option (List ℕ) → Type 0 = λ inputs' file. Follows files (unless_unread file (ran end_of order.lines inputs' fuel)) verdict' in
        let comes : Q xs (unread names xs) = subst P same follows in
        elim (front_told files.content names inputs xs all is.1) [
          | inl e ↦ (
              let R : List (List ℕ) → Type 0 = λ inputs'. Q inputs' (unread names inputs') in
              let S : Option (List ℕ) → Type 0 = λ file. Q inputs file in
              let ends : Q inputs None = subst S (told_all files.content names inputs all) (subst R e comes) in
              ends.0 ∙ ap (λ why. unless_refused end_of order.lines inputs fuel why) order.none_refused ∙ sym order.prints_outcome)
          | inr u ↦ (
              let S : Option (List ℕ) → Type 0 = λ file. Q xs file in
              let refused : ReadRefused files u.0 verdict' = subst S u.1 comes in
              let t = unread_told files.content names inputs xs u.0 all u.1 in
              absurd (not_refused files u.0 t.0 verdict' t.1 well refused))
        ]

  module _ (elisions : Elisions) where
    leads_in_order : (command : Command) (texts : List (List ℕ)) → AreTold files.content (files_of command) texts → InOrder elisions command texts verdict → Settles elisions files command verdict' → verdict' ≡ verdict
    leads_in_order (help) texts told order leads = leads.follows.0 ∙ sym order
    leads_in_order (version) texts told order leads = leads.follows.0 ∙ sym order
    leads_in_order (check job) [] told order leads = absurd order
    leads_in_order (check job) (text ∷ texts) told order leads = check_settles job text leads.texts told.0 order leads.are_read leads.follows
    leads_in_order (elide fuel job names) [] told order leads = absurd order
    leads_in_order (elide fuel job names) (text ∷ inputs) told order leads =
        run_settles (elisions.of_job way.Elide) fuel job text names inputs leads.texts told.0 told.1 order leads.are_read leads.follows
    leads_in_order (run workers fuel job names) [] told order leads = absurd order
    leads_in_order (run workers fuel job names) (text ∷ inputs) told order leads =
        run_settles (elisions.of_job (way.Run workers)) fuel job text names inputs leads.texts told.0 told.1 order leads.are_read leads.follows
    leads_in_order (index workers input) [] told order leads = absurd order
    leads_in_order (index workers input) (text ∷ texts) told order leads =
        text_settles (index_end elisions workers) input text leads.texts told.0 order leads.are_read leads.follows
    leads_in_order (convert workers input) [] told order leads = absurd order
    leads_in_order (convert workers input) (text ∷ texts) told order leads =
        text_settles (conversion_end elisions workers) input text leads.texts told.0 order leads.are_read leads.follows
    leads_in_order (bulk number size workers) [] told order leads = generated_settles (elisions.of_job (cheapest workers)) number size order leads.follows
    leads_in_order (bulk number size workers) (text ∷ texts) told order leads = absurd order

-- where no count of a sink rose, no write failed
no_failed_write : (out report : SinkSeen) (verdict : Verdict) → ¬ Rose out.faults_before out.faults_after → ¬ Rose report.faults_before report.faults_after → FailedToWrite out report verdict → ⊥
no_failed_write out report (prints a b ends) out_well report_well (inl failed) = out_well failed.0.0
no_failed_write out report (prints a b ends) out_well report_well (inr failed) = report_well failed.1.0
no_failed_write out report (refuses line ends) out_well report_well failed = report_well failed.1.0

module _ (elisions : Elisions) (seen : CallSeen) where
  written : (command : Command) (verdict : Verdict) (ends : Status) → Settles elisions seen.files command verdict → (ends ≡ status_of_verdict verdict) × Wrote seen.out seen.report verdict → Completes elisions seen (Some command) ends
  written command verdict ends settles is =
      λ texts verdict' told order well.
      let P : Verdict → Type 0 = λ v. (ends ≡ status_of_verdict v) × Wrote seen.out seen.report v in
      let same : verdict ≡ verdict' = leads_in_order seen.files well.files_well verdict' verdict elisions command texts told order settles in
      inr (subst P same is)

  pub completes : (asked : Option Command) (ends : Status) → Answers elisions seen asked ends → Completes elisions seen asked ends
  completes None ends is = tt
  completes (Some command) status.NoMemory is = λ texts verdict told order well. inl refl
  completes (Some command) status.WriteFailed is =
      λ texts verdict told order well. absurd (no_failed_write seen.out seen.report is.0 well.out_well well.report_well is.2)
  completes (Some command) (status.Done how) is = written command is.0 (status.Done how) is.1 is.2
  completes (Some command) (status.Faulted how) is = written command is.0 (status.Faulted how) is.1 is.2
  completes (Some command) status.Usage is = written command is.0 status.Usage is.1 is.2
  completes (Some command) status.JobRefused is = written command is.0 status.JobRefused is.1 is.2
  completes (Some command) status.ReadFailed is = written command is.0 status.ReadFailed is.1 is.2
  completes (Some command) status.InputRefused is = written command is.0 status.InputRefused is.1 is.2

-- No decision settles that a read failed: that comes of reads alone.
checked_ends : (r : Result (List Line) JobFault) → status_of_verdict (checked r) ≡ status.ReadFailed → ⊥
checked_ends (Ok lines) is = cc
checked_ends (Err fault) is = cc

status_ends : (how : How) (b : Bool) → (if b then status.Faulted how else status.Done how) ≡ status.ReadFailed → ⊥
status_ends how true is = cc
status_ends how false is = cc

module _ (end_of : Plan (List Line) Standing → RunEnd) where
  ran_ends : (lines : List Line) (inputs : List (List ℕ)) (fuel : ℕ) (why : Option PlanAnswer) → status_of_verdict (unless_refused end_of lines inputs fuel why) ≡ status.ReadFailed → ⊥
  ran_ends lines inputs fuel None is =
      let end = end_of (plan_of_job lines inputs fuel) in
      status_ends end.how (has_fault end.outcome) is
  ran_ends lines inputs fuel (Some why) is = cc

  unless_unread_ends : (file : Option (List ℕ)) (verdict v : Verdict) → (status_of_verdict verdict ≡ status.ReadFailed → ⊥) → unless_unread file verdict ≡ settled v → status_of_verdict v ≡ status.ReadFailed → ⊥
  unless_unread_ends None verdict v never is ends = let same : verdict ≡ v = cc in never (ap status_of_verdict same ∙ ends)
  unless_unread_ends (Some file) verdict v never is ends = cc

  job_ends : (fuel : ℕ) (names : List (List ℕ)) (job : Result (List Line) JobFault) (inputs : List (List ℕ)) (v : Verdict) → decision_of_job end_of fuel names job inputs ≡ settled v → status_of_verdict v ≡ status.ReadFailed → ⊥
  job_ends fuel names (Ok lines) inputs v is ends =
      unless_unread_ends (unread names inputs) (ran end_of lines inputs fuel) v (ran_ends lines inputs fuel (refusal_of_plan lines inputs)) is ends
  job_ends fuel names (Err fault) inputs v is ends = cc

  run_ends : (fuel : ℕ) (job : List ℕ) (names texts : List (List ℕ)) (v : Verdict) → decision_of_run end_of fuel job names texts ≡ settled v → status_of_verdict v ≡ status.ReadFailed → ⊥
  run_ends fuel job names [] v is ends = cc
  run_ends fuel job names (text ∷ inputs) v is ends = job_ends fuel names (accepted text) inputs v is ends

  generated_ends : (number size : ℕ) (v : Verdict) → generated end_of number size ≡ settled v → status_of_verdict v ≡ status.ReadFailed → ⊥
  unfolding generated
  generated_ends number size = job_ends (bulk_fuel size) [] (accepted (bulk_job size)) (bulk_input number size ∷ [])

unfit_ends : (why : Option LinesAnswer) (end : RunEnd) → status_of_verdict (unless_unfit why (printed text_names end)) ≡ status.ReadFailed → ⊥
unfit_ends None end is = status_ends end.how (has_fault end.outcome) is
unfit_ends (Some why) end is = cc

text_ends : (end_over : List ℕ → RunEnd) (input : List ℕ) (texts : List (List ℕ)) (v : Verdict) → decision_of_text end_over input texts ≡ settled v → status_of_verdict v ≡ status.ReadFailed → ⊥
text_ends end_over input [] v is ends = cc
text_ends end_over input (text ∷ texts) v is ends =
    let same : unless_unfit (refusal_of text) (printed text_names (end_over text)) ≡ v = cc in
    unfit_ends (refusal_of text) (end_over text) (ap status_of_verdict same ∙ ends)

-- What is read next is a file of the command.
the_file : (file name : List ℕ) (names : List (List ℕ)) → reads name ≡ reads file → Contains (name ∷ names) file
the_file file name names is = (0, omega arith, cc)

unread_among : (names texts : List (List ℕ)) (file : List ℕ) → unread names texts ≡ Some file → Contains names file
unread_among [] texts file is = cc
unread_among (name ∷ names) [] file is = (0, omega arith, cc)
unread_among (name ∷ names) (text ∷ texts) file is =
    let rest : Contains names file = unread_among names texts file is in (suc rest.0, omega arith, rest.2)

module _ (end_of : Plan (List Line) Standing → RunEnd) where
  unless_unread_among : (names texts : List (List ℕ)) (verdict : Verdict) (file : List ℕ) (next : Option (List ℕ)) → unread names texts ≡ next → unless_unread next verdict ≡ reads file → Contains names file
  unless_unread_among names texts verdict file None same is = cc
  unless_unread_among names texts verdict file (Some name) same is = unread_among names texts file (cc)

  job_among : (fuel : ℕ) (names : List (List ℕ)) (accepted : Result (List Line) JobFault) (inputs : List (List ℕ)) (file : List ℕ) → decision_of_job end_of fuel names accepted inputs ≡ reads file → Contains names file
  job_among fuel names (Ok lines) inputs file is = unless_unread_among names inputs (ran end_of lines inputs fuel) file (unread names inputs) refl is
  job_among fuel names (Err fault) inputs file is = cc

  run_among : (fuel : ℕ) (job : List ℕ) (names texts : List (List ℕ)) (file : List ℕ) → decision_of_run end_of fuel job names texts ≡ reads file → Contains (job ∷ names) file
  run_among fuel job names [] file is = the_file file job names is
  run_among fuel job names (text ∷ inputs) file is =
      let rest : Contains names file = job_among fuel names (accepted text) inputs file is in (suc rest.0, omega arith, rest.2)

  generated_among : (number size : ℕ) (file : List ℕ) → generated end_of number size ≡ reads file → Contains [] file
  unfolding generated
  generated_among number size = job_among (bulk_fuel size) [] (accepted (bulk_job size)) (bulk_input number size ∷ [])

module _ (elisions : Elisions) where
  decision_ends : (command : Command) (texts : List (List ℕ)) (v : Verdict) → decision elisions command texts ≡ settled v → status_of_verdict v ≡ status.ReadFailed → ⊥
  decision_ends (help) texts v is ends = cc
  decision_ends (version) texts v is ends = cc
  decision_ends (check job) [] v is ends = cc
  decision_ends (check job) (text ∷ texts) v is ends =
      let same : checked (accepted text) ≡ v = cc in checked_ends (accepted text) (ap status_of_verdict same ∙ ends)
  decision_ends (elide fuel job names) texts v is ends = run_ends (elisions.of_job way.Elide) fuel job names texts v is ends
  decision_ends (run workers fuel job names) texts v is ends = run_ends (elisions.of_job (way.Run workers)) fuel job names texts v is ends
  decision_ends (index workers input) texts v is ends = text_ends (index_end elisions workers) input texts v is ends
  decision_ends (convert workers input) texts v is ends = text_ends (conversion_end elisions workers) input texts v is ends
  decision_ends (bulk number size workers) texts v is ends = generated_ends (elisions.of_job (cheapest workers)) number size v is ends

  decision_reads : (command : Command) (texts : List (List ℕ)) (file : List ℕ) → decision elisions command texts ≡ reads file → Contains (files_of command) file
  decision_reads (help) texts file is = cc
  decision_reads (version) texts file is = cc
  decision_reads (check job) [] file is = the_file file job [] is
  decision_reads (check job) (text ∷ texts) file is = cc
  decision_reads (elide fuel job names) texts file is = run_among (elisions.of_job way.Elide) fuel job names texts file is
  decision_reads (run workers fuel job names) texts file is = run_among (elisions.of_job (way.Run workers)) fuel job names texts file is
  decision_reads (index workers input) [] file is = the_file file input [] is
  decision_reads (index workers input) (text ∷ texts) file is = cc
  decision_reads (convert workers input) [] file is = the_file file input [] is
  decision_reads (convert workers input) (text ∷ texts) file is = cc
  decision_reads (bulk number size workers) texts file is = generated_among (elisions.of_job (cheapest workers)) number size file is

  module _ (seen : CallSeen) (well : NothingFailed seen) where
    read_refused : (command : Command) (n : Decision) (verdict : Verdict) → ((v : Verdict) → n ≡ settled v → status_of_verdict v ≡ status.ReadFailed → ⊥) → ((file : List ℕ) → n ≡ reads file → Contains (files_of command) file) → Follows seen.files n verdict → status.ReadFailed ≡ status_of_verdict verdict → Wrote seen.out seen.report verdict → EndsWell seen (Some command) status.ReadFailed
    read_refused command (settled v) verdict never among follows ends wrote = absurd (never v refl (sym (ends ∙ ap status_of_verdict follows.0)))
    read_refused command (reads file) verdict never among (inl failed) ends wrote = absurd (well.files_well failed.1)
    read_refused command (reads file) verdict never among (inr longer) ends wrote =
        let P : Verdict → Type 0 = λ v. Wrote seen.out seen.report v in
        let line = subst P longer.0 wrote in
        (file, among file refl, longer.3, line.0, line.1)

    pub ends_well : (asked : Option Command) (ends : Status) → Answers elisions seen asked ends → EndsWell seen asked ends
    ends_well None status.WriteFailed is = absurd (no_failed_write seen.out seen.report usage well.out_well well.report_well is.0)
    ends_well None status.ReadFailed is = let bad : status.ReadFailed ≡ status.Usage = is.0.0 in cc
    ends_well (Some command) status.WriteFailed is = absurd (no_failed_write seen.out seen.report is.0 well.out_well well.report_well is.2)
    ends_well (Some command) status.ReadFailed is =
        read_refused command (decision elisions command is.1.texts) is.0 (decision_ends command is.1.texts) (decision_reads command is.1.texts) is.1.follows is.2.0 is.2.1
    ends_well asked (status.Done how) is = tt
    ends_well asked (status.Faulted how) is = tt
    ends_well asked status.Usage is = tt
    ends_well asked status.JobRefused is = tt
    ends_well asked status.NoMemory is = tt
    ends_well asked status.InputRefused is = tt

    usage_ends : (ends : Status) → Ends seen.out seen.report usage ends → (ends ≡ status.Usage) × Wrote seen.out seen.report usage
    usage_ends status.WriteFailed is = absurd (no_failed_write seen.out seen.report usage well.out_well well.report_well is)
    usage_ends (status.Done how) is = is
    usage_ends (status.Faulted how) is = is
    usage_ends status.Usage is = is
    usage_ends status.JobRefused is = is
    usage_ends status.ReadFailed is = is
    usage_ends status.NoMemory is = is
    usage_ends status.InputRefused is = is

    pub completes_well : (asked : Option Command) (ends : Status) → Answers elisions seen asked ends → CompletesWell elisions seen asked ends
    completes_well None ends is = usage_ends ends is.0
    completes_well (Some command) ends is =
        λ texts verdict told order. completes elisions seen (Some command) ends is texts verdict told order well
