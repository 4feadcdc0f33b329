-- The run of the generated job over its input.
use Rattle.std.proofs.Common.{◌≡◌, ℕ, ◌≤◌, Bool, true, false, List, [], ◌∷◌, Option, Some, None, Result, Ok, refl, ap, ◌∙◌, subst, sym}
use Rattle.std.specs.Prelude.{IfSome, if◌then◌else◌}
use Rattle.bulk_workload.specs.Bulk.{bulk_fuel, bulk_input, bulk_job}
use Rattle.bulk_workload.specs.NeverRefused.{IsNeverRefused}
use Rattle.bulk_workload.specs.declared.texts.TheConstants.{BULK_MOST}
use Rattle.job_body.specs.PlanOfJob.{plan_of_job, refusal_of_plan}
use Rattle.job_body.specs.Standing.{Standing}
use Rattle.job_reader.specs.FirstFault.{job_of}
use Rattle.job_reader.specs.declared.fault.JobFault.{JobFault}
use Rattle.job_reader.specs.declared.line.Line.{Line}
use Rattle.privilege_check.specs.FirstFault.{first_fault}
use Rattle.swan_model.specs.Texts.{has_fault}
use Rattle.swan_model.specs.declared.plan.Plan.{Plan}
use Rattle.swan_top.specs.Command.{Command, IsWithinLimits, help, version, check, elide, run, index, convert, bulk}
use Rattle.swan_top.specs.Completeness.{GeneratedInOrder, RunsInOrder}
use Rattle.swan_top.specs.Decision.{Verdict, Decision, settled, accepted, accepted_lines, generated, decision_of_job, ran, unless_fault, unless_refused}
use Rattle.swan_top.specs.Elisions.{Elisions, cheapest}
use Rattle.swan_top.specs.Generated.{NeverRefused}
use Rattle.swan_top.specs.Headline.{Answers, CallSeen, Ends, FilesSeen, Follows, NoReadFailed, NoneTooLong, Settles, status_of_verdict}
use Rattle.swan_top.specs.Settled.{IsRefused, Stops}
use Rattle.swan_top.specs.declared.status.Status.{Status}
use Rattle.swan_top.specs.declared.how.How.{How}
use Rattle.swan_top.specs.declared.run_end.RunEnd.{RunEnd}
use Rattle.swan_top.specs.declared.status.Status.TheVariants as status
use Rattle.swan_top.specs.declared.verdict.WhyStopped.{WhyStopped}
use Rattle.swan_top.proofs.Pipelines.{is_run}
use Rattle.swan_top.proofs.TextsRead.{Stops-map}

module _ (end_of : Plan (List Line) Standing → RunEnd) where
  -- a verdict that the run of a text over inputs comes to, where both are at hand
  abbrev Comes : (fuel : ℕ) (text : List ℕ) (inputs : List (List ℕ)) → Verdict → Type 0
  Comes fuel text inputs verdict = decision_of_job end_of fuel [] (accepted text) inputs ≡ settled verdict

  refused_comes : (fuel : ℕ) (text : List ℕ) (inputs : List (List ℕ)) (verdict : Verdict) → IsRefused text verdict → Comes fuel text inputs verdict
  refused_comes fuel text inputs verdict refused =
      ap (λ r. decision_of_job end_of fuel [] r inputs) refused.first ∙ ap settled (sym refused.refused)

  ran_comes : (fuel : ℕ) (text : List ℕ) (inputs : List (List ℕ)) (verdict : Verdict) (lines : List Line) → accepted text ≡ Ok lines → verdict ≡ ran end_of lines inputs fuel → Comes fuel text inputs verdict
  ran_comes fuel text inputs verdict lines is ended =
      ap (λ r. decision_of_job end_of fuel [] r inputs) is ∙ ap settled (sym ended)

  module _ (number size : ℕ) where
    abbrev pub Generates : Verdict → Type 0
    Generates verdict = generated end_of number size ≡ settled verdict

    pub refused_bulk : (text : List ℕ) → text ≡ bulk_job size → (why : WhyStopped) → Stops (IsRefused text) why → Stops Generates why
    unfolding generated
    refused_bulk text same = Stops-map (Unit {0}) (Unit {0}) (IsRefused text) Generates (λ _. tt)
        (λ verdict refused. let P : List ℕ → Type 0 = λ t. Comes (bulk_fuel size) t (bulk_input number size ∷ []) verdict in
        subst P same (refused_comes (bulk_fuel size) text (bulk_input number size ∷ []) verdict refused))

    pub ran_bulk : (text : List ℕ) → text ≡ bulk_job size → (inputs : List (List ℕ)) → inputs ≡ bulk_input number size ∷ [] → (fuel : ℕ) → fuel ≡ bulk_fuel size → (lines : List Line) → accepted text ≡ Ok lines → (verdict : Verdict) → verdict ≡ ran end_of lines inputs fuel → Generates verdict
    unfolding generated
    ran_bulk text same inputs those fuel units lines is verdict ended =
        let P : List ℕ → Type 0 = λ t. Comes (bulk_fuel size) t (bulk_input number size ∷ []) verdict in
        let Q : List (List ℕ) → Type 0 = λ i. Comes (bulk_fuel size) text i verdict in
        let R : ℕ → Type 0 = λ f. Comes f text inputs verdict in
        subst P same (subst Q those (subst R units (ran_comes fuel text inputs verdict lines is ended)))

  module _ (files : FilesSeen) where
    in_order : (fuel : ℕ) (text : List ℕ) (inputs : List (List ℕ)) (lines : List Line) (verdict : Verdict) → job_of text ≡ Ok lines → first_fault lines ≡ None → refusal_of_plan lines inputs ≡ None
        → Follows files (decision_of_job end_of fuel [] (accepted text) inputs) verdict → RunsInOrder end_of fuel text inputs verdict
    in_order fuel text inputs lines verdict reads checks plans follows =
        let is : accepted text ≡ Ok lines = ap accepted_lines reads ∙ ap (unless_fault lines) checks in
        let P : Result (List Line) JobFault → Type 0 = λ r. Follows files (decision_of_job end_of fuel [] r inputs) verdict in
        record {
          lines = lines;
          is_accepted = is;
          none_refused = plans;
          prints_outcome = (subst P is follows).0 ∙ ap (unless_refused end_of lines inputs fuel) plans;
        }

    generated_in_order : (number size : ℕ) (verdict : Verdict) → IsNeverRefused number size → Follows files (generated end_of number size) verdict → GeneratedInOrder end_of number size verdict
    unfolding generated GeneratedInOrder
    generated_in_order number size verdict never follows =
        in_order (bulk_fuel size) (bulk_job size) (bulk_input number size ∷ []) never.lines verdict never.is_read never.is_checked never.is_planned follows

-- where no read was refused, that is what the command comes to
pub leads_bulk : (elisions : Elisions) (files : FilesSeen) (number size workers : ℕ) → NoReadFailed files → NoneTooLong files → (verdict : Verdict) → Generates (elisions.of_job (cheapest workers)) number size verdict → Settles elisions files (bulk number size workers) verdict
leads_bulk elisions files number size workers read short verdict is =
    let P : Decision → Type 0 = λ n. Follows files n verdict in
    record { texts = []; are_read = tt; follows = subst P (sym is) (refl, read, short) }

-- what is printed in order ends as a run
status_runs : (how : How) (b : Bool) → is_run (if b then status.Faulted how else status.Done how) ≡ true
status_runs how true = refl
status_runs how false = refl

order_runs : (end_of : Plan (List Line) Standing → RunEnd) (number size : ℕ) (verdict : Verdict) (ends : Status) → GeneratedInOrder end_of number size verdict → ends ≡ status_of_verdict verdict → is_run ends ≡ true
unfolding GeneratedInOrder
order_runs end_of number size verdict ends order same =
    let end = end_of (plan_of_job order.lines (bulk_input number size ∷ []) (bulk_fuel size)) in
    ap is_run same ∙ ap (λ v. is_run (status_of_verdict v)) order.prints_outcome ∙ status_runs end.how (has_fault end.outcome)

module _ (law : (number size : ℕ) → size ≤ BULK_MOST → IsNeverRefused number size) (elisions : Elisions) (seen : CallSeen) where
  bulk_ends : (number size workers : ℕ) (ends : Status) → size ≤ BULK_MOST → (verdict : Verdict) × Settles elisions seen.files (bulk number size workers) verdict × Ends seen.out seen.report verdict ends
      → (verdict : Verdict) × GeneratedInOrder (elisions.of_job (cheapest workers)) number size verdict × Ends seen.out seen.report verdict ends
  bulk_ends number size workers ends most is =
      (is.0, generated_in_order (elisions.of_job (cheapest workers)) seen.files number size is.0 (law number size most) is.1.follows, is.2)

  bulk_runs : (number size workers : ℕ) (ends : Status) → size ≤ BULK_MOST → (verdict : Verdict) → Settles elisions seen.files (bulk number size workers) verdict → ends ≡ status_of_verdict verdict → is_run ends ≡ true
  bulk_runs number size workers ends most verdict settles same =
      order_runs (elisions.of_job (cheapest workers)) number size verdict ends (generated_in_order (elisions.of_job (cheapest workers)) seen.files number size verdict (law number size most) settles.follows) same

  pub never_refused : (asked : Option Command) (ends : Status) → IfSome asked IsWithinLimits → Answers elisions seen asked ends → NeverRefused elisions seen asked ends
  never_refused None ends most is = tt
  never_refused (Some (help)) ends most is = tt
  never_refused (Some (version)) ends most is = tt
  never_refused (Some (check job)) ends most is = tt
  never_refused (Some (elide fuel job inputs)) ends most is = tt
  never_refused (Some (run workers fuel job inputs)) ends most is = tt
  never_refused (Some (index workers input)) ends most is = tt
  never_refused (Some (convert workers input)) ends most is = tt
  never_refused (Some (bulk number size workers)) status.NoMemory most is = tt
  never_refused (Some (bulk number size workers)) (status.Done how) most is = bulk_ends number size workers (status.Done how) most is
  never_refused (Some (bulk number size workers)) (status.Faulted how) most is = bulk_ends number size workers (status.Faulted how) most is
  never_refused (Some (bulk number size workers)) status.Usage most is = let runs = bulk_runs number size workers status.Usage most is.0 is.1 is.2.0 in absurd (cc)
  never_refused (Some (bulk number size workers)) status.JobRefused most is = let runs = bulk_runs number size workers status.JobRefused most is.0 is.1 is.2.0 in absurd (cc)
  never_refused (Some (bulk number size workers)) status.ReadFailed most is = let runs = bulk_runs number size workers status.ReadFailed most is.0 is.1 is.2.0 in absurd (cc)
  never_refused (Some (bulk number size workers)) status.WriteFailed most is = bulk_ends number size workers status.WriteFailed most is
  never_refused (Some (bulk number size workers)) status.InputRefused most is = let runs = bulk_runs number size workers status.InputRefused most is.0 is.1 is.2.0 in absurd (cc)
