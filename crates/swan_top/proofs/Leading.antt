-- What reading, accepting and running lead to.
use Rattle.std.proofs.Common.{◌≡◌, ℕ, List, [], ◌∷◌, Option, Some, None, Result, Ok, Err, IfErr, inl, inr, sym, ap, subst, ◌∙◌}
use Rattle.std.specs.Prelude.{◌⊎◌, IfOk}
use Rattle.job_body.specs.Standing.{Standing}
use Rattle.job_reader.specs.declared.line.Line.{Line}
use Rattle.line_blocks.specs.TextRoots.{text_names}
use Rattle.swan_model.specs.Lines.{refusal_of}
use Rattle.swan_model.specs.declared.lines.LinesAnswer.{LinesAnswer}
use Rattle.swan_model.specs.declared.lines.LinesAnswer.TheVariants as answer
use Rattle.swan_model.specs.declared.outcome.Names.{Names}
use Rattle.swan_model.specs.declared.plan.Plan.{Plan}
use Rattle.swan_top.specs.Decision.{Verdict, accepted, checked, printed, unread, unless_unfit, unless_unread, decision_of_check, decision_of_job, decision_of_run, decision_of_text, ran}
use Rattle.swan_top.specs.Headline.{WereRead, WasRead, FilesSeen, Follows, Leads, NoReadFailed, NoneTooLong, ReadRefused, files_seen}
use Rattle.swan_top.specs.Settled.{RanOrRefused, Stops, StopsOver, IsRefused, InputUnread}
use Rattle.swan_top.specs.declared.run_end.RunEnd.{RunEnd}
use Rattle.swan_top.specs.declared.verdict.WhyStopped.{WhyStopped}
use Rattle.swan_top.proofs.TextsRead.{Stops-map, ReadRefused-since, Unrefused, unrefused_since}

-- texts of told contents, told at another moment
pub AreRead-as : (content mid : List ℕ → Option (List ℕ)) → ((other : List ℕ) → mid other ≡ content other) → (files texts : List (List ℕ)) → WereRead mid files texts → WereRead content files texts
AreRead-as content mid same files [] read = tt
AreRead-as content mid same [] (text ∷ texts) read = read
AreRead-as content mid same (file ∷ files) (text ∷ texts) read =
    let P : Option (List ℕ) → Type 0 = λ o. WasRead o text in
    (subst P (same file) read.0, AreRead-as content mid same files texts read.1)

module _ (files : FilesSeen) (job text : List ℕ) (told : WasRead (files.content job) text) where
  -- a job that is refused when it is checked
  pub refused_check : NoReadFailed files → NoneTooLong files → (why : WhyStopped) → Stops (IsRefused text) why → StopsOver files (Leads files (job ∷ []) (decision_of_check job)) why
  refused_check read short = Stops-map (Unit {0}) (Unrefused files) (IsRefused text) (Leads files (job ∷ []) (decision_of_check job)) (λ _. (read, short))
      (λ verdict refused. record { texts = text ∷ []; are_read = (told, tt); follows = (refused.refused ∙ sym (ap checked refused.first), read, short) })

  -- and one that is accepted
  pub accepted_check : NoReadFailed files → NoneTooLong files → (lines : List Line) → accepted text ≡ Ok lines → (verdict : Verdict) → verdict ≡ checked (Ok lines) → Leads files (job ∷ []) (decision_of_check job) verdict
  accepted_check read short lines is verdict done = record { texts = text ∷ []; are_read = (told, tt); follows = (done ∙ sym (ap checked is), read, short) }

  module _ (end_of : Plan (List Line) Standing → RunEnd) (fuel : ℕ) (names : List (List ℕ)) where
    abbrev pub RunLeads : Verdict → Type 0
    RunLeads = Leads files (job ∷ names) (decision_of_run end_of fuel job names)

    -- a job that is refused when it is to run
    pub refused_run : NoReadFailed files → NoneTooLong files → (why : WhyStopped) → Stops (IsRefused text) why → StopsOver files RunLeads why
    refused_run read short = Stops-map (Unit {0}) (Unrefused files) (IsRefused text) RunLeads (λ _. (read, short))
        (λ verdict refused.
        let P : Result (List Line) _ → Type 0 = λ r. Follows files (decision_of_job end_of fuel names r []) verdict in
        record { texts = text ∷ []; are_read = (told, tt); follows = subst P (sym refused.first) (refused.refused, read, short) })

    module _ (lines : List Line) (is : accepted text ≡ Ok lines) (mid : List ℕ → Option (List ℕ)) (same : (other : List ℕ) → mid other ≡ files.content other) where
      -- an input that couldn't be read
      pub unread_run : (f1 l1 : ℕ) → f1 ≡ files.faults_before → l1 ≡ files.long_before → (why : WhyStopped) → StopsOver (files_seen mid f1 files.faults_after l1 files.long_after) (InputUnread (files_seen mid f1 files.faults_after l1 files.long_after) names) why → StopsOver files RunLeads why
      unread_run f1 l1 faults long = Stops-map (Unrefused (files_seen mid f1 files.faults_after l1 files.long_after)) (Unrefused files) (InputUnread (files_seen mid f1 files.faults_after l1 files.long_after) names) RunLeads
          (unrefused_since files.content mid files.faults_before f1 files.faults_after files.long_before l1 files.long_after faults long same)
          (λ verdict refused.
          let P : Result (List Line) _ → Type 0 = λ r. Follows files (decision_of_job end_of fuel names r refused.texts) verdict in
          let Q : Option (List ℕ) → Type 0 = λ o. Follows files (unless_unread o (ran end_of lines refused.texts fuel)) verdict in
          record {
            texts = text ∷ refused.texts;
            are_read = (told, AreRead-as files.content mid same names refused.texts refused.are_read);
            follows = subst P (sym is) (subst Q (sym refused.is_next)
                (ReadRefused-since files.content mid files.faults_before f1 files.faults_after files.long_before l1 files.long_after faults long same refused.file verdict refused.refused));
          })

      -- a run over inputs that were all read
      pub ran_run : NoReadFailed files → NoneTooLong files → (texts : List (List ℕ)) → WereRead mid names texts → unread names texts ≡ None → (verdict : Verdict) → verdict ≡ ran end_of lines texts fuel → RunLeads verdict
      ran_run well short texts read all verdict ended =
          let P : Result (List Line) _ → Type 0 = λ r. Follows files (decision_of_job end_of fuel names r texts) verdict in
          let Q : Option (List ℕ) → Type 0 = λ o. Follows files (unless_unread o (ran end_of lines texts fuel)) verdict in
          record {
            texts = text ∷ texts;
            are_read = (told, AreRead-as files.content mid same names texts read);
            follows = subst P (sym is) (subst Q (sym all) (ended, well, short));
          }

-- the job itself couldn't be read
module _ (files : FilesSeen) (job : List ℕ) where
  pub unread_check : (why : WhyStopped) → StopsOver files (ReadRefused files job) why → StopsOver files (Leads files (job ∷ []) (decision_of_check job)) why
  unread_check = Stops-map (Unrefused files) (Unrefused files) (ReadRefused files job) (Leads files (job ∷ []) (decision_of_check job)) (λ kept. kept)
      (λ verdict refused. record { texts = []; are_read = tt; follows = refused })

  pub unread_job : (end_of : Plan (List Line) Standing → RunEnd) (fuel : ℕ) (names : List (List ℕ)) (why : WhyStopped) → StopsOver files (ReadRefused files job) why → StopsOver files (Leads files (job ∷ names) (decision_of_run end_of fuel job names)) why
  unread_job end_of fuel names = Stops-map (Unrefused files) (Unrefused files) (ReadRefused files job) (Leads files (job ∷ names) (decision_of_run end_of fuel job names)) (λ kept. kept)
      (λ verdict refused. record { texts = []; are_read = tt; follows = refused })

-- the plan of a text, run or refused
module _ {B L : Type 0} (end_of : Plan B L → RunEnd) (plan_of : List ℕ → Plan B L) (text : List ℕ) where
  abbrev pub settled_text : Verdict
  settled_text = unless_unfit (refusal_of text) (printed text_names (end_of (plan_of text)))

  ran_is : (made : Result (Plan B L) LinesAnswer) (verdict : Verdict) → IfOk made (λ plan. plan ≡ plan_of text) → IfOk made (λ plan. refusal_of text ≡ None)
      → IfErr made (λ why. (why ≡ answer.NoMemory) ⊎ (refusal_of text ≡ Some why)) → RanOrRefused end_of text_names made verdict → verdict ≡ settled_text
  ran_is (Ok plan) verdict is accepted refused ran =
      ran ∙ ap (λ p. printed text_names (end_of p)) is ∙ ap (λ why. unless_unfit why (printed text_names (end_of (plan_of text)))) (sym accepted)
  ran_is (Err why) verdict is accepted (inl memory) ran = absurd (ran.0 memory)
  ran_is (Err why) verdict is accepted (inr refused) ran =
      ran.1 ∙ ap (λ w. unless_unfit w (printed text_names (end_of (plan_of text)))) (sym refused)

  module _ (seen : List ℕ) (same : seen ≡ text) (files : FilesSeen) (input : List ℕ) (told : WasRead (files.content input) text) (read : NoReadFailed files) (short : NoneTooLong files) where
    pub ran_text : (made : Result (Plan B L) LinesAnswer) (names : Names) → names ≡ text_names → IfOk made (λ plan. plan ≡ plan_of seen) → IfOk made (λ plan. refusal_of seen ≡ None)
        → IfErr made (λ why. (why ≡ answer.NoMemory) ⊎ (refusal_of seen ≡ Some why)) → (verdict : Verdict) → RanOrRefused end_of names made verdict
        → Leads files (input ∷ []) (decision_of_text (λ t. end_of (plan_of t)) input) verdict
    ran_text made names named is accepted refused verdict ran =
        let P : Names → Type 0 = λ ns. RanOrRefused end_of ns made verdict in
        let A : List ℕ → Type 0 = λ t. IfOk made (λ plan. plan ≡ plan_of t) in
        let B : List ℕ → Type 0 = λ t. IfOk made (λ plan. refusal_of t ≡ None) in
        let C : List ℕ → Type 0 = λ t. IfErr made (λ why. (why ≡ answer.NoMemory) ⊎ (refusal_of t ≡ Some why)) in
        record {
          texts = text ∷ [];
          are_read = (told, tt);
          follows = (ran_is made verdict (subst A same is) (subst B same accepted) (subst C same refused) (subst P named ran), read, short);
        }
