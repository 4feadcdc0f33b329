-- What each task takes, as the check knows it and as its lines say.
use Rattle.std.proofs.Common.{◌≡◌, ℕ, suc, ◌+◌, Bool, true, false, cond, not, Option, Some, None, Result, Ok, Err, List, [], ◌∷◌, ◌++◌, map, flat_map, drop, bytes_eq, slice_get, option_map, codes, if◌then◌else◌, refl, sym, ap, ◌∙◌, append_assoc, arith}
use Rattle.std.proofs.lemmas.Option.{same_Some}
use Rattle.std.proofs.lemmas.List.{append-nil}
use Rattle.swan_model.specs.declared.rights.Mode.{Mode}
use Rattle.swan_model.specs.declared.rights.Mode.TheVariants.{InOut, Push, Pop, PushPop}
use Rattle.swan_model.specs.declared.value.Kind.TheVariants as kind
use Rattle.job_reader.specs.Faults.{◌>>=◌}
use Rattle.job_reader.specs.declared.fault.JobFault.{JobFault}
use Rattle.job_reader.specs.declared.fault.JobKind.{JobKind}
use Rattle.job_reader.specs.declared.fault.JobKind.TheVariants as fault
use Rattle.job_reader.specs.declared.line.Line.{Line}
use Rattle.job_reader.specs.declared.line.Line.TheVariants as line
use Rattle.privilege_check.specs.FirstFault.{check_line, fault_from, fresh, has_main, or_later, outside_main}
use Rattle.privilege_check.specs.Names as checks
use Rattle.privilege_check.specs.Names.{Before, after_declare, after_declare_in, is_main, known, after_open, after_declare_taken, taken_by, with_next}
use Rattle.privilege_check.specs.declared.declaration.Declaration.{Declaration}
use Rattle.privilege_check.specs.declared.declaration.Declaration.TheVariants.{Variable, Held}
use Rattle.job_body.specs.declared.take.Take.{Take}
use Rattle.job_body.specs.declared.take.Take.TheVariants as given
use Rattle.job_body.specs.Tasks.{before_task, takes, task_index}
use Rattle.job_body.proofs.RightsEntries.{access_entry}
use Rattle.job_body.proofs.RightsKnown.{fresh_is}
use Rattle.job_body.proofs.RightsNames.{modes, same_name}
use Rattle.job_body.proofs.RightsPlaces.{before_from, Passes}

-- what the lines of a task take
abbrev pub meaning_of : Line → List Declaration
meaning_of (line.Param name kind) = Variable kind ∷ []
meaning_of (line.Access mode name kind) = Held mode kind ∷ []
meaning_of _ = []

abbrev pub meanings : List Line → List Declaration
meanings lines = flat_map meaning_of lines

-- what the first task of a name takes, if there is one
abbrev pub found : List Line → List ℕ → Option (List Declaration)
found [] name = None
found (line.Task other ∷ lines) name = cond (bytes_eq other name) (Some (meanings (before_task lines))) (found lines name)
found (line ∷ lines) name = found lines name

-- ---- as a step takes it

abbrev pub take_of_meaning : Declaration → Take
take_of_meaning (Variable kind) = given.Param
take_of_meaning (Held mode kind) = given.Access mode

pub takes-meanings : (lines : List Line) → takes lines ≡ map take_of_meaning (meanings lines)
takes-meanings [] = refl
takes-meanings (line.Param name kind ∷ lines) = ap (λ ts. given.Param ∷ ts) (takes-meanings lines)
takes-meanings (line.Access mode name kind ∷ lines) = ap (λ ts. given.Access mode ∷ ts) (takes-meanings lines)
takes-meanings (line ∷ lines) = takes-meanings lines

-- the modes of what is taken
abbrev pub held_mode : Declaration → List Mode
held_mode (Variable kind) = []
held_mode (Held mode kind) = mode ∷ []

abbrev pub held_modes : List Declaration → List Mode
held_modes taken = flat_map held_mode taken

pub modes-meanings : (lines : List Line) → modes (flat_map access_entry lines) ≡ held_modes (meanings lines)
modes-meanings [] = refl
modes-meanings (line.Param name kind ∷ lines) = modes-meanings lines
modes-meanings (line.Access mode name kind ∷ lines) = ap (λ ms. mode ∷ ms) (modes-meanings lines)
modes-meanings (line ∷ lines) = modes-meanings lines

-- ---- where the first task of a name stands

pub record IsTaskAt (lines : List Line) (index : ℕ) (name : List ℕ) (taken : List Declaration) : Type 0 where
  pub at : slice_get lines index ≡ Some (line.Task name)
  pub takes : meanings (before_task (drop (index + 1) lines)) ≡ taken

later-task : (first : Line) (lines : List Line) (n m : ℕ) (name : List ℕ) (taken : List Declaration) → m ≡ suc n → IsTaskAt lines n name taken → IsTaskAt (first ∷ lines) m name taken
later-task first lines n m name taken is at =
    let next : m + 1 ≡ suc (n + 1) = omega (arith, is) in
    record {
      at = ap (slice_get (first ∷ lines)) is ∙ at.at;
      takes = ap (λ k. meanings (before_task (drop k (first ∷ lines)))) next ∙ at.takes;
    }

pub task-found : (lines : List Line) (name : List ℕ) (taken : List Declaration) → found lines name ≡ Some taken → IsTaskAt lines (task_index lines name) name taken
task-found [] name taken is = absurd (cc)
task-found (line.Task other ∷ lines) name taken is = go (bytes_eq other name) refl is _ refl (task-found lines name taken) where
  go : (b : Bool) → b ≡ bytes_eq other name → cond b (Some (meanings (before_task lines))) (found lines name) ≡ Some taken → (k : ℕ) → k ≡ cond (not b) (1 + task_index lines name) 0 → (found lines name ≡ Some taken → IsTaskAt lines (task_index lines name) name taken) → IsTaskAt (line.Task other ∷ lines) k name taken
  go true e here k first later =
      let same : other ≡ name = same_name other name (sym e) in
      let next : k + 1 ≡ suc 0 = omega (arith, first) in
      record {
        at = ap (slice_get (line.Task other ∷ lines)) first ∙ ap (λ n. Some (line.Task n)) same;
        takes = ap (λ j. meanings (before_task (drop j (line.Task other ∷ lines)))) next ∙ same_Some _ _ here;
      }
  go false e here k first later = later-task (line.Task other) lines (task_index lines name) k name taken (omega (arith, first)) (later here)
task-found (line ∷ lines) name taken is = later-task line lines (task_index lines name) _ name taken (omega arith) (task-found lines name taken is)

-- ---- what a line does to what the check knows of tasks

record IsQuiet (before after : Before) : Type 0 where
  pub entered : after.open_task ≡ before.open_task
  pub tasks : after.tasks ≡ before.tasks

declared_in-quiet : (task : Option (List ℕ)) (name : List ℕ) (meaning : Declaration) (before : Before) → IsQuiet before (after_declare_in task name meaning before)
declared_in-quiet None name meaning before = record { entered = refl; tasks = refl }
declared_in-quiet (Some task) name meaning before = record { entered = refl; tasks = refl }

declared-quiet : (name : List ℕ) (meaning : Declaration) (before : Before) → IsQuiet before (after_declare name meaning before)
declared-quiet name meaning before = declared_in-quiet before.open_task name meaning before

taken_by-open : (task : Option (List ℕ)) (meaning : Declaration) (before : Before) → (taken_by task meaning before).open_task ≡ before.open_task
taken_by-open None meaning before = refl
taken_by-open (Some task) meaning before = refl

taken-open : (name : List ℕ) (meaning : Declaration) (before : Before) → (after_declare_taken name meaning before).open_task ≡ before.open_task
taken-open name meaning before =
    taken_by-open (after_declare name meaning before).open_task meaning (after_declare name meaning before) ∙ (declared-quiet name meaning before).entered

taken-tasks : (name : List ℕ) (meaning : Declaration) (before : Before) (task : List ℕ) → before.open_task ≡ Some task → (after_declare_taken name meaning before).tasks ≡ with_next task meaning before.tasks
taken-tasks name meaning before task e =
    let quiet = declared-quiet name meaning before in
    ap (λ t. (taken_by t meaning (after_declare name meaning before)).tasks) (quiet.entered ∙ e)
    ∙ ap (with_next task meaning) quiet.tasks

-- ---- as the check knows it

-- what is said of a task once all these lines are read
abbrev Kept : Before → List Line → List ℕ → List ℕ → List Declaration → Type 0
Kept after lines task name taken = after.tasks name ≡ Some (taken ++ cond (bytes_eq task name) (meanings (before_task lines)) [])

none-more : (b : Bool) (taken : List Declaration) → taken ++ cond b [] [] ≡ taken
none-more true taken = append-nil taken
none-more false taken = append-nil taken

-- what holds of the lines after one, of all states before them
abbrev KeptBy : List Line → Type 0
KeptBy lines = (before : Before) (task name : List ℕ) (taken : List Declaration) → before.open_task ≡ Some task → Passes before lines → before.tasks name ≡ Some taken → Kept (before_from before lines) lines task name taken

kept-quiet : (before after : Before) (lines : List Line) (task name : List ℕ) (taken : List Declaration) → KeptBy lines → IsQuiet before after → before.open_task ≡ Some task → Passes after lines → before.tasks name ≡ Some taken → Kept (before_from after lines) lines task name taken
kept-quiet before after lines task name taken later quiet entered passes is =
    later after task name taken (quiet.entered ∙ entered) passes (ap (λ ts. ts name) quiet.tasks ∙ is)

kept-task : (before : Before) (lines : List Line) (task name other : List ℕ) (taken : List Declaration) → KeptBy lines → fresh (before.tasks other) ≡ Ok tt → Passes (after_open other before) lines → before.tasks name ≡ Some taken → (before_from (after_open other before) lines).tasks name ≡ Some (taken ++ cond (bytes_eq task name) [] [])
kept-task before lines task name other taken later is_fresh passes is =
    let apart : bytes_eq other name ≡ false = go (bytes_eq other name) refl in
    later (after_open other before) other name taken refl passes (ap (λ b. cond b (Some []) (before.tasks name)) apart ∙ is)
    ∙ ap (λ b. Some (taken ++ cond b (meanings (before_task lines)) [])) apart
    ∙ ap Some (append-nil taken ∙ sym (none-more (bytes_eq task name) taken)) where
      go : (b : Bool) → b ≡ bytes_eq other name → b ≡ false
      go false e = refl
      go true e =
          let same : other ≡ name = same_name other name (sym e) in
          let both : before.tasks name ≡ None = ap before.tasks (sym same) ∙ fresh_is (before.tasks other) is_fresh in
          absurd (cc)

kept-taken : (before : Before) (lines : List Line) (task name other : List ℕ) (meaning : Declaration) (taken_so : List Declaration) → KeptBy lines → before.open_task ≡ Some task → Passes (after_declare_taken other meaning before) lines → before.tasks name ≡ Some taken_so → (before_from (after_declare_taken other meaning before) lines).tasks name ≡ Some (taken_so ++ cond (bytes_eq task name) (meaning ∷ meanings (before_task lines)) [])
kept-taken before lines task name other meaning taken_so later entered passes is = go (bytes_eq task name) refl where
  after : Before
  after = after_declare_taken other meaning before

  goes : after.open_task ≡ Some task
  goes = taken-open other meaning before ∙ entered

  all : after.tasks name ≡ cond (bytes_eq task name) (option_map (λ takes. takes ++ meaning ∷ []) (before.tasks task)) (before.tasks name)
  all = ap (λ ts. ts name) (taken-tasks other meaning before task entered)

  go : (b : Bool) → bytes_eq task name ≡ b → (before_from after lines).tasks name ≡ Some (taken_so ++ cond (bytes_eq task name) (meaning ∷ meanings (before_task lines)) [])
  go true e =
      let same : task ≡ name = same_name task name e in
      let here : after.tasks name ≡ Some (taken_so ++ meaning ∷ []) =
      all ∙ ap (λ b. cond b (option_map (λ takes. takes ++ meaning ∷ []) (before.tasks task)) (before.tasks name)) e
      ∙ ap (λ t. option_map (λ takes. takes ++ meaning ∷ []) (before.tasks t)) same
      ∙ ap (option_map (λ takes. takes ++ meaning ∷ [])) is in
      later after task name (taken_so ++ meaning ∷ []) goes passes here
      ∙ ap (λ b. Some ((taken_so ++ meaning ∷ []) ++ cond b (meanings (before_task lines)) [])) e
      ∙ ap Some (append_assoc taken_so (meaning ∷ []) (meanings (before_task lines)))
      ∙ ap (λ b. Some (taken_so ++ cond b (meaning ∷ meanings (before_task lines)) [])) (sym e)
  go false e =
      let here : after.tasks name ≡ Some taken_so =
      all ∙ ap (λ b. cond b (option_map (λ takes. takes ++ meaning ∷ []) (before.tasks task)) (before.tasks name)) e ∙ is in
      later after task name taken_so goes passes here
      ∙ ap (λ b. Some (taken_so ++ cond b (meanings (before_task lines)) [])) e
      ∙ ap (λ b. Some (taken_so ++ cond b (meaning ∷ meanings (before_task lines)) [])) (sym e)

-- what a task takes that the check knows already
pub kept : (lines : List Line) → KeptBy lines
kept [] before task name taken entered passes is = is ∙ ap Some (sym (none-more (bytes_eq task name) taken))
kept (line.Task other ∷ lines) before task name taken entered passes is =
    kept-task before lines task name other taken (kept lines) passes.0 passes.1 is
kept (line.Param other kind ∷ lines) before task name taken entered passes is =
    kept-taken before lines task name other (Variable kind) taken (kept lines) entered passes.1 is
kept (line.Access mode other kind ∷ lines) before task name taken entered passes is =
    kept-taken before lines task name other (Held mode kind) taken (kept lines) entered passes.1 is
kept (line.Input other ∷ lines) before task name taken entered passes is =
    kept-quiet before _ lines task name taken (kept lines) (declared-quiet other (Held Pop kind.Bytes) before) entered passes.1 is
kept (line.Output other k ∷ lines) before task name taken entered passes is =
    kept-quiet before _ lines task name taken (kept lines) (declared-quiet other (Held Push k) before) entered passes.1 is
kept (line.Object other k ∷ lines) before task name taken entered passes is =
    kept-quiet before _ lines task name taken (kept lines) (declared-quiet other (Held InOut k) before) entered passes.1 is
kept (line.Var other k ∷ lines) before task name taken entered passes is =
    kept-quiet before _ lines task name taken (kept lines) (declared-quiet other (Variable k) before) entered passes.1 is
kept (line.Queue other k ∷ lines) before task name taken entered passes is =
    kept-quiet before _ lines task name taken (kept lines) (declared-quiet other (Held PushPop k) before) entered passes.1 is
kept (line ∷ lines) before task name taken entered passes is = kept lines before task name taken entered passes.1 is

taken_by-none : (task : Option (List ℕ)) (meaning : Declaration) (before : Before) (name : List ℕ) → before.tasks name ≡ None → (taken_by task meaning before).tasks name ≡ None
taken_by-none None meaning before name is = is
taken_by-none (Some task) meaning before name is = go (bytes_eq task name) refl where
  go : (b : Bool) → b ≡ bytes_eq task name → cond b (option_map (λ takes. takes ++ meaning ∷ []) (before.tasks task)) (before.tasks name) ≡ None
  go false e = is
  go true e =
      let same : task ≡ name = same_name task name (sym e) in
      ap (λ t. option_map (λ takes. takes ++ meaning ∷ []) (before.tasks t)) same ∙ ap (option_map (λ takes. takes ++ meaning ∷ [])) is

taken-none : (other : List ℕ) (meaning : Declaration) (before : Before) (name : List ℕ) → before.tasks name ≡ None → (after_declare_taken other meaning before).tasks name ≡ None
taken-none other meaning before name is =
    let quiet = declared-quiet other meaning before in
    taken_by-none (after_declare other meaning before).open_task meaning (after_declare other meaning before) name (ap (λ ts. ts name) quiet.tasks ∙ is)

declared-none : (other : List ℕ) (meaning : Declaration) (before : Before) (name : List ℕ) → before.tasks name ≡ None → (after_declare other meaning before).tasks name ≡ None
declared-none other meaning before name is = ap (λ ts. ts name) (declared-quiet other meaning before).tasks ∙ is

-- what a task takes that the check doesn't know yet
pub learnt : (before : Before) (lines : List Line) (name : List ℕ) → Passes before lines → before.tasks name ≡ None → (before_from before lines).tasks name ≡ found lines name
learnt before [] name passes is = is
learnt before (line.Task other ∷ lines) name passes is = go (bytes_eq other name) refl (learnt (after_open other before) lines name passes.1) where
  go : (b : Bool) → bytes_eq other name ≡ b → ((after_open other before).tasks name ≡ None → (before_from (after_open other before) lines).tasks name ≡ found lines name) → (before_from (after_open other before) lines).tasks name ≡ cond (bytes_eq other name) (Some (meanings (before_task lines))) (found lines name)
  go true e later =
      kept lines (after_open other before) other name [] refl passes.1 (ap (λ b. cond b (Some []) (before.tasks name)) e)
      ∙ ap (λ b. Some (cond b (meanings (before_task lines)) [])) e
      ∙ ap (λ b. cond b (Some (meanings (before_task lines))) (found lines name)) (sym e)
  go false e later =
      later (ap (λ b. cond b (Some []) (before.tasks name)) e ∙ is)
      ∙ ap (λ b. cond b (Some (meanings (before_task lines))) (found lines name)) (sym e)
learnt before (line.Param other kind ∷ lines) name passes is = learnt _ lines name passes.1 (taken-none other (Variable kind) before name is)
learnt before (line.Access mode other kind ∷ lines) name passes is = learnt _ lines name passes.1 (taken-none other (Held mode kind) before name is)
learnt before (line.Input other ∷ lines) name passes is = learnt _ lines name passes.1 (declared-none other (Held Pop kind.Bytes) before name is)
learnt before (line.Output other k ∷ lines) name passes is = learnt _ lines name passes.1 (declared-none other (Held Push k) before name is)
learnt before (line.Object other k ∷ lines) name passes is = learnt _ lines name passes.1 (declared-none other (Held InOut k) before name is)
learnt before (line.Var other k ∷ lines) name passes is = learnt _ lines name passes.1 (declared-none other (Variable k) before name is)
learnt before (line.Queue other k ∷ lines) name passes is = learnt _ lines name passes.1 (declared-none other (Held PushPop k) before name is)
learnt before (line ∷ lines) name passes is = learnt before lines name passes.1 is

-- what passes two checks passes each
pub bind-parts : {A : Type 0} (r : Result A JobKind) (x : Result (Unit {0}) JobKind) → (r >>= λ _. x) ≡ Ok tt → ((a : A) × (r ≡ Ok a)) × (x ≡ Ok tt)
bind-parts (Ok a) x e = ((a, refl), e)
bind-parts (Err k) x e = absurd (cc)

-- the task main takes nothing
never-taken : {P : Type 0} (entered : Option (List ℕ)) (task : List ℕ) (r : Result (Unit {0}) JobKind) → entered ≡ Some task → is_main task ≡ true → (r >>= λ _. outside_main entered) ≡ Ok tt → P
never-taken entered task r is named passes =
    let refused : outside_main entered ≡ Err fault.MainParams = ap outside_main is ∙ ap (λ b. if b then Err fault.MainParams else Ok tt) named in
    let passed : outside_main entered ≡ Ok tt = (bind-parts r (outside_main entered) passes).1 in
    absurd (cc)

main-takes : (lines : List Line) (before : Before) (task : List ℕ) → before.open_task ≡ Some task → is_main task ≡ true → Passes before lines → meanings (before_task lines) ≡ []
main-takes [] before task entered named passes = refl
main-takes (line.Task other ∷ lines) before task entered named passes = refl
main-takes (line.Param other kind ∷ lines) before task entered named passes =
    never-taken before.open_task task (fresh (known before other)) entered named passes.0
main-takes (line.Access mode other kind ∷ lines) before task entered named passes =
    never-taken before.open_task task (fresh (known before other)) entered named passes.0
main-takes (line.Input other ∷ lines) before task entered named passes =
    main-takes lines _ task ((declared-quiet other (Held Pop kind.Bytes) before).entered ∙ entered) named passes.1
main-takes (line.Output other k ∷ lines) before task entered named passes =
    main-takes lines _ task ((declared-quiet other (Held Push k) before).entered ∙ entered) named passes.1
main-takes (line.Object other k ∷ lines) before task entered named passes =
    main-takes lines _ task ((declared-quiet other (Held InOut k) before).entered ∙ entered) named passes.1
main-takes (line.Var other k ∷ lines) before task entered named passes =
    main-takes lines _ task ((declared-quiet other (Variable k) before).entered ∙ entered) named passes.1
main-takes (line.Queue other k ∷ lines) before task entered named passes =
    main-takes lines _ task ((declared-quiet other (Held PushPop k) before).entered ∙ entered) named passes.1
main-takes (line ∷ lines) before task entered named passes = main-takes lines before task entered named passes.1

pub main-found : (lines : List Line) (before : Before) (taken : List Declaration) → Passes before lines → found lines (codes "main") ≡ Some taken → taken ≡ []
main-found [] before taken passes is = absurd (cc)
main-found (line.Task other ∷ lines) before taken passes is = go (bytes_eq other (codes "main")) refl is (main-found lines (after_open other before) taken passes.1) where
  go : (b : Bool) → bytes_eq other (codes "main") ≡ b → cond b (Some (meanings (before_task lines))) (found lines (codes "main")) ≡ Some taken → (found lines (codes "main") ≡ Some taken → taken ≡ []) → taken ≡ []
  go true e here later = sym (same_Some _ _ here) ∙ main-takes lines (after_open other before) other refl e passes.1
  go false e here later = later here
main-found (line ∷ lines) before taken passes is = main-found lines (checks.after_line before line) taken passes.1 is

-- ---- what a job that has no fault says

or_later-none : (n : ℕ) (r : Result (Unit {0}) JobKind) (later : Option JobFault) → or_later n r later ≡ None → (r ≡ Ok tt) × (later ≡ None)
or_later-none n (Ok a) later e = (refl, e)
or_later-none n (Err k) later e = absurd (cc)

has_main-some : (n : ℕ) (takes : Option (List Declaration)) → has_main n takes ≡ None → (taken : List Declaration) × (takes ≡ Some taken)
has_main-some n None e = absurd (cc)
has_main-some n (Some taken) e = (taken, refl)

pub passes-faultless : (lines : List Line) (n : ℕ) (before : Before) → fault_from n before lines ≡ None → Passes before lines
passes-faultless [] n before e = tt
passes-faultless (line ∷ lines) n before e =
    let parts = or_later-none (suc n) (check_line before line) (fault_from (suc n) (checks.after_line before line) lines) e in
    (parts.0, passes-faultless lines (suc n) (checks.after_line before line) parts.1)

pub main-known : (lines : List Line) (n : ℕ) (before : Before) → fault_from n before lines ≡ None → (taken : List Declaration) × ((before_from before lines).tasks (codes "main") ≡ Some taken)
main-known [] n before e = has_main-some n (before.tasks (codes "main")) e
main-known (line ∷ lines) n before e =
    let parts = or_later-none (suc n) (check_line before line) (fault_from (suc n) (checks.after_line before line) lines) e in
    main-known lines (suc n) (checks.after_line before line) parts.1
