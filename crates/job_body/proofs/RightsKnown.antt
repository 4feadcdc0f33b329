-- What the check knows at each line of a job is what a task holds there.
use Rattle.std.proofs.Common.{◌≡◌, ℕ, ◌+◌, Bool, true, false, cond, Option, Some, None, Result, Ok, Err, List, [], ◌∷◌, ◌++◌, flat_map, take, drop, bytes_eq, if◌then◌else◌, IsTrue, refl, sym, ap, ◌∙◌, subst, append_assoc, take-append-drop}
use Rattle.std.proofs.lemmas.Bool.{false≢true}
use Rattle.std.proofs.lemmas.List.{append-nil}
use Rattle.std.specs.Option.{option_or}
use Rattle.swan_model.specs.declared.rights.Mode.{Mode}
use Rattle.swan_model.specs.declared.rights.Mode.TheVariants.{InOut, Push, Pop, PushPop}
use Rattle.swan_model.specs.declared.value.Kind.{Kind}
use Rattle.swan_model.specs.declared.value.Kind.TheVariants as kind
use Rattle.job_reader.specs.Faults.{◌>>=◌}
use Rattle.job_reader.specs.Jobs.{IsPlaced, edition_of, may_stand}
use Rattle.job_reader.specs.Positions as positions
use Rattle.job_reader.specs.declared.block.Block.{Block}
use Rattle.job_reader.specs.declared.fault.JobKind.{JobKind}
use Rattle.job_reader.specs.declared.line.Edition.{Edition}
use Rattle.job_reader.specs.declared.line.Line.{Line}
use Rattle.job_reader.specs.declared.line.Line.TheVariants as line
use Rattle.job_reader.specs.declared.position.Position.{Position}
use Rattle.job_reader.specs.declared.position.Position.TheVariants.{First, Top, InTask, InDo, Outside}
use Rattle.privilege_check.specs.FirstFault.{check_line, fresh}
use Rattle.privilege_check.specs.Names as checks
use Rattle.privilege_check.specs.Names.{Before, before_first_line, after_declare, after_declare_in, known, known_in, after_open, after_declare_taken, taken_by, with_name, is_main}
use Rattle.privilege_check.specs.declared.declaration.Declaration.{Declaration}
use Rattle.privilege_check.specs.declared.declaration.Declaration.TheVariants.{Variable, Held}
use Rattle.job_body.specs.Tasks.{TaskSoFar, before_task, so_far_after, so_far_from, top_lines}
use Rattle.job_body.proofs.Known.{so_far-push}
use Rattle.job_body.proofs.RightsNames.{Entry, mode_known, mode_of, declared-held, declared-variable}
use Rattle.job_body.proofs.RightsEntries.{access_entry, made_entry, root_queue_entry, root_object_entry, root_entries, roots_held, entries, entries-more, root_entries-more, access-between, made-between, none-between}
use Rattle.job_body.proofs.RightsPlaces.{position_from, before_from, place-push, before-push, Passes, line-at, along, take-past}
use Rattle.swan_model.proofs.Lists.{drop_next, take_next}

-- at the top level
pub record KnownAtTop (done : List Line) (before : Before) : Type 0 where
  pub no_task : before.open_task ≡ None
  pub all : (rest : List Line) → before_task (done ++ rest) ≡ done ++ before_task rest
  pub top : (name : List ℕ) → mode_of (root_entries done) name ≡ mode_known (before.top name)

-- in a task, and after one
pub record KnownInTask (job : List Line) (so_far : TaskSoFar) (before : Before) : Type 0 where
  pub task : before.open_task ≡ Some so_far.name
  pub top : (name : List ℕ) → mode_of (root_entries (top_lines job)) name ≡ mode_known (before.top name)
  pub names : (name : List ℕ) → mode_of (entries job so_far) name ≡ mode_known (known before name)

abbrev pub KnownAt : Position → List Line → List Line → TaskSoFar → Before → Type 0
KnownAt First job done so_far before = KnownAtTop done before
KnownAt (Top inputs_left) job done so_far before = KnownAtTop done before
KnownAt _ job done so_far before = KnownInTask job so_far before

pub fresh_is : {A : Type 0} (o : Option A) → fresh o ≡ Ok tt → o ≡ None
fresh_is None e = refl
fresh_is (Some a) e = absurd (cc)

first_of_two : {B : Type 0} (r : Result (Unit {0}) JobKind) (f : Unit {0} → Result B JobKind) (b : B) → (r >>= f) ≡ Ok b → r ≡ Ok tt
first_of_two (Ok a) f b e = refl
first_of_two (Err k) f b e = absurd (cc)

-- ---- a name more

-- what is known once a name more is declared
record Declares (before after : Before) (name : List ℕ) (meaning : Declaration) : Type 0 where
  pub task : after.open_task ≡ before.open_task
  pub top : after.top ≡ before.top
  pub names : (query : List ℕ) → known after query ≡ cond (bytes_eq name query) (Some meaning) (known before query)

or_first : (b : Bool) (meaning : Declaration) (own top : Option Declaration) → option_or (cond b (Some meaning) own) top ≡ cond b (Some meaning) (option_or own top)
or_first true meaning own top = refl
or_first false meaning own top = refl

declared-own : (before : Before) (task name : List ℕ) (meaning : Declaration) → before.open_task ≡ Some task → after_declare name meaning before ≡ record before { own = with_name name meaning before.own }
declared-own before task name meaning e = ap (λ t. after_declare_in t name meaning before) e

declares-own : (before : Before) (task name : List ℕ) (meaning : Declaration) → before.open_task ≡ Some task → Declares before (record before { own = with_name name meaning before.own }) name meaning
declares-own before task name meaning e =
    record {
      task = refl;
      top = refl;
      names = λ query.
          ap (λ t. known_in t (with_name name meaning before.own) before.top query) e
          ∙ or_first (bytes_eq name query) meaning (before.own query) (if checks.is_main task then before.top query else None)
          ∙ ap (λ t. cond (bytes_eq name query) (Some meaning) (known_in t before.own before.top query)) (sym e);
    }

declares-declared : (before : Before) (task name : List ℕ) (meaning : Declaration) → before.open_task ≡ Some task → Declares before (after_declare name meaning before) name meaning
declares-declared before task name meaning e =
    subst (λ after. Declares before after name meaning) (sym (declared-own before task name meaning e)) (declares-own before task name meaning e)

declares-taken_by : (before after : Before) (task : Option (List ℕ)) (name : List ℕ) (meaning : Declaration) → Declares before after name meaning → Declares before (taken_by task meaning after) name meaning
declares-taken_by before after None name meaning d = d
declares-taken_by before after (Some task) name meaning d = record { task = d.task; top = d.top; names = d.names }

declares-taken : (before : Before) (task name : List ℕ) (meaning : Declaration) → before.open_task ≡ Some task → Declares before (after_declare_taken name meaning before) name meaning
declares-taken before task name meaning e =
    declares-taken_by before (after_declare name meaning before) (after_declare name meaning before).open_task name meaning (declares-declared before task name meaning e)

-- ---- lines of the top level

top-all : (done : List Line) (line : Line) → ((rest : List Line) → before_task (done ++ rest) ≡ done ++ before_task rest) → ((rest : List Line) → before_task (line ∷ rest) ≡ line ∷ before_task rest) → (rest : List Line) → before_task ((done ++ line ∷ []) ++ rest) ≡ (done ++ line ∷ []) ++ before_task rest
top-all done line all more rest =
    ap before_task (append_assoc done (line ∷ []) rest)
    ∙ all (line ∷ rest)
    ∙ ap (λ ls. done ++ ls) (more rest)
    ∙ sym (append_assoc done (line ∷ []) (before_task rest))

-- a line that declares nothing
top-quiet : (done : List Line) (before : Before) (line : Line) → root_entries (done ++ line ∷ []) ≡ root_entries done → ((rest : List Line) → before_task (line ∷ rest) ≡ line ∷ before_task rest) → KnownAtTop done before → KnownAtTop (done ++ line ∷ []) before
top-quiet done before line same more k =
    record {
      no_task = k.no_task;
      all = top-all done line k.all more;
      top = λ name. ap (λ es. mode_of es name) same ∙ k.top name;
    }

-- a line that declares an input, an output or an object
top-held : (done : List Line) (before : Before) (line : Line) (name : List ℕ) (mode : Mode) (meaning : Declaration) (first second : List Entry)
    → mode_known (Some meaning) ≡ Some mode
    → root_entries done ≡ first ++ second
    → root_entries (done ++ line ∷ []) ≡ first ++ (name, mode) ∷ second
    → ((rest : List Line) → before_task (line ∷ rest) ≡ line ∷ before_task rest)
    → fresh (known before name) ≡ Ok tt
    → KnownAtTop done before → KnownAtTop (done ++ line ∷ []) (after_declare name meaning before)
top-held done before line name mode meaning first second held old new more is_fresh k =
    let after : Before = record before { top = with_name name meaning before.top } in
    let is : after_declare name meaning before ≡ after = ap (λ t. after_declare_in t name meaning before) k.no_task in
    let top_fresh : before.top name ≡ None = ap (λ t. known_in t before.own before.top name) (sym k.no_task) ∙ fresh_is (known before name) is_fresh in
    subst (KnownAtTop (done ++ line ∷ [])) (sym is) (record {
      no_task = k.no_task;
      all = top-all done line k.all more;
      top = λ query.
          ap (λ es. mode_of es query) new
          ∙ declared-held first second before.top (with_name name meaning before.top) name mode meaning held (λ q. ap (λ es. mode_of es q) (sym old) ∙ k.top q) top_fresh (λ q. refl) query;
    })

-- a line that opens a task
opens : (job : List Line) (before : Before) (name : List ℕ) → ((query : List ℕ) → mode_of (root_entries (top_lines job)) query ≡ mode_known (before.top query)) → KnownInTask job (record { name = name; lines = [] }) (after_open name before)
opens job before name top =
    record {
      task = refl;
      top = top;
      names = λ query.
          ap (λ es. mode_of es query) (append-nil (roots_held job name)) ∙ choice (is_main name) query;
    } where
      choice : (b : Bool) (query : List ℕ) → mode_of (if b then root_entries (top_lines job) else []) query ≡ mode_known (if b then before.top query else None)
      choice true query = top query
      choice false query = refl

top-opens : (job done rest : List Line) (before : Before) (name : List ℕ) → job ≡ done ++ line.Task name ∷ rest → KnownAtTop done before → KnownInTask job (record { name = name; lines = [] }) (after_open name before)
top-opens job done rest before name whole k =
    let top : top_lines job ≡ done = ap before_task whole ∙ k.all (line.Task name ∷ rest) ∙ append-nil done in
    opens job before name (λ query. ap (λ ls. mode_of (root_entries ls) query) top ∙ k.top query)

top-none : (done : List Line) (line : Line) → root_queue_entry line ≡ [] → root_object_entry line ≡ [] → root_entries (done ++ line ∷ []) ≡ root_entries done
top-none done line queue object =
    root_entries-more done line
    ∙ ap (λ es. (flat_map root_queue_entry done ++ es) ++ (flat_map root_object_entry done ++ root_object_entry line)) queue
    ∙ ap (λ es. (flat_map root_queue_entry done ++ []) ++ (flat_map root_object_entry done ++ es)) object
    ∙ none-between [] (flat_map root_queue_entry done) (flat_map root_object_entry done)

top-first : (edition : Edition) (job done : List Line) (so_far : TaskSoFar) (before : Before) (line : Line) → IsTrue (may_stand edition First line) → KnownAtTop done before → KnownAtTop (done ++ line ∷ []) (checks.after_line before line)
top-first edition job done so_far before (line.Header named) stands k = top-quiet done before (line.Header named) (top-none done (line.Header named) refl refl) (λ rest. refl) k
top-first edition job done so_far before line stands k = absurd (false≢true stands)

top-step : (edition : Edition) (job done rest : List Line) (n : ℕ) (so_far : TaskSoFar) (before : Before) (line : Line) → job ≡ done ++ line ∷ rest → IsTrue (may_stand edition (Top n) line) → check_line before line ≡ Ok tt → KnownAtTop done before → KnownAt (positions.after (Top n) line) job (done ++ line ∷ []) (so_far_after so_far line) (checks.after_line before line)
top-step edition job done rest n so_far before (line.Note text) whole stands passes k =
    top-quiet done before (line.Note text) (top-none done (line.Note text) refl refl) (λ more. refl) k
top-step edition job done rest n so_far before (line.Input name) whole stands passes k =
    let first = flat_map root_queue_entry done in
    let second = flat_map root_object_entry done in
    top-held done before (line.Input name) name Pop (Held Pop kind.Bytes) first second refl refl
    (root_entries-more done (line.Input name) ∙ access-between [] first second (name, Pop)) (λ more. refl) passes k
top-step edition job done rest n so_far before (line.Output name kind) whole stands passes k =
    let first = flat_map root_queue_entry done in
    let second = flat_map root_object_entry done in
    top-held done before (line.Output name kind) name Push (Held Push kind) first second refl refl
    (root_entries-more done (line.Output name kind) ∙ access-between [] first second (name, Push)) (λ more. refl) passes k
top-step edition job done rest n so_far before (line.Object name kind) whole stands passes k =
    let first = flat_map root_queue_entry done in
    let second = flat_map root_object_entry done in
    top-held done before (line.Object name kind) name InOut (Held InOut kind) (root_entries done) [] refl (sym (append-nil (root_entries done)))
    (root_entries-more done (line.Object name kind) ∙ made-between [] first second (name, InOut)) (λ more. refl) passes k
top-step edition job done rest n so_far before (line.Task name) whole stands passes k = top-opens job done rest before name whole k
top-step edition job done rest n so_far before line whole stands passes k = absurd (false≢true stands)

-- ---- lines of a task

abbrev more_lines : TaskSoFar → Line → TaskSoFar
more_lines so_far line = record { name = so_far.name; lines = so_far.lines ++ line ∷ [] }

task-none : (job : List Line) (so_far : TaskSoFar) (line : Line) → access_entry line ≡ [] → made_entry line ≡ [] → entries job (more_lines so_far line) ≡ entries job so_far
task-none job so_far line access made =
    let first = roots_held job so_far.name in
    let second = flat_map access_entry so_far.lines in
    let third = flat_map made_entry so_far.lines in
    entries-more job so_far line
    ∙ ap (λ es. first ++ ((second ++ es) ++ (third ++ made_entry line))) access
    ∙ ap (λ es. first ++ ((second ++ []) ++ (third ++ es))) made
    ∙ none-between first second third

-- a line that declares nothing
task-quiet : (job : List Line) (so_far : TaskSoFar) (before : Before) (line : Line) → access_entry line ≡ [] → made_entry line ≡ [] → KnownInTask job so_far before → KnownInTask job (more_lines so_far line) before
task-quiet job so_far before line access made k =
    record {
      task = k.task;
      top = k.top;
      names = λ name. ap (λ es. mode_of es name) (task-none job so_far line access made) ∙ k.names name;
    }

-- a line that declares a variable
task-variable : (job : List Line) (so_far : TaskSoFar) (before after : Before) (line : Line) (name : List ℕ) (meaning : Declaration) → access_entry line ≡ [] → made_entry line ≡ [] → mode_known (Some meaning) ≡ None → fresh (known before name) ≡ Ok tt → Declares before after name meaning → KnownInTask job so_far before → KnownInTask job (more_lines so_far line) after
task-variable job so_far before after line name meaning access made variable is_fresh d k =
    record {
      task = d.task ∙ k.task;
      top = λ query. k.top query ∙ ap (λ top. mode_known (top query)) (sym d.top);
      names = λ query.
          ap (λ es. mode_of es query) (task-none job so_far line access made)
          ∙ declared-variable (entries job so_far) (known before) (known after) name meaning variable k.names (fresh_is (known before name) is_fresh) d.names query;
    }

-- a line that declares something held
task-held : (job : List Line) (so_far : TaskSoFar) (before after : Before) (line : Line) (name : List ℕ) (mode : Mode) (meaning : Declaration) (first second : List Entry)
    → mode_known (Some meaning) ≡ Some mode
    → entries job so_far ≡ first ++ second
    → entries job (more_lines so_far line) ≡ first ++ (name, mode) ∷ second
    → fresh (known before name) ≡ Ok tt
    → Declares before after name meaning
    → KnownInTask job so_far before → KnownInTask job (more_lines so_far line) after
task-held job so_far before after line name mode meaning first second held old new is_fresh d k =
    record {
      task = d.task ∙ k.task;
      top = λ query. k.top query ∙ ap (λ top. mode_known (top query)) (sym d.top);
      names = λ query.
          ap (λ es. mode_of es query) new
          ∙ declared-held first second (known before) (known after) name mode meaning held (λ q. ap (λ es. mode_of es q) (sym old) ∙ k.names q) (fresh_is (known before name) is_fresh) d.names query;
    }

-- a line that makes a queue or an object
task-makes : (job : List Line) (so_far : TaskSoFar) (before : Before) (line : Line) (name : List ℕ) (mode : Mode) (meaning : Declaration) → access_entry line ≡ [] → made_entry line ≡ (name, mode) ∷ [] → mode_known (Some meaning) ≡ Some mode → fresh (known before name) ≡ Ok tt → KnownInTask job so_far before → KnownInTask job (more_lines so_far line) (after_declare name meaning before)
task-makes job so_far before line name mode meaning access made held is_fresh k =
    let first = roots_held job so_far.name in
    let second = flat_map access_entry so_far.lines in
    let third = flat_map made_entry so_far.lines in
    let new : entries job (more_lines so_far line) ≡ entries job so_far ++ (name, mode) ∷ [] =
    entries-more job so_far line
    ∙ ap (λ es. first ++ ((second ++ es) ++ (third ++ made_entry line))) access
    ∙ ap (λ es. first ++ ((second ++ []) ++ (third ++ es))) made
    ∙ made-between first second third (name, mode) in
    task-held job so_far before (after_declare name meaning before) line name mode meaning (entries job so_far) [] held (sym (append-nil (entries job so_far))) new is_fresh (declares-declared before so_far.name name meaning k.task) k

task-takes : (job : List Line) (so_far : TaskSoFar) (before : Before) (name : List ℕ) (mode : Mode) (kind : Kind) → fresh (known before name) ≡ Ok tt → KnownInTask job so_far before → KnownInTask job (more_lines so_far (line.Access mode name kind)) (after_declare_taken name (Held mode kind) before)
task-takes job so_far before name mode kind is_fresh k =
    let first = roots_held job so_far.name in
    let second = flat_map access_entry so_far.lines in
    let third = flat_map made_entry so_far.lines in
    task-held job so_far before (after_declare_taken name (Held mode kind) before) (line.Access mode name kind) name mode (Held mode kind) (first ++ second) third refl (sym (append_assoc first second third))
    (entries-more job so_far (line.Access mode name kind) ∙ access-between first second third (name, mode)) is_fresh (declares-taken before so_far.name name (Held mode kind) k.task) k

task-step : (edition : Edition) (job done : List Line) (so_far : TaskSoFar) (before : Before) (line : Line) → IsTrue (may_stand edition InTask line) → check_line before line ≡ Ok tt → KnownInTask job so_far before → KnownAt (positions.after InTask line) job (done ++ line ∷ []) (so_far_after so_far line) (checks.after_line before line)
task-step edition job done so_far before (line.Note text) stands passes k = task-quiet job so_far before (line.Note text) refl refl k
task-step edition job done so_far before (line.Param name kind) stands passes k =
    task-variable job so_far before (after_declare_taken name (Variable kind) before) (line.Param name kind) name (Variable kind) refl refl refl (first_of_two (fresh (known before name)) _ tt passes) (declares-taken before so_far.name name (Variable kind) k.task) k
task-step edition job done so_far before (line.Access mode name kind) stands passes k =
    task-takes job so_far before name mode kind (first_of_two (fresh (known before name)) _ tt passes) k
task-step edition job done so_far before (line.Var name kind) stands passes k =
    task-variable job so_far before (after_declare name (Variable kind) before) (line.Var name kind) name (Variable kind) refl refl refl passes (declares-declared before so_far.name name (Variable kind) k.task) k
task-step edition job done so_far before (line.Queue name kind) stands passes k =
    task-makes job so_far before (line.Queue name kind) name PushPop (Held PushPop kind) refl refl refl passes k
task-step edition job done so_far before (line.Object name kind) stands passes k =
    task-makes job so_far before (line.Object name kind) name InOut (Held InOut kind) refl refl refl passes k
task-step edition job done so_far before line.Do stands passes k = task-quiet job so_far before line.Do refl refl k
task-step edition job done so_far before line stands passes k = absurd (false≢true stands)

-- a statement declares nothing
do-quiet : (edition : Edition) (blocks : List Block) (so_far : TaskSoFar) (before : Before) (line : Line) → IsTrue (may_stand edition (InDo blocks) line) → (access_entry line ≡ []) × (made_entry line ≡ []) × (so_far_after so_far line ≡ more_lines so_far line) × (checks.after_line before line ≡ before)
do-quiet edition blocks so_far before (line.Header named) stands = absurd (false≢true stands)
do-quiet edition blocks so_far before (line.Input name) stands = absurd (false≢true stands)
do-quiet edition blocks so_far before (line.Output name kind) stands = absurd (false≢true stands)
do-quiet edition blocks so_far before (line.Object name kind) stands = absurd (false≢true stands)
do-quiet edition blocks so_far before (line.Task name) stands = absurd (false≢true stands)
do-quiet edition blocks so_far before (line.Param name kind) stands = absurd (false≢true stands)
do-quiet edition blocks so_far before (line.Access mode name kind) stands = absurd (false≢true stands)
do-quiet edition blocks so_far before (line.Var name kind) stands = absurd (false≢true stands)
do-quiet edition blocks so_far before (line.Queue name kind) stands = absurd (false≢true stands)
do-quiet edition blocks so_far before line.Do stands = absurd (false≢true stands)
do-quiet edition blocks so_far before line stands = (refl, refl, refl, refl)

after-do : (blocks : List Block) (line : Line) (job done : List Line) (so_far : TaskSoFar) (before : Before) → KnownInTask job so_far before → KnownAt (positions.after_statement blocks line) job done so_far before
after-do [] line.Else job done so_far before k = k
after-do (innermost ∷ blocks) line.Else job done so_far before k = k
after-do [] line.End job done so_far before k = k
after-do (innermost ∷ blocks) line.End job done so_far before k = k
after-do blocks line job done so_far before k = k

do-step : (edition : Edition) (job done : List Line) (blocks : List Block) (so_far : TaskSoFar) (before : Before) (line : Line) → IsTrue (may_stand edition (InDo blocks) line) → KnownInTask job so_far before → KnownAt (positions.after (InDo blocks) line) job (done ++ line ∷ []) (so_far_after so_far line) (checks.after_line before line)
do-step edition job done blocks so_far before line stands k =
    let quiet = do-quiet edition blocks so_far before line stands in
    let after = after-do blocks line job (done ++ line ∷ []) (more_lines so_far line) before (task-quiet job so_far before line quiet.0 quiet.1 k) in
    subst (λ s. KnownAt (positions.after (InDo blocks) line) job (done ++ line ∷ []) s (checks.after_line before line)) (sym quiet.2)
    (subst (λ b. KnownAt (positions.after (InDo blocks) line) job (done ++ line ∷ []) (more_lines so_far line) b) (sym quiet.3) after)

outside-step : (edition : Edition) (job done : List Line) (so_far : TaskSoFar) (before : Before) (line : Line) → IsTrue (may_stand edition Outside line) → KnownInTask job so_far before → KnownAt (positions.after Outside line) job (done ++ line ∷ []) (so_far_after so_far line) (checks.after_line before line)
outside-step edition job done so_far before (line.Note text) stands k = task-quiet job so_far before (line.Note text) refl refl k
outside-step edition job done so_far before (line.Task name) stands k = opens job before name k.top
outside-step edition job done so_far before line stands k = absurd (false≢true stands)

known-step : (edition : Edition) (job done rest : List Line) (place : Position) (so_far : TaskSoFar) (before : Before) (line : Line) → job ≡ done ++ line ∷ rest → IsTrue (may_stand edition place line) → check_line before line ≡ Ok tt → KnownAt place job done so_far before → KnownAt (positions.after place line) job (done ++ line ∷ []) (so_far_after so_far line) (checks.after_line before line)
known-step edition job done rest First so_far before line whole stands passes k = top-first edition job done so_far before line stands k
known-step edition job done rest (Top n) so_far before line whole stands passes k = top-step edition job done rest n so_far before line whole stands passes k
known-step edition job done rest InTask so_far before line whole stands passes k = task-step edition job done so_far before line stands passes k
known-step edition job done rest (InDo blocks) so_far before line whole stands passes k = do-step edition job done blocks so_far before line stands k
known-step edition job done rest Outside so_far before line whole stands passes k = outside-step edition job done so_far before line stands k

-- what is known after some lines of a job
abbrev pub KnownAfter : List Line → List Line → Type 0
KnownAfter job done = KnownAt (position_from First done) job done (so_far_from (record { name = []; lines = [] }) done) (before_from before_first_line done)

known-more : (edition : Edition) (job done rest : List Line) (line : Line) → job ≡ done ++ line ∷ rest → IsTrue (may_stand edition (position_from First done) line) → check_line (before_from before_first_line done) line ≡ Ok tt → KnownAfter job done → KnownAfter job (done ++ line ∷ [])
known-more edition job done rest line whole stands passes k =
    let start : TaskSoFar = record { name = []; lines = [] } in
    let next = known-step edition job done rest (position_from First done) (so_far_from start done) (before_from before_first_line done) line whole stands passes k in
    let all = done ++ line ∷ [] in
    subst (λ p. KnownAt p job all (so_far_from start all) (before_from before_first_line all)) (sym (place-push First done line))
    (subst (λ s. KnownAt (positions.after (position_from First done) line) job all s (before_from before_first_line all)) (sym (so_far-push start done line))
    (subst (λ b. KnownAt (positions.after (position_from First done) line) job all (so_far_after (so_far_from start done) line) b) (sym (before-push before_first_line done line)) next))

-- what is known at each line of a job that passes the check
pub known-at : (job : List Line) → IsPlaced (edition_of job) First job → Passes before_first_line job → (i : ℕ) → KnownAfter job (take i job)
known-at job placed passes =
    along job (λ i. KnownAfter job (take i job)) (record { no_task = refl; all = λ rest. refl; top = λ name. refl })
    (λ i past k. subst (KnownAfter job) (sym (take-past job i past)) k)
    (λ i line is k.
    let at = line-at job i line placed passes is in
    let whole : job ≡ take i job ++ line ∷ drop (i + 1) job = sym (take-append-drop i job) ∙ ap (λ ls. take i job ++ ls) (drop_next job i line is) in
    subst (KnownAfter job) (sym (take_next job i line is)) (known-more (edition_of job) job (take i job) (drop (i + 1) job) line whole at.stands at.passes k))
