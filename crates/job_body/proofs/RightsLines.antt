-- What holds where a statement of a checked job stands, and where a task begins.
use Rattle.std.proofs.Common.{◌≡◌, ℕ, zero, suc, ◌+◌, Bool, true, false, cond, Option, Some, None, Result, Ok, Err, List, [], ◌∷◌, ◌++◌, length, flat_map, take, drop, slice_get, nat_eq, bytes_eq, if◌then◌else◌, refl, sym, ap, ◌∙◌, subst, eqb-true}
use Rattle.std.proofs.lemmas.Bool.{false≢true}
use Rattle.std.proofs.lemmas.List.{append-nil, map-append}
use Rattle.std.specs.List.{position_or_len}
use Rattle.swan_model.specs.declared.rights.Mode.{Mode}
use Rattle.swan_model.specs.declared.value.Kind.TheVariants as kind
use Rattle.job_reader.specs.Faults.{◌>>=◌}
use Rattle.job_reader.specs.Jobs.{IsPlaced, edition_of, may_stand}
use Rattle.job_reader.specs.Positions as positions
use Rattle.job_reader.specs.Positions.{is_open}
use Rattle.job_reader.specs.declared.atom.Atom.{Atom}
use Rattle.job_reader.specs.declared.block.Block.{Block}
use Rattle.job_reader.specs.declared.fault.JobKind.{JobKind}
use Rattle.job_reader.specs.declared.fault.JobKind.TheVariants as fault
use Rattle.job_reader.specs.declared.line.Edition.{Edition}
use Rattle.job_reader.specs.declared.line.Line.{Line}
use Rattle.job_reader.specs.declared.line.Line.TheVariants as line
use Rattle.job_reader.specs.declared.position.Position.{Position}
use Rattle.job_reader.specs.declared.position.Position.TheVariants.{First, Top, InTask, InDo, Outside}
use Rattle.privilege_check.specs.Names.{Before, before_first_line, known, is_main}
use Rattle.privilege_check.specs.Names as checks
use Rattle.privilege_check.specs.Spawns as spawns
use Rattle.privilege_check.specs.Spawns.{arguments, as_child, is_lent_twice, lent}
use Rattle.privilege_check.specs.Uses.{value}
use Rattle.privilege_check.specs.declared.declaration.Declaration.{Declaration}
use Rattle.job_body.specs.Steps as steps
use Rattle.job_body.specs.Tasks.{TaskSoFar, before_task, so_far_at, task_index, top_lines}
use Rattle.job_body.proofs.RightsEntries.{access_entry, entries, held_at, held_with, made_entry, names-entries, root_entries, roots_held}
use Rattle.job_body.proofs.RightsKnown.{KnownAt, KnownInTask, known-at}
use Rattle.job_body.proofs.RightsNames.{mode_known, mode_of, modes, position}
use Rattle.job_body.proofs.RightsPlaces.{Passes, before_at, before_from, passes-from, position_at, place-next, placed-from, so_far-next}
use Rattle.job_body.proofs.RightsStands.{Stands, stands_here}
use Rattle.job_body.proofs.RightsTasks.{IsTaskAt, held_modes, kept, learnt, meaning_of, meanings, modes-meanings, task-found, bind-parts}

abbrev pub is_statement : Line → Bool
is_statement (line.Assign v o args) = true
is_statement (line.Read v o) = true
is_statement (line.Write o a) = true
is_statement (line.Push q a) = true
is_statement (line.Pop v q) = true
is_statement (line.Empty v q) = true
is_statement (line.Spawn fuel task args) = true
is_statement line.Sync = true
is_statement (line.Caught v) = true
is_statement (line.Fuel v) = true
is_statement (line.Fail a) = true
is_statement (line.If a) = true
is_statement line.Else = true
is_statement (line.While a) = true
is_statement line.End = true
is_statement _ = false

-- a statement of a task stands after its `do`
pub in-do : (edition : Edition) (place : Position) (line : Line) → is_open place ≡ true → may_stand edition place line ≡ true → is_statement line ≡ true → (inside : List Block) × (place ≡ InDo inside)
in-do edition First line within stands e = absurd (false≢true within)
in-do edition (Top n) line within stands e = absurd (false≢true within)
in-do edition Outside line within stands e = absurd (false≢true within)
in-do edition (InDo inside) line within stands e = (inside, refl)
in-do edition InTask (line.Note text) within stands e = absurd (false≢true e)
in-do edition InTask (line.Param name k) within stands e = absurd (false≢true e)
in-do edition InTask (line.Access mode name k) within stands e = absurd (false≢true e)
in-do edition InTask (line.Var name k) within stands e = absurd (false≢true e)
in-do edition InTask (line.Queue name k) within stands e = absurd (false≢true e)
in-do edition InTask (line.Object name k) within stands e = absurd (false≢true e)
in-do edition InTask line.Do within stands e = absurd (false≢true e)
in-do edition InTask line within stands e = absurd (false≢true stands)

-- ---- after `do` a task takes nothing more

abbrev is_past : Position → Bool
is_past (InDo inside) = true
is_past Outside = true
is_past _ = false

past-statement : (inside : List Block) (line : Line) → is_past (positions.after_statement inside line) ≡ true
past-statement inside (line.If a) = refl
past-statement inside (line.While a) = refl
past-statement [] line.Else = refl
past-statement (innermost ∷ inside) line.Else = refl
past-statement [] line.End = refl
past-statement (innermost ∷ inside) line.End = refl
past-statement inside line = refl

past-line : (edition : Edition) (place : Position) (line : Line) → is_past place ≡ true → may_stand edition place line ≡ true → (access_entry line ≡ []) × (meaning_of line ≡ [])
past-line edition First line past stands = absurd (false≢true past)
past-line edition (Top n) line past stands = absurd (false≢true past)
past-line edition InTask line past stands = absurd (false≢true past)
past-line edition (InDo inside) (line.Param name k) past stands = absurd (false≢true stands)
past-line edition (InDo inside) (line.Access mode name k) past stands = absurd (false≢true stands)
past-line edition (InDo inside) line past stands = (refl, refl)
past-line edition Outside (line.Param name k) past stands = absurd (false≢true stands)
past-line edition Outside (line.Access mode name k) past stands = absurd (false≢true stands)
past-line edition Outside line past stands = (refl, refl)

record TakesNothing (lines : List Line) : Type 0 where
  pub access : flat_map access_entry (before_task lines) ≡ []
  pub meaning : meanings (before_task lines) ≡ []

takes-more : (line : Line) (lines : List Line) → (access_entry line ≡ []) × (meaning_of line ≡ []) → TakesNothing lines → TakesNothing (line ∷ lines)
takes-more (line.Task name) lines none rest = record { access = refl; meaning = refl }
takes-more (line.Param name k) lines none rest = absurd (let e = none.1 in cc)
takes-more (line.Access mode name k) lines none rest = absurd (let e = none.0 in cc)
takes-more line lines none rest = record { access = rest.access; meaning = rest.meaning }

takes-nothing : (edition : Edition) (lines : List Line) (place : Position) → is_past place ≡ true → IsPlaced edition place lines → TakesNothing lines
takes-nothing edition [] place past placed = record { access = refl; meaning = refl }
takes-nothing edition (line ∷ lines) First past placed = absurd (false≢true past)
takes-nothing edition (line ∷ lines) (Top n) past placed = absurd (false≢true past)
takes-nothing edition (line ∷ lines) InTask past placed = absurd (false≢true past)
takes-nothing edition (line ∷ lines) (InDo inside) past placed =
    takes-more line lines (past-line edition (InDo inside) line past placed.0) (takes-nothing edition lines (positions.after_statement inside line) (past-statement inside line) placed.1)
takes-nothing edition (line.Task name ∷ lines) Outside past placed = record { access = refl; meaning = refl }
takes-nothing edition (line.Note text ∷ lines) Outside past placed =
    takes-more (line.Note text) lines (refl, refl) (takes-nothing edition lines Outside refl placed.1)
takes-nothing edition (line ∷ lines) Outside past placed = absurd (false≢true placed.0)

-- ---- a statement

pub record IsStatementAt (job : List Line) (i : ℕ) (held : List Mode) : Type 0 where
  pub inside : List Block
  pub at : position_at job i ≡ InDo inside
  pub task : (before_at job i).open_task ≡ Some (so_far_at job i).name
  pub names : (query : List ℕ) → mode_of (entries job (so_far_at job i)) query ≡ mode_known (known (before_at job i) query)
  pub holds : held ≡ modes (entries job (so_far_at job i))
  pub place : (name : List ℕ) → steps.place_at job i name ≡ position (entries job (so_far_at job i)) name
  pub rest : meanings (before_task (drop i job)) ≡ []

held-statement : (job : List Line) (i : ℕ) → flat_map access_entry (before_task (drop i job)) ≡ [] → held_at job i ≡ entries job (so_far_at job i)
held-statement job i none =
    let so_far = so_far_at job i in
    ap (λ es. roots_held job so_far.name ++ ((flat_map access_entry so_far.lines ++ es) ++ flat_map made_entry so_far.lines)) none
    ∙ ap (λ es. roots_held job so_far.name ++ (es ++ flat_map made_entry so_far.lines)) (append-nil (flat_map access_entry so_far.lines))

pub statement-at : (job : List Line) → IsPlaced (edition_of job) First job → Passes before_first_line job → (i : ℕ) (line : Line) (held : List Mode) → slice_get job i ≡ Some line → Stands job i held → is_statement line ≡ true → IsStatementAt job i held
statement-at job placed passes i line held is at e =
    let doing = in-do (edition_of job) (position_at job i) line at.within (stands_here job i line placed is) e in
    let here : IsPlaced (edition_of job) (InDo doing.0) (drop i job) = subst (λ p. IsPlaced (edition_of job) p (drop i job)) doing.1 (placed-from (edition_of job) First job i placed) in
    let nothing = takes-nothing (edition_of job) (drop i job) (InDo doing.0) refl here in
    let known_here : KnownInTask job (so_far_at job i) (before_at job i) = subst (λ p. KnownAt p job (take i job) (so_far_at job i) (before_at job i)) doing.1 (known-at job placed passes i) in
    record {
      inside = doing.0;
      at = doing.1;
      task = known_here.task;
      names = known_here.names;
      holds = at.holds ∙ ap modes (held-statement job i nothing.access);
      place = λ name. ap (position_or_len (λ other. bytes_eq other name)) (sym (names-entries job (so_far_at job i)));
      rest = nothing.meaning;
    }

-- ---- a spawn

before-split : (before : Before) (lines : List Line) (i : ℕ) → before_from before lines ≡ before_from (before_from before (take i lines)) (drop i lines)
before-split before lines zero = refl
before-split before [] (suc i) = refl
before-split before (line ∷ lines) (suc i) = before-split (checks.after_line before line) lines i

-- what the check knows of a task at a statement is what its lines say
pub task-known : (job : List Line) → Passes before_first_line job → (i : ℕ) (held : List Mode) → IsStatementAt job i held → (task : List ℕ) (taken : List Declaration) → (before_at job i).tasks task ≡ Some taken → IsTaskAt job (task_index job task) task taken
task-known job passes i held at task taken is =
    let all = kept (drop i job) (before_at job i) (so_far_at job i).name task taken at.task (passes-from before_first_line job i passes) is in
    let ends : (before_from before_first_line job).tasks task ≡ Some taken =
    ap (λ (b : Before). b.tasks task) (before-split before_first_line job i)
    ∙ all
    ∙ ap (λ ms. Some (taken ++ cond (bytes_eq (so_far_at job i).name task) ms [])) at.rest
    ∙ ap Some (nothing-more (bytes_eq (so_far_at job i).name task)) in
    task-found job task taken (sym (learnt before_first_line job task passes refl) ∙ ends) where
      nothing-more : (b : Bool) → taken ++ cond b [] [] ≡ taken
      nothing-more true = append-nil taken
      nothing-more false = append-nil taken

pub record SpawnPasses (before : Before) (task : List ℕ) (args : List Atom) : Type 0 where
  pub taken : List Declaration
  pub known : before.tasks task ≡ Some taken
  pub child : is_main task ≡ false
  pub all : arguments (checks.known before) taken args ≡ Ok tt
  pub once : is_lent_twice (lent taken args) ≡ false
  pub count : length args ≡ length taken

child-parts : (task : List ℕ) (takes : Option (List Declaration)) (next : List Declaration → Result (Unit {0}) JobKind) → (as_child task takes >>= next) ≡ Ok tt → (taken : List Declaration) × (takes ≡ Some taken) × (is_main task ≡ false) × (next taken ≡ Ok tt)
child-parts task None next e = absurd (cc)
child-parts task (Some taken) next e = let is = go (is_main task) refl e in (taken, refl, is.0, is.1) where
  go : (b : Bool) → is_main task ≡ b → ((if b then Err fault.MainParams else Ok taken) >>= next) ≡ Ok tt → (is_main task ≡ false) × (next taken ≡ Ok tt)
  go true is e = absurd (cc)
  go false is e = (is, e)

first-part : (r : Result (Unit {0}) JobKind) (x : Result (Unit {0}) JobKind) → (r >>= λ _. x) ≡ Ok tt → r ≡ Ok tt
first-part (Ok a) x e = refl
first-part (Err k) x e = absurd (cc)

unaliased-once : (gifts : List (List ℕ × Mode)) → spawns.unaliased gifts ≡ Ok tt → is_lent_twice gifts ≡ false
unaliased-once gifts e = go (is_lent_twice gifts) e where
  go : (b : Bool) → ◌≡◌ {A = Result (Unit {0}) JobKind} (if b then Err fault.Alias else Ok tt) (Ok tt) → b ≡ false
  go true e = absurd (cc)
  go false e = refl

pub spawn-passes : (before : Before) (fuel : Atom) (task : List ℕ) (args : List Atom) → spawns.spawn before fuel task args ≡ Ok tt → SpawnPasses before task args
spawn-passes before fuel task args e =
    let rest = (bind-parts (value (known before) (Some kind.Int) fuel) (as_child task (before.tasks task) >>= spawns.spawn_arguments (known before) args) e).1 in
    let child = child-parts task (before.tasks task) (spawns.spawn_arguments (known before) args) rest in
    go child.0 child.1 child.2 (nat_eq (length args) (length child.0)) refl child.3 where
      go : (taken : List Declaration) → before.tasks task ≡ Some taken → is_main task ≡ false → (b : Bool) → nat_eq (length args) (length taken) ≡ b → (if b then (arguments (known before) taken args >>= λ _. spawns.unaliased (lent taken args)) else Err fault.Arity) ≡ Ok tt → SpawnPasses before task args
      go taken is other false count e = absurd (cc)
      go taken is other true count e =
          record {
            taken = taken;
            known = is;
            child = other;
            all = first-part (arguments (known before) taken args) (spawns.unaliased (lent taken args)) e;
            once = unaliased-once (lent taken args) (bind-parts (arguments (known before) taken args) (spawns.unaliased (lent taken args)) e).1;
            count = eqb-true (length args) (length taken) count;
          }

-- ---- where a task begins

opens-task : (edition : Edition) (place : Position) (name : List ℕ) → may_stand edition place (line.Task name) ≡ true → positions.after place (line.Task name) ≡ InTask
opens-task edition First name stands = absurd (false≢true stands)
opens-task edition (Top n) name stands = refl
opens-task edition InTask name stands = absurd (false≢true stands)
opens-task edition (InDo inside) name stands = absurd (false≢true stands)
opens-task edition Outside name stands = refl

-- a task begins with what the top level lends it and with what it takes
pub task-stands : (job : List Line) → IsPlaced (edition_of job) First job → (index : ℕ) (name : List ℕ) (taken : List Declaration) → IsTaskAt job index name taken → Stands job (index + 1) (modes (roots_held job name) ++ held_modes taken)
task-stands job placed index name taken at =
    let opened : TaskSoFar = record { name = name; lines = [] } in
    let within : position_at job (index + 1) ≡ InTask =
    place-next job index (line.Task name) at.at ∙ opens-task (edition_of job) (position_at job index) name (stands_here job index (line.Task name) placed at.at) in
    let access = flat_map access_entry (before_task (drop (index + 1) job)) in
    let here : held_at job (index + 1) ≡ roots_held job name ++ access =
    ap (λ so_far. held_with job so_far (drop (index + 1) job)) (so_far-next job index (line.Task name) at.at)
    ∙ ap (λ es. roots_held job name ++ es) (append-nil access) in
    record {
      within = ap is_open within;
      holds = sym (ap modes here ∙ map-append (λ entry. entry.1) (roots_held job name) access
          ∙ ap (λ ms. modes (roots_held job name) ++ ms) (modes-meanings (before_task (drop (index + 1) job)) ∙ ap held_modes at.takes));
    }

-- a child begins with what its task takes
pub child-stands : (job : List Line) → IsPlaced (edition_of job) First job → (index : ℕ) (name : List ℕ) (taken : List Declaration) → is_main name ≡ false → IsTaskAt job index name taken → Stands job (index + 1) (held_modes taken)
child-stands job placed index name taken other at =
    subst (λ b. Stands job (index + 1) (modes (if b then root_entries (top_lines job) else []) ++ held_modes taken)) other (task-stands job placed index name taken at)
