-- Where an activation of a job may stand with what it holds, and where it goes on.
use Rattle.std.proofs.Common.{◌≡◌, ℕ, ◌+◌, Bool, true, false, Some, List, [], ◌∷◌, ◌++◌, flat_map, drop, slice_get, if◌then◌else◌, refl, sym, ap, ap₂, ◌∙◌, subst, append_assoc, arith}
use Rattle.std.proofs.lemmas.Bool.{false≢true, true≢false}
use Rattle.std.proofs.lemmas.List.{append-nil, map-append}
use Rattle.swan_model.specs.declared.rights.Mode.{Mode}
use Rattle.job_reader.specs.Jobs.{IsPlaced, edition_of, may_stand}
use Rattle.job_reader.specs.Positions as positions
use Rattle.job_reader.specs.Positions.{is_open}
use Rattle.job_reader.specs.declared.line.Edition.{Edition}
use Rattle.job_reader.specs.declared.line.Line.{Line}
use Rattle.job_reader.specs.declared.line.Line.TheVariants as line
use Rattle.job_reader.specs.declared.position.Position.{Position}
use Rattle.job_reader.specs.declared.position.Position.TheVariants.{First, Top, InTask, InDo, Outside}
use Rattle.job_body.specs.Tasks.{TaskSoFar, before_task, executed_from, is_executed, passed_over, so_far_after, so_far_at}
use Rattle.job_body.proofs.RightsEntries.{access_entry, made_entry, roots_held, held_at, held_with, flat-more}
use Rattle.job_body.proofs.RightsNames.{Entry, modes}
use Rattle.job_body.proofs.RightsPlaces.{position_at, place-next, placed-from, so_far-next}
use Rattle.swan_model.proofs.Lists.{drop_next, get-drop, same_parts}

-- an activation that holds by these modes may stand at a line: in a task, with what is held there
pub record Stands (job : List Line) (i : ℕ) (held : List Mode) : Type 0 where
  pub within : is_open (position_at job i) ≡ true
  pub holds : held ≡ modes (held_at job i)

abbrev pub is_task : Line → Bool
is_task (line.Task name) = true
is_task _ = false

-- ---- one line more

so_far-plain : (so_far : TaskSoFar) (line : Line) → is_task line ≡ false → so_far_after so_far line ≡ record { name = so_far.name; lines = so_far.lines ++ line ∷ [] }
so_far-plain so_far (line.Task name) e = absurd (true≢false e)
so_far-plain so_far line e = refl

before-plain : (line : Line) (rest : List Line) → is_task line ≡ false → before_task (line ∷ rest) ≡ line ∷ before_task rest
before-plain (line.Task name) rest e = absurd (true≢false e)
before-plain line rest e = refl

held-list : (first second access third made last : List Entry) → first ++ (((second ++ access) ++ third) ++ (made ++ last)) ≡ (first ++ ((second ++ (access ++ third)) ++ made)) ++ last
held-list first second access third made last =
    ap (λ es. first ++ (es ++ (made ++ last))) (append_assoc second access third)
    ∙ ap (λ es. first ++ es) (sym (append_assoc (second ++ (access ++ third)) made last))
    ∙ sym (append_assoc first ((second ++ (access ++ third)) ++ made) last)

held-more : (job : List Line) (so_far : TaskSoFar) (line : Line) (rest : List Line) → is_task line ≡ false → held_with job (record { name = so_far.name; lines = so_far.lines ++ line ∷ [] }) rest ≡ held_with job so_far (line ∷ rest) ++ made_entry line
held-more job so_far line rest plain =
    let first = roots_held job so_far.name in
    let second = flat_map access_entry so_far.lines in
    let third = flat_map access_entry (before_task rest) in
    let made = flat_map made_entry so_far.lines in
    ap₂ (λ a m. first ++ ((a ++ third) ++ m)) (flat-more access_entry so_far.lines line) (flat-more made_entry so_far.lines line)
    ∙ held-list first second (access_entry line) third made (made_entry line)
    ∙ ap (λ ls. (first ++ ((second ++ flat_map access_entry ls) ++ made)) ++ made_entry line) (sym (before-plain line rest plain))

pub held-next : (job : List Line) (i : ℕ) (line : Line) → slice_get job i ≡ Some line → is_task line ≡ false → held_at job (i + 1) ≡ held_at job i ++ made_entry line
held-next job i line is plain =
    ap (λ so_far. held_with job so_far (drop (i + 1) job)) (so_far-next job i line is ∙ so_far-plain (so_far_at job i) line plain)
    ∙ held-more job (so_far_at job i) line (drop (i + 1) job) plain
    ∙ ap (λ rest. held_with job (so_far_at job i) rest ++ made_entry line) (sym (drop_next job i line is))

-- what is held after a line that makes nothing
pub held-same : (job : List Line) (i : ℕ) (line : Line) → slice_get job i ≡ Some line → is_task line ≡ false → made_entry line ≡ [] → held_at job (i + 1) ≡ held_at job i
held-same job i line is plain none =
    held-next job i line is plain ∙ ap (λ es. held_at job i ++ es) none ∙ append-nil (held_at job i)

-- the next line, after one that makes nothing
pub stands-on : (job : List Line) (i : ℕ) (line : Line) (held : List Mode) → slice_get job i ≡ Some line → is_task line ≡ false → made_entry line ≡ [] → is_open (positions.after (position_at job i) line) ≡ true → Stands job i held → Stands job (i + 1) held
stands-on job i line held is plain none within at =
    record {
      within = ap is_open (place-next job i line is) ∙ within;
      holds = at.holds ∙ ap modes (sym (held-same job i line is plain none));
    }

-- the next line, after one that makes a queue or an object
pub stands-made : (job : List Line) (i : ℕ) (line : Line) (held : List Mode) (name : List ℕ) (mode : Mode) → slice_get job i ≡ Some line → is_task line ≡ false → made_entry line ≡ (name, mode) ∷ [] → is_open (positions.after (position_at job i) line) ≡ true → Stands job i held → Stands job (i + 1) (held ++ mode ∷ [])
stands-made job i line held name mode is plain made within at =
    record {
      within = ap is_open (place-next job i line is) ∙ within;
      holds =
          ap (λ ms. ms ++ mode ∷ []) at.holds
          ∙ sym (map-append (λ entry. entry.1) (held_at job i) ((name, mode) ∷ []))
          ∙ ap (λ es. modes (held_at job i ++ es)) (sym made)
          ∙ ap modes (sym (held-next job i line is plain));
    }

-- ---- lines that are passed over

pub item_of_drop : {A : Type 0} (xs : List A) (i : ℕ) (x : A) (rest : List A) → drop i xs ≡ x ∷ rest → slice_get xs i ≡ Some x
item_of_drop xs i x rest e = sym (get-drop i xs) ∙ ap (λ ys. slice_get ys 0) e

pub rest_of_drop : {A : Type 0} (xs : List A) (i : ℕ) (x : A) (rest : List A) → drop i xs ≡ x ∷ rest → drop (i + 1) xs ≡ rest
rest_of_drop xs i x rest e =
    (same_parts x x (drop (i + 1) xs) rest (sym (drop_next xs i x (item_of_drop xs i x rest e)) ∙ e)).1

pub stands_here : (job : List Line) (i : ℕ) (line : Line) → IsPlaced (edition_of job) First job → slice_get job i ≡ Some line → may_stand (edition_of job) (position_at job i) line ≡ true
stands_here job i line placed is =
    (subst (IsPlaced (edition_of job) (position_at job i)) (drop_next job i line is) (placed-from (edition_of job) First job i placed)).0

passes-over : (edition : Edition) (place : Position) (line : Line) → is_open place ≡ true → may_stand edition place line ≡ true → is_executed line ≡ false → (is_task line ≡ false) × (made_entry line ≡ []) × (is_open (positions.after place line) ≡ true)
unfolding is_executed
passes-over edition First line within stands e = absurd (false≢true within)
passes-over edition (Top n) line within stands e = absurd (false≢true within)
passes-over edition Outside line within stands e = absurd (false≢true within)
passes-over edition InTask (line.Note text) within stands e = (refl, refl, refl)
passes-over edition InTask (line.Param name k) within stands e = (refl, refl, refl)
passes-over edition InTask (line.Access mode name k) within stands e = (refl, refl, refl)
passes-over edition InTask (line.Var name k) within stands e = (refl, refl, refl)
passes-over edition InTask line.Do within stands e = (refl, refl, refl)
passes-over edition (InDo blocks) (line.Note text) within stands e = (refl, refl, refl)
passes-over edition place line within stands e = absurd (cc)

executed-on : (job : List Line) (held : List Mode) (lines : List Line) (i : ℕ) → IsPlaced (edition_of job) First job → drop i job ≡ lines → Stands job i held → Stands job (i + passed_over lines) held
executed-on job held [] i placed is at = subst (λ k. Stands job k held) (omega arith) at
executed-on job held (line ∷ lines) i placed is at = go (is_executed line) refl (executed-on job held lines (i + 1) placed (rest_of_drop job i line lines is)) where
  item : slice_get job i ≡ Some line
  item = item_of_drop job i line lines is

  go : (b : Bool) → is_executed line ≡ b → (Stands job (i + 1) held → Stands job (i + 1 + passed_over lines) held) → Stands job (i + (if is_executed line then 0 else passed_over lines + 1)) held
  go true e later =
      let here : i ≡ i + (if is_executed line then 0 else passed_over lines + 1) = omega arith ∙ ap (λ b. i + (if b then 0 else passed_over lines + 1)) (sym e) in
      subst (λ k. Stands job k held) here at
  go false e later =
      let over = passes-over (edition_of job) (position_at job i) line at.within (stands_here job i line placed item) e in
      let there : i + 1 + passed_over lines ≡ i + (if is_executed line then 0 else passed_over lines + 1) = omega arith ∙ ap (λ b. i + (if b then 0 else passed_over lines + 1)) (sym e) in
      subst (λ k. Stands job k held) there (later (stands-on job i line held item over.0 over.1 over.2 at))

-- the first step from a line on is one where the same is held
pub stands-executed : (job : List Line) (i : ℕ) (held : List Mode) → IsPlaced (edition_of job) First job → Stands job i held → Stands job (executed_from job i) held
stands-executed job i held placed at = executed-on job held (drop i job) i placed refl at
