-- What a task holds at a line, by names.
use Rattle.std.proofs.Common.{◌≡◌, ℕ, Bool, true, false, List, [], ◌∷◌, ◌++◌, flat_map, drop, if◌then◌else◌, refl, sym, ap, ap₂, ◌∙◌, append_assoc}
use Rattle.std.proofs.lemmas.List.{append-nil, map-append}
use Rattle.std.proofs.lemmas.List.Concat.{flat_map-append}
use Rattle.job_reader.specs.declared.line.Line.{Line}
use Rattle.job_reader.specs.declared.line.Line.TheVariants as line
use Rattle.swan_model.specs.declared.rights.Mode.TheVariants.{InOut, Push, Pop, PushPop}
use Rattle.job_body.specs.Tasks.{TaskSoFar, access_name_of, before_task, made_of, places, root_object_of, root_queue_of, roots, so_far_at, top_lines}
use Rattle.privilege_check.specs.Names.{is_main}
use Rattle.job_body.proofs.RightsNames.{Entry, names}

abbrev pub access_entry : Line → List Entry
access_entry (line.Access mode name k) = (name, mode) ∷ []
access_entry _ = []

abbrev pub made_entry : Line → List Entry
made_entry (line.Queue name k) = (name, PushPop) ∷ []
made_entry (line.Object name k) = (name, InOut) ∷ []
made_entry _ = []

abbrev pub root_queue_entry : Line → List Entry
root_queue_entry (line.Input name) = (name, Pop) ∷ []
root_queue_entry (line.Output name k) = (name, Push) ∷ []
root_queue_entry _ = []

abbrev pub root_object_entry : Line → List Entry
root_object_entry (line.Object name k) = (name, InOut) ∷ []
root_object_entry _ = []

-- what the top level has, and what a task holds of it
abbrev pub root_entries : List Line → List Entry
root_entries top = flat_map root_queue_entry top ++ flat_map root_object_entry top

abbrev pub roots_held : List Line → List ℕ → List Entry
roots_held job name = if is_main name then root_entries (top_lines job) else []

-- what is known in a task, as far as one has read it
abbrev pub entries : List Line → TaskSoFar → List Entry
entries job so_far = roots_held job so_far.name ++ (flat_map access_entry so_far.lines ++ flat_map made_entry so_far.lines)

-- What an activation holds at a line: all that its task takes, also by lines further on, and what it has
-- made so far.
abbrev pub held_with : List Line → TaskSoFar → List Line → List Entry
held_with job so_far rest =
    roots_held job so_far.name ++ ((flat_map access_entry so_far.lines ++ flat_map access_entry (before_task rest)) ++ flat_map made_entry so_far.lines)

abbrev pub held_at : List Line → ℕ → List Entry
held_at job i = held_with job (so_far_at job i) (drop i job)

-- ---- the names are the places

names-access : (lines : List Line) → names (flat_map access_entry lines) ≡ flat_map access_name_of lines
names-access [] = refl
names-access (line.Access mode name k ∷ lines) = ap (λ ns. name ∷ ns) (names-access lines)
names-access (line ∷ lines) = names-access lines

names-made : (lines : List Line) → names (flat_map made_entry lines) ≡ flat_map made_of lines
names-made [] = refl
names-made (line.Queue name k ∷ lines) = ap (λ ns. name ∷ ns) (names-made lines)
names-made (line.Object name k ∷ lines) = ap (λ ns. name ∷ ns) (names-made lines)
names-made (line ∷ lines) = names-made lines

names-queues : (lines : List Line) → names (flat_map root_queue_entry lines) ≡ flat_map root_queue_of lines
names-queues [] = refl
names-queues (line.Input name ∷ lines) = ap (λ ns. name ∷ ns) (names-queues lines)
names-queues (line.Output name k ∷ lines) = ap (λ ns. name ∷ ns) (names-queues lines)
names-queues (line ∷ lines) = names-queues lines

names-objects : (lines : List Line) → names (flat_map root_object_entry lines) ≡ flat_map root_object_of lines
names-objects [] = refl
names-objects (line.Object name k ∷ lines) = ap (λ ns. name ∷ ns) (names-objects lines)
names-objects (line ∷ lines) = names-objects lines

names-roots : (top : List Line) → names (root_entries top) ≡ roots top
names-roots top =
    map-append (λ entry. entry.0) (flat_map root_queue_entry top) (flat_map root_object_entry top)
    ∙ ap₂ (λ a b. a ++ b) (names-queues top) (names-objects top)

names-held : (job : List Line) (b : Bool) → names (if b then root_entries (top_lines job) else []) ≡ (if b then roots (top_lines job) else [])
names-held job true = names-roots (top_lines job)
names-held job false = refl

pub names-entries : (job : List Line) (so_far : TaskSoFar) → names (entries job so_far) ≡ places job so_far
names-entries job so_far =
    map-append (λ entry. entry.0) (roots_held job so_far.name) (flat_map access_entry so_far.lines ++ flat_map made_entry so_far.lines)
    ∙ ap₂ (λ a b. a ++ b) (names-held job (is_main so_far.name))
    (map-append (λ entry. entry.0) (flat_map access_entry so_far.lines) (flat_map made_entry so_far.lines)
    ∙ ap₂ (λ a b. a ++ b) (names-access so_far.lines) (names-made so_far.lines))

-- ---- one line more

pub flat-more : (f : Line → List Entry) (lines : List Line) (line : Line) → flat_map f (lines ++ line ∷ []) ≡ flat_map f lines ++ f line
flat-more f lines line = flat_map-append f lines (line ∷ []) ∙ ap (λ es. flat_map f lines ++ es) (append-nil (f line))

pub entries-more : (job : List Line) (so_far : TaskSoFar) (line : Line) → entries job (record { name = so_far.name; lines = so_far.lines ++ line ∷ [] }) ≡ roots_held job so_far.name ++ ((flat_map access_entry so_far.lines ++ access_entry line) ++ (flat_map made_entry so_far.lines ++ made_entry line))
entries-more job so_far line =
    ap₂ (λ a m. roots_held job so_far.name ++ (a ++ m)) (flat-more access_entry so_far.lines line) (flat-more made_entry so_far.lines line)

pub root_entries-more : (lines : List Line) (line : Line) → root_entries (lines ++ line ∷ []) ≡ (flat_map root_queue_entry lines ++ root_queue_entry line) ++ (flat_map root_object_entry lines ++ root_object_entry line)
root_entries-more lines line =
    ap₂ (λ a b. a ++ b) (flat-more root_queue_entry lines line) (flat-more root_object_entry lines line)

-- where entries go when one is added
pub access-between : (first second third : List Entry) (entry : Entry) → first ++ ((second ++ entry ∷ []) ++ (third ++ [])) ≡ (first ++ second) ++ entry ∷ third
access-between first second third entry =
    ap (λ es. first ++ ((second ++ entry ∷ []) ++ es)) (append-nil third)
    ∙ ap (λ es. first ++ es) (append_assoc second (entry ∷ []) third)
    ∙ sym (append_assoc first second (entry ∷ third))

pub made-between : (first second third : List Entry) (entry : Entry) → first ++ ((second ++ []) ++ (third ++ entry ∷ [])) ≡ (first ++ (second ++ third)) ++ entry ∷ []
made-between first second third entry =
    ap (λ es. first ++ (es ++ (third ++ entry ∷ []))) (append-nil second)
    ∙ ap (λ es. first ++ es) (sym (append_assoc second third (entry ∷ [])))
    ∙ sym (append_assoc first (second ++ third) (entry ∷ []))

pub none-between : (first second third : List Entry) → first ++ ((second ++ []) ++ (third ++ [])) ≡ first ++ (second ++ third)
none-between first second third =
    ap₂ (λ a b. first ++ (a ++ b)) (append-nil second) (append-nil third)
