-- What is read is a job.
use Rattle.std.proofs.Common.{◌≡◌, ℕ, ◌+◌, ◌<◌, ◌≤◌, Bool, true, false, cond, List, [], ◌∷◌, length, Option, Some, None, Result, Ok, Err, refl, sym, ap, subst, ◌∙◌, ⊎_elim, arith, lit≤}
use Rattle.std.specs.Prelude.{◌==◌, ◌&&◌, ◌||◌, not, nat_le, nat_lt, bytes_eq, codes}
use Rattle.std.proofs.lemmas.Bool.{cond-true, cond-false, cases_Bool, false≢true, or_parts, and_parts, eqb-false, both_ways, ltb-false, lt-ltb, leb-false, not-true, not-false, and_cases}
use Rattle.swan_model.specs.Lines.{lines}
use Rattle.job_reader.specs.CanonicalText.{text_of}
use Rattle.job_reader.specs.Faults.{◌>>=◌}
use Rattle.job_reader.specs.FirstFault.{balanced, is_nothing, is_one_too_many, is_stray_else, edition_after, is_unbalanced, job_from, job_of, job_of_lines, line_alone, line_at, opens_block}
use Rattle.job_reader.specs.Jobs.{IsJob, IsPlaced, edition_of, may_stand}
use Rattle.job_reader.specs.LineShape.{caught_form, do_form, form, formed, headed, header, is_assignment, is_first, is_note, or_bad_line, name_and_atom, name_and_kind, nothing, one_atom, one_name, spawned, two_names, outside_form, shape, task_form, top_form}
use Rattle.job_reader.specs.Positions.{after, is_open}
use Rattle.job_reader.specs.Tokens.{tokens, trimmed}
use Rattle.job_reader.specs.declared.fault.JobKind.{JobKind}
use Rattle.job_reader.specs.declared.fault.JobKind.TheVariants as kind
use Rattle.job_reader.specs.declared.job.TheConstants.{JOB_LINES_MOST}
use Rattle.job_reader.specs.declared.line.Edition.{Edition}
use Rattle.job_reader.specs.declared.line.Edition.TheVariants as edition
use Rattle.job_reader.specs.declared.line.Line.{Line}
use Rattle.job_reader.specs.declared.line.Line.TheVariants as line
use Rattle.job_reader.specs.declared.position.Position.{Position}
use Rattle.job_reader.specs.declared.position.Position.TheVariants.{First, Top, InTask, InDo, Outside}
use Rattle.job_reader.specs.declared.read.TheConstants.{LINE_MOST}
use Rattle.swan_model.specs.declared.rights.Mode.TheVariants as mode
use Rattle.swan_model.specs.declared.value.Kind.{Kind}
use Rattle.job_reader.specs.Atoms.{atoms, name}
use Rattle.job_reader.specs.Faults.{both}
use Rattle.job_reader.specs.LineShape.{after_equals, assigned, assignment}
use Rattle.job_reader.specs.Positions.{takes_else}
use Rattle.job_reader.specs.Words.{arity, edition_named, do_named, do_text, do_words, op_named, task_named, top_named, top_text, top_words}
use Rattle.job_reader.specs.declared.block.Block.{Block}
use Rattle.job_reader.specs.declared.op.Op.{Op}
use Rattle.job_reader.specs.declared.position.TheConstants.{BLOCKS_MOST}
use Rattle.job_reader.specs.declared.words.DoWord.{DoWord}
use Rattle.job_reader.specs.declared.words.DoWord.TheVariants as step
use Rattle.job_reader.specs.declared.words.TaskWord.{TaskWord}
use Rattle.job_reader.specs.declared.words.TaskWord.TheVariants as task
use Rattle.job_reader.specs.declared.words.TopWord.{TopWord}
use Rattle.job_reader.specs.declared.words.TopWord.TheVariants as top
use Rattle.job_reader.proofs.Canon.{bind_ok, found_text, known_some}
use Rattle.job_reader.proofs.ReadsBack.{kept, reads_back, split, was_read}

-- no line is past the last number
few_lines : (raw : List (List ℕ)) (e : Edition) (number : ℕ) (position : Position) (ls : List Line) → job_from e number position raw ≡ Ok ls → number ≤ JOB_LINES_MOST + 1 → number + length ls ≤ JOB_LINES_MOST + 1
few_lines [] e number position ls is fits = let none : [] ≡ ls = cc in subst (λ l. number + length l ≤ JOB_LINES_MOST + 1) none (omega arith)
few_lines (bytes ∷ more) e number position ls is fits =
    let parts = split e number (is_nothing more) position bytes more ls (line_at e number (is_nothing more) position bytes) refl is in
    let alone = bind_ok (line_alone e number position bytes) (balanced (is_nothing more) position) parts.first parts.read in
    let read = was_read e number position bytes alone.0 alone.1 in
    let limits = or_parts (nat_lt JOB_LINES_MOST number || nat_lt LINE_MOST (length (trimmed bytes))) (is_one_too_many position (tokens (trimmed bytes))) read.1 in
    let numbered : number ≤ JOB_LINES_MOST = ltb-false JOB_LINES_MOST number (or_parts (nat_lt JOB_LINES_MOST number) (nat_lt LINE_MOST (length (trimmed bytes))) limits.0).0 in
    let others = few_lines more (edition_after e parts.first) (number + 1) (after position parts.first) parts.rest parts.others (omega arith) in
    subst (λ l. number + length l ≤ JOB_LINES_MOST + 1) parts.joined (omega arith)

some_lines : (bytes : List ℕ) (more : List (List ℕ)) (e : Edition) (number : ℕ) (position : Position) (ls : List Line) → job_from e number position (bytes ∷ more) ≡ Ok ls → 0 < length ls
some_lines bytes more e number position ls is =
    let parts = split e number (is_nothing more) position bytes more ls (line_at e number (is_nothing more) position bytes) refl is in
    subst (λ l. 0 < length l) parts.joined (omega arith)

-- a line that is made of what was read may stand where each line so made may
made_stands : {A : Type 0} (e : Edition) (position : Position) (reading : Result A JobKind) (make : A → Line) → ((x : A) → may_stand e position (make x) ≡ true) → (l : Line) → (reading >>= λ x. Ok (make x)) ≡ Ok l → may_stand e position l ≡ true
made_stands e position reading make stands l is =
    let found = bind_ok reading (λ x. Ok (make x)) l is in
    let same : make found.0 ≡ l = (let h = found.2 in cc) in
    ap (may_stand e position) (sym same) ∙ stands found.0

bare_stands : (e : Edition) (position : Position) (one : Line) (rest : List (List ℕ)) → may_stand e position one ≡ true → (l : Line) → nothing one rest ≡ Ok l → may_stand e position l ≡ true
bare_stands e position one [] stands l is = let same : one ≡ l = cc in ap (may_stand e position) (sym same) ∙ stands
bare_stands e position one (token ∷ rest) stands l is = cc

-- there is room for one more input where it isn't one too many
room_for_input : (left : ℕ) (first : List ℕ) → first ≡ codes "input" → ((left == 0) && bytes_eq first (codes "input")) ≡ false → nat_lt 0 left ≡ true
room_for_input left first is limit =
    let none : (left == 0) ≡ false = ⊎_elim (λ h. h) (λ (h : bytes_eq first (codes "input") ≡ false). absurd (both_ways _ h (ap (λ t. bytes_eq t (codes "input")) is))) (and_cases (left == 0) (bytes_eq first (codes "input")) limit) in
    let isnt : left ≡ 0 → ⊥ = eqb-false left 0 none in
    lt-ltb 0 left (omega arith)

top_stands : (e : Edition) (left : ℕ) (w : TopWord) (rest : List (List ℕ)) (l : Line) → (top_text w ≡ codes "input" → nat_lt 0 left ≡ true) → top_form w rest ≡ Ok l → may_stand e (Top left) l ≡ true
top_stands e left top.Input rest l room is = made_stands e (Top left) _ (λ n. line.Input n) (λ n. room refl) l is
top_stands e left top.Output rest l room is = made_stands e (Top left) (name_and_kind rest) (λ d. line.Output d.0 d.1) (λ d. refl) l is
top_stands e left top.Object rest l room is = made_stands e (Top left) (name_and_kind rest) (λ d. line.Object d.0 d.1) (λ d. refl) l is
top_stands e left top.Task rest l room is = made_stands e (Top left) _ (λ n. line.Task n) (λ n. refl) l is

outside_stands : (e : Edition) (w : TopWord) (rest : List (List ℕ)) (l : Line) → outside_form w rest ≡ Ok l → may_stand e Outside l ≡ true
outside_stands e top.Task rest l is = made_stands e Outside _ (λ n. line.Task n) (λ n. refl) l is
outside_stands e top.Input rest l is = cc
outside_stands e top.Output rest l is = cc
outside_stands e top.Object rest l is = cc

declared_stands : (e : Edition) (rest : List (List ℕ)) (make : List ℕ × Kind → Line) → ((d : List ℕ × Kind) → may_stand e InTask (make d) ≡ true) → (l : Line) → (name_and_kind rest >>= λ d. Ok (make d)) ≡ Ok l → may_stand e InTask l ≡ true
declared_stands e rest make stands l is = made_stands e InTask (name_and_kind rest) make stands l is

task_stands : (e : Edition) (w : TaskWord) (rest : List (List ℕ)) (l : Line) → task_form w rest ≡ Ok l → may_stand e InTask l ≡ true
task_stands e task.Param rest l is = declared_stands e rest (λ d. line.Param d.0 d.1) (λ d. refl) l is
task_stands e task.In rest l is = declared_stands e rest (λ d. line.Access mode.In d.0 d.1) (λ d. refl) l is
task_stands e task.Out rest l is = declared_stands e rest (λ d. line.Access mode.Out d.0 d.1) (λ d. refl) l is
task_stands e task.InOut rest l is = declared_stands e rest (λ d. line.Access mode.InOut d.0 d.1) (λ d. refl) l is
task_stands e task.Push rest l is = declared_stands e rest (λ d. line.Access mode.Push d.0 d.1) (λ d. refl) l is
task_stands e task.Pop rest l is = declared_stands e rest (λ d. line.Access mode.Pop d.0 d.1) (λ d. refl) l is
task_stands e task.PushPop rest l is = declared_stands e rest (λ d. line.Access mode.PushPop d.0 d.1) (λ d. refl) l is
task_stands e task.Var rest l is = declared_stands e rest (λ d. line.Var d.0 d.1) (λ d. refl) l is
task_stands e task.Queue rest l is = declared_stands e rest (λ d. line.Queue d.0 d.1) (λ d. refl) l is
task_stands e task.Object rest l is = declared_stands e rest (λ d. line.Object d.0 d.1) (λ d. refl) l is
task_stands e task.Do rest l is = bare_stands e InTask line.Do rest refl l is

-- an `else` that isn't stray belongs to an `if`
else_stands : (e : Edition) (blocks : List Block) (rest : List (List ℕ)) (l : Line) → is_stray_else (InDo blocks) l ≡ false → nothing line.Else rest ≡ Ok l → may_stand e (InDo blocks) l ≡ true
else_stands e blocks [] l stray is =
    let same : line.Else ≡ l = cc in
    ap (may_stand e (InDo blocks)) (sym same) ∙ not-false (takes_else blocks) (ap (is_stray_else (InDo blocks)) same ∙ stray)
else_stands e blocks (token ∷ rest) l stray is = cc

caught_stands : (e : Edition) (blocks : List Block) (rest : List (List ℕ)) (l : Line) → caught_form e rest ≡ Ok l → may_stand e (InDo blocks) l ≡ true
caught_stands edition.One blocks rest l is = cc
caught_stands edition.Two blocks rest l is = made_stands edition.Two (InDo blocks) (one_name rest) (λ n. line.Caught n) (λ n. refl) l is

do_stands : (e : Edition) (blocks : List Block) (w : DoWord) (rest : List (List ℕ)) (l : Line) → (opens_block (do_text w) rest ≡ true → nat_lt (length blocks) BLOCKS_MOST ≡ true) → is_assignment rest ≡ false → is_stray_else (InDo blocks) l ≡ false → do_form e w rest ≡ Ok l → may_stand e (InDo blocks) l ≡ true
do_stands e blocks step.Read rest l room not_set stray is = made_stands e (InDo blocks) (two_names rest) (λ p. line.Read p.0 p.1) (λ p. refl) l is
do_stands e blocks step.Write rest l room not_set stray is = made_stands e (InDo blocks) (name_and_atom rest) (λ p. line.Write p.0 p.1) (λ p. refl) l is
do_stands e blocks step.Push rest l room not_set stray is = made_stands e (InDo blocks) (name_and_atom rest) (λ p. line.Push p.0 p.1) (λ p. refl) l is
do_stands e blocks step.Pop rest l room not_set stray is = made_stands e (InDo blocks) (two_names rest) (λ p. line.Pop p.0 p.1) (λ p. refl) l is
do_stands e blocks step.Empty rest l room not_set stray is = made_stands e (InDo blocks) (two_names rest) (λ p. line.Empty p.0 p.1) (λ p. refl) l is
do_stands e blocks step.Spawn rest l room not_set stray is = made_stands e (InDo blocks) (spawned rest) (λ p. line.Spawn p.0 p.1.0 p.1.1) (λ p. refl) l is
do_stands e blocks step.Sync rest l room not_set stray is = bare_stands e (InDo blocks) line.Sync rest refl l is
do_stands e blocks step.Caught rest l room not_set stray is = caught_stands e blocks rest l is
do_stands e blocks step.Fuel rest l room not_set stray is = made_stands e (InDo blocks) (one_name rest) (λ n. line.Fuel n) (λ n. refl) l is
do_stands e blocks step.Fail rest l room not_set stray is = made_stands e (InDo blocks) (one_atom rest) (λ a. line.Fail a) (λ a. refl) l is
do_stands e blocks step.If rest l room not_set stray is = made_stands e (InDo blocks) (one_atom rest) (λ a. line.If a) (λ a. room (ap not not_set)) l is
do_stands e blocks step.Else rest l room not_set stray is = else_stands e blocks rest l stray is
do_stands e blocks step.While rest l room not_set stray is = made_stands e (InDo blocks) (one_atom rest) (λ a. line.While a) (λ a. room (ap not not_set)) l is
do_stands e blocks step.End rest l room not_set stray is = bare_stands e (InDo blocks) line.End rest refl l is

assigned_stands : (e : Edition) (blocks : List Block) (v : List ℕ) (o : Op) (args : List (List ℕ)) (b : Bool) (l : Line) → cond b (both (name v) (atoms args) >>= λ p. Ok (line.Assign p.0 o p.1)) (Err kind.BadLine) ≡ Ok l → may_stand e (InDo blocks) l ≡ true
assigned_stands e blocks v o args true l is = made_stands e (InDo blocks) (both (name v) (atoms args)) (λ p. line.Assign p.0 o p.1) (λ p. refl) l is
assigned_stands e blocks v o args false l is = cc

assignment_stands : (e : Edition) (blocks : List Block) (v : List ℕ) (ts : List (List ℕ)) (l : Line) → assignment v ts ≡ Ok l → may_stand e (InDo blocks) l ≡ true
assignment_stands e blocks v [] l is = cc
assignment_stands e blocks v (o ∷ args) l is =
    let found = bind_ok (or_bad_line (op_named o)) (λ w. assigned v w args) l is in
    assigned_stands e blocks v found.0 args (length args == arity found.0) l found.2

-- there is room for one more block where it isn't one too many
room_for_block : (blocks : List Block) (opens : Bool) → (nat_le BLOCKS_MOST (length blocks) && opens) ≡ false → opens ≡ true → nat_lt (length blocks) BLOCKS_MOST ≡ true
room_for_block blocks opens limit is =
    let few : nat_le BLOCKS_MOST (length blocks) ≡ false = ⊎_elim (λ h. h) (λ (h : opens ≡ false). absurd (both_ways _ h is)) (and_cases (nat_le BLOCKS_MOST (length blocks)) opens limit) in
    lt-ltb (length blocks) BLOCKS_MOST (leb-false BLOCKS_MOST (length blocks) few)

statement_stands : (e : Edition) (blocks : List Block) (first : List ℕ) (rest : List (List ℕ)) (b : Bool) (l : Line) → is_assignment rest ≡ b → (nat_le BLOCKS_MOST (length blocks) && opens_block first rest) ≡ false → is_stray_else (InDo blocks) l ≡ false → cond b (assignment first (after_equals rest)) (or_bad_line (do_named first) >>= λ w. do_form e w rest) ≡ Ok l → may_stand e (InDo blocks) l ≡ true
statement_stands e blocks first rest true l equals limit stray is = assignment_stands e blocks first (after_equals rest) l is
statement_stands e blocks first rest false l equals limit stray is =
    let found = bind_ok (or_bad_line (do_named first)) (λ w. do_form e w rest) l is in
    let word = found_text do_text do_words first found.0 (known_some (do_named first) found.0 found.1) in
    do_stands e blocks found.0 rest l (λ opens. room_for_block blocks (opens_block first rest) limit (ap (λ t. opens_block t rest) word ∙ opens)) equals stray found.2

header_stands : (e : Edition) (ts : List (List ℕ)) (l : Line) → header ts ≡ Ok l → may_stand e First l ≡ true
header_stands e [] l is = cc
header_stands e (a ∷ []) l is = cc
header_stands e (a ∷ b ∷ []) l is = by_test (bytes_eq a (codes "swan")) (edition_named b) is
  where
    by_test : (t : Bool) (found : Option Edition) → cond t (headed found) (Err kind.BadHeader) ≡ Ok l → may_stand e First l ≡ true
    by_test true (Some named) is = let same : line.Header named ≡ l = cc in ap (may_stand e First) (sym same)
    by_test true None is = cc
    by_test false _ is = cc
header_stands e (a ∷ b ∷ c ∷ ts) l is = cc

form_stands : (e : Edition) (position : Position) (first : List ℕ) (rest : List (List ℕ)) (l : Line) → is_one_too_many position (first ∷ rest) ≡ false → is_stray_else position l ≡ false → form e position first rest ≡ Ok l → may_stand e position l ≡ true
form_stands e First first rest l limit stray is = header_stands e (first ∷ rest) l is
form_stands e (Top left) first rest l limit stray is =
    let found = bind_ok (or_bad_line (top_named first)) (λ w. top_form w rest) l is in
    let word = found_text top_text top_words first found.0 (known_some (top_named first) found.0 found.1) in
    top_stands e left found.0 rest l (λ input. room_for_input left first (word ∙ input) limit) found.2
form_stands e InTask first rest l limit stray is =
    let found = bind_ok (or_bad_line (task_named first)) (λ w. task_form w rest) l is in
    task_stands e found.0 rest l found.2
form_stands e (InDo blocks) first rest l limit stray is = statement_stands e blocks first rest (is_assignment rest) l refl limit stray is
form_stands e Outside first rest l limit stray is =
    let found = bind_ok (or_bad_line (top_named first)) (λ w. outside_form w rest) l is in
    outside_stands e found.0 rest l found.2

formed_stands : (e : Edition) (position : Position) (ts : List (List ℕ)) (l : Line) → is_one_too_many position ts ≡ false → is_stray_else position l ≡ false → formed e position ts ≡ Ok l → may_stand e position l ≡ true
formed_stands e position [] l limit stray is = cc
formed_stands e position (first ∷ rest) l limit stray is = form_stands e position first rest l limit stray is

note_stands : (e : Edition) (position : Position) (text : List ℕ) → is_first position ≡ false → may_stand e position (line.Note text) ≡ true
note_stands e First text isnt = cc
note_stands e (Top left) text isnt = refl
note_stands e InTask text isnt = refl
note_stands e (InDo blocks) text isnt = refl
note_stands e Outside text isnt = refl

shape_stands : (e : Edition) (position : Position) (text : List ℕ) (l : Line) → is_one_too_many position (tokens text) ≡ false → is_stray_else position l ≡ false → shape e position text ≡ Ok l → may_stand e position l ≡ true
shape_stands e position text l limit stray is =
    ⊎_elim
    (λ (note : (is_note text && not (is_first position)) ≡ true).
    let made : Ok (line.Note text) ≡ Ok l = sym (cond-true (is_note text && not (is_first position)) _ _ note) ∙ is in
    let same : line.Note text ≡ l = cc in
    ap (may_stand e position) (sym same) ∙ note_stands e position text (not-true (is_first position) (and_parts (is_note text) (not (is_first position)) note).1))
    (λ (isnt : (is_note text && not (is_first position)) ≡ false).
    formed_stands e position (tokens text) l limit stray (sym (cond-false (is_note text && not (is_first position)) _ _ isnt) ∙ is))
    (cases_Bool (is_note text && not (is_first position)))

-- what a balanced line says
in_balance : (last : Bool) (position : Position) (l m : Line) → balanced last position l ≡ Ok m → is_unbalanced last position l ≡ false
in_balance last position l m is = by_test (is_unbalanced last position l) is
  where
    by_test : (b : Bool) → cond b (Err kind.Unbalanced) (Ok l) ≡ Ok m → b ≡ false
    by_test true is = cc
    by_test false is = refl

-- a line that was read may stand where it is, and the last one leaves no task open
line_stands : (e : Edition) (number : ℕ) (last : Bool) (position : Position) (bytes : List ℕ) (l : Line) → line_at e number last position bytes ≡ Ok l → (may_stand e position l ≡ true) × ((last && is_open (after position l)) ≡ false)
line_stands e number last position bytes l is =
    let alone = bind_ok (line_alone e number position bytes) (balanced last position) l is in
    let same = kept last position alone.0 l alone.2 in
    let read = was_read e number position bytes alone.0 alone.1 in
    let limits = or_parts (nat_lt JOB_LINES_MOST number || nat_lt LINE_MOST (length (trimmed bytes))) (is_one_too_many position (tokens (trimmed bytes))) read.1 in
    let balance = or_parts (is_stray_else position alone.0) (last && is_open (after position alone.0)) (in_balance last position alone.0 l alone.2) in
    (ap (may_stand e position) (sym same) ∙ shape_stands e position (trimmed bytes) alone.0 limits.1 balance.0 read.2, ap (λ x. last && is_open (after position x)) (sym same) ∙ balance.1)

-- where nothing follows, no task is open
then_closed : (last left : Bool) → (last && left) ≡ false → last ≡ true → left ≡ false
then_closed last left is none = cc

-- the first line names the edition, and no later line does
one_edition : (e : Edition) (position : Position) (l : Line) → may_stand e position l ≡ true → is_first position ≡ false → edition_after e l ≡ e
one_edition e position l stands isnt = grind arith

later : (position : Position) (l : Line) → is_first (after position l) ≡ false
later position l = grind arith

placed_from : (raw : List (List ℕ)) (e : Edition) (number : ℕ) (position : Position) (ls : List Line) → job_from e number position raw ≡ Ok ls → is_first position ≡ false → (is_nothing raw ≡ true → is_open position ≡ false) → IsPlaced e position ls
placed_from [] e number position ls is isnt closed = let none : [] ≡ ls = cc in subst (IsPlaced e position) none (closed refl)
placed_from (bytes ∷ more) e number position ls is isnt closed =
    let parts = split e number (is_nothing more) position bytes more ls (line_at e number (is_nothing more) position bytes) refl is in
    let stands = line_stands e number (is_nothing more) position bytes parts.first parts.read in
    let edition = one_edition e position parts.first stands.0 isnt in
    let others : job_from e (number + 1) (after position parts.first) more ≡ Ok parts.rest = ap (λ x. job_from x (number + 1) (after position parts.first) more) (sym edition) ∙ parts.others in
    subst (IsPlaced e position) parts.joined (stands.0, placed_from more e (number + 1) (after position parts.first) parts.rest others (later position parts.first) (then_closed (is_nothing more) (is_open (after position parts.first)) stands.1))

headed_by : (l : Line) (rest : List Line) → may_stand edition.One First l ≡ true → IsPlaced (edition_after edition.One l) (after First l) rest → IsPlaced (edition_of (l ∷ rest)) First (l ∷ rest)
headed_by (line.Header named) rest stands placed = (refl, placed)
headed_by _ rest stands placed = absurd (false≢true stands)

job_of_raw : (raw : List (List ℕ)) (job : List Line) → job_of_lines raw ≡ Ok job → job_of (text_of job) ≡ Ok job → IsJob job
job_of_raw [] job is back = cc
job_of_raw (bytes ∷ more) job is back =
    let parts = split edition.One 1 (is_nothing more) First bytes more job (line_at edition.One 1 (is_nothing more) First bytes) refl is in
    let stands = line_stands edition.One 1 (is_nothing more) First bytes parts.first parts.read in
    let others = placed_from more (edition_after edition.One parts.first) 2 (after First parts.first) parts.rest parts.others refl (λ none. refl) in
    record {
      reads_back = back;
      some = some_lines bytes more edition.One 1 First job is;
      most = (let few = few_lines (bytes ∷ more) edition.One 1 First job is (lit≤ tt) in omega arith);
      placed = subst (λ ls. IsPlaced (edition_of ls) First ls) parts.joined (headed_by parts.first parts.rest stands.0 others);
    }

-- what a text reads as is a job
pub is_job : (text : List ℕ) (job : List Line) → job_of text ≡ Ok job → IsJob job
is_job text job is = job_of_raw (lines text) job is (reads_back text job is)
