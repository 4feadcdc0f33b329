-- A line is written as the canonical tokens of its text.
use Rattle.std.proofs.Common.{◌≡◌, ℕ, Bool, true, false, cond, List, [], ◌∷◌, length, Option, Some, None, Result, Ok, Err, refl, sym, ap, ◌∙◌}
use Rattle.std.specs.Prelude.{◌==◌, ◌&&◌, map, bytes_eq, codes}
use Rattle.std.specs.List.{list_all}
use Rattle.std.proofs.lemmas.Bool.{and_from}
use Rattle.std.proofs.lemmas.Slice.Eq.{bytes_eq-Decides}
use Rattle.swan_model.specs.declared.rights.Mode.TheVariants as mode
use Rattle.swan_model.specs.declared.value.Kind.{Kind}
use Rattle.job_reader.specs.Atoms.{atom, atoms, name}
use Rattle.job_reader.specs.CanonicalText.{atom_text, line_tokens}
use Rattle.job_reader.specs.Faults.{both, ◌>>=◌}
use Rattle.job_reader.specs.LineShape.{after_equals, assigned, assignment, caught_form, do_form, form, formed, headed, header, is_assignment, or_bad_line, name_and_atom, name_and_kind, nothing, one_atom, one_name, outside_form, spawned, task_form, top_form, two_names}
use Rattle.job_reader.specs.Words.{arity, do_named, do_text, edition_named, edition_text, editions, kind_named, kind_text, op_named, op_text, ops, do_words, task_named, task_text, task_words, top_named, top_text, top_words}
use Rattle.job_reader.specs.declared.atom.Atom.{Atom}
use Rattle.job_reader.specs.declared.fault.JobKind.{JobKind}
use Rattle.job_reader.specs.declared.fault.JobKind.TheVariants as kind
use Rattle.job_reader.specs.declared.line.Edition.{Edition}
use Rattle.job_reader.specs.declared.line.Edition.TheVariants as edition
use Rattle.job_reader.specs.declared.line.Line.{Line}
use Rattle.job_reader.specs.declared.line.Line.TheVariants as line
use Rattle.job_reader.specs.declared.op.Op.{Op}
use Rattle.job_reader.specs.declared.op.Op.TheVariants as op
use Rattle.job_reader.specs.declared.position.Position.{Position}
use Rattle.job_reader.specs.declared.position.Position.TheVariants.{First, Top, InTask, InDo, Outside}
use Rattle.job_reader.specs.declared.words.DoWord.{DoWord}
use Rattle.job_reader.specs.declared.words.DoWord.TheVariants as step
use Rattle.job_reader.specs.declared.words.TaskWord.{TaskWord}
use Rattle.job_reader.specs.declared.words.TaskWord.TheVariants as task
use Rattle.job_reader.specs.declared.words.TopWord.{TopWord}
use Rattle.job_reader.specs.declared.words.TopWord.TheVariants as top
use Rattle.job_reader.proofs.Canon.{Written, atom_canon, atoms_canon, bind_ok, both_ok, canon, found_text, is_fine, kind_canon, known_some, name_canon}

one_written : (token text : List ℕ) → (text ≡ canon token) × (is_fine token ≡ true) → Written (token ∷ []) (text ∷ [])
one_written token text is = (ap (λ t. t ∷ []) (sym is.0), and_from (is_fine token) true is.1 refl)

two_written : (a b s t : List ℕ) → (s ≡ canon a) × (is_fine a ≡ true) → (t ≡ canon b) × (is_fine b ≡ true) → Written (a ∷ b ∷ []) (s ∷ t ∷ [])
two_written a b s t first second =
    (ap (λ x. x ∷ canon b ∷ []) (sym first.0) ∙ ap (λ x. s ∷ x ∷ []) (sym second.0), and_from (is_fine a) (is_fine b && true) first.1 (and_from (is_fine b) true second.1 refl))

one_name_written : (rest : List (List ℕ)) (n : List ℕ) → one_name rest ≡ Ok n → Written rest (n ∷ [])
one_name_written [] n is = cc
one_name_written (token ∷ []) n is = one_written token n (name_canon token n is)
one_name_written (token ∷ other ∷ rest) n is = cc

one_atom_written : (rest : List (List ℕ)) (a : Atom) → one_atom rest ≡ Ok a → Written rest (atom_text a ∷ [])
one_atom_written [] a is = cc
one_atom_written (token ∷ []) a is = one_written token (atom_text a) (atom_canon token a is)
one_atom_written (token ∷ other ∷ rest) a is = cc

name_and_kind_written : (rest : List (List ℕ)) (d : List ℕ × Kind) → name_and_kind rest ≡ Ok d → Written rest (d.0 ∷ kind_text d.1 ∷ [])
name_and_kind_written [] d is = cc
name_and_kind_written (a ∷ []) d is = cc
name_and_kind_written (a ∷ b ∷ []) d is =
    let parts = both_ok (name a) (or_bad_line (kind_named b)) d is in
    two_written a b d.0 (kind_text d.1) (name_canon a d.0 parts.0) (kind_canon b d.1 parts.1)
name_and_kind_written (a ∷ b ∷ c ∷ rest) d is = cc

two_names_written : (rest : List (List ℕ)) (p : List ℕ × List ℕ) → two_names rest ≡ Ok p → Written rest (p.0 ∷ p.1 ∷ [])
two_names_written [] p is = cc
two_names_written (a ∷ []) p is = cc
two_names_written (a ∷ b ∷ []) p is =
    let parts = both_ok (name a) (name b) p is in
    two_written a b p.0 p.1 (name_canon a p.0 parts.0) (name_canon b p.1 parts.1)
two_names_written (a ∷ b ∷ c ∷ rest) p is = cc

name_and_atom_written : (rest : List (List ℕ)) (p : List ℕ × Atom) → name_and_atom rest ≡ Ok p → Written rest (p.0 ∷ atom_text p.1 ∷ [])
name_and_atom_written [] p is = cc
name_and_atom_written (a ∷ []) p is = cc
name_and_atom_written (a ∷ b ∷ []) p is =
    let parts = both_ok (name a) (atom b) p is in
    two_written a b p.0 (atom_text p.1) (name_canon a p.0 parts.0) (atom_canon b p.1 parts.1)
name_and_atom_written (a ∷ b ∷ c ∷ rest) p is = cc

spawned_written : (rest : List (List ℕ)) (p : Atom × (List ℕ × List Atom)) → spawned rest ≡ Ok p → Written rest (atom_text p.0 ∷ p.1.0 ∷ map atom_text p.1.1)
spawned_written [] p is = cc
spawned_written (a ∷ []) p is = cc
spawned_written (a ∷ b ∷ given) p is =
    let parts = both_ok (atom a) (both (name b) (atoms given)) p is in
    let others = both_ok (name b) (atoms given) p.1 parts.1 in
    let first = atom_canon a p.0 parts.0 in
    let second = name_canon b p.1.0 others.0 in
    let more = atoms_canon given p.1.1 others.1 in (
      ap (λ x. x ∷ canon b ∷ map canon given) (sym first.0) ∙ ap (λ x. atom_text p.0 ∷ x ∷ map canon given) (sym second.0) ∙ ap (λ x. atom_text p.0 ∷ p.1.0 ∷ x) more.0,
      and_from (is_fine a) (is_fine b && list_all is_fine given) first.1 (and_from (is_fine b) (list_all is_fine given) second.1 more.1),
    )

-- the line is written as its first word and the other tokens
abbrev pub LineIs : Line → List ℕ → List (List ℕ) → Type 0
LineIs line word rest = (line_tokens line ≡ word ∷ map canon rest) × (list_all is_fine rest ≡ true)

-- a line that is made of what was read of the other tokens
made : {A : Type 0} (rest : List (List ℕ)) (reading : Result A JobKind) (make : A → Line) (text : A → List (List ℕ)) (word : List ℕ) → ((x : A) → reading ≡ Ok x → Written rest (text x)) → ((x : A) → line_tokens (make x) ≡ word ∷ text x) → (l : Line) → (reading >>= λ x. Ok (make x)) ≡ Ok l → LineIs l word rest
made rest reading make text word written so l is =
    let found = bind_ok reading (λ x. Ok (make x)) l is in
    let same : make found.0 ≡ l = (let h = found.2 in cc) in
    let tokens = written found.0 found.1 in
    (sym (ap line_tokens same) ∙ so found.0 ∙ ap (λ ts. word ∷ ts) (sym tokens.0), tokens.1)

bare : (rest : List (List ℕ)) (one : Line) (word : List ℕ) → line_tokens one ≡ word ∷ [] → (l : Line) → nothing one rest ≡ Ok l → LineIs l word rest
bare [] one word so l is = let same : one ≡ l = cc in (sym (ap line_tokens same) ∙ so, refl)
bare (token ∷ rest) one word so l is = cc

top_written : (w : TopWord) (rest : List (List ℕ)) (l : Line) → top_form w rest ≡ Ok l → LineIs l (top_text w) rest
top_written top.Input rest l is = made rest (one_name rest) (λ n. line.Input n) (λ n. n ∷ []) (codes "input") (one_name_written rest) (λ n. refl) l is
top_written top.Output rest l is = made rest (name_and_kind rest) (λ d. line.Output d.0 d.1) (λ d. d.0 ∷ kind_text d.1 ∷ []) (codes "output") (name_and_kind_written rest) (λ d. refl) l is
top_written top.Object rest l is = made rest (name_and_kind rest) (λ d. line.Object d.0 d.1) (λ d. d.0 ∷ kind_text d.1 ∷ []) (codes "object") (name_and_kind_written rest) (λ d. refl) l is
top_written top.Task rest l is = made rest (one_name rest) (λ n. line.Task n) (λ n. n ∷ []) (codes "task") (one_name_written rest) (λ n. refl) l is

outside_written : (w : TopWord) (rest : List (List ℕ)) (l : Line) → outside_form w rest ≡ Ok l → LineIs l (top_text w) rest
outside_written top.Task rest l is = top_written top.Task rest l is
outside_written top.Input rest l is = cc
outside_written top.Output rest l is = cc
outside_written top.Object rest l is = cc

declared : (rest : List (List ℕ)) (make : List ℕ × Kind → Line) (word : List ℕ) → ((d : List ℕ × Kind) → line_tokens (make d) ≡ word ∷ d.0 ∷ kind_text d.1 ∷ []) → (l : Line) → (name_and_kind rest >>= λ d. Ok (make d)) ≡ Ok l → LineIs l word rest
declared rest make word so l is = made rest (name_and_kind rest) make (λ d. d.0 ∷ kind_text d.1 ∷ []) word (name_and_kind_written rest) so l is

task_written : (w : TaskWord) (rest : List (List ℕ)) (l : Line) → task_form w rest ≡ Ok l → LineIs l (task_text w) rest
task_written task.Param rest l is = declared rest (λ d. line.Param d.0 d.1) (codes "param") (λ d. refl) l is
task_written task.In rest l is = declared rest (λ d. line.Access mode.In d.0 d.1) (codes "in") (λ d. refl) l is
task_written task.Out rest l is = declared rest (λ d. line.Access mode.Out d.0 d.1) (codes "out") (λ d. refl) l is
task_written task.InOut rest l is = declared rest (λ d. line.Access mode.InOut d.0 d.1) (codes "inout") (λ d. refl) l is
task_written task.Push rest l is = declared rest (λ d. line.Access mode.Push d.0 d.1) (codes "push") (λ d. refl) l is
task_written task.Pop rest l is = declared rest (λ d. line.Access mode.Pop d.0 d.1) (codes "pop") (λ d. refl) l is
task_written task.PushPop rest l is = declared rest (λ d. line.Access mode.PushPop d.0 d.1) (codes "pushpop") (λ d. refl) l is
task_written task.Var rest l is = declared rest (λ d. line.Var d.0 d.1) (codes "var") (λ d. refl) l is
task_written task.Queue rest l is = declared rest (λ d. line.Queue d.0 d.1) (codes "queue") (λ d. refl) l is
task_written task.Object rest l is = declared rest (λ d. line.Object d.0 d.1) (codes "object") (λ d. refl) l is
task_written task.Do rest l is = bare rest line.Do (codes "do") refl l is

paired : (rest : List (List ℕ)) (make : List ℕ × List ℕ → Line) (word : List ℕ) → ((p : List ℕ × List ℕ) → line_tokens (make p) ≡ word ∷ p.0 ∷ p.1 ∷ []) → (l : Line) → (two_names rest >>= λ p. Ok (make p)) ≡ Ok l → LineIs l word rest
paired rest make word so l is = made rest (two_names rest) make (λ p. p.0 ∷ p.1 ∷ []) word (two_names_written rest) so l is

given : (rest : List (List ℕ)) (make : List ℕ × Atom → Line) (word : List ℕ) → ((p : List ℕ × Atom) → line_tokens (make p) ≡ word ∷ p.0 ∷ atom_text p.1 ∷ []) → (l : Line) → (name_and_atom rest >>= λ p. Ok (make p)) ≡ Ok l → LineIs l word rest
given rest make word so l is = made rest (name_and_atom rest) make (λ p. p.0 ∷ atom_text p.1 ∷ []) word (name_and_atom_written rest) so l is

valued : (rest : List (List ℕ)) (make : Atom → Line) (word : List ℕ) → ((a : Atom) → line_tokens (make a) ≡ word ∷ atom_text a ∷ []) → (l : Line) → (one_atom rest >>= λ a. Ok (make a)) ≡ Ok l → LineIs l word rest
valued rest make word so l is = made rest (one_atom rest) make (λ a. atom_text a ∷ []) word (one_atom_written rest) so l is

caught_written : (e : Edition) (rest : List (List ℕ)) (l : Line) → caught_form e rest ≡ Ok l → LineIs l (codes "caught") rest
caught_written edition.One rest l is = cc
caught_written edition.Two rest l is = made rest (one_name rest) (λ n. line.Caught n) (λ n. n ∷ []) (codes "caught") (one_name_written rest) (λ n. refl) l is

do_written : (e : Edition) (w : DoWord) (rest : List (List ℕ)) (l : Line) → do_form e w rest ≡ Ok l → LineIs l (do_text w) rest
do_written e step.Read rest l is = paired rest (λ p. line.Read p.0 p.1) (codes "read") (λ p. refl) l is
do_written e step.Write rest l is = given rest (λ p. line.Write p.0 p.1) (codes "write") (λ p. refl) l is
do_written e step.Push rest l is = given rest (λ p. line.Push p.0 p.1) (codes "push") (λ p. refl) l is
do_written e step.Pop rest l is = paired rest (λ p. line.Pop p.0 p.1) (codes "pop") (λ p. refl) l is
do_written e step.Empty rest l is = paired rest (λ p. line.Empty p.0 p.1) (codes "empty") (λ p. refl) l is
do_written e step.Spawn rest l is = made rest (spawned rest) (λ p. line.Spawn p.0 p.1.0 p.1.1) (λ p. atom_text p.0 ∷ p.1.0 ∷ map atom_text p.1.1) (codes "spawn") (spawned_written rest) (λ p. refl) l is
do_written e step.Sync rest l is = bare rest line.Sync (codes "sync") refl l is
do_written e step.Caught rest l is = caught_written e rest l is
do_written e step.Fuel rest l is = made rest (one_name rest) (λ n. line.Fuel n) (λ n. n ∷ []) (codes "fuel") (one_name_written rest) (λ n. refl) l is
do_written e step.Fail rest l is = valued rest (λ a. line.Fail a) (codes "fail") (λ a. refl) l is
do_written e step.If rest l is = valued rest (λ a. line.If a) (codes "if") (λ a. refl) l is
do_written e step.Else rest l is = bare rest line.Else (codes "else") refl l is
do_written e step.While rest l is = valued rest (λ a. line.While a) (codes "while") (λ a. refl) l is
do_written e step.End rest l is = bare rest line.End (codes "end") refl l is

-- a word is its own canonical token
abbrev Stays : List ℕ → Type 0
Stays word = (canon word ≡ word) × (is_fine word ≡ true)

edition_stays : (e : Edition) → Stays (edition_text e)
edition_stays edition.One = (refl, refl)
edition_stays edition.Two = (refl, refl)

top_stays : (w : TopWord) → Stays (top_text w)
top_stays top.Input = (refl, refl)
top_stays top.Output = (refl, refl)
top_stays top.Object = (refl, refl)
top_stays top.Task = (refl, refl)

task_stays : (w : TaskWord) → Stays (task_text w)
task_stays task.Param = (refl, refl)
task_stays task.In = (refl, refl)
task_stays task.Out = (refl, refl)
task_stays task.InOut = (refl, refl)
task_stays task.Push = (refl, refl)
task_stays task.Pop = (refl, refl)
task_stays task.PushPop = (refl, refl)
task_stays task.Var = (refl, refl)
task_stays task.Queue = (refl, refl)
task_stays task.Object = (refl, refl)
task_stays task.Do = (refl, refl)

do_stays : (w : DoWord) → Stays (do_text w)
do_stays step.Read = (refl, refl)
do_stays step.Write = (refl, refl)
do_stays step.Push = (refl, refl)
do_stays step.Pop = (refl, refl)
do_stays step.Empty = (refl, refl)
do_stays step.Spawn = (refl, refl)
do_stays step.Sync = (refl, refl)
do_stays step.Caught = (refl, refl)
do_stays step.Fuel = (refl, refl)
do_stays step.Fail = (refl, refl)
do_stays step.If = (refl, refl)
do_stays step.Else = (refl, refl)
do_stays step.While = (refl, refl)
do_stays step.End = (refl, refl)

op_stays : (w : Op) → Stays (op_text w)
op_stays op.Set = (refl, refl)
op_stays op.Add = (refl, refl)
op_stays op.Sub = (refl, refl)
op_stays op.Mul = (refl, refl)
op_stays op.Div = (refl, refl)
op_stays op.Rem = (refl, refl)
op_stays op.Lt = (refl, refl)
op_stays op.Le = (refl, refl)
op_stays op.Eq = (refl, refl)
op_stays op.And = (refl, refl)
op_stays op.Or = (refl, refl)
op_stays op.Not = (refl, refl)
op_stays op.Len = (refl, refl)
op_stays op.At = (refl, refl)
op_stays op.Slice = (refl, refl)
op_stays op.Cat = (refl, refl)
op_stays op.Find = (refl, refl)
op_stays op.Num = (refl, refl)
op_stays op.Text = (refl, refl)

-- the line is written as the canonical tokens of its text
abbrev pub IsWritten : Line → List (List ℕ) → Type 0
IsWritten line tokens = (line_tokens line ≡ map canon tokens) × (list_all is_fine tokens ≡ true)

worded : (first word : List ℕ) (rest : List (List ℕ)) (l : Line) → first ≡ word → Stays word → LineIs l word rest → IsWritten l (first ∷ rest)
worded first word rest l is stays line = (
  line.0 ∙ ap (λ w. w ∷ map canon rest) (sym stays.0 ∙ ap canon (sym is)),
  and_from (is_fine first) (list_all is_fine rest) (ap is_fine is ∙ stays.1) line.1,
)

header_test : (first second : List ℕ) (b : Bool) (found : Option Edition) (l : Line) → bytes_eq first (codes "swan") ≡ b → edition_named second ≡ found → cond b (headed found) (Err kind.BadHeader) ≡ Ok l → IsWritten l (first ∷ second ∷ [])
header_test first second true (Some e) l b c is =
    let same : line.Header e ≡ l = cc in
    let number = found_text edition_text editions second e c in
    let stays = edition_stays e in
    worded first (codes "swan") (second ∷ []) l ((bytes_eq-Decides first (codes "swan")).0 b) (refl, refl) (
      sym (ap line_tokens same) ∙ ap (λ t. codes "swan" ∷ t ∷ []) (sym stays.0 ∙ ap canon (sym number)),
      and_from (is_fine second) true (ap is_fine number ∙ stays.1) refl,
    )
header_test first second true None l b c is = cc
header_test first second false _ l b c is = cc

header_written : (tokens : List (List ℕ)) (l : Line) → header tokens ≡ Ok l → IsWritten l tokens
header_written [] l is = cc
header_written (first ∷ []) l is = cc
header_written (first ∷ second ∷ []) l is = header_test first second (bytes_eq first (codes "swan")) (edition_named second) l refl refl is
header_written (first ∷ second ∷ third ∷ rest) l is = cc

assigned_written : (v : List ℕ) (o : Op) (args : List (List ℕ)) (b : Bool) (l : Line) → cond b (both (name v) (atoms args) >>= λ p. Ok (line.Assign p.0 o p.1)) (Err kind.BadLine) ≡ Ok l → (line_tokens l ≡ canon v ∷ codes "=" ∷ op_text o ∷ map canon args) × (is_fine v ≡ true) × (list_all is_fine args ≡ true)
assigned_written v o args true l is =
    let found = bind_ok (both (name v) (atoms args)) (λ p. Ok (line.Assign p.0 o p.1)) l is in
    let same : line.Assign found.0.0 o found.0.1 ≡ l = (let h = found.2 in cc) in
    let parts = both_ok (name v) (atoms args) found.0 found.1 in
    let variable = name_canon v found.0.0 parts.0 in
    let more = atoms_canon args found.0.1 parts.1 in
    (sym (ap line_tokens same) ∙ ap (λ n. n ∷ codes "=" ∷ op_text o ∷ map atom_text found.0.1) variable.0 ∙ ap (λ ts. canon v ∷ codes "=" ∷ op_text o ∷ ts) (sym more.0), variable.1, more.1)
assigned_written v o args false l is = cc

assignment_written : (v : List ℕ) (rest : List (List ℕ)) (l : Line) → is_assignment rest ≡ true → assignment v (after_equals rest) ≡ Ok l → IsWritten l (v ∷ rest)
assignment_written v [] l equals is = cc
assignment_written v (token ∷ []) l equals is = cc
assignment_written v (token ∷ first ∷ args) l equals is =
    let found = bind_ok (or_bad_line (op_named first)) (λ o. assigned v o args) l is in
    let o = found.0 in
    let word = found_text op_text ops first o (known_some (op_named first) o found.1) in
    let written = assigned_written v o args (length args == arity o) l found.2 in
    let sign = (bytes_eq-Decides token (codes "=")).0 equals in (
      written.0 ∙ ap (λ t. canon v ∷ canon t ∷ op_text o ∷ map canon args) (sym sign) ∙ ap (λ t. canon v ∷ canon token ∷ t ∷ map canon args) (sym (op_stays o).0 ∙ ap canon (sym word)),
      and_from (is_fine v) (is_fine token && (is_fine first && list_all is_fine args)) written.1 (and_from (is_fine token) (is_fine first && list_all is_fine args) (ap is_fine sign) (and_from (is_fine first) (list_all is_fine args) (ap is_fine word ∙ (op_stays o).1) written.2)),
    )

statement_written : (e : Edition) (first : List ℕ) (rest : List (List ℕ)) (b : Bool) (l : Line) → is_assignment rest ≡ b → cond b (assignment first (after_equals rest)) (or_bad_line (do_named first) >>= λ w. do_form e w rest) ≡ Ok l → IsWritten l (first ∷ rest)
statement_written e first rest true l equals is = assignment_written first rest l equals is
statement_written e first rest false l equals is =
    let found = bind_ok (or_bad_line (do_named first)) (λ w. do_form e w rest) l is in
    worded first (do_text found.0) rest l (found_text do_text do_words first found.0 (known_some (do_named first) found.0 found.1)) (do_stays found.0) (do_written e found.0 rest l found.2)

form_written : (e : Edition) (position : Position) (first : List ℕ) (rest : List (List ℕ)) (l : Line) → form e position first rest ≡ Ok l → IsWritten l (first ∷ rest)
form_written e First first rest l is = header_written (first ∷ rest) l is
form_written e (Top n) first rest l is =
    let found = bind_ok (or_bad_line (top_named first)) (λ w. top_form w rest) l is in
    worded first (top_text found.0) rest l (found_text top_text top_words first found.0 (known_some (top_named first) found.0 found.1)) (top_stays found.0) (top_written found.0 rest l found.2)
form_written e InTask first rest l is =
    let found = bind_ok (or_bad_line (task_named first)) (λ w. task_form w rest) l is in
    worded first (task_text found.0) rest l (found_text task_text task_words first found.0 (known_some (task_named first) found.0 found.1)) (task_stays found.0) (task_written found.0 rest l found.2)
form_written e (InDo blocks) first rest l is = statement_written e first rest (is_assignment rest) l refl is
form_written e Outside first rest l is =
    let found = bind_ok (or_bad_line (top_named first)) (λ w. outside_form w rest) l is in
    worded first (top_text found.0) rest l (found_text top_text top_words first found.0 (known_some (top_named first) found.0 found.1)) (top_stays found.0) (outside_written found.0 rest l found.2)

pub formed_written : (e : Edition) (position : Position) (tokens : List (List ℕ)) (l : Line) → formed e position tokens ≡ Ok l → IsWritten l tokens
formed_written e position [] l is = cc
formed_written e position (first ∷ rest) l is = form_written e position first rest l is
