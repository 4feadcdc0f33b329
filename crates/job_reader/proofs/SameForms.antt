-- Canonical tokens make the same line as the tokens that they stand for.
use Rattle.std.proofs.Common.{◌≡◌, ℕ, suc, ◌+◌, ◌≤◌, true, cond, List, [], ◌∷◌, length, Result, Ok, Err, refl, ap, ◌∙◌, arith, length-append, lit≤}
use Rattle.std.specs.Prelude.{◌==◌, ◌&&◌, ◌||◌, not, nat_le, map, bytes_eq, codes}
use Rattle.std.specs.List.{list_all, join_with_byte}
use Rattle.std.proofs.lemmas.Bool.{and_from, and_parts}
use Rattle.swan_model.specs.Lines.{in_front}
use Rattle.swan_model.specs.declared.value.Kind.{Kind}
use Rattle.job_reader.specs.Atoms.{as_list, atom, atoms, name}
use Rattle.job_reader.specs.Characters.{is_allowed}
use Rattle.job_reader.specs.Faults.{both, ◌>>=◌}
use Rattle.job_reader.specs.FirstFault.{is_one_too_many, opens_block}
use Rattle.job_reader.specs.LineShape.{after_equals, assigned, assignment, do_form, form, formed, headed, header, is_assignment, or_bad_line, name_and_atom, name_and_kind, nothing, one_atom, one_name, outside_form, spawned, statement, task_form, top_form, two_names}
use Rattle.job_reader.specs.Words.{arity, do_named, edition_named, has_caught, kind_named, op_named, task_named, top_named}
use Rattle.job_reader.specs.Tokens.{next, tokens, tokens_from, with_byte}
use Rattle.job_reader.specs.declared.fault.JobKind.{JobKind}
use Rattle.job_reader.specs.declared.fault.JobKind.TheVariants as kind
use Rattle.job_reader.specs.declared.line.Edition.{Edition}
use Rattle.job_reader.specs.declared.line.Line.{Line}
use Rattle.job_reader.specs.declared.line.Line.TheVariants as line
use Rattle.job_reader.specs.declared.op.Op.{Op}
use Rattle.job_reader.specs.declared.position.Position.{Position}
use Rattle.job_reader.specs.declared.position.Position.TheVariants.{First, Top, InTask, InDo, Outside}
use Rattle.job_reader.specs.declared.position.TheConstants.{BLOCKS_MOST}
use Rattle.job_reader.specs.declared.scan.Scan.{Scan}
use Rattle.job_reader.specs.declared.scan.Scan.TheVariants.{Between, Token, Quoted, Escaped}
use Rattle.job_reader.specs.declared.words.DoWord.{DoWord}
use Rattle.job_reader.specs.declared.words.DoWord.TheVariants as step
use Rattle.job_reader.specs.declared.words.TaskWord.{TaskWord}
use Rattle.job_reader.specs.declared.words.TaskWord.TheVariants as task
use Rattle.job_reader.specs.declared.words.TopWord.{TopWord}
use Rattle.job_reader.specs.declared.words.TopWord.TheVariants as top
use Rattle.job_reader.proofs.Canon.{canon}
use Rattle.job_reader.proofs.CanonTokens.{all_joined, atom_same, canon_allowed, canon_short, name_same, same_of_canon}

-- the bytes of all tokens may stand in a line
abbrev pub MayStand : List (List ℕ) → Type 0
MayStand ts = list_all (list_all is_allowed) ts ≡ true

first_may : (token : List ℕ) (ts : List (List ℕ)) → MayStand (token ∷ ts) → (list_all is_allowed token ≡ true) × MayStand ts
first_may token ts may = and_parts (list_all is_allowed token) (list_all (list_all is_allowed) ts) may

then_same : {A B : Type 0} (r : Result A JobKind) (f g : A → Result B JobKind) → ((x : A) → f x ≡ g x) → (r >>= f) ≡ (r >>= g)
then_same (Ok x) f g same = same x
then_same (Err k) f g same = refl

atoms_same : (ts : List (List ℕ)) → MayStand ts → atoms (map canon ts) ≡ atoms ts
atoms_same [] may = refl
atoms_same (token ∷ ts) may =
    let parts = first_may token ts may in
    ap (λ a. as_list (both a (atoms (map canon ts)))) (atom_same token parts.0) ∙ ap (λ l. as_list (both (atom token) l)) (atoms_same ts parts.1)

one_name_same : (ts : List (List ℕ)) → MayStand ts → one_name (map canon ts) ≡ one_name ts
one_name_same [] may = refl
one_name_same (a ∷ []) may = name_same a (first_may a [] may).0
one_name_same (a ∷ b ∷ ts) may = refl

one_atom_same : (ts : List (List ℕ)) → MayStand ts → one_atom (map canon ts) ≡ one_atom ts
one_atom_same [] may = refl
one_atom_same (a ∷ []) may = atom_same a (first_may a [] may).0
one_atom_same (a ∷ b ∷ ts) may = refl

kind_same : (token : List ℕ) → kind_named (canon token) ≡ kind_named token
kind_same token = same_of_canon kind_named (λ x y. refl) token

name_and_kind_same : (ts : List (List ℕ)) → MayStand ts → name_and_kind (map canon ts) ≡ name_and_kind ts
name_and_kind_same [] may = refl
name_and_kind_same (a ∷ []) may = refl
name_and_kind_same (a ∷ b ∷ []) may =
    ap (λ n. both n (or_bad_line (kind_named (canon b)))) (name_same a (first_may a (b ∷ []) may).0) ∙ ap (λ k. both (name a) (or_bad_line k)) (kind_same b)
name_and_kind_same (a ∷ b ∷ c ∷ ts) may = refl

two_names_same : (ts : List (List ℕ)) → MayStand ts → two_names (map canon ts) ≡ two_names ts
two_names_same [] may = refl
two_names_same (a ∷ []) may = refl
two_names_same (a ∷ b ∷ []) may =
    let parts = first_may a (b ∷ []) may in
    ap (λ n. both n (name (canon b))) (name_same a parts.0) ∙ ap (λ n. both (name a) n) (name_same b (first_may b [] parts.1).0)
two_names_same (a ∷ b ∷ c ∷ ts) may = refl

name_and_atom_same : (ts : List (List ℕ)) → MayStand ts → name_and_atom (map canon ts) ≡ name_and_atom ts
name_and_atom_same [] may = refl
name_and_atom_same (a ∷ []) may = refl
name_and_atom_same (a ∷ b ∷ []) may =
    let parts = first_may a (b ∷ []) may in
    ap (λ n. both n (atom (canon b))) (name_same a parts.0) ∙ ap (λ n. both (name a) n) (atom_same b (first_may b [] parts.1).0)
name_and_atom_same (a ∷ b ∷ c ∷ ts) may = refl

spawned_same : (ts : List (List ℕ)) → MayStand ts → spawned (map canon ts) ≡ spawned ts
spawned_same [] may = refl
spawned_same (a ∷ []) may = refl
spawned_same (a ∷ b ∷ ts) may =
    let parts = first_may a (b ∷ ts) may in
    let others = first_may b ts parts.1 in
    ap (λ x. both x (both (name (canon b)) (atoms (map canon ts)))) (atom_same a parts.0)
    ∙ ap (λ x. both (atom a) (both x (atoms (map canon ts)))) (name_same b others.0)
    ∙ ap (λ x. both (atom a) (both (name b) x)) (atoms_same ts others.1)

nothing_same : (l : Line) (ts : List (List ℕ)) → nothing l (map canon ts) ≡ nothing l ts
nothing_same l [] = refl
nothing_same l (token ∷ ts) = refl

top_same : (w : TopWord) (ts : List (List ℕ)) → MayStand ts → top_form w (map canon ts) ≡ top_form w ts
top_same top.Input ts may = ap (λ r. r >>= λ n. Ok (line.Input n)) (one_name_same ts may)
top_same top.Output ts may = ap (λ r. r >>= λ d. Ok (line.Output d.0 d.1)) (name_and_kind_same ts may)
top_same top.Object ts may = ap (λ r. r >>= λ d. Ok (line.Object d.0 d.1)) (name_and_kind_same ts may)
top_same top.Task ts may = ap (λ r. r >>= λ n. Ok (line.Task n)) (one_name_same ts may)

outside_same : (w : TopWord) (ts : List (List ℕ)) → MayStand ts → outside_form w (map canon ts) ≡ outside_form w ts
outside_same top.Task ts may = top_same top.Task ts may
outside_same top.Input ts may = refl
outside_same top.Output ts may = refl
outside_same top.Object ts may = refl

declared_same : {B : Type 0} (f : List ℕ × Kind → Result B JobKind) (ts : List (List ℕ)) → MayStand ts → (name_and_kind (map canon ts) >>= f) ≡ (name_and_kind ts >>= f)
declared_same f ts may = ap (λ r. r >>= f) (name_and_kind_same ts may)

task_same : (w : TaskWord) (ts : List (List ℕ)) → MayStand ts → task_form w (map canon ts) ≡ task_form w ts
task_same task.Param ts may = declared_same _ ts may
task_same task.In ts may = declared_same _ ts may
task_same task.Out ts may = declared_same _ ts may
task_same task.InOut ts may = declared_same _ ts may
task_same task.Push ts may = declared_same _ ts may
task_same task.Pop ts may = declared_same _ ts may
task_same task.PushPop ts may = declared_same _ ts may
task_same task.Var ts may = declared_same _ ts may
task_same task.Queue ts may = declared_same _ ts may
task_same task.Object ts may = declared_same _ ts may
task_same task.Do ts may = nothing_same line.Do ts

do_same : (e : Edition) (w : DoWord) (ts : List (List ℕ)) → MayStand ts → do_form e w (map canon ts) ≡ do_form e w ts
do_same e step.Read ts may = ap (λ r. r >>= λ p. Ok (line.Read p.0 p.1)) (two_names_same ts may)
do_same e step.Write ts may = ap (λ r. r >>= λ p. Ok (line.Write p.0 p.1)) (name_and_atom_same ts may)
do_same e step.Push ts may = ap (λ r. r >>= λ p. Ok (line.Push p.0 p.1)) (name_and_atom_same ts may)
do_same e step.Pop ts may = ap (λ r. r >>= λ p. Ok (line.Pop p.0 p.1)) (two_names_same ts may)
do_same e step.Empty ts may = ap (λ r. r >>= λ p. Ok (line.Empty p.0 p.1)) (two_names_same ts may)
do_same e step.Spawn ts may = ap (λ r. r >>= λ p. Ok (line.Spawn p.0 p.1.0 p.1.1)) (spawned_same ts may)
do_same e step.Sync ts may = nothing_same line.Sync ts
do_same e step.Caught ts may = ap (λ r. cond (has_caught e) (r >>= λ n. Ok (line.Caught n)) (Err kind.BadLine)) (one_name_same ts may)
do_same e step.Fuel ts may = ap (λ r. r >>= λ n. Ok (line.Fuel n)) (one_name_same ts may)
do_same e step.Fail ts may = ap (λ r. r >>= λ a. Ok (line.Fail a)) (one_atom_same ts may)
do_same e step.If ts may = ap (λ r. r >>= λ a. Ok (line.If a)) (one_atom_same ts may)
do_same e step.Else ts may = nothing_same line.Else ts
do_same e step.While ts may = ap (λ r. r >>= λ a. Ok (line.While a)) (one_atom_same ts may)
do_same e step.End ts may = nothing_same line.End ts

equal_same : (token word : List ℕ) → ((x y : List ℕ) → bytes_eq (34 ∷ x) word ≡ bytes_eq (34 ∷ y) word) → bytes_eq (canon token) word ≡ bytes_eq token word
equal_same token word same = same_of_canon (λ t. bytes_eq t word) same token

header_same : (ts : List (List ℕ)) → header (map canon ts) ≡ header ts
header_same [] = refl
header_same (a ∷ []) = refl
header_same (a ∷ b ∷ []) =
    ap (λ x. cond x (headed (edition_named (canon b))) (Err kind.BadHeader)) (equal_same a (codes "swan") (λ x y. refl))
    ∙ ap (λ x. cond (bytes_eq a (codes "swan")) (headed x) (Err kind.BadHeader)) (same_of_canon edition_named (λ x y. refl) b)
header_same (a ∷ b ∷ c ∷ ts) = refl

length_same : (ts : List (List ℕ)) → length (map canon ts) ≡ length ts
length_same [] = refl
length_same (token ∷ ts) = ap suc (length_same ts)

assigned_same : (v : List ℕ) (o : Op) (ts : List (List ℕ)) → list_all is_allowed v ≡ true → MayStand ts → assigned (canon v) o (map canon ts) ≡ assigned v o ts
assigned_same v o ts allowed may =
    ap (λ n. cond (n == arity o) (both (name (canon v)) (atoms (map canon ts)) >>= λ p. Ok (line.Assign p.0 o p.1)) (Err kind.BadLine)) (length_same ts)
    ∙ ap (λ x. cond (length ts == arity o) (both x (atoms (map canon ts)) >>= λ p. Ok (line.Assign p.0 o p.1)) (Err kind.BadLine)) (name_same v allowed)
    ∙ ap (λ x. cond (length ts == arity o) (both (name v) x >>= λ p. Ok (line.Assign p.0 o p.1)) (Err kind.BadLine)) (atoms_same ts may)

assignment_same : (v : List ℕ) (ts : List (List ℕ)) → list_all is_allowed v ≡ true → MayStand ts → assignment (canon v) (map canon ts) ≡ assignment v ts
assignment_same v [] allowed may = refl
assignment_same v (o ∷ ts) allowed may =
    ap (λ x. or_bad_line x >>= λ w. assigned (canon v) w (map canon ts)) (same_of_canon op_named (λ x y. refl) o)
    ∙ then_same (or_bad_line (op_named o)) (λ w. assigned (canon v) w (map canon ts)) (λ w. assigned v w ts) (λ w. assigned_same v w ts allowed (first_may o ts may).1)

is_assignment_same : (ts : List (List ℕ)) → is_assignment (map canon ts) ≡ is_assignment ts
is_assignment_same [] = refl
is_assignment_same (token ∷ ts) = equal_same token (codes "=") (λ x y. refl)

after_equals_same : (ts : List (List ℕ)) → after_equals (map canon ts) ≡ map canon (after_equals ts)
after_equals_same [] = refl
after_equals_same (token ∷ ts) = refl

after_equals_may : (ts : List (List ℕ)) → MayStand ts → MayStand (after_equals ts)
after_equals_may [] may = may
after_equals_may (token ∷ ts) may = (first_may token ts may).1

statement_same : (e : Edition) (v : List ℕ) (ts : List (List ℕ)) → list_all is_allowed v ≡ true → MayStand ts → statement e (canon v) (map canon ts) ≡ statement e v ts
statement_same e v ts allowed may =
    ap (λ b. cond b (assignment (canon v) (after_equals (map canon ts))) (or_bad_line (do_named (canon v)) >>= λ w. do_form e w (map canon ts))) (is_assignment_same ts)
    ∙ ap (λ x. cond (is_assignment ts) (assignment (canon v) x) (or_bad_line (do_named (canon v)) >>= λ w. do_form e w (map canon ts))) (after_equals_same ts)
    ∙ ap (λ x. cond (is_assignment ts) x (or_bad_line (do_named (canon v)) >>= λ w. do_form e w (map canon ts))) (assignment_same v (after_equals ts) allowed (after_equals_may ts may))
    ∙ ap (λ x. cond (is_assignment ts) (assignment v (after_equals ts)) (or_bad_line x >>= λ w. do_form e w (map canon ts))) (same_of_canon do_named (λ x y. refl) v)
    ∙ ap (λ x. cond (is_assignment ts) (assignment v (after_equals ts)) x) (then_same (or_bad_line (do_named v)) (λ w. do_form e w (map canon ts)) (λ w. do_form e w ts) (λ w. do_same e w ts may))

form_same : (e : Edition) (position : Position) (first : List ℕ) (ts : List (List ℕ)) → MayStand (first ∷ ts) → form e position (canon first) (map canon ts) ≡ form e position first ts
form_same e First first ts may = header_same (first ∷ ts)
form_same e (Top n) first ts may =
    ap (λ x. or_bad_line x >>= λ w. top_form w (map canon ts)) (same_of_canon top_named (λ x y. refl) first)
    ∙ then_same (or_bad_line (top_named first)) (λ w. top_form w (map canon ts)) (λ w. top_form w ts) (λ w. top_same w ts (first_may first ts may).1)
form_same e InTask first ts may =
    ap (λ x. or_bad_line x >>= λ w. task_form w (map canon ts)) (same_of_canon task_named (λ x y. refl) first)
    ∙ then_same (or_bad_line (task_named first)) (λ w. task_form w (map canon ts)) (λ w. task_form w ts) (λ w. task_same w ts (first_may first ts may).1)
form_same e (InDo blocks) first ts may = let parts = first_may first ts may in statement_same e first ts parts.0 parts.1
form_same e Outside first ts may =
    ap (λ x. or_bad_line x >>= λ w. outside_form w (map canon ts)) (same_of_canon top_named (λ x y. refl) first)
    ∙ then_same (or_bad_line (top_named first)) (λ w. outside_form w (map canon ts)) (λ w. outside_form w ts) (λ w. outside_same w ts (first_may first ts may).1)

pub formed_same : (e : Edition) (position : Position) (ts : List (List ℕ)) → MayStand ts → formed e position (map canon ts) ≡ formed e position ts
formed_same e position [] may = refl
formed_same e position (first ∷ ts) may = form_same e position first ts may

opens_same : (first : List ℕ) (ts : List (List ℕ)) → opens_block (canon first) (map canon ts) ≡ opens_block first ts
opens_same first ts =
    ap (λ x. (x || bytes_eq (canon first) (codes "while")) && not (is_assignment (map canon ts))) (equal_same first (codes "if") (λ x y. refl))
    ∙ ap (λ x. (bytes_eq first (codes "if") || x) && not (is_assignment (map canon ts))) (equal_same first (codes "while") (λ x y. refl))
    ∙ ap (λ x. (bytes_eq first (codes "if") || bytes_eq first (codes "while")) && not x) (is_assignment_same ts)

pub limit_same : (position : Position) (ts : List (List ℕ)) → is_one_too_many position (map canon ts) ≡ is_one_too_many position ts
limit_same (Top n) [] = refl
limit_same (Top n) (first ∷ ts) = ap (λ x. (n == 0) && x) (equal_same first (codes "input") (λ x y. refl))
limit_same (InDo blocks) [] = refl
limit_same (InDo blocks) (first ∷ ts) = ap (λ x. nat_le BLOCKS_MOST (length blocks) && x) (opens_same first ts)
limit_same First ts = refl
limit_same InTask ts = refl
limit_same Outside ts = refl

-- how long tokens are that are joined by spaces
abbrev weight : List (List ℕ) → ℕ
weight [] = 0
weight (token ∷ ts) = length token + 1 + weight ts

front_weight : (byte : ℕ) (ts : List (List ℕ)) (n : ℕ) → weight ts ≤ n + 1 → weight (in_front byte ts) ≤ n + 1 + 1
front_weight byte [] n few = omega arith
front_weight byte (token ∷ ts) n few = omega arith

byte_weight : (scan after : Scan) (byte : ℕ) (ts : List (List ℕ)) (n : ℕ) → weight ts ≤ n + 1 → weight (with_byte scan byte after ts) ≤ n + 1 + 1
byte_weight Between Between byte ts n few = omega arith
byte_weight Between _ byte ts n few = front_weight byte ts n few
byte_weight _ Between byte ts n few = omega arith
byte_weight _ _ byte ts n few = front_weight byte ts n few

weight_from : (scan : Scan) (bytes : List ℕ) → weight (tokens_from scan bytes) ≤ length bytes + 1
weight_from Between [] = lit≤ tt
weight_from Token [] = lit≤ tt
weight_from Quoted [] = lit≤ tt
weight_from Escaped [] = lit≤ tt
weight_from Between (byte ∷ bytes) = omega (arith, byte_weight Between (next Between byte) byte (tokens_from (next Between byte) bytes) (length bytes) (weight_from (next Between byte) bytes))
weight_from Token (byte ∷ bytes) = omega (arith, byte_weight Token (next Token byte) byte (tokens_from (next Token byte) bytes) (length bytes) (weight_from (next Token byte) bytes))
weight_from Quoted (byte ∷ bytes) = omega (arith, byte_weight Quoted (next Quoted byte) byte (tokens_from (next Quoted byte) bytes) (length bytes) (weight_from (next Quoted byte) bytes))
weight_from Escaped (byte ∷ bytes) = omega (arith, byte_weight Escaped Quoted byte (tokens_from Quoted bytes) (length bytes) (weight_from Quoted bytes))

weight_canon : (ts : List (List ℕ)) → MayStand ts → weight (map canon ts) ≤ weight ts
weight_canon [] may = lit≤ tt
weight_canon (token ∷ ts) may = let parts = first_may token ts may in omega (arith, canon_short token parts.0, weight_canon ts parts.1)

join_weight : (token : List ℕ) (ts : List (List ℕ)) → length (join_with_byte 32 (token ∷ ts)) + 1 ≤ weight (token ∷ ts)
join_weight token [] = omega arith
join_weight token (other ∷ ts) = omega (arith, join_weight other ts, length-append token (32 ∷ join_with_byte 32 (other ∷ ts)))

join_short : (ts : List (List ℕ)) (n : ℕ) → weight ts ≤ n + 1 → length (join_with_byte 32 ts) ≤ n
join_short [] n few = omega arith
join_short (token ∷ ts) n few = omega (arith, join_weight token ts)

-- a line's canonical text is no longer than the line
pub text_short : (line : List ℕ) → MayStand (tokens line) → length (join_with_byte 32 (map canon (tokens line))) ≤ length line
text_short line may =
    join_short (map canon (tokens line)) (length line) (omega (arith, weight_canon (tokens line) may, weight_from Between line))

-- tokens of bytes that may stand in a line, and what is made of them
front_may : (byte : ℕ) (ts : List (List ℕ)) → is_allowed byte ≡ true → MayStand ts → MayStand (in_front byte ts)
front_may byte [] allowed may = and_from (is_allowed byte && true) true (and_from (is_allowed byte) true allowed refl) refl
front_may byte (token ∷ ts) allowed may =
    let parts = first_may token ts may in
    and_from (is_allowed byte && list_all is_allowed token) (list_all (list_all is_allowed) ts) (and_from (is_allowed byte) (list_all is_allowed token) allowed parts.0) parts.1

byte_may : (scan after : Scan) (byte : ℕ) (ts : List (List ℕ)) → is_allowed byte ≡ true → MayStand ts → MayStand (with_byte scan byte after ts)
byte_may Between Between byte ts allowed may = may
byte_may Between _ byte ts allowed may = front_may byte ts allowed may
byte_may _ Between byte ts allowed may = may
byte_may _ _ byte ts allowed may = front_may byte ts allowed may

tokens_may : (scan : Scan) (bytes : List ℕ) → list_all is_allowed bytes ≡ true → MayStand (tokens_from scan bytes)
tokens_may Between [] all = refl
tokens_may Token [] all = refl
tokens_may Quoted [] all = refl
tokens_may Escaped [] all = refl
tokens_may Between (byte ∷ bytes) all = let parts = and_parts (is_allowed byte) (list_all is_allowed bytes) all in byte_may Between (next Between byte) byte (tokens_from (next Between byte) bytes) parts.0 (tokens_may (next Between byte) bytes parts.1)
tokens_may Token (byte ∷ bytes) all = let parts = and_parts (is_allowed byte) (list_all is_allowed bytes) all in byte_may Token (next Token byte) byte (tokens_from (next Token byte) bytes) parts.0 (tokens_may (next Token byte) bytes parts.1)
tokens_may Quoted (byte ∷ bytes) all = let parts = and_parts (is_allowed byte) (list_all is_allowed bytes) all in byte_may Quoted (next Quoted byte) byte (tokens_from (next Quoted byte) bytes) parts.0 (tokens_may (next Quoted byte) bytes parts.1)
tokens_may Escaped (byte ∷ bytes) all = let parts = and_parts (is_allowed byte) (list_all is_allowed bytes) all in byte_may Escaped Quoted byte (tokens_from Quoted bytes) parts.0 (tokens_may Quoted bytes parts.1)

pub line_may : (line : List ℕ) → list_all is_allowed line ≡ true → MayStand (tokens line)
line_may line all = tokens_may Between line all

pub canon_may : (ts : List (List ℕ)) → MayStand ts → MayStand (map canon ts)
canon_may [] may = refl
canon_may (token ∷ ts) may =
    let parts = first_may token ts may in
    and_from (list_all is_allowed (canon token)) (list_all (list_all is_allowed) (map canon ts)) (canon_allowed token parts.0) (canon_may ts parts.1)

pub join_may : (ts : List (List ℕ)) → MayStand ts → list_all is_allowed (join_with_byte 32 ts) ≡ true
join_may [] may = refl
join_may (token ∷ []) may = (first_may token [] may).0
join_may (token ∷ other ∷ ts) may =
    let parts = first_may token (other ∷ ts) may in
    all_joined is_allowed token (32 ∷ join_with_byte 32 (other ∷ ts)) parts.0 (and_from true (list_all is_allowed (join_with_byte 32 (other ∷ ts))) refl (join_may (other ∷ ts) parts.1))
