-- Canonical tokens: literals are written in one way, and all other tokens stay.
use Rattle.std.proofs.Common.{◌≡◌, ℕ, zero, suc, ◌<◌, ◌≤◌, ◌^◌, Bool, true, false, cond, List, [], ◌∷◌, length, get_or, Option, Some, None, Result, Ok, Err, refl, sym, ap, ◌∙◌, ⊎_elim, arith}
use Rattle.std.specs.Prelude.{◌==◌, ◌&&◌, ◌||◌, not, nat_le, nat_lt, ℤ, pos, neg_ℤ, map, is_ok, find, bytes_eq}
use Rattle.std.specs.Char.{is_ascii_digit}
use Rattle.std.specs.Fmt.{decimal, signed_decimal}
use Rattle.std.specs.List.{list_all}
use Rattle.std.specs.Str.Parse.{digits_value}
use Rattle.std.proofs.lemmas.Fmt.{decimal-digits_value}
use Rattle.std.proofs.lemmas.Bool.{cond-true, cond-false, cases_Bool, and_parts, ltb-true, leb-true, eq-eqb, eqb-true, and_from}
use Rattle.job_reader.specs.Atoms.{as_bytes, as_list, as_name, as_number, atom, atoms, is_alone, is_name, is_natural, literal, name, negative_number, number, plain_number}
use Rattle.std.proofs.lemmas.Slice.Eq.{bytes_eq-Decides}
use Rattle.swan_model.specs.declared.value.Kind.{Kind}
use Rattle.swan_model.specs.declared.value.Kind.TheVariants as value
use Rattle.job_reader.specs.LineShape.{or_bad_line}
use Rattle.job_reader.specs.Words.{kind_named, kind_text, kinds}
use Rattle.job_reader.specs.CanonicalText.{atom_text, literal_text}
use Rattle.job_reader.specs.Faults.{both, ◌>>=◌}
use Rattle.job_reader.specs.declared.atom.Atom.{Atom}
use Rattle.job_reader.specs.declared.atom.Atom.TheVariants.{Int, Bytes, Name}
use Rattle.job_reader.specs.declared.fault.JobKind.{JobKind}
use Rattle.job_reader.specs.declared.fault.JobKind.TheVariants as kind
use Rattle.job_reader.proofs.Parses.{own, natural_digits}
use Rattle.std.proofs.lemmas.Option.{cond_some}

pub bind_ok : {A B : Type 0} (r : Result A JobKind) (f : A → Result B JobKind) (y : B) → (r >>= f) ≡ Ok y → (x : A) × (r ≡ Ok x) × (f x ≡ Ok y)
bind_ok (Ok x) f y is = (x, refl, is)
bind_ok (Err k) f y is = cc

pub both_ok : {A B : Type 0} (a : Result A JobKind) (b : Result B JobKind) (p : A × B) → both a b ≡ Ok p → (a ≡ Ok p.0) × (b ≡ Ok p.1)
both_ok (Ok x) (Ok y) p is = let pair : (x, y) ≡ p = cc in (ap (λ q. Ok q.0) pair, ap (λ q. Ok q.1) pair)
both_ok (Ok x) (Err k) p is = cc
both_ok (Err j) (Ok y) p is = cc
both_ok (Err j) (Err k) p is = cc

-- a literal in its one form, where the token is one
abbrev pub canon_literal : List ℕ → Result (List ℕ) JobKind → List ℕ
canon_literal token (Ok bytes) = literal_text bytes
canon_literal token (Err k) = token

abbrev pub canon : List ℕ → List ℕ
canon [] = []
canon (byte ∷ bytes) = cond (byte == 34) (canon_literal (byte ∷ bytes) (literal bytes)) (byte ∷ bytes)

-- a token that isn't a literal stays, and what begins as one is one
abbrev pub is_fine : List ℕ → Bool
is_fine [] = true
is_fine (byte ∷ bytes) = cond (byte == 34) (is_ok (literal bytes)) true

pub unquoted_stays : (byte : ℕ) (bytes : List ℕ) → (byte == 34) ≡ false → canon (byte ∷ bytes) ≡ byte ∷ bytes
unquoted_stays byte bytes isnt = cond-false (byte == 34) _ _ isnt

unquoted_is_fine : (byte : ℕ) (bytes : List ℕ) → (byte == 34) ≡ false → is_fine (byte ∷ bytes) ≡ true
unquoted_is_fine byte bytes isnt = cond-false (byte == 34) _ _ isnt

alone : (bytes : List ℕ) → is_alone bytes ≡ true → length bytes ≡ 0
alone [] is = refl
alone (byte ∷ bytes) is = cc

zero_alone : (text : List ℕ) → is_natural text ≡ true → get_or text 0 0 ≡ 48 → length text ≡ 1
zero_alone [] is first = cc
zero_alone (byte ∷ bytes) is first =
    let parts = and_parts (list_all is_ascii_digit (byte ∷ bytes)) (not (byte == 48) || is_alone bytes) is in
    let zero : (byte == 48) ≡ true = eq-eqb byte 48 first in
    let same : is_alone bytes ≡ true = sym (ap (λ b. not b || is_alone bytes) zero) ∙ parts.1 in
    ap suc (alone bytes same)

-- a natural number is written as it is read
natural_text : (text : List ℕ) → is_natural text ≡ true → digits_value 10 text < 2 ^ 64 → decimal (digits_value 10 text) ≡ text
natural_text text is fits =
    let digits = natural_digits text is in
    decimal-digits_value own text digits.0 digits.1 (zero_alone text is) fits

minus_text : (v : ℕ) → 0 < v → signed_decimal (neg_ℤ (pos v)) ≡ 45 ∷ decimal v
minus_text zero above = absurd (omega arith)
minus_text (suc v) above = refl

pub number_text : (text : List ℕ) (n : ℤ) → number text ≡ Some n → signed_decimal n ≡ text
number_text [] n is = cc
number_text (byte ∷ bytes) n is =
    ⊎_elim
    (λ (minus : (byte == 45) ≡ true).
    let v = digits_value 10 bytes in
    let found = cond_some (is_natural bytes && nat_lt 0 v && nat_le v (2 ^ 63)) (neg_ℤ (pos v)) n (sym (cond-true (byte == 45) (negative_number bytes) (plain_number (byte ∷ bytes)) minus) ∙ is) in
    let tests = and_parts (is_natural bytes && nat_lt 0 v) (nat_le v (2 ^ 63)) found.0 in
    let front = and_parts (is_natural bytes) (nat_lt 0 v) tests.0 in
    let most : v ≤ 2 ^ 63 = leb-true v (2 ^ 63) tests.1 in
    let first : byte ≡ 45 = eqb-true byte 45 minus in
    sym (ap signed_decimal found.1) ∙ minus_text v (ltb-true 0 v front.1) ∙ ap (λ ds. 45 ∷ ds) (natural_text bytes front.0 (omega arith)) ∙ ap (λ b. b ∷ bytes) (sym first))
    (λ (plain : (byte == 45) ≡ false).
    let v = digits_value 10 (byte ∷ bytes) in
    let found = cond_some (is_natural (byte ∷ bytes) && nat_lt v (2 ^ 63)) (pos v) n (sym (cond-false (byte == 45) (negative_number bytes) (plain_number (byte ∷ bytes)) plain) ∙ is) in
    let tests = and_parts (is_natural (byte ∷ bytes)) (nat_lt v (2 ^ 63)) found.0 in
    let below : v < 2 ^ 63 = ltb-true v (2 ^ 63) tests.1 in
    sym (ap signed_decimal found.1) ∙ natural_text (byte ∷ bytes) tests.0 (omega arith))
    (cases_Bool (byte == 45))

literal_canon : (token : List ℕ) (read : Result (List ℕ) JobKind) (a : Atom) → as_bytes read ≡ Ok a → atom_text a ≡ canon_literal token read
literal_canon token (Ok bytes) a is = let same : Bytes bytes ≡ a = cc in sym (ap atom_text same)
literal_canon token (Err k) a is = cc

literal_fine : (read : Result (List ℕ) JobKind) (a : Atom) → as_bytes read ≡ Ok a → is_ok read ≡ true
literal_fine (Ok bytes) a is = refl
literal_fine (Err k) a is = cc

number_canon : (token : List ℕ) (read : Option ℤ) (a : Atom) → number token ≡ read → as_number read ≡ Ok a → atom_text a ≡ token
number_canon token (Some n) a read is = let same : Int n ≡ a = cc in sym (ap atom_text same) ∙ number_text token n read
number_canon token None a read is = cc

name_or_not : (token : List ℕ) (b : Bool) (a : Atom) → cond b (Ok (Name token)) (Err kind.BadName) ≡ Ok a → atom_text a ≡ token
name_or_not token true a is = let same : Name token ≡ a = cc in sym (ap atom_text same)
name_or_not token false a is = cc

unquoted_canon : (byte : ℕ) (bytes : List ℕ) (a : Atom) → cond (is_ascii_digit byte || (byte == 45)) (as_number (number (byte ∷ bytes))) (cond (is_name (byte ∷ bytes)) (Ok (Name (byte ∷ bytes))) (Err kind.BadName)) ≡ Ok a → atom_text a ≡ byte ∷ bytes
unquoted_canon byte bytes a is =
    ⊎_elim
    (λ (digit : (is_ascii_digit byte || (byte == 45)) ≡ true). number_canon (byte ∷ bytes) (number (byte ∷ bytes)) a refl (sym (cond-true (is_ascii_digit byte || (byte == 45)) _ _ digit) ∙ is))
    (λ (letter : (is_ascii_digit byte || (byte == 45)) ≡ false). name_or_not (byte ∷ bytes) (is_name (byte ∷ bytes)) a (sym (cond-false (is_ascii_digit byte || (byte == 45)) _ _ letter) ∙ is))
    (cases_Bool (is_ascii_digit byte || (byte == 45)))

-- an atom is written as its canonical token
pub atom_canon : (token : List ℕ) (a : Atom) → atom token ≡ Ok a → (atom_text a ≡ canon token) × (is_fine token ≡ true)
atom_canon [] a is = cc
atom_canon (byte ∷ bytes) a is =
    ⊎_elim
    (λ (quoted : (byte == 34) ≡ true).
    let read : as_bytes (literal bytes) ≡ Ok a = sym (cond-true (byte == 34) _ _ quoted) ∙ is in
    (literal_canon (byte ∷ bytes) (literal bytes) a read ∙ sym (cond-true (byte == 34) _ _ quoted), cond-true (byte == 34) _ _ quoted ∙ literal_fine (literal bytes) a read))
    (λ (unquoted : (byte == 34) ≡ false).
    (unquoted_canon byte bytes a (sym (cond-false (byte == 34) _ _ unquoted) ∙ is) ∙ sym (unquoted_stays byte bytes unquoted), unquoted_is_fine byte bytes unquoted))
    (cases_Bool (byte == 34))

name_atom : (read : Result Atom JobKind) (n : List ℕ) → as_name read ≡ Ok n → read ≡ Ok (Name n)
name_atom (Ok (Name m)) n is = let same : m ≡ n = cc in ap (λ x. Ok (Name x)) same
name_atom (Ok (Int m)) n is = cc
name_atom (Ok (Bytes m)) n is = cc
name_atom (Err kind.BadLine) n is = cc
name_atom (Err _) n is = cc

pub name_canon : (token n : List ℕ) → name token ≡ Ok n → (n ≡ canon token) × (is_fine token ≡ true)
name_canon token n is = atom_canon token (Name n) (name_atom (atom token) n is)

list_ok : (read : Result (Atom × List Atom) JobKind) (all : List Atom) → as_list read ≡ Ok all → (p : Atom × List Atom) × (read ≡ Ok p) × (p.0 ∷ p.1 ≡ all)
list_ok (Ok p) all is = let same : p.0 ∷ p.1 ≡ all = cc in (p, refl, same)
list_ok (Err k) all is = cc

-- tokens are written so
abbrev pub Written : List (List ℕ) → List (List ℕ) → Type 0
Written tokens text = (map canon tokens ≡ text) × (list_all is_fine tokens ≡ true)

pub atoms_canon : (tokens : List (List ℕ)) (all : List Atom) → atoms tokens ≡ Ok all → Written tokens (map atom_text all)
atoms_canon [] all is = let same : [] ≡ all = cc in (ap (map atom_text) same, refl)
atoms_canon (token ∷ tokens) all is =
    let found = list_ok (both (atom token) (atoms tokens)) all is in
    let parts = both_ok (atom token) (atoms tokens) found.0 found.1 in
    let first = atom_canon token found.0.0 parts.0 in
    let more = atoms_canon tokens found.0.1 parts.1 in
    (ap (λ t. t ∷ map canon tokens) (sym first.0) ∙ ap (λ ts. atom_text found.0.0 ∷ ts) more.0 ∙ ap (map atom_text) found.2, and_from (is_fine token) (list_all is_fine tokens) first.1 more.1)

-- what is found by its text is written so
pub found_text : {X : Type 0} (text : X → List ℕ) (all : List X) (token : List ℕ) (x : X) → find (λ w. bytes_eq token (text w)) all ≡ Some x → token ≡ text x
found_text text [] token x is = cc
found_text text (y ∷ ys) token x is =
    ⊎_elim
    (λ (same : bytes_eq token (text y) ≡ true). let found : Some y ≡ Some x = sym (cond-true (bytes_eq token (text y)) _ _ same) ∙ is in let equal : y ≡ x = cc in (bytes_eq-Decides token (text y)).0 same ∙ ap text equal)
    (λ (other : bytes_eq token (text y) ≡ false). found_text text ys token x (sym (cond-false (bytes_eq token (text y)) _ _ other) ∙ is))
    (cases_Bool (bytes_eq token (text y)))

pub known_some : {A : Type 0} (o : Option A) (a : A) → or_bad_line o ≡ Ok a → o ≡ Some a
known_some (Some b) a is = let same : b ≡ a = cc in ap (λ x. Some x) same
known_some None a is = cc

kind_stays : (k : Kind) → (canon (kind_text k) ≡ kind_text k) × (is_fine (kind_text k) ≡ true)
kind_stays value.Int = (refl, refl)
kind_stays value.Bytes = (refl, refl)

pub kind_canon : (token : List ℕ) (k : Kind) → or_bad_line (kind_named token) ≡ Ok k → (kind_text k ≡ canon token) × (is_fine token ≡ true)
kind_canon token k is =
    let same = found_text kind_text kinds token k (known_some (kind_named token) k is) in
    (sym (kind_stays k).0 ∙ ap canon (sym same), ap is_fine same ∙ (kind_stays k).1)
