-- Canonical tokens are read as the tokens that they stand for, are no longer, and stand alone.
use Rattle.std.proofs.Common.{◌≡◌, ℕ, ◌+◌, ◌/◌, ◌%◌, ◌<◌, ◌≤◌, Bool, true, false, cond, List, [], ◌∷◌, ◌++◌, length, Option, Some, None, Result, Ok, Err, refl, sym, ap, ◌∙◌, inl, inr, ⊎_elim, length-append, arith}
use Rattle.std.specs.Prelude.{◌⊎◌, ◌==◌, ◌&&◌, nat_le, nat_lt, flat_map}
use Rattle.std.specs.Char.{digit_char}
use Rattle.std.specs.List.{list_all}
use Rattle.std.proofs.lemmas.Bool.{cond-true, cond_both, cases_Bool, and_from, and_parts, eqb-true, le-leb}
use Rattle.std.proofs.lemmas.List.Folds.{list_all-append}
use Rattle.swan_model.specs.declared.record.TheConstants.{RECORD_MOST}
use Rattle.job_reader.specs.Atoms.{as_bytes, as_name, atom, decoded, fitting_literal, literal, name}
use Rattle.job_reader.specs.CanonicalText.{escaped, literal_text}
use Rattle.job_reader.specs.Characters.{is_allowed}
use Rattle.job_reader.specs.declared.fault.JobKind.{JobKind}
use Rattle.job_reader.specs.declared.fault.JobKind.TheVariants as kind
use Rattle.job_reader.specs.declared.literal.Inside.TheVariants.{Plain}
use Rattle.job_reader.proofs.Canon.{canon, canon_literal, unquoted_stays}
use Rattle.job_reader.proofs.Literals.{AreBytes, Escaping, all_decode, escaping, literal_short, two_digits}
use Rattle.job_reader.proofs.Literals.Escaping.{at_quote, at_backslash, at_feed, at_tab, itself, by_digits}

-- a token that is a literal
pub record IsLiteral (token : List ℕ) : Type 0 where
  pub inside : List ℕ
  pub bytes : List ℕ
  pub is : token ≡ 34 ∷ inside
  pub read : literal inside ≡ Ok bytes
  pub written : canon token ≡ literal_text bytes

literal_or_not : (byte : ℕ) (inside : List ℕ) (read : Result (List ℕ) JobKind) → (byte == 34) ≡ true → literal inside ≡ read → (canon (byte ∷ inside) ≡ byte ∷ inside) ⊎ IsLiteral (byte ∷ inside)
literal_or_not byte inside (Ok bytes) quote is =
    inr (record { inside = inside; bytes = bytes; is = ap (λ b. b ∷ inside) (eqb-true byte 34 quote); read = is; written = cond-true (byte == 34) _ _ quote ∙ ap (canon_literal (byte ∷ inside)) is })
literal_or_not byte inside (Err k) quote is = inl (cond-true (byte == 34) _ _ quote ∙ ap (canon_literal (byte ∷ inside)) is)

pub canon_cases : (token : List ℕ) → (canon token ≡ token) ⊎ IsLiteral token
canon_cases [] = inl refl
canon_cases (byte ∷ bytes) =
    ⊎_elim
    (λ (quote : (byte == 34) ≡ true). literal_or_not byte bytes (literal bytes) quote refl)
    (λ (other : (byte == 34) ≡ false). inl (unquoted_stays byte bytes other))
    (cases_Bool (byte == 34))

-- what looks at a literal's quote alone sees the same of its canonical token
pub same_of_canon : {A : Type 0} (f : List ℕ → A) → ((x y : List ℕ) → f (34 ∷ x) ≡ f (34 ∷ y)) → (token : List ℕ) → f (canon token) ≡ f token
same_of_canon f same token =
    ⊎_elim (λ (is : canon token ≡ token). ap f is)
    (λ (q : IsLiteral token). ap f q.written ∙ same (flat_map escaped q.bytes ++ 34 ∷ []) q.inside ∙ sym (ap f q.is))
    (canon_cases token)

pub read_inside : (found : Option (List ℕ)) (bytes : List ℕ) → fitting_literal found ≡ Ok bytes → (found ≡ Some bytes) × (nat_le (length bytes) RECORD_MOST ≡ true)
read_inside (Some other) bytes is = fits_or_not (nat_le (length other) RECORD_MOST) other bytes refl is
  where
    fits_or_not : (b : Bool) (other bytes : List ℕ) → nat_le (length other) RECORD_MOST ≡ b → cond b (Ok other) (Err kind.BadLine) ≡ Ok bytes → (Some other ≡ Some bytes) × (nat_le (length bytes) RECORD_MOST ≡ true)
    fits_or_not true other bytes fits is = let same : other ≡ bytes = cc in (ap (λ x. Some x) same, ap (λ x. nat_le (length x) RECORD_MOST) (sym same) ∙ fits)
    fits_or_not false other bytes fits is = cc
read_inside None bytes is = cc

allowed_inside : (token inside : List ℕ) → token ≡ 34 ∷ inside → list_all is_allowed token ≡ true → list_all is_allowed inside ≡ true
allowed_inside token inside is allowed = (and_parts (is_allowed 34) (list_all is_allowed inside) (ap (list_all is_allowed) (sym is) ∙ allowed)).1

literal_again : (bytes : List ℕ) → AreBytes bytes → nat_le (length bytes) RECORD_MOST ≡ true → literal (flat_map escaped bytes ++ 34 ∷ []) ≡ Ok bytes
literal_again bytes are fits = ap fitting_literal (all_decode bytes are) ∙ cond-true (nat_le (length bytes) RECORD_MOST) _ _ fits

-- a canonical token is the same atom
pub atom_same : (token : List ℕ) → list_all is_allowed token ≡ true → atom (canon token) ≡ atom token
atom_same token allowed =
    ⊎_elim (λ (is : canon token ≡ token). ap atom is)
    (λ (q : IsLiteral token).
    let inside = read_inside (decoded Plain q.inside) q.bytes q.read in
    let found = literal_short q.inside q.bytes (allowed_inside token q.inside q.is allowed) inside.0 in
    ap atom q.written ∙ ap as_bytes (literal_again q.bytes found.0 inside.1) ∙ sym (ap as_bytes q.read) ∙ sym (ap atom q.is))
    (canon_cases token)

pub name_same : (token : List ℕ) → list_all is_allowed token ≡ true → name (canon token) ≡ name token
name_same token allowed = ap as_name (atom_same token allowed)

-- and no longer
pub canon_short : (token : List ℕ) → list_all is_allowed token ≡ true → length (canon token) ≤ length token
canon_short token allowed =
    ⊎_elim (λ (is : canon token ≡ token). omega (arith, ap length is))
    (λ (q : IsLiteral token).
    let inside = read_inside (decoded Plain q.inside) q.bytes q.read in
    let found = literal_short q.inside q.bytes (allowed_inside token q.inside q.is allowed) inside.0 in
    omega (arith, found.1, ap length q.written, ap length q.is, length-append (flat_map escaped q.bytes) (34 ∷ [])))
    (canon_cases token)

-- its bytes may stand in a line
pub all_joined : (test : ℕ → Bool) (xs ys : List ℕ) → list_all test xs ≡ true → list_all test ys ≡ true → list_all test (xs ++ ys) ≡ true
all_joined test xs ys a b = list_all-append test xs ys ∙ and_from (list_all test xs) (list_all test ys) a b

digit_allowed : (d : ℕ) → d < 16 → is_allowed (digit_char d) ≡ true
digit_allowed d small =
    cond_both (nat_lt d 10) (48 + d) (87 + d) (λ c. is_allowed c ≡ true)
    (λ _. and_from (nat_le 32 (48 + d)) (nat_le (48 + d) 126) (le-leb 32 (48 + d) (omega arith)) (le-leb (48 + d) 126 (omega arith)))
    (λ _. and_from (nat_le 32 (87 + d)) (nat_le (87 + d) 126) (le-leb 32 (87 + d) (omega arith)) (le-leb (87 + d) 126 (omega arith)))

escape_allowed : (byte : ℕ) (text : List ℕ) → Escaping byte text → byte < 256 → list_all is_allowed text ≡ true
escape_allowed byte _ (at_quote is) small = refl
escape_allowed byte _ (at_backslash is) small = refl
escape_allowed byte _ (at_feed is) small = refl
escape_allowed byte _ (at_tab is) small = refl
escape_allowed byte _ (itself quote backslash is) small = and_from (is_allowed byte) true is refl
escape_allowed byte _ (by_digits isnt) small =
    let high : byte / 16 < 16 = omega arith in
    let low : byte % 16 < 16 = omega arith in
    ap (list_all is_allowed) (two_digits byte small)
    ∙ and_from (is_allowed (digit_char (byte / 16))) (is_allowed (digit_char (byte % 16)) && true) (digit_allowed (byte / 16) high) (and_from (is_allowed (digit_char (byte % 16))) true (digit_allowed (byte % 16) low) refl)

bytes_allowed : (bytes : List ℕ) → AreBytes bytes → list_all is_allowed (flat_map escaped bytes) ≡ true
bytes_allowed [] are = refl
bytes_allowed (byte ∷ bytes) are =
    all_joined is_allowed (escaped byte) (flat_map escaped bytes) (escape_allowed byte (escaped byte) (escaping byte) are.0) (bytes_allowed bytes are.1)

pub canon_allowed : (token : List ℕ) → list_all is_allowed token ≡ true → list_all is_allowed (canon token) ≡ true
canon_allowed token allowed =
    ⊎_elim (λ (is : canon token ≡ token). ap (list_all is_allowed) is ∙ allowed)
    (λ (q : IsLiteral token).
    let inside = read_inside (decoded Plain q.inside) q.bytes q.read in
    let found = literal_short q.inside q.bytes (allowed_inside token q.inside q.is allowed) inside.0 in
    ap (list_all is_allowed) q.written ∙ all_joined is_allowed (flat_map escaped q.bytes) (34 ∷ []) (bytes_allowed q.bytes found.0) refl)
    (canon_cases token)
