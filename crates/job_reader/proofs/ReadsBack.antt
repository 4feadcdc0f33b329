-- The canonical text of a job reads back as the job.
use Rattle.std.proofs.Common.{◌≡◌, ℕ, zero, suc, ◌+◌, ◌*◌, ◌<◌, ◌≤◌, Bool, true, false, cond, List, [], ◌∷◌, ◌++◌, length, replicate, Result, Ok, Err, refl, sym, ap, subst, ◌∙◌, ⊎_elim, append_assoc, arith}
use Rattle.std.specs.Prelude.{◌==◌, ◌&&◌, ◌||◌, not, nat_le, nat_lt, map}
use Rattle.std.specs.List.{list_all, join_with_byte}
use Rattle.std.proofs.lemmas.Bool.{cond-true, cond-false, cond_both, cases_Bool, and_parts, or_from, or_parts, ltb-false, le-ltb, ne_eqb, leb-true}
use Rattle.swan_model.specs.Lines.{lines, in_front}
use Rattle.swan_model.proofs.FirstLine.{line_ended}
use Rattle.job_reader.specs.CanonicalText.{indentation, line_text, text_from, text_of, whole_line}
use Rattle.job_reader.specs.Characters.{is_allowed}
use Rattle.job_reader.specs.Faults.{◌>>=◌}
use Rattle.job_reader.specs.FirstFault.{and_others, balanced, edition_after, is_nothing, is_one_too_many, is_past_limit, is_unbalanced, job_from, job_of, job_of_lines, line_alone, line_at, or_fault}
use Rattle.job_reader.specs.LineShape.{formed, is_first, is_note, shape}
use Rattle.job_reader.specs.Positions.{after}
use Rattle.job_reader.specs.Tokens.{tokens, tokens_from, trimmed, with_byte, without_end_spaces, without_front_spaces, before_trimmed}
use Rattle.job_reader.specs.declared.fault.JobFault.{JobFault}
use Rattle.job_reader.specs.declared.fault.JobKind.{JobKind}
use Rattle.job_reader.specs.declared.fault.JobKind.TheVariants as kind
use Rattle.job_reader.specs.declared.job.TheConstants.{JOB_LINES_MOST}
use Rattle.job_reader.specs.declared.line.Edition.{Edition}
use Rattle.job_reader.specs.declared.line.Edition.TheVariants.{One}
use Rattle.job_reader.specs.declared.line.Line.{Line}
use Rattle.job_reader.specs.declared.line.Line.TheVariants as line
use Rattle.job_reader.specs.declared.position.Position.{Position}
use Rattle.job_reader.specs.declared.position.Position.TheVariants.{First}
use Rattle.job_reader.specs.declared.read.TheConstants.{LINE_MOST}
use Rattle.job_reader.specs.declared.scan.Scan.TheVariants.{Between, Token, Quoted}
use Rattle.job_reader.proofs.Ascii.{trimmed_may}
use Rattle.job_reader.proofs.Canon.{bind_ok, canon}
use Rattle.job_reader.proofs.CanonTokens.{all_joined, same_of_canon}
use Rattle.job_reader.proofs.SameForms.{canon_may, formed_same, join_may, limit_same, line_may, text_short}
use Rattle.job_reader.proofs.TextLines.{of_lines}
use Rattle.job_reader.proofs.WholeTokens.{AllAlone, all_alone, are_tokens, begins_joined, ends_joined, tokens_joined}
use Rattle.job_reader.proofs.WrittenLines.{formed_written}

-- outer spaces that are gone stay gone
end_gone : (byte : ℕ) (bytes : List ℕ) → without_end_spaces bytes ≡ bytes → without_end_spaces (before_trimmed byte bytes) ≡ before_trimmed byte bytes
end_gone byte [] is =
    ⊎_elim
    (λ (space : (byte == 32) ≡ true). ap without_end_spaces (cond-true (byte == 32) [] (byte ∷ []) space) ∙ sym (cond-true (byte == 32) [] (byte ∷ []) space))
    (λ (other : (byte == 32) ≡ false). ap without_end_spaces (cond-false (byte == 32) [] (byte ∷ []) other))
    (cases_Bool (byte == 32))
end_gone byte (first ∷ bytes) is = ap (before_trimmed byte) is

no_end : (bytes : List ℕ) → without_end_spaces (without_end_spaces bytes) ≡ without_end_spaces bytes
no_end [] = refl
no_end (byte ∷ bytes) = end_gone byte (without_end_spaces bytes) (no_end bytes)

abbrev BeginsWell : List ℕ → Type 0
BeginsWell [] = Unit {0}
BeginsWell (byte ∷ bytes) = (byte == 32) ≡ false

front_begins : (bytes : List ℕ) → BeginsWell (without_front_spaces bytes)
front_begins [] = tt
front_begins (byte ∷ bytes) = cond_both (byte == 32) (without_front_spaces bytes) (byte ∷ bytes) BeginsWell (λ _. front_begins bytes) (λ other. other)

still_begins : (byte : ℕ) (bytes : List ℕ) → (byte == 32) ≡ false → BeginsWell (before_trimmed byte bytes)
still_begins byte [] other = cond_both (byte == 32) [] (byte ∷ []) BeginsWell (λ _. tt) (λ isnt. isnt)
still_begins byte (first ∷ bytes) other = other

end_begins : (bytes : List ℕ) → BeginsWell bytes → BeginsWell (without_end_spaces bytes)
end_begins [] well = tt
end_begins (byte ∷ bytes) well = still_begins byte (without_end_spaces bytes) well

trimmed_begins : (bytes : List ℕ) → BeginsWell (trimmed bytes)
trimmed_begins bytes = end_begins (without_front_spaces bytes) (front_begins bytes)

no_front_of : (text : List ℕ) → BeginsWell text → without_front_spaces text ≡ text
no_front_of [] well = refl
no_front_of (byte ∷ bytes) well = cond-false (byte == 32) _ _ well

-- indentation is trimmed
indent_gone : (k : ℕ) (text : List ℕ) → without_front_spaces (replicate k 32 ++ text) ≡ without_front_spaces text
indent_gone zero text = refl
indent_gone (suc k) text = indent_gone k text

trimmed_again : (k : ℕ) (text : List ℕ) → without_front_spaces text ≡ text → without_end_spaces text ≡ text → trimmed (replicate k 32 ++ text) ≡ text
trimmed_again k text front end = ap without_end_spaces (indent_gone k text ∙ front) ∙ end

spaces_may : (k : ℕ) → list_all is_allowed (replicate k 32) ≡ true
spaces_may zero = refl
spaces_may (suc k) = spaces_may k

-- whether a line is a note shows in its first token
first_is_note : (token : List ℕ) → 0 < length token → (rest : List ℕ) → is_note (token ++ rest) ≡ is_note token
first_is_note [] some rest = absurd (omega arith)
first_is_note (byte ∷ token) some rest = refl

joined_note : (token : List ℕ) (ts : List (List ℕ)) → 0 < length token → is_note (join_with_byte 32 (token ∷ ts)) ≡ is_note token
joined_note token [] some = refl
joined_note token (other ∷ ts) some = first_is_note token some (32 ∷ join_with_byte 32 (other ∷ ts))

abbrev first_note : List (List ℕ) → Bool
first_note [] = true
first_note (token ∷ ts) = is_note token

front_note : (byte : ℕ) (ts : List (List ℕ)) → first_note (in_front byte ts) ≡ (byte == 35)
front_note byte [] = refl
front_note byte (token ∷ ts) = refl

tokens_note : (text : List ℕ) → BeginsWell text → first_note (tokens text) ≡ is_note text
tokens_note [] well = refl
tokens_note (byte ∷ bytes) well =
    ap (λ n. first_note (with_byte Between byte n (tokens_from n bytes))) (cond-false (byte == 32) Between (cond (byte == 34) Quoted Token) well)
    ∙ cond_both (byte == 34) Quoted Token (λ n. first_note (with_byte Between byte n (tokens_from n bytes)) ≡ (byte == 35))
    (λ _. front_note byte (tokens_from Quoted bytes)) (λ _. front_note byte (tokens_from Token bytes))

canon_note : (ts : List (List ℕ)) → first_note (map canon ts) ≡ first_note ts
canon_note [] = refl
canon_note (token ∷ ts) = same_of_canon is_note (λ x y. refl) token

joined_is_note : (ts : List (List ℕ)) → AllAlone ts → is_note (join_with_byte 32 ts) ≡ first_note ts
joined_is_note [] alone = refl
joined_is_note (token ∷ ts) alone = joined_note token ts alone.0.some

-- a line of a job, by what was read of it
record Reads (e : Edition) (number : ℕ) (position : Position) (text : List ℕ) (l : Line) : Type 0 where
  allowed : list_all is_allowed text ≡ true
  fits : is_past_limit number position text ≡ false
  shaped : shape e position text ≡ Ok l

alone_again : (e : Edition) (number : ℕ) (position : Position) (bytes text : List ℕ) (l : Line) → list_all is_allowed bytes ≡ true → trimmed bytes ≡ text → Reads e number position text l → line_alone e number position bytes ≡ Ok l
alone_again e number position bytes text l allowed is reads =
    cond-false (not (list_all is_allowed bytes)) _ _ (ap not allowed)
    ∙ ap (λ t. cond (is_past_limit number position t) (Err kind.Limit) (shape e position t)) is
    ∙ cond-false (is_past_limit number position text) _ _ reads.fits
    ∙ reads.shaped

pub was_read : (e : Edition) (number : ℕ) (position : Position) (bytes : List ℕ) (l : Line) → line_alone e number position bytes ≡ Ok l → (list_all is_allowed bytes ≡ true) × (is_past_limit number position (trimmed bytes) ≡ false) × (shape e position (trimmed bytes) ≡ Ok l)
was_read e number position bytes l is = by_tests (list_all is_allowed bytes) (is_past_limit number position (trimmed bytes)) (shape e position (trimmed bytes)) is
  where
    by_tests : (a b : Bool) (r : Result Line JobKind) → cond (not a) (Err kind.BadByte) (cond b (Err kind.Limit) r) ≡ Ok l → (a ≡ true) × (b ≡ false) × (r ≡ Ok l)
    by_tests true false r is = (refl, refl, is)
    by_tests true true r is = cc
    by_tests false _ r is = cc

-- the canonical text of a line is read as the line
record Again (e : Edition) (number : ℕ) (position : Position) (text : List ℕ) (l : Line) : Type 0 where
  reads : Reads e number position text l
  begins : without_front_spaces text ≡ text
  ends : without_end_spaces text ≡ text

formed_again : (e : Edition) (number : ℕ) (position : Position) (text : List ℕ) (l : Line) → BeginsWell text → list_all is_allowed text ≡ true → is_past_limit number position text ≡ false → (is_note text && not (is_first position)) ≡ false → formed e position (tokens text) ≡ Ok l → Again e number position (line_text l) l
formed_again e number position text l well allowed fits isnt is =
    let ts = tokens text in
    let may = line_may text allowed in
    let written = formed_written e position ts l is in
    let alone = all_alone ts (are_tokens text) written.1 may in
    let limits = or_parts (nat_lt JOB_LINES_MOST number || nat_lt LINE_MOST (length text)) (is_one_too_many position ts) fits in
    let sizes = or_parts (nat_lt JOB_LINES_MOST number) (nat_lt LINE_MOST (length text)) limits.0 in
    let short : length text ≤ LINE_MOST = ltb-false LINE_MOST (length text) sizes.1 in
    let shorter = text_short text may in
    let same = tokens_joined (map canon ts) alone in
    let note : is_note (join_with_byte 32 (map canon ts)) ≡ is_note text = joined_is_note (map canon ts) alone ∙ canon_note ts ∙ tokens_note text well in
    subst (λ t. Again e number position t l) (sym (ap (join_with_byte 32) written.0)) (record {
      reads = record {
        allowed = join_may (map canon ts) (canon_may ts may);
        fits = or_from (nat_lt JOB_LINES_MOST number || nat_lt LINE_MOST (length (join_with_byte 32 (map canon ts)))) (is_one_too_many position (tokens (join_with_byte 32 (map canon ts))))
            (or_from (nat_lt JOB_LINES_MOST number) (nat_lt LINE_MOST (length (join_with_byte 32 (map canon ts)))) sizes.0 (le-ltb LINE_MOST (length (join_with_byte 32 (map canon ts))) (omega (arith, shorter, short))))
            (ap (is_one_too_many position) same ∙ limit_same position ts ∙ limits.1);
        shaped =
            cond-false (is_note (join_with_byte 32 (map canon ts)) && not (is_first position)) _ _ (ap (λ b. b && not (is_first position)) note ∙ isnt)
            ∙ ap (formed e position) same ∙ formed_same e position ts may ∙ is;
      };
      begins = begins_joined (map canon ts) alone;
      ends = ends_joined (map canon ts) alone;
    })

note_again : (e : Edition) (number : ℕ) (position : Position) (text : List ℕ) (l : Line) → Reads e number position text l → without_front_spaces text ≡ text → without_end_spaces text ≡ text → line.Note text ≡ l → Again e number position (line_text l) l
note_again e number position text l reads front end is =
    subst (λ x. Again e number position (line_text x) l) is (record { reads = reads; begins = front; ends = end })

line_again : (e : Edition) (number : ℕ) (position : Position) (bytes : List ℕ) (l : Line) → line_alone e number position bytes ≡ Ok l → Again e number position (line_text l) l
line_again e number position bytes l is =
    let read = was_read e number position bytes l is in
    let text = trimmed bytes in
    let well = trimmed_begins bytes in
    let allowed = trimmed_may bytes read.0 in
    ⊎_elim
    (λ (note : (is_note text && not (is_first position)) ≡ true).
    let made : Ok (line.Note text) ≡ Ok l = sym (cond-true (is_note text && not (is_first position)) _ _ note) ∙ read.2 in
    note_again e number position text l (record { allowed = allowed; fits = read.1; shaped = read.2 }) (no_front_of text well) (no_end (without_front_spaces bytes)) cc)
    (λ (isnt : (is_note text && not (is_first position)) ≡ false).
    formed_again e number position text l well allowed read.1 isnt (sym (cond-false (is_note text && not (is_first position)) _ _ isnt) ∙ read.2))
    (cases_Bool (is_note text && not (is_first position)))

indented_again : (e : Edition) (number k : ℕ) (position : Position) (bytes : List ℕ) (l : Line) → line_alone e number position bytes ≡ Ok l → line_alone e number position (replicate k 32 ++ line_text l) ≡ Ok l
indented_again e number k position bytes l is =
    let again = line_again e number position bytes l is in
    alone_again e number position (replicate k 32 ++ line_text l) (line_text l) l (all_joined is_allowed (replicate k 32) (line_text l) (spaces_may k) again.reads.allowed) (trimmed_again k (line_text l) again.begins again.ends) again.reads

-- bytes that may stand in a line are no line feeds
no_feed : (text : List ℕ) → list_all is_allowed text ≡ true → list_all (λ byte. not (byte == 10)) text ≡ true
no_feed [] may = refl
no_feed (byte ∷ text) may =
    let parts = and_parts (is_allowed byte) (list_all is_allowed text) may in
    let low : 32 ≤ byte = leb-true 32 byte (and_parts (nat_le 32 byte) (nat_le byte 126) parts.0).0 in
    let isnt : (byte == 10) ≡ false = ne_eqb byte 10 (λ is. omega arith) in
    ap (λ b. not b && list_all (λ other. not (other == 10)) text) isnt ∙ no_feed text parts.1

-- a line ends at its line feed
pub line_break : (text rest : List ℕ) → list_all is_allowed text ≡ true → lines (text ++ 10 ∷ rest) ≡ text ∷ lines rest
line_break text rest may = line_ended text rest (no_feed text may)

-- a balanced line is the line that was read
pub kept : (last : Bool) (position : Position) (l m : Line) → balanced last position l ≡ Ok m → l ≡ m
kept last position l m is = by_test (is_unbalanced last position l) is
  where
    by_test : (b : Bool) → cond b (Err kind.Unbalanced) (Ok l) ≡ Ok m → l ≡ m
    by_test true is = cc
    by_test false is = cc

-- what was read of the first line, and of the others
pub record Split (e : Edition) (number : ℕ) (last : Bool) (position : Position) (bytes : List ℕ) (more : List (List ℕ)) (ls : List Line) : Type 0 where
  pub first : Line
  pub rest : List Line
  pub read : line_at e number last position bytes ≡ Ok first
  pub others : job_from (edition_after e first) (number + 1) (after position first) more ≡ Ok rest
  pub joined : first ∷ rest ≡ ls

pub split : (e : Edition) (number : ℕ) (last : Bool) (position : Position) (bytes : List ℕ) (more : List (List ℕ)) (ls : List Line) (r : Result Line JobKind) → line_at e number last position bytes ≡ r → or_fault number r (λ l. and_others l (job_from (edition_after e l) (number + 1) (after position l) more)) ≡ Ok ls → Split e number last position bytes more ls
split e number last position bytes more ls (Err k) read is = cc
split e number last position bytes more ls (Ok l) read is = with_others (job_from (edition_after e l) (number + 1) (after position l) more) refl is
  where
    with_others : (o : Result (List Line) JobFault) → job_from (edition_after e l) (number + 1) (after position l) more ≡ o → and_others l o ≡ Ok ls → Split e number last position bytes more ls
    with_others (Ok rest) others is = record { first = l; rest = rest; read = read; others = others; joined = cc }
    with_others (Err fault) others is = cc

whole_is : (position : Position) (l : Line) (rest : List ℕ) → whole_line position l ++ rest ≡ (replicate (2 * indentation position l) 32 ++ line_text l) ++ 10 ∷ rest
whole_is position l rest = append_assoc (replicate (2 * indentation position l) 32 ++ line_text l) (10 ∷ []) rest

-- lines that were read are read again from their canonical text
record Same (e : Edition) (number : ℕ) (position : Position) (raw : List (List ℕ)) (ls : List Line) : Type 0 where
  read : job_from e number position (lines (text_from position ls)) ≡ Ok ls
  left : is_nothing (lines (text_from position ls)) ≡ is_nothing raw

same_line : (e : Edition) (number : ℕ) (last : Bool) (position : Position) (bytes : List ℕ) (l : Line) (k : ℕ) → line_at e number last position bytes ≡ Ok l → (line_at e number last position (replicate k 32 ++ line_text l) ≡ Ok l) × (list_all is_allowed (replicate k 32 ++ line_text l) ≡ true)
same_line e number last position bytes l k is =
    let found = bind_ok (line_alone e number position bytes) (balanced last position) l is in
    let same = kept last position found.0 l found.2 in
    let alone : line_alone e number position bytes ≡ Ok l = found.1 ∙ ap (λ x. Ok x) same in
    let again = line_again e number position bytes l alone in (
      ap (λ r. r >>= balanced last position) (indented_again e number k position bytes l alone) ∙ ap (balanced last position) (sym same) ∙ found.2,
      all_joined is_allowed (replicate k 32) (line_text l) (spaces_may k) again.reads.allowed,
    )

job_again : (raw : List (List ℕ)) (e : Edition) (number : ℕ) (position : Position) (ls : List Line) → job_from e number position raw ≡ Ok ls → Same e number position raw ls
job_again [] e number position ls is = let none : [] ≡ ls = cc in subst (Same e number position []) none (record { read = refl; left = refl })
job_again (bytes ∷ more) e number position ls is =
    let parts = split e number (is_nothing more) position bytes more ls (line_at e number (is_nothing more) position bytes) refl is in
    let l = parts.first in
    let rest = parts.rest in
    let others = job_again more (edition_after e l) (number + 1) (after position l) rest parts.others in
    let k = 2 * indentation position l in
    let line_same = same_line e number (is_nothing more) position bytes l k parts.read in
    let text = replicate k 32 ++ line_text l in
    let cut : lines (text_from position (l ∷ rest)) ≡ text ∷ lines (text_from (after position l) rest) = ap lines (whole_is position l (text_from (after position l) rest)) ∙ line_break text (text_from (after position l) rest) line_same.1 in
    subst (Same e number position (bytes ∷ more)) parts.joined (record {
      read =
          ap (job_from e number position) cut
          ∙ ap (λ b. or_fault number (line_at e number b position text) (λ x. and_others x (job_from (edition_after e x) (number + 1) (after position x) (lines (text_from (after position l) rest))))) others.left
          ∙ ap (λ r. or_fault number r (λ x. and_others x (job_from (edition_after e x) (number + 1) (after position x) (lines (text_from (after position l) rest))))) line_same.0
          ∙ ap (and_others l) others.read;
      left = ap is_nothing cut;
    })

back_of : (raw : List (List ℕ)) (ls : List Line) → job_of_lines raw ≡ Ok ls → job_of (text_of ls) ≡ Ok ls
back_of [] ls is = cc
back_of (bytes ∷ more) ls is =
    let same = job_again (bytes ∷ more) One 1 First ls is in
    of_lines (lines (text_of ls)) same.left ∙ same.read

-- a job that a text is, is also what its canonical text is
pub reads_back : (text : List ℕ) (job : List Line) → job_of text ≡ Ok job → job_of (text_of job) ≡ Ok job
reads_back text job is = back_of (lines text) job is
