-- The generated job is read, checked and planned without a refusal.
use Rattle.std.proofs.Common.{◌≡◌, ℕ, zero, suc, ◌+◌, ◌<◌, ◌≤◌, ◌%◌, ◌^◌, Bool, true, false, cond, List, [], ◌∷◌, ◌++◌, length, take, None, Result, Ok, Err, refl, ap, ◌∙◌, append_assoc, arith, length-append}
use Rattle.std.specs.Prelude.{◌||◌, not, nat_lt, nat_le, pos, codes, bytes_eq, flat_map}
use Rattle.std.specs.Char.{is_ascii_digit}
use Rattle.std.specs.Fmt.{decimal}
use Rattle.std.specs.List.{list_all, join_with_byte}
use Rattle.std.proofs.lemmas.Bool.{and_parts, cond-false, le-ltb, lt-leb, ne_eqb}
use Rattle.std.proofs.lemmas.Fmt.{length-decimal-le}
use Rattle.swan_model.specs.declared.lines.TheConstants.{LINES_MOST}
use Rattle.swan_model.specs.declared.record.TheConstants.{RECORD_MOST}
use Rattle.swan_model.specs.Lines.{lines, refusal_from}
use Rattle.swan_model.specs.Texts.{line}
use Rattle.job_reader.specs.Atoms.{atom as atom_of}
use Rattle.job_reader.specs.Characters.{is_allowed}
use Rattle.job_reader.specs.Faults.{◌>>=◌}
use Rattle.job_reader.specs.FirstFault.{and_others, balanced, edition_after, is_one_too_many, is_past_limit, job_from, job_of, job_of_lines, line_alone, or_fault}
use Rattle.job_reader.specs.LineShape.{formed, shape}
use Rattle.job_reader.specs.Positions.{after}
use Rattle.job_reader.specs.Tokens.{tokens, trimmed}
use Rattle.job_reader.specs.declared.atom.Atom.TheVariants as atom
use Rattle.job_reader.specs.declared.fault.JobFault.{JobFault}
use Rattle.job_reader.specs.declared.fault.JobKind.TheVariants as fault
use Rattle.job_reader.specs.declared.line.Edition.TheVariants.{One}
use Rattle.job_reader.specs.declared.line.Line.{Line}
use Rattle.job_reader.specs.declared.line.Line.TheVariants as job_line
use Rattle.job_reader.specs.declared.position.Position.TheVariants.{First, InDo}
use Rattle.job_reader.proofs.CanonTokens.{all_joined}
use Rattle.job_reader.proofs.WholeTokens.{AllAlone, ends_joined, plain_alone, tokens_joined}
use Rattle.job_body.specs.PlanOfJob.{or_refused}
use Rattle.privilege_check.specs.FirstFault.{first_fault}
use Rattle.bulk_workload.specs.declared.texts.TheConstants.{BULK_MOST}
use Rattle.bulk_workload.specs.Bulk.{fold_fuel, fold_line, lines_before, number_after, number_lines}
use Rattle.bulk_workload.specs.NeverRefused.{IsNeverRefused}
use Rattle.bulk_workload.proofs.BulkLines.{bulk_lines}
use Rattle.bulk_workload.proofs.Digits.{AreDigits, all_digits, is_atom, isnt_equals, may_stand, no_space, of_decimal}
use Rattle.job_reader.proofs.ReadsBack.{line_break}

-- ---- the lines of a text that is made of lines

abbrev are_allowed : List (List ℕ) → Bool
are_allowed ls = list_all (list_all is_allowed) ls

next_line : (text rest : List ℕ) → list_all is_allowed text ≡ true → lines (line text ++ rest) ≡ text ∷ lines rest
next_line text rest may = ap lines (append_assoc text (10 ∷ []) rest) ∙ line_break text rest may

all_lines : (ls : List (List ℕ)) (rest : List ℕ) → are_allowed ls ≡ true → lines (flat_map line ls ++ rest) ≡ ls ++ lines rest
all_lines [] rest may = refl
all_lines (l ∷ ls) rest may =
    let parts = and_parts (list_all is_allowed l) (are_allowed ls) may in
    ap lines (append_assoc (line l) (flat_map line ls) rest) ∙ next_line l (flat_map line ls ++ rest) parts.0 ∙ ap (λ more. l ∷ more) (all_lines ls rest parts.1)

-- ---- the line that tells the fuel

abbrev words : List ℕ → List (List ℕ)
words digits = codes "spawn" ∷ digits ∷ codes "fold" ∷ codes "nums" ∷ codes "total" ∷ codes "count" ∷ codes "summary" ∷ []

abbrev spawns : ℕ → Line
spawns fuel =
    job_line.Spawn (atom.Int (pos fuel)) (codes "fold")
    (atom.Name (codes "nums") ∷ atom.Name (codes "total") ∷ atom.Name (codes "count") ∷ atom.Name (codes "summary") ∷ [])

alone : (n byte : ℕ) (bytes : List ℕ) → AreDigits n byte bytes → AllAlone (words (byte ∷ bytes))
alone n byte bytes are =
    let first = are.first in (
      plain_alone 115 (codes "pawn") refl refl refl,
      (
        plain_alone byte bytes (ne_eqb byte 32 (λ is. omega arith)) (ne_eqb byte 34 (λ is. omega arith)) (no_space bytes (and_parts (is_ascii_digit byte) (list_all is_ascii_digit bytes) are.digits).1),
        (
          plain_alone 102 (codes "old") refl refl refl,
          (
            plain_alone 110 (codes "ums") refl refl refl,
            (
              plain_alone 116 (codes "otal") refl refl refl,
              (
                plain_alone 99 (codes "ount") refl refl refl,
                (
                  plain_alone 115 (codes "ummary") refl refl refl,
                  tt,
                ),
              ),
            ),
          ),
        ),
      ),
    )

statement_is : (n : ℕ) (digits : List ℕ) → bytes_eq digits (codes "=") ≡ false → atom_of digits ≡ Ok (atom.Int (pos n)) → formed One (InDo []) (words digits) ≡ Ok (spawns n)
statement_is n digits isnt is = rw (isnt, is) refl

fold_read : (n byte : ℕ) (bytes : List ℕ) → AreDigits n byte bytes → length (byte ∷ bytes) ≤ 20 → n < 2 ^ 63
    → line_alone One 78 (InDo []) (codes "  spawn " ++ ((byte ∷ bytes) ++ codes " fold nums total count summary")) ≡ Ok (spawns n)
fold_read n byte bytes are short fits =
    let digits = byte ∷ bytes in
    let text = join_with_byte 32 (words digits) in
    let whole = 32 ∷ 32 ∷ text in
    let ts : tokens text ≡ words digits = tokens_joined (words digits) (alone n byte bytes are) in
    let allowed : list_all is_allowed whole ≡ true = all_joined is_allowed digits (codes " fold nums total count summary") (may_stand digits are.digits) refl in
    let trim : trimmed whole ≡ text = ends_joined (words digits) (alone n byte bytes are) in
    let size : nat_lt 4096 (length text) ≡ false = le-ltb 4096 (length text) (omega (arith, short, length-append digits (codes " fold nums total count summary"))) in
    let limit : is_past_limit 78 (InDo []) text ≡ false = ap (λ b. b || is_one_too_many (InDo []) (tokens text)) size ∙ ap (is_one_too_many (InDo [])) ts in
    cond-false (not (list_all is_allowed whole)) _ _ (ap not allowed)
    ∙ ap (λ t. cond (is_past_limit 78 (InDo []) t) (Err fault.Limit) (shape One (InDo []) t)) trim
    ∙ cond-false (is_past_limit 78 (InDo []) text) _ _ limit
    ∙ ap (formed One (InDo [])) ts
    ∙ statement_is n digits (isnt_equals n byte bytes are) (is_atom n byte bytes are fits)

-- ---- the job

abbrev all_before : List Line → Result (List Line) JobFault → Result (List Line) JobFault
all_before [] others = others
all_before (l ∷ ls) others = and_others l (all_before ls others)

-- the lines before that one
abbrev front : List Line
front = take 77 (bulk_lines 0)

front_reads : (text : List ℕ) (texts : List (List ℕ)) → job_from One 1 First (lines_before ++ text ∷ texts) ≡ all_before front (job_from One 78 (InDo []) (text ∷ texts))
front_reads text texts = refl

job_reads : (n : ℕ) → 0 < n → n < 10 ^ 7 → job_of (flat_map line lines_before ++ (line (fold_line n) ++ line (codes "end"))) ≡ Ok (bulk_lines n)
job_reads n above most =
    let d = of_decimal n above (omega arith) in
    let whole = fold_line n in
    let short : length (decimal n) ≤ 7 = length-decimal-le 7 n (omega arith) most (omega arith) in
    let few : length (d.0 ∷ d.1) ≤ 20 = omega (arith, short, ap length d.2) in
    let may : list_all is_allowed whole ≡ true = all_joined is_allowed (decimal n) (codes " fold nums total count summary") (may_stand (decimal n) (all_digits n (omega arith))) refl in
    let are : lines (flat_map line lines_before ++ (line whole ++ line (codes "end"))) ≡ lines_before ++ whole ∷ codes "end" ∷ [] =
    all_lines lines_before (line whole ++ line (codes "end")) refl
    ∙ ap (λ more. lines_before ++ more) (next_line whole (line (codes "end")) may)
    ∙ ap (λ more. lines_before ++ whole ∷ more) (next_line (codes "end") [] refl) in
    let read : line_alone One 78 (InDo []) whole ≡ Ok (spawns n) =
    ap (λ ds. line_alone One 78 (InDo []) (codes "  spawn " ++ (ds ++ codes " fold nums total count summary"))) d.2 ∙ fold_read n d.0 d.1 d.3 few (omega arith) in
    ap job_of_lines are
    ∙ front_reads whole (codes "end" ∷ [])
    ∙ ap (λ r. all_before front (or_fault 78 (r >>= balanced false (InDo [])) (λ l. and_others l (job_from (edition_after One l) 79 (after (InDo []) l) (codes "end" ∷ []))))) read

checked : (n : ℕ) → first_fault (bulk_lines n) ≡ None
checked n = refl

-- ---- the input

input_fits : (count before number : ℕ) → before + count ≤ LINES_MOST → number < 1000 → refusal_from before (lines (number_lines number count)) ≡ None
input_fits zero before number few small = refl
input_fits (suc count) before number few small =
    let more = number_lines (number_after number) count in
    let text = decimal number in
    let short : length text ≤ 4 = length-decimal-le 4 number (omega arith) (omega arith) (omega arith) in
    ap (refusal_from before) (next_line text more (may_stand text (all_digits number (omega arith))))
    ∙ cond-false (nat_le LINES_MOST before) _ _ (lt-leb LINES_MOST before (omega arith))
    ∙ cond-false (nat_lt RECORD_MOST (length text)) _ _ (le-ltb RECORD_MOST (length text) (omega (arith, short)))
    ∙ input_fits count (before + 1) (number_after number) (omega arith) (omega arith)

pub never_refused : (number size : ℕ) → size ≤ BULK_MOST → IsNeverRefused number size
never_refused number size most =
    let n = fold_fuel size in
    record {
      lines = bulk_lines n;
      is_read = job_reads n (omega arith) (omega arith);
      is_checked = checked n;
      is_planned = ap (λ why. or_refused 1 why None) (input_fits size 0 (number % 1000) (omega arith) (omega arith));
    }
