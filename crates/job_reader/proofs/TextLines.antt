-- A text that is read line by line.
use Rattle.std.specs.Prelude.{◌==◌}
use Rattle.std.proofs.Common.{◌≡◌, ℕ, ◌+◌, Bool, false, List, [], ◌∷◌, ◌++◌, length, Result, Ok, Err, refl, sym, ap, ◌∙◌, append_assoc, arith}
use Rattle.std.proofs.lemmas.List.{append-nil}
use Rattle.swan_model.specs.Lines.{lines}
use Rattle.job_reader.specs.FirstFault.{and_others, edition_after, is_nothing, job_from, job_of, job_of_lines, line_at, or_fault, with_position}
use Rattle.job_reader.specs.Positions.{after}
use Rattle.job_reader.specs.declared.fault.JobFault.{JobFault}
use Rattle.job_reader.specs.declared.fault.JobKind.{JobKind}
use Rattle.job_reader.specs.declared.line.Edition.{Edition}
use Rattle.job_reader.specs.declared.line.Edition.TheVariants.{One}
use Rattle.job_reader.specs.declared.line.Line.{Line}
use Rattle.job_reader.specs.declared.position.Position.{Position}
use Rattle.job_reader.specs.declared.position.Position.TheVariants.{First}
use Rattle.job_reader.proofs.LineEnds.{nothing_left}

-- what is read, after lines that are read already
abbrev pub with_lines_before : List Line → Result (List Line) JobFault → Result (List Line) JobFault
with_lines_before front (Ok more) = Ok (front ++ more)
with_lines_before front (Err fault) = Err fault

one_more : (front : List Line) (line : Line) (rest : Result (List Line) JobFault) → with_lines_before front (and_others line rest) ≡ with_lines_before (front ++ line ∷ []) rest
one_more front line (Ok more) = ap (λ l. Ok l) (sym (append_assoc front (line ∷ []) more))
one_more front line (Err fault) = refl

at_position : (position next : Position) (line : Line) (read : Result Line JobKind) → with_position position read ≡ Ok (line, next) → (read ≡ Ok line) × (next ≡ after position line)
at_position position next line (Ok other) is =
    let pair : ◌≡◌ {A = Line × Position} (other, after position other) (line, next) = cc in
    (ap (λ p. Ok p.0) pair, sym (ap (λ p. p.1) pair) ∙ ap (λ p. after position p.0) pair)
at_position position next line (Err k) is = cc

at_fault : (position : Position) (k : JobKind) (read : Result Line JobKind) → with_position position read ≡ Err k → read ≡ Err k
at_fault position k (Ok other) is = cc
at_fault position k (Err j) is = let same : j ≡ k = cc in ap (λ x. Err x) same

-- a turn: the text from here on is a line and more
module _ (text : List ℕ) (front : List Line) (e : Edition) (number : ℕ) (position : Position) (rest bytes more : List ℕ) (told : with_lines_before front (job_from e number position (lines rest)) ≡ job_from One 1 First (lines text)) (split : lines rest ≡ bytes ∷ lines more) (is_last : Bool) (left : is_last ≡ (length more == 0)) where
  at_turn : with_lines_before front (or_fault number (line_at e number (is_nothing (lines more)) position bytes) (λ line. and_others line (job_from (edition_after e line) (number + 1) (after position line) (lines more)))) ≡ job_from One 1 First (lines text)
  at_turn = ap (λ ls. with_lines_before front (job_from e number position ls)) (sym split) ∙ told

  pub turn_line : (line : Line) (next : Position) → with_position position (line_at e number is_last position bytes) ≡ Ok (line, next) → with_lines_before (front ++ line ∷ []) (job_from (edition_after e line) (number + 1) next (lines more)) ≡ job_from One 1 First (lines text)
  turn_line line next is =
      let found = at_position position next line (line_at e number is_last position bytes) is in
      let read : line_at e number (is_nothing (lines more)) position bytes ≡ Ok line = ap (λ b. line_at e number b position bytes) (nothing_left more ∙ sym left) ∙ found.0 in
      ap (λ p. with_lines_before (front ++ line ∷ []) (job_from (edition_after e line) (number + 1) p (lines more))) found.1
      ∙ sym (one_more front line (job_from (edition_after e line) (number + 1) (after position line) (lines more)))
      ∙ ap (λ r. with_lines_before front (or_fault number r (λ l. and_others l (job_from (edition_after e l) (number + 1) (after position l) (lines more))))) (sym read)
      ∙ at_turn

  pub turn_fault : (k : JobKind) → with_position position (line_at e number is_last position bytes) ≡ Err k → job_from One 1 First (lines text) ≡ Err (record { line = number; kind = k })
  turn_fault k is =
      let read : line_at e number (is_nothing (lines more)) position bytes ≡ Err k = ap (λ b. line_at e number b position bytes) (nothing_left more ∙ sym left) ∙ at_fault position k (line_at e number is_last position bytes) is in
      sym at_turn ∙ ap (λ r. with_lines_before front (or_fault number r (λ l. and_others l (job_from (edition_after e l) (number + 1) (after position l) (lines more))))) read

pub all_read : (text : List ℕ) (front : List Line) (e : Edition) (number : ℕ) (position : Position) (rest : List ℕ) → with_lines_before front (job_from e number position (lines rest)) ≡ job_from One 1 First (lines text) → length rest ≡ 0 → job_from One 1 First (lines text) ≡ Ok front
all_read text front e number position [] told none = sym told ∙ ap (λ l. Ok l) (append-nil front)
all_read text front e number position (byte ∷ bytes) told none = absurd (omega arith)

pub of_lines : (ls : List (List ℕ)) → is_nothing ls ≡ false → job_of_lines ls ≡ job_from One 1 First ls
of_lines [] some = cc
of_lines (line ∷ ls) some = refl

-- a text that isn't empty
pub of_text : (text : List ℕ) → (length text == 0) ≡ false → job_of text ≡ job_from One 1 First (lines text)
of_text text some = of_lines (lines text) (nothing_left text ∙ some)
