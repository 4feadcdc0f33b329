-- The first run of a line, and the runs after it.
use Rattle.std.proofs.Common.{◌≡◌, ℕ, suc, ◌+◌, ◌-◌, ◌≤◌, ◌<◌, Bool, true, false, not, cond, List, [], ◌∷◌, length, take, drop, filter, refl, sym, ap, ◌∙◌, arith}
use Rattle.std.proofs.lemmas.List.{append-nil, drop-drop, length-take-le}
use Rattle.std.proofs.lemmas.List.Sums.{prefix_len-le-length}
use Rattle.std.specs.Char.{is_ascii_alphanumeric}
use Rattle.std.specs.List.{prefix_len, slice_range}
use Rattle.swan_model.specs.Lines.{in_front}
use Rattle.swan_model.proofs.FirstLine.{in_front_of, with_front}
use Rattle.line_blocks.specs.Pieces.{pieces}
use Rattle.index_pipeline.specs.Words.{is_some_byte, runs}

-- whether a byte parts runs
abbrev pub parts : ℕ → Bool
parts byte = not (is_ascii_alphanumeric byte)

-- what stands before the first run has none
pub runs_past_gap : (line : List ℕ) → runs (drop (prefix_len parts line) line) ≡ runs line
runs_past_gap [] = refl
runs_past_gap (byte ∷ line) = by_case (is_ascii_alphanumeric byte) refl (runs_past_gap line)
  where
    by_case : (b : Bool) → is_ascii_alphanumeric byte ≡ b → runs (drop (prefix_len parts line) line) ≡ runs line → runs (drop (prefix_len parts (byte ∷ line)) (byte ∷ line)) ≡ runs (byte ∷ line)
    by_case true is rest =
        ap (λ n. runs (drop n (byte ∷ line))) (ap (λ c. cond (not c) (1 + prefix_len parts line) 0) is)
    by_case false is rest =
        let n = prefix_len parts line in
        ap (λ m. runs (drop m (byte ∷ line))) (ap (λ c. cond (not c) (1 + n) 0) is ∙ (let e : 1 + n ≡ suc n = omega arith in e))
        ∙ rest
        ∙ sym (ap (λ c. filter is_some_byte (cond (not c) ([] ∷ pieces parts line) (in_front byte (pieces parts line)))) is)

-- a text is the pieces of what stands after its first bytes of a run, with these in front
pieces_of_run : (line : List ℕ) → let n = prefix_len is_ascii_alphanumeric line in pieces parts line ≡ with_front (take n line) (pieces parts (drop n line))
pieces_of_run [] = refl
pieces_of_run (byte ∷ line) = by_case (is_ascii_alphanumeric byte) refl (pieces_of_run line)
  where
    by_case : (b : Bool) → is_ascii_alphanumeric byte ≡ b → pieces parts line ≡ with_front (take (prefix_len is_ascii_alphanumeric line) line) (pieces parts (drop (prefix_len is_ascii_alphanumeric line) line)) → let n = prefix_len is_ascii_alphanumeric (byte ∷ line) in pieces parts (byte ∷ line) ≡ with_front (take n (byte ∷ line)) (pieces parts (drop n (byte ∷ line)))
    by_case true is rest =
        let n = prefix_len is_ascii_alphanumeric line in
        let one : cond (is_ascii_alphanumeric byte) (1 + n) 0 ≡ suc n = ap (λ c. cond c (1 + n) 0) is ∙ (let e : 1 + n ≡ suc n = omega arith in e) in
        ap (λ c. cond (not c) ([] ∷ pieces parts line) (in_front byte (pieces parts line))) is
        ∙ ap (in_front byte) rest
        ∙ in_front_of byte (take n line) (pieces parts (drop n line))
        ∙ sym (ap (λ m. with_front (take m (byte ∷ line)) (pieces parts (drop m (byte ∷ line)))) one)
    by_case false is rest =
        let none : cond (is_ascii_alphanumeric byte) (1 + prefix_len is_ascii_alphanumeric line) 0 ≡ 0 = ap (λ c. cond c (1 + prefix_len is_ascii_alphanumeric line) 0) is in
        let here : pieces parts (byte ∷ line) ≡ [] ∷ pieces parts line = ap (λ c. cond (not c) ([] ∷ pieces parts line) (in_front byte (pieces parts line))) is in
        here ∙ ap (with_front []) (sym here) ∙ sym (ap (λ m. with_front (take m (byte ∷ line)) (pieces parts (drop m (byte ∷ line)))) none)

-- what comes after a run has no byte of a run in front
no_run_in_front : (line : List ℕ) → let n = prefix_len is_ascii_alphanumeric line in prefix_len is_ascii_alphanumeric (drop n line) ≡ 0
no_run_in_front [] = refl
no_run_in_front (byte ∷ line) = by_case (is_ascii_alphanumeric byte) refl (no_run_in_front line)
  where
    by_case : (b : Bool) → is_ascii_alphanumeric byte ≡ b → prefix_len is_ascii_alphanumeric (drop (prefix_len is_ascii_alphanumeric line) line) ≡ 0 → let n = prefix_len is_ascii_alphanumeric (byte ∷ line) in prefix_len is_ascii_alphanumeric (drop n (byte ∷ line)) ≡ 0
    by_case true is rest =
        let n = prefix_len is_ascii_alphanumeric line in
        ap (λ m. prefix_len is_ascii_alphanumeric (drop m (byte ∷ line))) (ap (λ c. cond c (1 + n) 0) is ∙ (let e : 1 + n ≡ suc n = omega arith in e)) ∙ rest
    by_case false is rest =
        let n = prefix_len is_ascii_alphanumeric line in
        let none : cond (is_ascii_alphanumeric byte) (1 + n) 0 ≡ 0 = ap (λ c. cond c (1 + n) 0) is in
        ap (λ m. prefix_len is_ascii_alphanumeric (drop m (byte ∷ line))) none ∙ none

-- a run that has a byte, with the pieces after it
some_run : (run rest : List ℕ) → 0 < length run → prefix_len is_ascii_alphanumeric rest ≡ 0 → filter is_some_byte (with_front run (pieces parts rest)) ≡ run ∷ runs rest
some_run [] rest some none = absurd (omega arith)
some_run (byte ∷ run) [] some none = ap (λ r. (byte ∷ r) ∷ []) (append-nil run)
some_run (byte ∷ run) (next ∷ rest) some none = by_case (is_ascii_alphanumeric next) refl
  where
    by_case : (b : Bool) → is_ascii_alphanumeric next ≡ b → filter is_some_byte (with_front (byte ∷ run) (pieces parts (next ∷ rest))) ≡ (byte ∷ run) ∷ runs (next ∷ rest)
    by_case true is =
        let more : 1 + prefix_len is_ascii_alphanumeric rest ≡ 0 = sym (ap (λ c. cond c (1 + prefix_len is_ascii_alphanumeric rest) 0) is) ∙ none in
        absurd (omega arith)
    by_case false is =
        let here : pieces parts (next ∷ rest) ≡ [] ∷ pieces parts rest = ap (λ c. cond (not c) ([] ∷ pieces parts rest) (in_front next (pieces parts rest))) is in
        ap (λ ps. filter is_some_byte (with_front (byte ∷ run) ps)) here
        ∙ ap (λ r. (byte ∷ r) ∷ filter is_some_byte (pieces parts rest)) (append-nil run)
        ∙ ap (λ ps. (byte ∷ run) ∷ filter is_some_byte ps) (sym here)

-- the first run of a line stands behind the gap, and the others after it
pub first_run_is : (line : List ℕ) (gap : ℕ) (len : ℕ) → gap ≡ prefix_len parts line → len ≡ prefix_len is_ascii_alphanumeric (drop gap line) → 0 < len
    → runs line ≡ take len (drop gap line) ∷ runs (drop len (drop gap line))
first_run_is line gap len gap_is len_is some =
    let behind = drop gap line in
    let run = take len behind in
    let short : len ≤ length behind = omega (arith, prefix_len-le-length is_ascii_alphanumeric behind) in
    let long : length run ≡ len = length-take-le len behind short in
    let stops : prefix_len is_ascii_alphanumeric (drop len behind) ≡ 0 = ap (λ n. prefix_len is_ascii_alphanumeric (drop n behind)) len_is ∙ no_run_in_front behind in
    sym (ap (λ n. runs (drop n line)) gap_is ∙ runs_past_gap line)
    ∙ ap (filter is_some_byte) (pieces_of_run behind ∙ ap (λ n. with_front (take n behind) (pieces parts (drop n behind))) (sym len_is))
    ∙ some_run run (drop len behind) (omega arith) stops

-- where no run comes after the gap nothing does
all_gap : (line : List ℕ) → prefix_len is_ascii_alphanumeric (drop (prefix_len parts line) line) ≡ 0 → drop (prefix_len parts line) line ≡ []
all_gap [] none = refl
all_gap (byte ∷ line) none = by_case (is_ascii_alphanumeric byte) refl (all_gap line)
  where
    by_case : (b : Bool) → is_ascii_alphanumeric byte ≡ b → (prefix_len is_ascii_alphanumeric (drop (prefix_len parts line) line) ≡ 0 → drop (prefix_len parts line) line ≡ []) → drop (prefix_len parts (byte ∷ line)) (byte ∷ line) ≡ []
    by_case true is rest =
        let here : prefix_len parts (byte ∷ line) ≡ 0 = ap (λ c. cond (not c) (1 + prefix_len parts line) 0) is in
        let more : 1 + prefix_len is_ascii_alphanumeric line ≡ 0 = sym (ap (λ c. cond c (1 + prefix_len is_ascii_alphanumeric line) 0) is) ∙ sym (ap (λ n. prefix_len is_ascii_alphanumeric (drop n (byte ∷ line))) here) ∙ none in
        absurd (omega arith)
    by_case false is rest =
        let n = prefix_len parts line in
        let here : prefix_len parts (byte ∷ line) ≡ suc n = ap (λ c. cond (not c) (1 + n) 0) is ∙ (let e : 1 + n ≡ suc n = omega arith in e) in
        ap (λ m. drop m (byte ∷ line)) here ∙ rest (sym (ap (λ m. prefix_len is_ascii_alphanumeric (drop m (byte ∷ line))) here) ∙ none)

-- and there is no run
pub no_run_is : (line : List ℕ) (gap : ℕ) → gap ≡ prefix_len parts line → prefix_len is_ascii_alphanumeric (drop gap line) ≡ 0 → runs line ≡ []
no_run_is line gap gap_is none =
    sym (ap (λ n. runs (drop n line)) gap_is ∙ runs_past_gap line)
    ∙ ap runs (ap (λ n. drop n line) gap_is ∙ all_gap line (sym (ap (λ n. prefix_len is_ascii_alphanumeric (drop n line)) gap_is) ∙ none))

pub first_run_range : (line : List ℕ) (from len : ℕ) → from ≡ prefix_len parts line → len ≡ prefix_len is_ascii_alphanumeric (drop from line) → 0 < len
    → runs line ≡ slice_range line from (from + len) ∷ runs (drop (from + len) line)
first_run_range line from len from_is len_is some =
    first_run_is line from len from_is len_is some
    ∙ ap (λ n. take n (drop from line) ∷ runs (drop len (drop from line))) (let e : len ≡ from + len - from = omega arith in e)
    ∙ ap (λ rest. slice_range line from (from + len) ∷ runs rest) (drop-drop len from line)
