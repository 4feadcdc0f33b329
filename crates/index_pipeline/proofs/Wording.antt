-- What words are made of, and how many there are.
use Rattle.std.proofs.Common.{◌≡◌, ℕ, suc, ◌+◌, ◌≤◌, Bool, true, false, not, cond, nat_eq, List, [], ◌∷◌, length, map, take, filter, refl, arith, zero}
use Rattle.std.proofs.lemmas.Bool.Decides.{nat_tests}
use Rattle.std.proofs.lemmas.List.{length-map}
use Rattle.std.specs.Char.{is_ascii_alphanumeric, to_ascii_lowercase}
use Rattle.std.specs.List.{AllByRecursion}
use Rattle.swan_model.specs.Lines.{in_front}
use Rattle.line_blocks.specs.Pieces.{pieces}
use Rattle.index_pipeline.specs.Words.{is_some_byte, runs, word_of, words}
use Rattle.index_pipeline.proofs.Runs.{parts}

-- ---- no word has a space

-- letters and digits alone
abbrev pub IsRun : List ℕ → Type 0
IsRun bytes = AllByRecursion (λ byte. is_ascii_alphanumeric byte ≡ true) bytes

abbrev pub HasNoSpace : List ℕ → Type 0
HasNoSpace bytes = AllByRecursion (λ byte. nat_eq byte 32 ≡ false) bytes

no_space_lowered : (byte : ℕ) → is_ascii_alphanumeric byte ≡ true → nat_eq (to_ascii_lowercase byte) 32 ≡ false
no_space_lowered byte is = grind (arith, nat_tests)

no_space_in : (n : ℕ) (run : List ℕ) → IsRun run → HasNoSpace (map to_ascii_lowercase (take n run))
no_space_in zero run all = tt
no_space_in (suc n) [] all = tt
no_space_in (suc n) (byte ∷ run) all = (no_space_lowered byte all.0, no_space_in n run all.1)

runs_before : (byte : ℕ) (ps : List (List ℕ)) → is_ascii_alphanumeric byte ≡ true → AllByRecursion IsRun ps → AllByRecursion IsRun (in_front byte ps)
runs_before byte [] is all = ((is, tt), tt)
runs_before byte (piece ∷ ps) is all = ((is, all.0), all.1)

pieces_are_runs : (line : List ℕ) → AllByRecursion IsRun (pieces parts line)
pieces_are_runs [] = (tt, tt)
pieces_are_runs (byte ∷ line) = by_case (is_ascii_alphanumeric byte) refl (pieces_are_runs line)
  where
    by_case : (b : Bool) → is_ascii_alphanumeric byte ≡ b → AllByRecursion IsRun (pieces parts line) → AllByRecursion IsRun (cond (not b) ([] ∷ pieces parts line) (in_front byte (pieces parts line)))
    by_case true is rest = runs_before byte (pieces parts line) is rest
    by_case false is rest = (tt, rest)

all_filtered : (ps : List (List ℕ)) → AllByRecursion IsRun ps → AllByRecursion IsRun (filter is_some_byte ps)
all_filtered [] all = tt
all_filtered ([] ∷ ps) all = all_filtered ps all.1
all_filtered ((byte ∷ piece) ∷ ps) all = (all.0, all_filtered ps all.1)

all_words : (rs : List (List ℕ)) → AllByRecursion IsRun rs → AllByRecursion HasNoSpace (map word_of rs)
all_words [] all = tt
all_words (run ∷ rs) all = (no_space_in 64 run all.0, all_words rs all.1)

pub words_have_no_space : (line : List ℕ) → AllByRecursion HasNoSpace (words line)
words_have_no_space line = all_words (runs line) (all_filtered (pieces parts line) (pieces_are_runs line))

-- ---- a line has no more words than bytes

some_before : (byte : ℕ) (ps : List (List ℕ)) → length (filter is_some_byte (in_front byte ps)) ≤ 1 + length (filter is_some_byte ps)
some_before byte [] = omega arith
some_before byte ([] ∷ ps) = omega arith
some_before byte ((first ∷ piece) ∷ ps) = omega arith

few_runs : (line : List ℕ) → length (runs line) ≤ length line
few_runs [] = omega arith
few_runs (byte ∷ line) = by_case (not (is_ascii_alphanumeric byte)) (few_runs line)
  where
    by_case : (b : Bool) → length (runs line) ≤ length line → length (filter is_some_byte (cond b ([] ∷ pieces parts line) (in_front byte (pieces parts line)))) ≤ length (byte ∷ line)
    by_case true rest = omega arith
    by_case false rest = omega (arith, some_before byte (pieces parts line))

pub few_words : (line : List ℕ) → length (words line) ≤ length line
few_words line = omega (arith, few_runs line, length-map (runs line) word_of)
