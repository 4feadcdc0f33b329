-- The records of the words of lines.
use Rattle.std.proofs.Common.{◌≡◌, ℕ, suc, ◌+◌, ◌^◌, ◌≤◌, ◌<◌, List, [], ◌∷◌, ◌++◌, length, map, refl, sym, ap, ◌∙◌, arith, append_assoc, length-append}
use Rattle.std.proofs.lemmas.List.{length-map, map-append}
use Rattle.std.proofs.lemmas.Simd.{map-map}
use Rattle.std.specs.List.{AllByRecursion}
use Rattle.swan_model.specs.declared.value.Value.{Value}
use Rattle.swan_model.specs.declared.value.Value.TheVariants.{Bytes}
use Rattle.swan_model.specs.Values.{bytes_of, COUNT_MOST}
use Rattle.line_blocks.specs.LineBlocks.{byte_count, later}
use Rattle.index_pipeline.specs.Index.{pairs_from}
use Rattle.index_pipeline.specs.Pairs.{Pair}
use Rattle.index_pipeline.specs.Records.{line_records, record_of, records_from}
use Rattle.index_pipeline.specs.Words.{words}
use Rattle.index_pipeline.proofs.Collecting.{IsTold}
use Rattle.index_pipeline.proofs.Telling.{pair_of-text}
use Rattle.index_pipeline.proofs.Wording.{HasNoSpace, few_words, words_have_no_space}

-- ---- of two pieces

pub records-append : (n : ℕ) (xs ys : List Value) → n ≤ COUNT_MOST → records_from n (xs ++ ys) ≡ records_from n xs ++ records_from (later n (length xs)) ys
records-append n [] ys fits = ap (λ m. records_from m ys) (let e : n ≡ later n 0 = omega arith in e)
records-append n (x ∷ xs) ys fits =
    let line = line_records n (bytes_of x) in
    ap (λ rs. line ++ rs) (records-append (later n 1) xs ys (omega arith) ∙ ap (λ m. records_from (later n 1) xs ++ records_from m ys) (let e : later (later n 1) (length xs) ≡ later n (suc (length xs)) = omega arith in e))
    ∙ sym (append_assoc line (records_from (later n 1) xs) (records_from (later n (suc (length xs))) ys))

-- ---- how many there are

pub few_records : (n : ℕ) (xs : List Value) → length (records_from n xs) ≤ byte_count xs
few_records n [] = omega arith
few_records n (x ∷ xs) =
    omega (arith, few_records (later n 1) xs, few_words (bytes_of x), length-map (words (bytes_of x)) (λ word. record_of (record { word = word; line = n })), length-append (line_records n (bytes_of x)) (records_from (later n 1) xs))

-- ---- they are those of the pairs

abbrev paired : ℕ → List ℕ → Pair
paired n word = record { word = word; line = n }

pub records_are : (n : ℕ) (ls : List (List ℕ)) → n + length ls < 2 ^ 64 → records_from n (map Bytes ls) ≡ map record_of (pairs_from n ls)
records_are n [] fits = refl
records_are n (line ∷ ls) fits =
    let pairs = map (paired n) (words line) in
    ap (λ rs. line_records n line ++ rs) (ap (λ m. records_from m (map Bytes ls)) (let e : later n 1 ≡ n + 1 = omega arith in e) ∙ records_are (n + 1) ls (omega arith))
    ∙ ap (λ rs. rs ++ map record_of (pairs_from (n + 1) ls)) (sym (map-map record_of (paired n) (words line)))
    ∙ sym (map-append record_of pairs (pairs_from (n + 1) ls))

told_words : (n : ℕ) (ws : List (List ℕ)) → n < 2 ^ 64 → AllByRecursion HasNoSpace ws → (rest : List Pair) → AllByRecursion IsTold rest → AllByRecursion IsTold (map (paired n) ws ++ rest)
told_words n [] fits none rest told = told
told_words n (word ∷ ws) fits none rest told = (pair_of-text word n none.0 fits, told_words n ws fits none.1 rest told)

pub pairs_are_told : (n : ℕ) (ls : List (List ℕ)) → n + length ls < 2 ^ 64 → AllByRecursion IsTold (pairs_from n ls)
pairs_are_told n [] fits = tt
pairs_are_told n (line ∷ ls) fits =
    told_words n (words line) (omega arith) (words_have_no_space line) (pairs_from (n + 1) ls) (pairs_are_told (n + 1) ls (omega arith))
