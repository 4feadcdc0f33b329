-- Pairs that are kept as the numbers of words are the pairs of a set, and one more number is one more pair.
use Rattle.std.proofs.Common.{◌≡◌, ℕ, Bool, cond, Some, None, List, [], ◌∷◌, ◌++◌, refl, sym, ap, ◌∙◌}
use Rattle.std.proofs.lemmas.Cmp.{nat_list_cmp_total}
use Rattle.std.proofs.lemmas.Map.Lookups.{exact_bytes}
use Rattle.std.specs.BTreeMap.{insert_entry, is_at}
use Rattle.std.specs.BTreeSet.{insert_key}
use Rattle.std.specs.Cmp.Lexicographic.{slice_cmp}
use Rattle.std.specs.List.{AllByRecursion}
use Rattle.std.specs.List.Sorted.{IsStrictlySortedBy}
use Rattle.std.specs.Map.{keys_of, lookup, set_value}
use Rattle.std.specs.Ordering.{is_eq, match_ordering, nat_cmp, ordering_reverse, ordering_then}
use Rattle.std.specs.declared.cmp.Ordering.{Ordering}
use Rattle.std.specs.declared.cmp.Ordering.TheVariants.{Less, Equal, Greater}
use Rattle.index_pipeline.specs.KeptPairs.{kept_pairs, pairs_of_word}
use Rattle.index_pipeline.specs.Pairs.{Pair, pair_order}

abbrev pub paired : List ℕ → ℕ → Pair
paired word number = record { word = word; line = number }

abbrev pub word_cmp : List ℕ → List ℕ → Ordering
word_cmp = slice_cmp nat_cmp

-- ---- among the pairs of one word

same_word : (word : List ℕ) → word_cmp word word ≡ Equal
same_word word = by_case (word_cmp word word) (nat_list_cmp_total.antisymm word word)
  where
    by_case : (o : Ordering) → o ≡ ordering_reverse o → o ≡ Equal
    by_case Less is = absurd (cc)
    by_case Equal is = refl
    by_case Greater is = absurd (cc)

-- a pair goes in front of pairs that are all above it
before_all : (pair : Pair) (pairs : List Pair) → AllByRecursion (λ other. pair_order pair other ≡ Less) pairs → insert_key pair_order pairs pair ≡ pair ∷ pairs
before_all pair [] above = refl
before_all pair (first ∷ pairs) above = ap (λ o. match_ordering o (pair ∷ first ∷ pairs) (first ∷ pairs) (first ∷ insert_key pair_order pairs pair)) above.0

-- it goes among those of its word by its number
among : (word : List ℕ) (number : ℕ) (numbers : List ℕ) (rest : List Pair) → AllByRecursion (λ other. pair_order (paired word number) other ≡ Less) rest
    → insert_key pair_order (pairs_of_word word numbers ++ rest) (paired word number) ≡ pairs_of_word word (insert_key nat_cmp numbers number) ++ rest
among word number [] rest above = before_all (paired word number) rest above
among word number (first ∷ numbers) rest above =
    ap (λ o. match_ordering (ordering_then o (nat_cmp number first)) (paired word number ∷ paired word first ∷ pairs) (paired word first ∷ pairs) (paired word first ∷ insert_key pair_order pairs (paired word number))) (same_word word)
    ∙ by_case (nat_cmp number first) (among word number numbers rest above)
  where
    pairs : List Pair
    pairs = pairs_of_word word numbers ++ rest

    by_case : (o : Ordering) → insert_key pair_order pairs (paired word number) ≡ pairs_of_word word (insert_key nat_cmp numbers number) ++ rest
        → match_ordering o (paired word number ∷ paired word first ∷ pairs) (paired word first ∷ pairs) (paired word first ∷ insert_key pair_order pairs (paired word number))
        ≡ pairs_of_word word (match_ordering o (number ∷ first ∷ numbers) (first ∷ numbers) (first ∷ insert_key nat_cmp numbers number)) ++ rest
    by_case Less later = refl
    by_case Equal later = refl
    by_case Greater later = ap (λ ps. paired word first ∷ ps) later

-- and behind those of a word that comes before
behind : (word before : List ℕ) (number : ℕ) (numbers : List ℕ) (rest : List Pair) → word_cmp word before ≡ Greater
    → insert_key pair_order (pairs_of_word before numbers ++ rest) (paired word number) ≡ pairs_of_word before numbers ++ insert_key pair_order rest (paired word number)
behind word before number [] rest above = refl
behind word before number (first ∷ numbers) rest above =
    let pairs = pairs_of_word before numbers ++ rest in
    ap (λ o. match_ordering (ordering_then o (nat_cmp number first)) (paired word number ∷ paired before first ∷ pairs) (paired before first ∷ pairs) (paired before first ∷ insert_key pair_order pairs (paired word number))) above
    ∙ ap (λ ps. paired before first ∷ ps) (behind word before number numbers rest above)

-- ---- among the pairs of all words

abbrev Entries : Type 0
Entries = List (List ℕ × List ℕ)

abbrev Above : List ℕ → Entries → Type 0
Above word entries = AllByRecursion (λ key. word_cmp word key ≡ Less) (keys_of entries)

-- the pairs of words that come later are above those of a word
pairs_above_word : (word later : List ℕ) (number : ℕ) (numbers : List ℕ) (rest : List Pair) → word_cmp word later ≡ Less
    → AllByRecursion (λ other. pair_order (paired word number) other ≡ Less) rest → AllByRecursion (λ other. pair_order (paired word number) other ≡ Less) (pairs_of_word later numbers ++ rest)
pairs_above_word word later number [] rest less above = above
pairs_above_word word later number (first ∷ numbers) rest less above =
    (ap (λ o. ordering_then o (nat_cmp number first)) less, pairs_above_word word later number numbers rest less above)

pairs_above : (word : List ℕ) (number : ℕ) (entries : Entries) → Above word entries → AllByRecursion (λ other. pair_order (paired word number) other ≡ Less) (kept_pairs entries)
pairs_above word number [] above = tt
pairs_above word number (entry ∷ entries) above =
    pairs_above_word word entry.0 number entry.1 (kept_pairs entries) above.0 (pairs_above word number entries above.1)

above_later : (word first : List ℕ) (entries : Entries) → word_cmp word first ≡ Less → Above first entries → Above word entries
above_later word first [] less above = tt
above_later word first (entry ∷ entries) less above = (nat_list_cmp_total.trans word first entry.0 less above.0, above_later word first entries less above.1)

none_above : (word : List ℕ) (entries : Entries) → Above word entries → lookup (is_at (word_cmp word)) entries ≡ None
none_above word [] above = refl
none_above word (entry ∷ entries) above =
    ap (λ o. cond (is_eq o) (Some entry.1) (lookup (is_at (word_cmp word)) entries)) above.0 ∙ none_above word entries above.1

-- whether a word is there, and with which numbers
abbrev pub at_word : List ℕ → List ℕ → Bool
at_word word = is_at (word_cmp word)

-- one more number of a word that is there
pub one_number_more : (word : List ℕ) (number : ℕ) (entries : Entries) (numbers more : List ℕ) → IsStrictlySortedBy word_cmp (keys_of entries)
    → lookup (at_word word) entries ≡ Some numbers → more ≡ insert_key nat_cmp numbers number
    → kept_pairs (set_value (at_word word) entries more) ≡ insert_key pair_order (kept_pairs entries) (paired word number)
unfolding IsStrictlySortedBy
one_number_more word number [] numbers more sorted found is = absurd (cc)
one_number_more word number (entry ∷ entries) numbers more sorted found is =
    by_case (word_cmp word entry.0) refl (λ later. one_number_more word number entries numbers more sorted.1 later is)
  where
    test : List ℕ → Bool
    test = at_word word

    by_case : (o : Ordering) → word_cmp word entry.0 ≡ o
        → (lookup test entries ≡ Some numbers → kept_pairs (set_value test entries more) ≡ insert_key pair_order (kept_pairs entries) (paired word number))
        → kept_pairs (set_value test (entry ∷ entries) more) ≡ insert_key pair_order (kept_pairs (entry ∷ entries)) (paired word number)
    by_case Less at rest =
        let later : lookup test entries ≡ Some numbers = sym (ap (λ o. cond (is_eq o) (Some entry.1) (lookup test entries)) at) ∙ found in
        let none : lookup test entries ≡ None = none_above word entries (above_later word entry.0 entries at sorted.0) in
        absurd (cc)
    by_case Equal at rest =
        let here : Some entry.1 ≡ Some numbers = sym (ap (λ o. cond (is_eq o) (Some entry.1) (lookup test entries)) at) ∙ found in
        let its : entry.1 ≡ numbers = cc in
        ap (λ o. kept_pairs (cond (is_eq o) ((entry.0, more) ∷ entries) (entry ∷ set_value test entries more))) at
        ∙ ap (λ ks. pairs_of_word entry.0 ks ++ kept_pairs entries) (is ∙ ap (λ s. insert_key nat_cmp s number) (sym its))
        ∙ sym (among entry.0 number entry.1 (kept_pairs entries) (pairs_above entry.0 number entries sorted.0))
        ∙ ap (λ w. insert_key pair_order (kept_pairs (entry ∷ entries)) (paired w number)) (sym (exact_bytes word entry.0 at))
    by_case Greater at rest =
        let later : lookup test entries ≡ Some numbers = sym (ap (λ o. cond (is_eq o) (Some entry.1) (lookup test entries)) at) ∙ found in
        ap (λ o. kept_pairs (cond (is_eq o) ((entry.0, more) ∷ entries) (entry ∷ set_value test entries more))) at
        ∙ ap (λ ps. pairs_of_word entry.0 entry.1 ++ ps) (rest later)
        ∙ sym (behind word entry.0 number entry.1 (kept_pairs entries) at)

-- a word that isn't there yet, with one number
pub one_word_more : (key : List ℕ) (number : ℕ) (entries : Entries) (numbers : List ℕ) → IsStrictlySortedBy word_cmp (keys_of entries)
    → lookup (at_word key) entries ≡ None → numbers ≡ number ∷ []
    → kept_pairs (insert_entry word_cmp entries key numbers) ≡ insert_key pair_order (kept_pairs entries) (paired key number)
unfolding IsStrictlySortedBy
one_word_more key number [] numbers sorted none is = ap (λ ks. pairs_of_word key ks ++ []) is
one_word_more key number (entry ∷ entries) numbers sorted none is =
    by_case (word_cmp key entry.0) refl (λ later. one_word_more key number entries numbers sorted.1 later is)
  where
    test : List ℕ → Bool
    test = at_word key

    by_case : (o : Ordering) → word_cmp key entry.0 ≡ o
        → (lookup test entries ≡ None → kept_pairs (insert_entry word_cmp entries key numbers) ≡ insert_key pair_order (kept_pairs entries) (paired key number))
        → kept_pairs (insert_entry word_cmp (entry ∷ entries) key numbers) ≡ insert_key pair_order (kept_pairs (entry ∷ entries)) (paired key number)
    by_case Less at rest =
        ap (λ o. kept_pairs (match_ordering o ((key, numbers) ∷ entry ∷ entries) ((entry.0, numbers) ∷ entries) (entry ∷ insert_entry word_cmp entries key numbers))) at
        ∙ ap (λ ks. pairs_of_word key ks ++ kept_pairs (entry ∷ entries)) is
        ∙ sym (before_all (paired key number) (kept_pairs (entry ∷ entries)) (pairs_above key number (entry ∷ entries) (at, above_later key entry.0 entries at sorted.0)))
    by_case Equal at rest =
        let here : Some entry.1 ≡ None = sym (ap (λ o. cond (is_eq o) (Some entry.1) (lookup test entries)) at) ∙ none in
        absurd (cc)
    by_case Greater at rest =
        let later : lookup test entries ≡ None = sym (ap (λ o. cond (is_eq o) (Some entry.1) (lookup test entries)) at) ∙ none in
        ap (λ o. kept_pairs (match_ordering o ((key, numbers) ∷ entry ∷ entries) ((entry.0, numbers) ∷ entries) (entry ∷ insert_entry word_cmp entries key numbers))) at
        ∙ ap (λ ps. pairs_of_word entry.0 entry.1 ++ ps) (rest later)
        ∙ sym (behind key entry.0 number entry.1 (kept_pairs entries) at)
