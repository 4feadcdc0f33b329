-- A pair's text tells the pair.
use Rattle.std.proofs.Common.{◌≡◌, ℕ, suc, ◌+◌, ◌*◌, ◌%◌, ◌/◌, ◌^◌, ◌<◌, ◌≤◌, not, cond, List, [], ◌∷◌, ◌++◌, length, take, drop, refl, ap, ◌∙◌, arith, take_at}
use Rattle.std.proofs.lemmas.Fmt.{decimal_by_steps}
use Rattle.std.specs.Fmt.{decimal}
use Rattle.std.specs.List.{fold}
use Rattle.index_pipeline.specs.Pairs.{Pair, number_of, pair_of, pair_text, with_digit, word_len}
use Rattle.index_pipeline.proofs.Wording.{HasNoSpace}

-- ---- the number

fold-push : (n : ℕ) (ds : List ℕ) (d : ℕ) → fold with_digit n (ds ++ d ∷ []) ≡ with_digit (fold with_digit n ds) d
fold-push n [] d = refl
fold-push n (x ∷ ds) d = fold-push (with_digit n x) ds d

abbrev Tells : ℕ → List ℕ → Type 0
Tells n ds = n < 2 ^ 64 → number_of ds ≡ n

one_digit : (n : ℕ) → n < 10 → Tells n ((48 + n) ∷ [])
one_digit n small fits = omega arith

more_digits : (n : ℕ) (ds : List ℕ) → 10 ≤ n → Tells (n / 10) ds → Tells n (ds ++ ((48 + n % 10) ∷ []))
more_digits n ds large front fits =
    let before : number_of ds ≡ n / 10 = front (omega arith) in
    fold-push 0 ds (48 + n % 10) ∙ ap (λ m. with_digit m (48 + n % 10)) before ∙ (let e : ((n / 10) * 10 + (48 + n % 10 + 208) % 256) % 2 ^ 64 ≡ n = omega arith in e)

pub number_of-decimal : (n : ℕ) → n < 2 ^ 64 → number_of (decimal n) ≡ n
number_of-decimal n fits = decimal_by_steps Tells one_digit more_digits n fits fits

-- ---- the word

word_len-is : (word rest : List ℕ) → HasNoSpace word → word_len (word ++ 32 ∷ rest) ≡ length word
word_len-is [] rest none = refl
word_len-is (byte ∷ word) rest none =
    ap (λ b. cond (not b) (1 + word_len (word ++ 32 ∷ rest)) 0) none.0 ∙ ap (λ n. 1 + n) (word_len-is word rest none.1) ∙ (let e : 1 + length word ≡ suc (length word) = omega arith in e)

drop-word : (word rest : List ℕ) (space : ℕ) → drop (suc (length word)) (word ++ space ∷ rest) ≡ rest
drop-word [] rest space = refl
drop-word (byte ∷ word) rest space = drop-word word rest space

pub pair_of-text : (word : List ℕ) (line : ℕ) → HasNoSpace word → line < 2 ^ 64 → pair_of (pair_text (record { word = word; line = line })) ≡ record { word = word; line = line }
pair_of-text word line none fits =
    let text = word ++ 32 ∷ decimal line in
    let one : length word + 1 ≡ suc (length word) = omega arith in
    ap {B = Pair} (λ n. record { word = take n text; line = number_of (drop (n + 1) text) }) (word_len-is word (decimal line) none)
    ∙ ap {B = Pair} (λ w. record { word = w; line = number_of (drop (length word + 1) text) }) (take_at word (32 ∷ decimal line) (length word) refl)
    ∙ ap {B = Pair} (λ n. record { word = word; line = number_of (drop n text) }) one
    ∙ ap {B = Pair} (λ ds. record { word = word; line = number_of ds }) (drop-word word (decimal line) 32)
    ∙ ap {B = Pair} (λ n. record { word = word; line = n }) (number_of-decimal line fits)
