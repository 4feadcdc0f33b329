-- Records that stand one after the other: one more of them, whether it has room, and one fewer.
use Rattle.std.proofs.Common.{◌≡◌, ℕ, zero, suc, ◌+◌, ◌-◌, ◌^◌, ◌<◌, ◌≤◌, ◌⊎◌, inl, inr, nat_le, true, Some, None, List, [], ◌∷◌, ◌++◌, length, take, drop, refl, sym, ap, subst, ◌∙◌, arith, rules, tests, append_assoc, length-append, length-drop}
use Rattle.std.proofs.Math.Seq.{take-length}
use Rattle.std.proofs.lemmas.Fmt.{length-decimal-le}
use Rattle.std.proofs.lemmas.List.{drop-append-le, drop-drop, drop-take, drop_all, length-map, length-take, length-take-le, take-append-le}
use Rattle.std.proofs.lemmas.List.Sums.{sum_by-append, sum_by-cons}
use Rattle.std.specs.Char.{to_ascii_lowercase}
use Rattle.std.specs.Fmt.{decimal}
use Rattle.std.specs.List.{sum}
use Rattle.std.specs.Prelude.{slice_get, slice_range}
use Rattle.swan_model.specs.declared.value.Value.{Value}
use Rattle.swan_model.specs.declared.value.Value.TheVariants.{Bytes}
use Rattle.line_blocks.specs.LineBlocks.{byte_count}
use Rattle.index_pipeline.specs.Batches.{cuts, has_room}
use Rattle.index_pipeline.specs.Words.{word_of}
use Rattle.index_pipeline.specs.declared.batch.TheConstants.{BATCH_MOST, NUMBER_MOST}
use Rattle.index_pipeline.specs.declared.word.TheConstants.{WORD_MOST}
use Rattle.swan_model.proofs.Lists.{drop_next, past_none}

-- ---- writing

sum-cons : (len : ℕ) (lens : List ℕ) → sum (len ∷ lens) ≡ len + sum lens
sum-cons len lens = sum_by-cons (λ x. x) len lens

take-nil : (n : ℕ) → take {A = ℕ} n [] ≡ []
take-nil zero = refl
take-nil (suc n) = refl

take_front : (n m : ℕ) (bytes : List ℕ) → take n (take (n + m) bytes) ≡ take n bytes
take_front zero m bytes = refl
take_front (suc n) m [] = ap (take (suc n)) (take-nil (suc n + m))
take_front (suc n) m (byte ∷ bytes) =
    ap (λ k. take (suc n) (take k (byte ∷ bytes))) (let e : suc n + m ≡ suc (n + m) = omega arith in e) ∙ ap (λ bs. byte ∷ bs) (take_front n m bytes)

-- what stands behind them plays no part
cuts_front : (lens bytes : List ℕ) → cuts lens (take (sum lens) bytes) ≡ cuts lens bytes
cuts_front [] bytes = refl
cuts_front (len ∷ lens) bytes =
    ap (λ n. Bytes (take len (take n bytes)) ∷ cuts lens (drop len (take n bytes))) (sum-cons len lens)
    ∙ ap (λ front. Bytes front ∷ cuts lens (drop len (take (len + sum lens) bytes))) (take_front len (sum lens) bytes)
    ∙ ap (λ rest. Bytes (take len bytes) ∷ cuts lens rest) (drop-take len (sum lens) bytes)
    ∙ ap (λ rest. Bytes (take len bytes) ∷ rest) (cuts_front lens (drop len bytes))

cuts_more : (lens bytes more : List ℕ) → sum lens ≡ length bytes → cuts (lens ++ length more ∷ []) (bytes ++ more) ≡ cuts lens bytes ++ Bytes more ∷ []
cuts_more [] [] more all = ap (λ m. Bytes m ∷ []) (take-length more)
cuts_more [] (byte ∷ bytes) more all = absurd (omega arith)
cuts_more (len ∷ lens) bytes more all =
    let within : len ≤ length bytes = omega (arith, all, sum-cons len lens) in
    ap (λ front. Bytes front ∷ cuts (lens ++ length more ∷ []) (drop len (bytes ++ more))) (take-append-le len bytes more within)
    ∙ ap (λ rest. Bytes (take len bytes) ∷ cuts (lens ++ length more ∷ []) rest) (drop-append-le len bytes more within)
    ∙ ap (λ rest. Bytes (take len bytes) ∷ rest) (cuts_more lens (drop len bytes) more (omega (arith, all, sum-cons len lens, length-drop len bytes)))

-- one more record
pub pushed : (lens bytes now more : List ℕ) (written len : ℕ) → written ≡ sum lens → written ≤ length bytes → now ≡ take written bytes ++ more → len ≡ length now - written
    → cuts (lens ++ len ∷ []) now ≡ cuts lens bytes ++ Bytes more ∷ []
pushed lens bytes now more written len all within is len_is =
    let front = take written bytes in
    let few : length front ≡ written = length-take-le written bytes within in
    let long : len ≡ length more = omega (arith, len_is, ap length is, length-append front more, few) in
    ap (λ n. cuts (lens ++ n ∷ []) now) long
    ∙ ap (cuts (lens ++ length more ∷ [])) is
    ∙ cuts_more lens front more (sym all ∙ sym few)
    ∙ ap (λ n. cuts lens (take n bytes) ++ Bytes more ∷ []) all
    ∙ ap (λ rs. rs ++ Bytes more ∷ []) (cuts_front lens bytes)

-- ---- room

-- they have as many bytes as are written
bytes_written : (lens bytes : List ℕ) → sum lens ≤ length bytes → byte_count (cuts lens bytes) ≡ sum lens
bytes_written [] bytes within = refl
bytes_written (len ∷ lens) bytes within =
    let rest : sum lens ≤ length (drop len bytes) = omega (arith, within, sum-cons len lens, length-drop len bytes) in
    omega (arith, length-take-le len bytes (omega (arith, within, sum-cons len lens)), bytes_written lens (drop len bytes) rest, sum-cons len lens)

pub room_after : (lens bytes : List ℕ) (written word_len : ℕ) → written ≡ sum lens → written ≤ length bytes → (lens ≡ [] → ⊥)
    → has_room (cuts lens bytes) word_len ≡ nat_le (written + word_len + NUMBER_MOST) BATCH_MOST
room_after [] bytes written word_len all within some = absurd (some refl)
room_after (len ∷ lens) bytes written word_len all within some =
    ap (λ n. nat_le (n + word_len + NUMBER_MOST) BATCH_MOST) (bytes_written (len ∷ lens) bytes (omega (arith, all, within)) ∙ sym all)

-- all of them are within the bound, unless there is only one
still_fits : (lens bytes now more : List ℕ) (written len word_len : ℕ) → written ≡ sum lens → written ≤ length bytes → has_room (cuts lens bytes) word_len ≡ true
    → now ≡ take written bytes ++ more → length more ≤ word_len + NUMBER_MOST → (length (lens ++ len ∷ []) ≤ 1) ⊎ (length now ≤ BATCH_MOST)
still_fits [] bytes now more written len word_len all within room is few = inl (omega arith)
still_fits (first ∷ lens) bytes now more written len word_len all within room is few =
    let fits : nat_le (written + word_len + NUMBER_MOST) BATCH_MOST ≡ true = sym (room_after (first ∷ lens) bytes written word_len all within (λ none. absurd (cc))) ∙ room in
    let below : written + word_len + NUMBER_MOST ≤ BATCH_MOST = search (rules, tests) in
    inr (omega (arith, below, few, ap length is, length-append (take written bytes) more, length-take-le written bytes within))

pub still_batch : (lens bytes now more items : List ℕ) (written len word_len count : ℕ) → written ≡ sum lens → written ≤ length bytes → has_room (cuts lens bytes) word_len ≡ true
    → now ≡ take written bytes ++ more → len ≡ length now - written → items ≡ lens ++ len ∷ [] → count ≡ length now → length more ≤ word_len + NUMBER_MOST
    → (count ≡ sum items) × (count ≤ length now) × ((length items ≤ 1) ⊎ (count ≤ BATCH_MOST))
still_batch lens bytes now more items written len word_len count all within room is len_is items_are count_is few =
    let front = take written bytes in
    let fits = still_fits lens bytes now more written len word_len all within room is few in (
      omega (arith, count_is, all, len_is, ap length is, length-append front more, length-take-le written bytes within, sum_by-append (λ x. x) lens (len ∷ []), ap sum items_are),
      omega (arith, count_is),
      subst (λ ls. (length ls ≤ 1) ⊎ (count ≤ BATCH_MOST)) (sym items_are) (subst (λ n. (length (lens ++ len ∷ []) ≤ 1) ⊎ (n ≤ BATCH_MOST)) (sym count_is) fits),
    )

pub number_few : (word : List ℕ) (number : ℕ) → number < 2 ^ 64 → length (word ++ 32 ∷ decimal number) ≤ length word + NUMBER_MOST
number_few word number fits = omega (arith, length-append word (32 ∷ decimal number), length-decimal-le 20 number (omega arith) (omega (arith, fits)) fits)

pub word_few : (run : List ℕ) → length (word_of run) ≤ WORD_MOST
word_few run = omega (arith, length-map (take WORD_MOST run) to_ascii_lowercase, length-take WORD_MOST run)

-- what is written moves from what is left to the batch
pub moved_before : (batch line rest old front : List Value) → batch ++ line ≡ old ++ front → batch ++ (line ++ rest) ≡ old ++ (front ++ rest)
moved_before batch line rest old front is = sym (append_assoc batch line rest) ∙ ap (λ rs. rs ++ rest) is ∙ append_assoc old front rest

-- ---- taking

pub taken_next : (lens bytes : List ℕ) (next len taken : ℕ) → slice_get lens next ≡ Some len
    → cuts (drop next lens) (drop taken bytes) ≡ Bytes (slice_range bytes taken (taken + len)) ∷ cuts (drop (next + 1) lens) (drop (taken + len) bytes)
taken_next lens bytes next len taken is =
    ap (λ ls. cuts ls (drop taken bytes)) (drop_next lens next len is)
    ∙ ap (λ n. Bytes (take n (drop taken bytes)) ∷ cuts (drop (next + 1) lens) (drop len (drop taken bytes))) (let e : len ≡ taken + len - taken = omega arith in e)
    ∙ ap (λ rest. Bytes (slice_range bytes taken (taken + len)) ∷ cuts (drop (next + 1) lens) rest) (drop-drop len taken bytes)

pub taken_within : (lens : List ℕ) (next len : ℕ) → slice_get lens next ≡ Some len → sum (drop next lens) ≡ len + sum (drop (next + 1) lens)
taken_within lens next len is = ap sum (drop_next lens next len is) ∙ sum-cons len (drop (next + 1) lens)

pub taken_all : (lens bytes : List ℕ) (next : ℕ) → slice_get lens next ≡ None → cuts (drop next lens) bytes ≡ []
taken_all lens bytes next is = ap (λ ls. cuts ls bytes) (drop_all next lens (past_none lens next is))
