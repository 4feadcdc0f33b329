-- Fields, one after the other.
use Rattle.std.proofs.Common.{◌≡◌, ℕ, suc, ◌+◌, ◌≤◌, ◌<◌, Bool, true, false, not, cond, nat_eq, List, [], ◌∷◌, ◌++◌, length, take, drop, refl, sym, ap, ◌∙◌, arith, append_assoc}
use Rattle.std.proofs.lemmas.List.{append-nil}
use Rattle.std.proofs.lemmas.List.Sums.{length-filter, prefix_len-le-length}
use Rattle.std.specs.List.{count_by, filter, flat_map, prefix_len}
use Rattle.swan_model.specs.Lines.{in_front}
use Rattle.line_blocks.specs.Pieces.{pieces}
use Rattle.record_pipeline.specs.Netstrings.{fields, netstring, netstrings}

abbrev pub is_tab : ℕ → Bool
is_tab byte = nat_eq byte 9

abbrev pub first_len : List ℕ → ℕ
first_len line = prefix_len (λ byte. not (is_tab byte)) line

-- ---- how many there are

longer : (byte : ℕ) (ps : List (List ℕ)) → 0 < length ps → length (in_front byte ps) ≡ length ps
longer byte [] some = absurd (omega arith)
longer byte (piece ∷ ps) some = refl

count_fields : (line : List ℕ) → length (pieces is_tab line) ≡ length (filter is_tab line) + 1
count_fields [] = refl
count_fields (byte ∷ line) = by_case (is_tab byte) (count_fields line)
  where
    by_case : (b : Bool) → length (pieces is_tab line) ≡ length (filter is_tab line) + 1 → length (cond b ([] ∷ pieces is_tab line) (in_front byte (pieces is_tab line))) ≡ length (cond b (byte ∷ filter is_tab line) (filter is_tab line)) + 1
    by_case true rest = omega arith
    by_case false rest = longer byte (pieces is_tab line) (omega arith) ∙ rest

pub number_of_fields : (line : List ℕ) → length (fields line) ≡ count_by is_tab line + 1
number_of_fields line = count_fields line ∙ ap (λ n. n + 1) (length-filter is_tab line)

-- ---- the first one, and the others

-- the last field, with no TAB behind it
last_field : (line : List ℕ) → first_len line ≡ length line → fields line ≡ line ∷ []
last_field [] all = refl
last_field (byte ∷ line) all = by_case (is_tab byte) refl (last_field line)
  where
    by_case : (b : Bool) → is_tab byte ≡ b → (first_len line ≡ length line → fields line ≡ line ∷ []) → fields (byte ∷ line) ≡ (byte ∷ line) ∷ []
    by_case true is rest =
        let none : 0 ≡ suc (length line) = sym (ap (λ c. cond (not c) (1 + first_len line) 0) is) ∙ all in
        absurd (omega arith)
    by_case false is rest =
        let more : 1 + first_len line ≡ suc (length line) = sym (ap (λ c. cond (not c) (1 + first_len line) 0) is) ∙ all in
        ap (λ c. cond c ([] ∷ pieces is_tab line) (in_front byte (pieces is_tab line))) is ∙ ap (in_front byte) (rest (omega arith))

-- a field with a TAB behind it
next_field : (line : List ℕ) → first_len line < length line → fields line ≡ take (first_len line) line ∷ fields (drop (suc (first_len line)) line)
next_field [] some = absurd (omega arith)
next_field (byte ∷ line) some = by_case (is_tab byte) refl (next_field line)
  where
    by_case : (b : Bool) → is_tab byte ≡ b → (first_len line < length line → fields line ≡ take (first_len line) line ∷ fields (drop (suc (first_len line)) line))
        → fields (byte ∷ line) ≡ take (first_len (byte ∷ line)) (byte ∷ line) ∷ fields (drop (suc (first_len (byte ∷ line))) (byte ∷ line))
    by_case true is rest =
        let here : first_len (byte ∷ line) ≡ 0 = ap (λ c. cond (not c) (1 + first_len line) 0) is in
        ap (λ c. cond c ([] ∷ pieces is_tab line) (in_front byte (pieces is_tab line))) is
        ∙ sym (ap (λ n. take n (byte ∷ line) ∷ fields (drop (suc n) (byte ∷ line))) here)
    by_case false is rest =
        let n = first_len line in
        let here : first_len (byte ∷ line) ≡ suc n = ap (λ c. cond (not c) (1 + n) 0) is ∙ (let e : 1 + n ≡ suc n = omega arith in e) in
        let behind : n < length line = omega (arith, here, some) in
        ap (λ c. cond c ([] ∷ pieces is_tab line) (in_front byte (pieces is_tab line))) is
        ∙ ap (in_front byte) (rest behind)
        ∙ sym (ap (λ m. take m (byte ∷ line) ∷ fields (drop (suc m) (byte ∷ line))) here)

-- ---- their netstrings

pub netstrings_end : (line : List ℕ) → first_len line ≡ length line → netstrings line ≡ netstring line
netstrings_end line all = ap (flat_map netstring) (last_field line all) ∙ append-nil (netstring line)

pub netstrings_more : (line : List ℕ) (len : ℕ) → len ≡ first_len line → len < length line → netstrings line ≡ netstring (take len line) ++ netstrings (drop (len + 1) line)
netstrings_more line len is some =
    ap (flat_map netstring) (next_field line (omega arith))
    ∙ ap (λ n. netstring (take n line) ++ netstrings (drop (suc n) line)) (sym is)
    ∙ ap (λ n. netstring (take len line) ++ netstrings (drop n line)) (let e : suc len ≡ len + 1 = omega arith in e)

-- one turn of the loop over the fields, and what comes after the last one
pub netstrings_step : (all text now rest next : List ℕ) (len : ℕ) → all ≡ text ++ netstrings rest → len ≡ first_len rest → len < length rest → now ≡ text ++ netstring (take len rest) → next ≡ drop (len + 1) rest → all ≡ now ++ netstrings next
netstrings_step all text now rest next len before is some here behind =
    before ∙ ap (λ v. text ++ v) (netstrings_more rest len is some)
    ∙ sym (append_assoc text (netstring (take len rest)) (netstrings (drop (len + 1) rest)))
    ∙ ap (λ v. v ++ netstrings (drop (len + 1) rest)) (sym here)
    ∙ ap (λ v. now ++ netstrings v) (sym behind)

pub netstrings_last : (all text now rest : List ℕ) (len : ℕ) → all ≡ text ++ netstrings rest → len ≡ first_len rest → length rest ≤ len → now ≡ text ++ netstring rest → now ≡ all
netstrings_last all text now rest len before is none here =
    here ∙ sym (before ∙ ap (λ v. text ++ v) (netstrings_end rest (omega (arith, is, none, prefix_len-le-length (λ byte. not (is_tab byte)) rest))))
