-- Fronts of lists.
use Rattle.std.proofs.Common.{◌≡◌, ℕ, ◌+◌, ◌-◌, ◌≤◌, List, ◌++◌, length, take, drop, min, sym, ◌∙◌, ap, arith, length-drop, length-take}
use Rattle.std.proofs.lemmas.List.{take_min, take_at, take-take}
use Rattle.std.proofs.Math.Seq.{take-add}
use Rattle.std.specs.Str.Lossy.{utf8_valid_len}
use Rattle.swan_outside.specs.Streams.{text_front}

-- at most n elements from a place on, with the end where there are fewer
pub take_to_end : (n at : ℕ) (xs : List ℕ) → take (at + min n (length xs - at) - at) (drop at xs) ≡ take n (drop at xs)
take_to_end n at xs =
    let count : at + min n (length xs - at) - at ≡ min n (length (drop at xs)) = omega (arith, length-drop at xs) in
    ap (λ (k : ℕ). take k (drop at xs)) count ∙ take_min n (drop at xs)

-- the text at the front of a piece is within the piece
pub text_front_le : (piece : List ℕ) → length (text_front piece) ≤ length piece
text_front_le piece = simp length-take (omega arith)

-- what comes off the front of a piece's first bytes as its longest text is the text at the front of the piece
pub text_front_first : (piece first text rest : List ℕ) → first ≡ take (min 1024 (length piece)) piece → first ≡ text ++ rest → length text ≡ utf8_valid_len first → text ≡ text_front piece
text_front_first piece first text rest cut parts longest =
    let front : first ≡ take 1024 piece = cut ∙ take_min 1024 piece in
    let taken : take (utf8_valid_len first) (text ++ rest) ≡ text = take_at text rest (utf8_valid_len first) longest in
    cc

-- what a put takes of the piece that is offered next stands next in the bytes
pub take_offered : (bytes piece : List ℕ) (done most n : ℕ) → piece ≡ take most (drop done bytes) → n ≤ length piece → take done bytes ++ take n piece ≡ take (done + n) bytes
take_offered bytes piece done most n offered within =
    let least : n ≤ most = omega (arith, ap length offered, length-take most (drop done bytes)) in
    ap (λ (rest : List ℕ). take done bytes ++ take n rest) offered
    ∙ ap (λ (rest : List ℕ). take done bytes ++ rest) (take-take n most (drop done bytes) least)
    ∙ sym (take-add done n bytes)

-- and it is within them
pub offered_le : (bytes piece : List ℕ) (done most n : ℕ) → done ≤ length bytes → piece ≡ take most (drop done bytes) → n ≤ length piece → done + n ≤ length bytes
offered_le bytes piece done most n reached offered within =
    omega (arith, ap length offered, length-take most (drop done bytes), length-drop done bytes)
