-- Bytes that are lowered where they stand, behind others.
use Rattle.std.proofs.Common.{◌≡◌, ℕ, ◌-◌, List, ◌++◌, length, map, take, drop, ap, ◌∙◌, arith, [], length-append}
use Rattle.std.proofs.Math.Seq.{drop-append_seam, drop-length, take-append_seam, take-length}
use Rattle.std.proofs.lemmas.List.{append-nil, length-map}
use Rattle.std.specs.Char.{to_ascii_lowercase}
use borrow.Rule.Slice.PartMut.{post_of}

pub lowered_behind : (old piece value items low : List ℕ) (from count : ℕ) → items ≡ old ++ piece → value ≡ items → from ≡ length old → count ≡ length items
    → low ≡ map to_ascii_lowercase (take (length value - from) (drop from value))
    → take count (take from value ++ (low ++ post_of from (length value - from) value) ++ drop (length (take from value ++ (low ++ post_of from (length value - from) value))) items)
    ≡ old ++ map to_ascii_lowercase piece
lowered_behind old piece value items low from count items_is value_is from_is count_is low_is =
    let lowered = map to_ascii_lowercase piece in
    let past = post_of from (length value - from) value in
    let whole : value ≡ old ++ piece = value_is ∙ items_is in
    let front : take from value ≡ old = ap (λ n. take n value) from_is ∙ ap (take (length old)) whole ∙ take-append_seam old piece in
    let behind : drop from value ≡ piece = ap (λ n. drop n value) from_is ∙ ap (drop (length old)) whole ∙ drop-append_seam old piece in
    let left : length value - from ≡ length piece = omega (arith, ap length whole, length-append old piece, from_is) in
    let low_all : low ≡ lowered = low_is ∙ ap (λ xs. map to_ascii_lowercase (take (length value - from) xs)) behind ∙ ap (λ n. map to_ascii_lowercase (take n piece)) left ∙ ap (map to_ascii_lowercase) (take-length piece) in
    let none : past ≡ [] = ap (drop (length value - from)) behind ∙ ap (λ n. drop n piece) left ∙ drop-length piece in
    let part : take from value ++ (low ++ past) ≡ old ++ lowered = ap (λ xs. xs ++ (low ++ past)) front ∙ ap (λ xs. old ++ (xs ++ past)) low_all ∙ ap (λ xs. old ++ (lowered ++ xs)) none ∙ ap (λ xs. old ++ xs) (append-nil lowered) in
    let all : count ≡ length (old ++ lowered) = omega (arith, count_is, ap length items_is, length-append old piece, length-append old lowered, length-map piece to_ascii_lowercase) in
    ap (λ xs. take count (xs ++ drop (length xs) items)) part
    ∙ ap (λ n. take n (old ++ lowered ++ drop (length (old ++ lowered)) items)) all
    ∙ take-append_seam (old ++ lowered) (drop (length (old ++ lowered)) items)
