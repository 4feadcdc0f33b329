-- What the collector keeps, and how much it is.
use Rattle.std.proofs.Common.{◌≡◌, ◌+◌, ◌≤◌, List, [], ◌∷◌, length, map, refl, ap, ◌∙◌, arith}
use Rattle.std.specs.BTreeSet.{insert_key}
use Rattle.std.specs.List.{AllByRecursion, fold}
use Rattle.std.specs.Ordering.{match_ordering}
use Rattle.std.specs.declared.cmp.Ordering.{Ordering}
use Rattle.std.specs.declared.cmp.Ordering.TheVariants.{Less, Equal, Greater}
use Rattle.swan_model.specs.declared.value.Value.{Value}
use Rattle.swan_model.specs.Values.{bytes_of}
use Rattle.index_pipeline.specs.Pairs.{Pair, pair_of, pair_order, pair_text}
use Rattle.index_pipeline.specs.Records.{record_of}

-- one more item
abbrev pub kept_with : List Pair → Value → List Pair
kept_with pairs item = insert_key pair_order pairs (pair_of (bytes_of item))

-- a pair that its text tells
abbrev pub IsTold : Pair → Type 0
IsTold pair = pair_of (pair_text pair) ≡ pair

-- what is kept of the records of pairs is their set
pub kept_records : (pairs got : List Pair) → AllByRecursion IsTold pairs → fold kept_with got (map record_of pairs) ≡ fold (insert_key pair_order) got pairs
kept_records [] got told = refl
kept_records (pair ∷ pairs) got told =
    ap (λ p. fold kept_with (insert_key pair_order got p) (map record_of pairs)) told.0
    ∙ kept_records pairs (insert_key pair_order got pair) told.1

one_more : (pairs : List Pair) (pair : Pair) → length (insert_key pair_order pairs pair) ≤ 1 + length pairs
one_more [] pair = omega arith
one_more (first ∷ pairs) pair = by_case (pair_order pair first) (one_more pairs pair)
  where
    by_case : (o : Ordering) → length (insert_key pair_order pairs pair) ≤ 1 + length pairs → length (match_ordering o (pair ∷ first ∷ pairs) (first ∷ pairs) (first ∷ insert_key pair_order pairs pair)) ≤ 1 + length (first ∷ pairs)
    by_case Less rest = omega arith
    by_case Equal rest = omega arith
    by_case Greater rest = omega arith

pub few_kept : (items : List Value) (got : List Pair) → length (fold kept_with got items) ≤ length got + length items
few_kept [] got = omega arith
few_kept (item ∷ items) got = omega (arith, few_kept items (kept_with got item), one_more got (pair_of (bytes_of item)))
