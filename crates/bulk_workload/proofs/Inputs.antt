-- The input, line by line.
use Rattle.std.proofs.Common.{◌≡◌, ℕ, suc, ◌+◌, ◌-◌, ◌*◌, ◌%◌, ◌<◌, List, [], ◌++◌, sym, ap, ◌∙◌, append_assoc, arith}
use Rattle.std.specs.Fmt.{decimal}
use Rattle.std.proofs.lemmas.List.{append-nil}
use Rattle.std.proofs.lemmas.Nat.{mod_below}
use Rattle.swan_model.specs.Texts.{line}
use Rattle.bulk_workload.specs.Bulk.{bulk_input, number_after, number_lines}

-- the lines so far, and those that are still to come, are the input
pub record Keeps (text : List ℕ) (number left first size : ℕ) : Type 0 where
  pub small : number < 1000
  pub whole : text ++ number_lines number left ≡ bulk_input first size

pub begins : (first size : ℕ) → Keeps [] (first % 1000) (size - 0) first size
begins first size = record { small = mod_below first 1000 (omega arith); whole = ap (number_lines (first % 1000)) (omega arith) }

pub goes_on : (text : List ℕ) (number at first size : ℕ) → at < size → Keeps text number (size - at) first size
    → Keeps (text ++ line (decimal number)) (number_after number) (size - (at + 1)) first size
goes_on text number at first size below keeps =
    let left : suc (size - (at + 1)) ≡ size - at = omega (arith, below) in
    record {
      small = mod_below (21 * number + 7) 1000 (omega arith);
      whole =
          append_assoc text (line (decimal number)) (number_lines (number_after number) (size - (at + 1)))
          ∙ ap (λ count. text ++ number_lines number count) left
          ∙ keeps.whole;
    }

pub ends : (text : List ℕ) (number at first size : ℕ) → size - at ≡ 0 → Keeps text number (size - at) first size → text ≡ bulk_input first size
ends text number at first size none keeps = sym (append-nil text) ∙ ap (λ count. text ++ number_lines number count) (sym none) ∙ keeps.whole
