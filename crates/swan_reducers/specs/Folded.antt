-- What the outcome of a fold's plan is.
use Rattle.std.specs.Prelude.{◌≡◌, ℕ, Result, Ok, Err, List, [], ◌∷◌, ◌++◌, length}
use Rattle.swan_model.specs.declared.fault.Fault.{Fault}
use Rattle.swan_model.specs.declared.fault.FaultKind.TheVariants as kind
use Rattle.swan_model.specs.declared.fault.Trouble.{Trouble}
use Rattle.swan_model.specs.declared.outcome.Outcome.{Outcome}
use Rattle.swan_model.specs.declared.value.Value.{Value}
use Rattle.swan_model.specs.declared.value.Value.TheVariants.{Bytes}
use Rattle.swan_model.specs.Lines.{lines}
use Rattle.swan_model.specs.Texts.{line, out_bytes}
use Rattle.line_blocks.specs.TextRoots.{text_names}
use Rattle.swan_reducers.specs.declared.reducer.Reducer.{Ghosts}
use Rattle.swan_reducers.specs.Fold.{bad_blocks, fold_of, in_blocks}

-- an end is one record of the output, or a fault of the collector, which is the child of this number
abbrev pub end_records : Result (List ℕ) Trouble → List Value
end_records (Ok item) = Bytes item ∷ []
end_records (Err trouble) = []

abbrev pub end_faults : ℕ → Result (List ℕ) Trouble → List Fault
end_faults child (Ok item) = []
end_faults child (Err trouble) = (record { path = child ∷ []; place = 0; kind = kind.Trouble trouble }) ∷ []

-- what is written of an end: the record on a line of its own, or nothing
abbrev pub end_text : Result (List ℕ) Trouble → List ℕ
end_text (Ok item) = line item
end_text (Err trouble) = []

module _ {R : Type 0} (G : Ghosts R) where
  -- No line is left in the input. The output is the end of the fold of the lines, or nothing where that is a trouble.
  -- There is exactly one fault for each block with a bad line, in order, and then that trouble.
  abbrev pub folded : R → List (List ℕ) → Outcome
  folded reducer ls = record {
    objects = [];
    queues = [] ∷ end_records (G.end_of reducer (fold_of G reducer ls)) ∷ [];
    faults = bad_blocks G reducer 0 0 (in_blocks [] ls) ++ end_faults (length (in_blocks [] ls)) (G.end_of reducer (fold_of G reducer ls));
  }

  -- what the fold of a text writes
  abbrev pub fold_text : R → List ℕ → List ℕ
  fold_text reducer text = end_text (G.end_of reducer (fold_of G reducer (lines text)))

-- The outcome is the fold of the text's lines. So the output is what the fold of the text writes.
pub record IsFolded {R : Type 0} (G : Ghosts R) (reducer : R) (text : List ℕ) (outcome : Outcome) : Type 0 where
  pub outcome_is : outcome ≡ folded G reducer (lines text)
  pub output : out_bytes text_names outcome ≡ fold_text G reducer text
