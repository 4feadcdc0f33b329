-- What is left of a line once a word is taken.
use Rattle.std.proofs.Common.{◌≡◌, ℕ, ◌+◌, List, [], ◌∷◌, drop, ◌∙◌, ap, map}
use Rattle.std.proofs.lemmas.List.{drop-drop}
use Rattle.swan_model.specs.declared.value.Value.{Value}
use Rattle.index_pipeline.specs.Records.{line_records, record_of}
use Rattle.index_pipeline.specs.Words.{runs, word_of}

abbrev records_of : ℕ → List (List ℕ) → List Value
records_of number rs = map (λ word. record_of (record { word = word; line = number })) (map word_of rs)

pub line_more : (number : ℕ) (bytes run : List ℕ) (taken to : ℕ) → runs (drop taken bytes) ≡ run ∷ runs (drop to (drop taken bytes))
    → line_records number (drop taken bytes) ≡ record_of (record { word = word_of run; line = number }) ∷ line_records number (drop (taken + to) bytes)
line_more number bytes run taken to first =
    ap (records_of number) first ∙ ap (λ rest. record_of (record { word = word_of run; line = number }) ∷ line_records number rest) (drop-drop to taken bytes)

pub line_over : (number : ℕ) (bytes : List ℕ) → runs bytes ≡ [] → line_records number bytes ≡ []
line_over number bytes none = ap (records_of number) none
