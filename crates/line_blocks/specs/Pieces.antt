-- The pieces of a text between the bytes that part it. A text with n of these bytes has n + 1 pieces.
use Rattle.std.specs.Prelude.{ℕ, Bool, if◌then◌else◌, List, [], ◌∷◌}
use Rattle.swan_model.specs.Lines.{in_front}

abbrev pub pieces : (ℕ → Bool) → List ℕ → List (List ℕ)
pieces parts [] = [] ∷ []
pieces parts (byte ∷ bytes) = if parts byte then [] ∷ pieces parts bytes else in_front byte (pieces parts bytes)
