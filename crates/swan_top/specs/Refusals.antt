-- The lines that refusals write.
use Rattle.std.specs.Prelude.{ℕ, List, [], ◌∷◌, ◌++◌}

-- what is wrong with a file, and its name
abbrev pub file_line : List ℕ → List ℕ → List ℕ
file_line what file = (what ++ file) ++ 10 ∷ []
