-- The serial order of tasks, by their paths.
use Rattle.std.specs.Prelude.{ℕ, ◌==◌, nat_lt, Bool, true, false, List, [], ◌∷◌, if◌then◌else◌}

-- Whether a task comes before another in serial order, by their paths: a child before its parent, and
-- children of one parent by their numbers, each with all tasks below it. No task comes before itself.
abbrev pub comes_before : List ℕ → List ℕ → Bool
comes_before [] path = false
comes_before (part ∷ parts) [] = true
comes_before (part ∷ parts) (other ∷ others) =
    if part == other then comes_before parts others else nat_lt part other

-- whether a task is another one or below it
abbrev pub is_under : (top path : List ℕ) → Bool
is_under [] path = true
is_under (part ∷ parts) [] = false
is_under (part ∷ parts) (other ∷ others) = if part == other then is_under parts others else false
