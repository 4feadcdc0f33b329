-- What is told of bytes outside. A file or a sink may tell its bytes or tell nothing, and a clause on bytes holds
-- where they are told.
use Rattle.std.specs.Prelude.{◌≡◌, ℕ, ◌≤◌, List, ◌++◌, length, take, Option, Some, None}

-- these bytes were appended, as far as it is told: what is told after was told before
abbrev pub Appends : Option (List ℕ) → List ℕ → Option (List ℕ) → Type 0
Appends before bytes None = Unit {0}
Appends None bytes (Some now) = ⊥
Appends (Some before) bytes (Some now) = now ≡ before ++ bytes

-- a front of these bytes was appended
abbrev pub AppendsFront : Option (List ℕ) → List ℕ → Option (List ℕ) → Type 0
AppendsFront before bytes after = (n : ℕ) × (n ≤ length bytes) × Appends before (take n bytes) after

-- these bytes are the content, where one is told
abbrev pub Tells : Option (List ℕ) → List ℕ → Type 0
Tells None bytes = Unit {0}
Tells (Some content) bytes = bytes ≡ content
