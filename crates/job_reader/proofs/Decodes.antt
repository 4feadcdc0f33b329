-- A literal that is decoded byte by byte.
use Rattle.std.proofs.Common.{ℕ, List, ◌++◌, Option}
use Rattle.std.specs.Prelude.{option_map}

-- what is decoded, after bytes that are decoded already
abbrev pub after_bytes : List ℕ → Option (List ℕ) → Option (List ℕ)
after_bytes front more = option_map (λ bytes. front ++ bytes) more
