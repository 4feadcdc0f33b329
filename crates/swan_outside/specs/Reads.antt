-- What a read of a file leaves.
use Rattle.std.specs.Prelude.{◌≡◌, ℕ, ◌≤◌, ◌<◌, List, ◌++◌, length, Option, Some, None}
use Rattle.std.specs.Io.KnownBytes.{Consumes}
use Rattle.swan_outside.specs.Told.{Tells}
use Rattle.swan_outside.specs.declared.files.TheConstants.{FILE_MOST}

-- the buffer is what it was and then the whole content of a file, which is within the limit
pub record Reads (content : Option (List ℕ)) (before after : List ℕ) : Type 0 where
  pub bytes : List ℕ
  pub appended : after ≡ before ++ bytes
  pub told : Tells content bytes
  pub most : length bytes ≤ FILE_MOST

-- the content passes the limit, where one is told
abbrev pub IsTooLong : Option (List ℕ) → Type 0
IsTooLong None = Unit {0}
IsTooLong (Some content) = FILE_MOST < length content

-- so many bytes came off the front of what a reader had left, as far as that is known, and stand at the end of the buffer
pub record Gave (left rest : Option (List ℕ)) (before after : List ℕ) (n : ℕ) : Type 0 where
  pub bytes : List ℕ
  pub appended : after ≡ before ++ bytes
  pub taken : Consumes left rest bytes
  pub count : length bytes ≡ n
