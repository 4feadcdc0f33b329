-- The first bytes of a word as one number, by which most words can be told apart and put in order.
use Rattle.std.specs.Prelude.{ℕ, zero, suc, ◌+◌, ◌*◌, ◌^◌, List, [], ◌∷◌}

-- the number of the first so many bytes, the first one highest; bytes that a word lacks are 0
abbrev pub front_value : ℕ → List ℕ → ℕ
front_value zero bytes = 0
front_value (suc room) [] = 0
front_value (suc room) (byte ∷ bytes) = byte * 256 ^ room + front_value room bytes
