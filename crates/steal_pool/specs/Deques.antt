-- Which deque it is.
use Rattle.std.specs.Prelude.{ℕ}
use Rattle.std.specs.declared.alloc.Global.{Global}

-- the number of a deque, and where its memory is from
abbrev pub Deque : Type 0
Deque = (ℕ × ℕ) × Global
