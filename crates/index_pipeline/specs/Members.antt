-- Which pairs an index has.
use Rattle.std.specs.Prelude.{◌≡◌, ℕ, ◌+◌, Some, List, slice_get}
use Rattle.std.specs.List.{Contains}
use Rattle.index_pipeline.specs.Pairs.{Pair}
use Rattle.index_pipeline.specs.Words.{words}

-- The pair's word stands on the line of these that has the pair's number. Lines are numbered from 1 on.
pub record StandsOn (lines : List (List ℕ)) (pair : Pair) : Type 0 where
  pub before : ℕ
  pub line : List ℕ
  pub is_line : slice_get lines before ≡ Some line
  pub is_word : Contains (words line) pair.word
  pub is_number : pair.line ≡ before + 1
