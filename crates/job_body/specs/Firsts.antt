-- The first step from each line on, which the code looks up in place of the lines. The code alone is stated
-- by this, and no public clause.
use Rattle.std.specs.Prelude.{ℕ, ◌+◌, List, [], ◌∷◌}
use Rattle.job_reader.specs.declared.line.Line.{Line}
use Rattle.job_body.specs.Tasks.{passed_over}

-- the index of the first step from each of these lines on, the first of which has this index
abbrev pub firsts_from : ℕ → List Line → List ℕ
firsts_from i [] = []
firsts_from i (line ∷ lines) = (i + passed_over (line ∷ lines)) ∷ firsts_from (i + 1) lines

abbrev pub firsts_of : List Line → List ℕ
firsts_of lines = firsts_from 0 lines
