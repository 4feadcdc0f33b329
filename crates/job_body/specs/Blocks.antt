-- The blocks of a task: where one goes on at an `else`, an `end`, and a condition that is false.
use Rattle.std.specs.Prelude.{ℕ, ◌+◌, Option, Some, None, List, [], ◌∷◌, take, drop, length}
use Rattle.job_body.specs.declared.block.BlockWithLine.{BlockWithLine}
use Rattle.job_body.specs.declared.block.BlockWithLine.TheVariants as opened
use Rattle.job_body.specs.declared.exit.Exit.{Exit}
use Rattle.job_reader.specs.declared.line.Line.{Line}
use Rattle.job_reader.specs.declared.line.Line.TheVariants.{Task, If, Else, While, End}

-- the innermost open block
abbrev pub innermost : List BlockWithLine → Option BlockWithLine
innermost [] = None
innermost (block ∷ blocks) = Some block

-- The blocks that are open after a line, the innermost first, by those that are open before it and the
-- line's index. The `end` that closes no block closes the task.
abbrev pub blocks_after_end : List BlockWithLine → List BlockWithLine
blocks_after_end [] = []
blocks_after_end (block ∷ blocks) = blocks

abbrev pub blocks_after : ℕ → List BlockWithLine → Line → List BlockWithLine
blocks_after i blocks (Task name) = []
blocks_after i blocks (If a) = opened.If ∷ blocks
blocks_after i blocks (While a) = opened.While i ∷ blocks
blocks_after i blocks End = blocks_after_end blocks
blocks_after i blocks _ = blocks

abbrev pub blocks_from : ℕ → List BlockWithLine → List Line → List BlockWithLine
blocks_from i blocks [] = blocks
blocks_from i blocks (line ∷ lines) = blocks_from (i + 1) (blocks_after i blocks line) lines

-- the blocks that are open before the line at an index
abbrev pub blocks_at : List Line → ℕ → List BlockWithLine
blocks_at lines i = blocks_from 0 [] (take i lines)

-- the block that is closed first, where some block is; else one goes past all lines
abbrev pub first_exit : ℕ → List Exit → Exit
first_exit end [] = record { otherwise = end; after = end }
first_exit end (exit ∷ exits) = exit

abbrev pub without_first : List Exit → List Exit
without_first [] = []
without_first (exit ∷ exits) = exits

abbrev pub with_else : ℕ → List Exit → List Exit
with_else i [] = []
with_else i (exit ∷ exits) = record { otherwise = i; after = exit.after } ∷ exits

-- The same once one more line stands before the lines that close them.
abbrev pub exits_with : ℕ → Line → List Exit → List Exit
exits_with i (Task name) exits = []
exits_with i (If a) exits = without_first exits
exits_with i (While a) exits = without_first exits
exits_with i Else exits = with_else (i + 1) exits
exits_with i End exits = record { otherwise = i + 1; after = i + 1 } ∷ exits
exits_with i line exits = exits

-- The blocks that are open before these lines and are closed by them, the one that is closed first
-- standing first. The first of the lines has this index.
abbrev pub exits : ℕ → List Line → List Exit
exits i [] = []
exits i (line ∷ lines) = exits_with i line (exits (i + 1) lines)

-- how the innermost block goes on that is open after the line at an index
abbrev pub exit_at : List Line → ℕ → Exit
exit_at lines i = first_exit (length lines) (exits (i + 1) (drop (i + 1) lines))
