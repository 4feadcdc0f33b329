-- Positions. Which line may stand somewhere depends on the lines before it by this alone: whether it is the
-- first, how many inputs may still come, whether a task is open, whether its `do` was there, and
-- which blocks are open.
use Rattle.std.specs.Prelude.{ℕ, ◌-◌, Bool, true, false, List, [], ◌∷◌}
use Rattle.job_reader.specs.declared.block.Block.{Block}
use Rattle.job_reader.specs.declared.block.Block.TheVariants as block
use Rattle.job_reader.specs.declared.line.Line.{Line}
use Rattle.job_reader.specs.declared.line.Line.TheVariants as line
use Rattle.job_reader.specs.declared.position.Position.{Position}
use Rattle.job_reader.specs.declared.position.Position.TheVariants.{First, Top, InTask, InDo, Outside}
use Rattle.job_reader.specs.declared.position.TheConstants.{INPUTS_MOST}

-- The position after a statement, by the open blocks, the innermost first. The `end` that closes no block
-- closes the task.
abbrev pub after_end : List Block → Position
after_end [] = Outside
after_end (innermost ∷ blocks) = InDo blocks

abbrev pub after_else : List Block → Position
after_else [] = InDo []
after_else (innermost ∷ blocks) = InDo (block.Else ∷ blocks)

abbrev pub after_statement : List Block → Line → Position
after_statement blocks (line.If a) = InDo (block.If ∷ blocks)
after_statement blocks (line.While a) = InDo (block.While ∷ blocks)
after_statement blocks line.Else = after_else blocks
after_statement blocks line.End = after_end blocks
after_statement blocks _ = InDo blocks

-- the position after a line of a task before its `do`, and after a line at the top level
abbrev pub after_declaration : Line → Position
after_declaration line.Do = InDo []
after_declaration _ = InTask

abbrev pub after_top : ℕ → Line → Position
after_top inputs_left (line.Input name) = Top (inputs_left - 1)
after_top inputs_left (line.Task name) = InTask
after_top inputs_left _ = Top inputs_left

abbrev pub after_outside : Line → Position
after_outside (line.Task name) = InTask
after_outside _ = Outside

abbrev pub after : Position → Line → Position
after First line = Top INPUTS_MOST
after (Top inputs_left) line = after_top inputs_left line
after InTask line = after_declaration line
after (InDo blocks) line = after_statement blocks line
after Outside line = after_outside line

-- whether a task is open
abbrev pub is_open : Position → Bool
is_open InTask = true
is_open (InDo blocks) = true
is_open _ = false

-- whether an `else` may stand: the innermost block is an `if` that has none yet
abbrev pub takes_else : List Block → Bool
takes_else (block.If ∷ blocks) = true
takes_else _ = false
