-- How lines are held until they are a block.
use Rattle.std.specs.Prelude.{◌+◌, ◌==◌, if◌then◌else◌, length}
use Rattle.swan_model.specs.declared.value.Value.{Value}
use Rattle.line_blocks.specs.declared.held_lines.AfterLine.{AfterLine}
use Rattle.line_blocks.specs.declared.held_lines.AfterLine.TheVariants.{Fewer, Block}
use Rattle.line_blocks.specs.declared.line_block.TheConstants.{BLOCK_LINES}
use Rattle.line_blocks.specs.LineBlocks.{Lines, with_line, after_lines}

-- with one more line there are fewer than a block has, or they are a block and none is held
abbrev pub held_with : Lines → Value → AfterLine
held_with held line =
    if length held.lines + 1 == BLOCK_LINES then Block (with_line held line) (after_lines (with_line held line))
    else Fewer (with_line held line)
