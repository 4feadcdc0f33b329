use Rattle.std.proofs.Common.{◌≡◌, ◌≤◌, ◌*◌, take}
use Rattle.swan_model.specs.declared.record.TheConstants.{RECORD_MOST}
use Rattle.line_blocks.specs.LineBlocks.{byte_count}
use Rattle.line_blocks.proofs.line_block.LineBlock.byte_count.Given as goal

-- the bytes of the lines so far, which have at most so many each
abbrev pub invariant-loop-index : goal.invariant-loop-index
invariant-loop-index l = (l.bytes ≡ byte_count (take l.index l.self.lines)) × (l.bytes ≤ l.index * RECORD_MOST)
