-- Nothing is written yet, and the words that are left are those that were left before.
use Rattle.std.proofs.Common.{◌≡◌, ◌++◌, length}
use Rattle.index_pipeline.specs.Records.{block_records}
use Rattle.index_pipeline.proofs.words_left.LinesLeftRecordSource.write_next.Given as goal

abbrev pub invariant-loop-more : goal.invariant-loop-more
invariant-loop-more l = record {
  batch : l.batch ≡ l.fn.batch;
  left : l.self.line ++ block_records l.self.block ≡ l.fn.self.line ++ block_records l.fn.self.block;
}

abbrev pub decreases-loop-more : goal.decreases-loop-more
decreases-loop-more l = length l.self.block.lines
