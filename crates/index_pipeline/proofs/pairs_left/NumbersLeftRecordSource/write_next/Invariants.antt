-- Nothing is written yet, and the pairs that are left are those that were left before.
use Rattle.std.proofs.Common.{◌≡◌, length, drop}
use Rattle.index_pipeline.specs.KeptPairs.{pairs_from_word}
use Rattle.index_pipeline.proofs.pairs_left.NumbersLeftRecordSource.write_next.Given as goal

abbrev pub invariant-loop-line : goal.invariant-loop-line
invariant-loop-line l = record {
  batch : l.batch ≡ l.fn.batch;
  left : pairs_from_word l.self.word (drop l.self.taken l.self.numbers) l.self.words.entries ≡ pairs_from_word l.fn.self.word (drop l.fn.self.taken l.fn.self.numbers) l.fn.self.words.entries;
}

abbrev pub decreases-loop-line : goal.decreases-loop-line
decreases-loop-line l = length l.self.words.entries
