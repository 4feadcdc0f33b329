-- The records that are written and those that are left are those that were so before.
use Rattle.std.proofs.Common.{◌≡◌, ◌++◌, length}
use Rattle.index_pipeline.proofs.batches.Ready.fill.Given as goal

abbrev pub invariant-loop-more : goal.invariant-loop-more
invariant-loop-more g l = l.batch ++ g.S.RecordSource.left l.self.source ≡ l.fn.batch ++ g.S.RecordSource.left l.fn.self.source

abbrev pub decreases-loop-more : goal.decreases-loop-more
decreases-loop-more g l = length (g.S.RecordSource.left l.self.source)
