use Rattle.std.proofs.Common.{◌-◌}
use Rattle.swan_outside.specs.Reads.{Gave}
use Rattle.swan_outside.proofs.os_files.append_rest.Given as goal

abbrev pub invariant-loop-count : goal.invariant-loop-count
invariant-loop-count g l =
    Gave (g.R.Read.remaining l.initial.reader) (g.R.Read.remaining l.reader) l.initial.into.items l.into.items l.count

abbrev pub decreases-loop-count : goal.decreases-loop-count
decreases-loop-count g l = 67108865 - l.count
