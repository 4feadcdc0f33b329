use Rattle.std.proofs.Common.{◌≡◌, ◌≤◌, drop, length, reverse}
use Rattle.job_body.specs.Blocks.{exits}
use Rattle.job_body.specs.Compiled.{exits_from}
use Rattle.job_body.proofs.exits.exits_of.Given as goal

abbrev pub invariant-loop-index : goal.invariant-loop-index
invariant-loop-index l = record {
  ends : l.end ≡ length l.lines;
  within : l.index ≤ length l.lines;
  open_blocks : l.open ≡ exits l.index (drop l.index l.lines);
  all : reverse l.all.items ≡ exits_from (length l.lines) l.index (drop l.index l.lines);
}

abbrev pub decreases-loop-index : goal.decreases-loop-index
decreases-loop-index l = l.index
