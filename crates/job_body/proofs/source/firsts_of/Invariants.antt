use Rattle.std.proofs.Common.{◌≡◌, ◌≤◌, ◌+◌, drop, length, reverse}
use Rattle.job_body.specs.Firsts.{firsts_from}
use Rattle.job_body.specs.Tasks.{passed_over}
use Rattle.job_body.proofs.source.firsts_of.Given as goal

abbrev pub invariant-loop-index : goal.invariant-loop-index
invariant-loop-index l = record {
  within : l.index ≤ length l.lines;
  first : l.first ≡ l.index + passed_over (drop l.index l.lines);
  all : reverse l.all.items ≡ firsts_from l.index (drop l.index l.lines);
}

abbrev pub decreases-loop-index : goal.decreases-loop-index
decreases-loop-index l = l.index
