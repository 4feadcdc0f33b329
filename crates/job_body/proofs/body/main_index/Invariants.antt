use Rattle.std.proofs.Common.{◌≡◌, ◌+◌, ◌≤◌, codes, drop}
use Rattle.job_body.specs.Tasks.{task_index}
use Rattle.job_body.proofs.body.main_index.Given as goal

abbrev pub invariant-loop-line : goal.invariant-loop-line
invariant-loop-line l = record {
  few : l.index ≤ l.line-index;
  rest : l.index + task_index (drop l.line-index l.lines) (codes "main") ≡ task_index l.lines (codes "main");
}
