use Rattle.std.proofs.Common.{◌≡◌, ◌+◌, ◌≤◌, drop, filter, length}
use Rattle.job_body.specs.PlanOfJob.{is_input}
use Rattle.job_body.specs.Tasks.{before_task}
use Rattle.job_body.proofs.plan.input_count.Given as goal

abbrev pub invariant-loop-line : goal.invariant-loop-line
invariant-loop-line l = record {
  few : l.count ≤ l.line-index;
  rest : l.count + length (filter is_input (before_task (drop l.line-index l.lines))) ≡ length (filter is_input (before_task l.lines));
}
