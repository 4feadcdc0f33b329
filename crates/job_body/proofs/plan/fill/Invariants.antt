use Rattle.std.proofs.Common.{◌≡◌, ◌+◌, ◌++◌, ◌≤◌, drop, filter, length}
use Rattle.job_body.specs.PlanOfJob.{first_refused, is_input, root_objects, root_queues}
use Rattle.job_body.specs.Tasks.{before_task, top_lines}
use Rattle.job_body.proofs.plan.fill.Given as goal

abbrev pub invariant-loop-line : goal.invariant-loop-line
invariant-loop-line l = record {
  count : l.next + length (filter is_input (before_task (drop l.line-index l.lines))) ≡ length l.inputs;
  queues : l.roots.queues ++ root_queues (before_task (drop l.line-index l.lines)) (drop l.next l.inputs) ≡ root_queues (top_lines l.lines) l.inputs;
  objects : l.roots.objects ++ root_objects (before_task (drop l.line-index l.lines)) ≡ root_objects (top_lines l.lines);
  few : length l.roots.queues + length l.roots.objects ≤ l.line-index;
  refused : first_refused (l.next + 1) (drop l.next l.inputs) ≡ first_refused 1 l.inputs;
}
