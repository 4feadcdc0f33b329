use Rattle.std.proofs.Common.{◌≡◌, ◌≤◌, ◌+◌, ◌++◌, drop, flat_map, length}
use Rattle.job_body.specs.Tasks.{before_task, root_queue_of}
use Rattle.job_body.proofs.roots.with_queues.Given as goal

abbrev pub invariant-loop-line : goal.invariant-loop-line
invariant-loop-line l = record {
  all : l.names ++ flat_map root_queue_of (before_task (drop l.line-index l.lines)) ≡ l.initial.names ++ flat_map root_queue_of (before_task l.lines);
  few : length l.names ≤ length l.initial.names + l.line-index;
}
