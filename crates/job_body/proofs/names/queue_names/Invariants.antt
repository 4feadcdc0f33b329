use Rattle.std.proofs.Common.{◌≡◌, ◌++◌, drop, flat_map}
use Rattle.job_body.specs.NamesOfJob.{queue_name}
use Rattle.job_body.specs.Tasks.{before_task}
use Rattle.job_body.proofs.names.queue_names.Given as goal

abbrev pub invariant-loop-line : goal.invariant-loop-line
invariant-loop-line l = l.names ++ flat_map queue_name (before_task (drop l.line-index l.lines)) ≡ flat_map queue_name (before_task l.lines)
