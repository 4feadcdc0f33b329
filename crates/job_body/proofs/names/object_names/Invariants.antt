use Rattle.std.proofs.Common.{◌≡◌, ◌++◌, drop, flat_map}
use Rattle.job_body.specs.Tasks.{before_task, root_object_of}
use Rattle.job_body.proofs.names.object_names.Given as goal

abbrev pub invariant-loop-line : goal.invariant-loop-line
invariant-loop-line l = l.names ++ flat_map root_object_of (before_task (drop l.line-index l.lines)) ≡ flat_map root_object_of (before_task l.lines)
