use Rattle.std.proofs.Common.{◌≡◌, ◌++◌, drop}
use Rattle.job_body.specs.Tasks.{before_task, takes}
use Rattle.job_body.proofs.tasks.Task.takes_of.Given as goal

abbrev pub invariant-loop-line : goal.invariant-loop-line
invariant-loop-line l = l.all ++ takes (before_task (drop l.line-index l.lines)) ≡ takes (before_task l.lines)
