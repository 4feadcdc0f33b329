use Rattle.std.proofs.Common.{◌≡◌, ◌++◌, drop}
use Rattle.job_body.specs.Tasks.{before_task, var_kinds}
use Rattle.job_body.proofs.compile.kinds_of.Given as goal

abbrev pub invariant-loop-line : goal.invariant-loop-line
invariant-loop-line l = l.all ++ var_kinds (before_task (drop l.line-index l.lines)) ≡ var_kinds (before_task l.lines)
