use Rattle.std.proofs.Common.{suc}
use Rattle.job_body.proofs.Rows.{HasWorked}
use Rattle.job_body.proofs.run.steps.Given as goal

abbrev pub invariant-loop-works : goal.invariant-loop-works
invariant-loop-works l = HasWorked l.fn.program l.fn.local l.fn.answer (suc l.fn.left) l.works l.local
