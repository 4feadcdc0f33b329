use Rattle.std.proofs.Common.{rules, append_assoc}
use Rattle.std.proofs.lemmas.Result.{IfOk-equal}
use Rattle.job_reader.proofs.Joins.{join_atoms}
use Rattle.job_reader.proofs.write.spawned.Goals as goal

pub returns : goal.returns
returns c = rw (join_atoms c.args.task.now c.args.given.now) (search (rules, IfOk-equal, append_assoc))
