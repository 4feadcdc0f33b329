use Rattle.std.proofs.Common.{rules, append_assoc}
use Rattle.std.proofs.lemmas.Result.{IfOk-equal}
use Rattle.job_reader.specs.Words.{op_text}
use Rattle.job_reader.proofs.Joins.{join_atoms}
use Rattle.job_reader.proofs.write.assigned.Goals as goal

pub returns : goal.returns
returns c = rw (join_atoms (op_text c.args.op) c.args.args.now) (search (rules, IfOk-equal, append_assoc))
