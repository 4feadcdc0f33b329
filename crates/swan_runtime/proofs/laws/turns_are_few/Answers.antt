use Rattle.std.proofs.Common.{arith}
use Rattle.task_frames.specs.Resumes.{ends_of}
use Rattle.swan_runtime.proofs.Bound.{are-left, each-steps, few-frames}
use Rattle.swan_runtime.proofs.laws.turns_are_few.Goals as goal

pub returns-clause-stands : goal.returns-clause-stands
returns-clause-stands g c = λ opened core turns stack are. (are-left _ _ _ _ _ opened turns core stack are).stands

pub returns-clause-few : goal.returns-clause-few
returns-clause-few g c = λ opened core turns stack are. let few = (are-left _ _ _ _ _ opened turns core stack are).few in omega (arith, few)

pub returns-clause-each : goal.returns-clause-each
returns-clause-each g c = λ opened core after turns stack answer are it. each-steps _ _ _ _ _ core after stack answer (are-left _ _ _ _ _ opened turns core stack are).stands it

pub returns-clause-shallow : goal.returns-clause-shallow
returns-clause-shallow g c = λ opened core turns stack are. let left = are-left _ _ _ _ _ opened turns core stack are in few-frames g.row.Q.Denot g.B.Body g.Q.Ends.LocalEnds.name (ends_of g.Q.Ends.LocalEnds) g.Q.Ends.LocalEnds.counts core stack left.stands left.frames
