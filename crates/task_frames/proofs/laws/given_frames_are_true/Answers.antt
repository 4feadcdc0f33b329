use Rattle.task_frames.proofs.Taking.{given-true}
use Rattle.task_frames.proofs.laws.given_frames_are_true.Goals as goal

pub returns : goal.returns
returns g c = λ core kept frame stage is keeps plan given any stands. given-true g.B.Body g.Q.Ends.LocalEnds.name g.Q.Ends.LocalEnds.ends core kept frame stage is keeps plan given any stands
