use Rattle.task_frames.proofs.CatchUp.{caught-up}
use Rattle.task_frames.proofs.laws.objects_follow_local_steps.Goals as goal

pub returns : goal.returns
returns c = λ s r versions number p many lawful known follows local left. caught-up s lawful r versions number p known many follows local left
