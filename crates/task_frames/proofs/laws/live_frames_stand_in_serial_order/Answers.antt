use Rattle.task_frames.proofs.Earliest.{serial-so}
use Rattle.task_frames.proofs.laws.live_frames_stand_in_serial_order.Goals as goal

pub returns : goal.returns
returns g c = λ plan kept core number other a b here there. serial-so g.B.Body plan kept core number other a b here there
