use Rattle.serial_elision.proofs.FaultOrder.{serial-in_order}
use Rattle.serial_elision.proofs.laws.faults_are_in_order.Goals as goal

pub returns : goal.returns
returns g c = serial-in_order g.B.Body
