use Rattle.serial_elision.proofs.StepLaws.{serial-faults}
use Rattle.serial_elision.proofs.laws.a_fault_ends_its_task.Goals as goal

pub returns : goal.returns
returns g c = serial-faults g.B.Body
