use Rattle.serial_elision.proofs.FaultsTold.{fault-booked, fault-of, faults-are, faults-ordered}
use Rattle.serial_elision.proofs.task_laws.faults_are_those_of_last_steps.Goals as goal

pub returns : goal.returns
returns g c = record { each = fault-of g.B.Body; all = fault-booked g.B.Body; order = faults-ordered g.B.Body; alone = faults-are g.B.Body }
