use Rattle.serial_elision.proofs.OutcomeTold.{queues_told, objects_told, rest_told}
use Rattle.serial_elision.proofs.script_laws.a_script_tells_queues_and_objects.Goals as goal

pub returns-clause-items_left : goal.returns-clause-items_left
returns-clause-items_left g c = queues_told g.B.Body

pub returns-clause-values_left : goal.returns-clause-values_left
returns-clause-values_left g c = objects_told g.B.Body

pub returns-clause-rest_left : goal.returns-clause-rest_left
returns-clause-rest_left g c = rest_told g.B.Body
