use Rattle.swan_model.proofs.Times.{times_all}
use Rattle.serial_elision.proofs.script_laws.times_of_a_task_rise.Goals as goal

pub returns-clause-all : goal.returns-clause-all
returns-clause-all c = times_all
