use Rattle.serial_elision.proofs.Endings.{one_end, child_ends, between, root_ends}
use Rattle.serial_elision.proofs.Nesting.{end_is_last}
use Rattle.serial_elision.proofs.script_laws.each_task_ends_once.Goals as goal
use Rattle.swan_model.proofs.TaskEntries.{spawn_is_next}

pub returns-clause-last : goal.returns-clause-last
returns-clause-last g c = end_is_last g.B.Body

pub returns-clause-once : goal.returns-clause-once
returns-clause-once g c = one_end g.B.Body

pub returns-clause-ends : goal.returns-clause-ends
returns-clause-ends g c = child_ends g.B.Body

pub returns-clause-between : goal.returns-clause-between
returns-clause-between g c = between g.B.Body

pub returns-clause-root : goal.returns-clause-root
returns-clause-root g c = root_ends g.B.Body

pub returns-clause-spawned : goal.returns-clause-spawned
returns-clause-spawned g c = spawn_is_next
