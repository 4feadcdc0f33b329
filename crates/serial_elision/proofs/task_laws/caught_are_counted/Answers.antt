use Rattle.serial_elision.proofs.Caught.{children-counted, failed-counted}
use Rattle.serial_elision.proofs.task_laws.caught_are_counted.Goals as goal

pub returns-clause-children : goal.returns-clause-children
returns-clause-children g c = λ plan path k top at. children-counted g.B.Body plan path k top at

pub returns-clause-failed : goal.returns-clause-failed
returns-clause-failed g c = λ plan path k top at. failed-counted g.B.Body plan path k top at
