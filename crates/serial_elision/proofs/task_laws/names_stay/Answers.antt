use Rattle.serial_elision.proofs.AskSteps.{use-named}
use Rattle.serial_elision.proofs.NamesStay.{held-named, names-later, names-stay}
use Rattle.serial_elision.proofs.RootNames.{root-object_name, root-queue_name}
use Rattle.serial_elision.proofs.task_laws.names_stay.Goals as goal

pub returns : goal.returns
returns g c = record {
  named = λ plan bounds path k top at place holding is. held-named g.B.Body plan bounds path k top at place holding is;
  later = λ plan bounds path k top at n late. names-later g.B.Body plan bounds path k top at n late;
  next = λ plan bounds path k top at next then same. names-stay g.B.Body plan bounds path k top at next then same;
  usable = λ plan bounds path k top at place holding mode is may. use-named g.B.Body plan path k top bounds at place holding mode is may;
  root_queues = λ plan bounds i queue is. root-queue_name g.B.Body plan bounds i queue is;
  root_objects = λ plan bounds i first is. root-object_name g.B.Body plan bounds i first is;
}
