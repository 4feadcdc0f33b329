use Rattle.serial_elision.proofs.Onward.{spawns_next, stood-before}
use Rattle.serial_elision.proofs.TaskSteps.{ends_last, goes_on_next, root_stands, spawns_child, stands-each, stands-one}
use Rattle.serial_elision.proofs.task_laws.tasks_go_on.Goals as goal

pub returns : goal.returns
returns g c = record {
  root = root_stands g.B.Body;
  goes_on = λ plan path k top at next store is. goes_on_next g.B.Body plan path k top at next store is;
  spawns = λ plan path k top at parent child store is. spawns_next g.B.Body plan path k top at parent child store is;
  begins = λ plan path k top at parent child store is. spawns_child g.B.Body plan path k top at parent child store is;
  ends = λ plan path k top at is. ends_last g.B.Body plan path k top at is;
  each = stands-each g.B.Body;
  one = stands-one g.B.Body;
  before = λ plan path k top at. let stood = stood-before g.B.Body plan path k top at in (stood.before, stood.store, stood.stands, stood.effect);
}
