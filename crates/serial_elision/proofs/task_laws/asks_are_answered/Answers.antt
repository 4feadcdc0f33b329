use Rattle.serial_elision.proofs.AskMakes.{makes-object, makes-queue}
use Rattle.serial_elision.proofs.AskSteps.{pops-on, pushes-on, reads, syncs, tests-none, tests-some, works, writes}
use Rattle.serial_elision.proofs.task_laws.asks_are_answered.Goals as goal

pub returns : goal.returns
returns g c = record {
  work = λ plan bounds path k top local is. works g.B.Body plan path k top local bounds is;
  sync = λ plan bounds path k top local is. syncs g.B.Body plan path k top local bounds is;
  read = λ place plan bounds path k top local is object has. reads g.B.Body plan path k top local bounds place object is has;
  write = λ place value plan bounds path k top local is object has. writes g.B.Body plan path k top local bounds place value object is has;
  push = λ place value plan bounds path k top local is queue has. pushes-on g.B.Body plan path k top local bounds place value queue is has;
  pop = λ place plan bounds path k top local is queue has some. pops-on g.B.Body plan path k top local bounds place queue has is some;
  test_of_some = λ place plan bounds path k top local is queue has some. tests-some g.B.Body plan path k top local bounds place queue has is some;
  test_of_none = λ place plan bounds path k top local is queue has none. tests-none g.B.Body plan path k top local bounds place queue has is none;
  new_queue = λ plan bounds path k top local is. makes-queue g.B.Body plan path k top local bounds is;
  new_object = λ first plan bounds path k top local is. makes-object g.B.Body plan path k top local bounds first is;
}
