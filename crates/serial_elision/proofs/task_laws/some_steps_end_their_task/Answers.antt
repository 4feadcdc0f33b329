use Rattle.serial_elision.proofs.AskMakes.{aliased, too-dear, too-deep}
use Rattle.serial_elision.proofs.AskSteps.{dry, fails, finishes, pops-none, refused}
use Rattle.serial_elision.proofs.task_laws.some_steps_end_their_task.Goals as goal

pub returns : goal.returns
returns g c = record {
  dry = λ plan path k top at none. dry g.B.Body plan path k top at none;
  refused = λ asks plan path k top local is none. refused g.B.Body plan path k top local asks is none;
  finish = λ plan path k top local is. finishes g.B.Body plan path k top local is;
  fail = λ trouble plan path k top local is. fails g.B.Body plan path k top local trouble is;
  pop_of_none = λ place plan bounds path k top local is queue has none. pops-none g.B.Body plan path k top local bounds place queue has is none;
  alias = λ child plan path k top local is holdings held twice. aliased g.B.Body plan path k top local child is holdings held twice;
  depth = λ child plan path k top local is holdings held once deep. too-deep g.B.Body plan path k top local child is holdings held once deep;
  fuel = λ child plan path k top local is holdings held once shallow dear. too-dear g.B.Body plan path k top local child is holdings held once shallow dear;
}
