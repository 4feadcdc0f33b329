use Rattle.serial_elision.proofs.AskMakes.{spawns-child}
use Rattle.serial_elision.proofs.task_laws.a_spawn_makes_its_child.Goals as goal

pub returns : goal.returns
returns g c = record {
  spawns = λ child plan path k top local is holdings held bounds once shallow enough. spawns-child g.B.Body plan path k top local child is holdings held once shallow enough bounds;
}
