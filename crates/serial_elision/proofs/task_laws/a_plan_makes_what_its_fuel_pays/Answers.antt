use Rattle.std.proofs.Common.{arith}
use Rattle.serial_elision.proofs.FewHeld.{few-children, few-places, given-many}
use Rattle.serial_elision.proofs.FewMade.{few-deeds, few-objects, few-queue_times, few-queues, few-times}
use Rattle.swan_model.proofs.RootLists.{length-root_holdings}
use Rattle.serial_elision.proofs.task_laws.a_plan_makes_what_its_fuel_pays.Goals as goal

pub returns : goal.returns
returns g c = record {
  queues = few-queues g.B.Body;
  objects = few-objects g.B.Body;
  children = few-children g.B.Body;
  places = λ plan path k top at first begins. few-places g.B.Body plan path k first top begins at;
  root_places = λ plan. length-root_holdings plan.roots;
  child_places = λ holdings given_so gives is. given-many holdings gives given_so is;
  few_queues = λ plan queues bounds fuel are. omega (arith, bounds.roots, fuel, few-queues g.B.Body plan queues are);
  few_objects = λ plan objects bounds fuel are. omega (arith, bounds.roots, fuel, few-objects g.B.Body plan objects are);
  few_children = λ plan path k top at fuel. omega (arith, fuel, few-children g.B.Body plan path k top at);
  few_places = λ plan path k top at fuel first begins most.
      omega (arith, fuel, most, few-places g.B.Body plan path k first top begins at, few-children g.B.Body plan path 0 first begins);
  steps = few-times g.B.Body;
  queue_deeds = few-queue_times g.B.Body;
  deeds_so_far = few-deeds g.B.Body;
}
