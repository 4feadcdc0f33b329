use Rattle.std.proofs.Common.{◌≡◌, ◌≤◌, ◌++◌, drop, flat_map, length}
use Rattle.job_body.specs.Compiled.{name_of_task, tasks_from}
use Rattle.job_body.proofs.tasks.Tasks.of.Given as goal

abbrev pub invariant-loop-index : goal.invariant-loop-index
invariant-loop-index l = record {
  names : l.all.names ++ flat_map name_of_task (drop l.index l.lines) ≡ flat_map name_of_task l.lines;
  few : length l.all.names ≤ l.index;
  tasks : l.all.tasks ++ tasks_from l.index (drop l.index l.lines) ≡ tasks_from 0 l.lines;
}
