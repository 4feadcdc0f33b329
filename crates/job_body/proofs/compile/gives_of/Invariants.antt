use Rattle.std.proofs.Common.{◌≡◌, ◌++◌, ◌≤◌, drop, flat_map, length, zip}
use Rattle.job_body.specs.Compiled.{give_given}
use Rattle.job_body.proofs.compile.gives_of.Given as goal

abbrev pub invariant-loop-index : goal.invariant-loop-index
invariant-loop-index l = record {
  made : l.all ++ flat_map (give_given l.scope) (zip (drop l.index l.takes) (drop l.index l.args)) ≡ flat_map (give_given l.scope) (zip l.takes l.args);
  few : length l.all ≤ l.index;
}
