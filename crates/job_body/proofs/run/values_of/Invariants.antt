use Rattle.std.proofs.Common.{◌≡◌, map, take}
use Rattle.job_body.specs.Runs.{value_of}
use Rattle.job_body.proofs.run.values_of.Given as goal

abbrev pub invariant-loop-operand : goal.invariant-loop-operand
invariant-loop-operand l = record {
  kept : l.local ≡ l.fn.local;
  values : l.values.items ≡ map (value_of l.fn.local.values) (take l.operand-index l.operands);
}
