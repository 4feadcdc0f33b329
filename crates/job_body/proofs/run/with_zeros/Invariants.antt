use Rattle.std.proofs.Common.{◌≡◌, ◌++◌, map, take}
use Rattle.swan_model.specs.Values.{zero_of}
use Rattle.job_body.proofs.run.with_zeros.Given as goal

abbrev pub invariant-loop-kind : goal.invariant-loop-kind
invariant-loop-kind l = l.values.items ≡ l.initial.values.items ++ map zero_of (take l.kind-index l.kinds)
