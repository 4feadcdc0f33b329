use Rattle.std.proofs.Common.{◌≡◌, ◌++◌, ◌*◌, replicate}
use Rattle.job_reader.specs.Characters.{space}
use Rattle.job_reader.proofs.write.push_indentation.Given as goal

abbrev pub invariant-loop-step : goal.invariant-loop-step
invariant-loop-step l = l.out.items ≡ l.fn.out.items ++ replicate (2 * l._step) space
