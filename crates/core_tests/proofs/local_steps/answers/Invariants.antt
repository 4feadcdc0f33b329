use Rattle.std.proofs.Common.{◌≡◌}
use Rattle.core_tests.proofs.local_steps.answers.Given as goal

abbrev pub invariant-loop-index : goal.invariant-loop-index
invariant-loop-index g l =
    record {
      plan : l.fn.body ≡ l.frame.task.plan.body;
    }
