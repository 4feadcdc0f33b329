use Rattle.std.proofs.Common.{◌≡◌, ◌++◌, [], None}
use Rattle.std.specs.Prelude.{option_to_list}
use Rattle.swan_runtime.specs.Stacks.{IsStack, turns_left}
use Rattle.task_frames.specs.Resumes.{ends_of}
use Rattle.swan_runtime.proofs.alone.run_alone.Given as goal

abbrev pub invariant-loop-top : goal.invariant-loop-top
invariant-loop-top g l =
    record {
      stack : IsStack (ends_of g.Q.Ends.LocalEnds) l.core (l.below.items ++ option_to_list l.top);
      empty : l.top ≡ None → l.below.items ≡ [];
      plan : l.core.plan ≡ l.fn.opened.core.plan;
      body : l.body.value ≡ l.core.plan.body;
    }

abbrev pub decreases-loop-top : goal.decreases-loop-top
decreases-loop-top g l = turns_left (l.below.items ++ option_to_list l.top)
