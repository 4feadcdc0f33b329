use Rattle.std.proofs.Common.{◌≡◌, ◌≤◌, ℕ, false}
use Rattle.swan_model.specs.Elision.{outcome}
use Rattle.queues.specs.Asks.{is_emptied}
use Rattle.task_frames.proofs.Leaving.{AreFirst}
use Rattle.task_frames.proofs.left_over.rests_left.Given as goal

abbrev pub invariant-loop-index : goal.invariant-loop-index
invariant-loop-index g l =
    record {
      first : AreFirst l.lists l.index (outcome g.B.Body l.plan.means).queues;
      name : g.Q.Queues.name l.queues ≡ g.Q.Queues.name l.fn.queues;
      frames : (g.Q.Queues.state l.queues).frames ≡ (g.Q.Queues.state l.fn.queues).frames;
      makers : (g.Q.Queues.state l.queues).makers ≡ (g.Q.Queues.state l.fn.queues).makers;
      fresh : (queue : ℕ) → l.index ≤ queue → is_emptied (g.Q.Queues.state l.queues) queue ≡ false;
    }
