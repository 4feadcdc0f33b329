use Rattle.std.proofs.Common.{◌≡◌, ◌≤◌, [], drop, length}
use Rattle.std.specs.Vec.Iter.{into_iter_items}
use Rattle.swan_model.specs.Readings.{at_start}
use Rattle.swan_model.specs.Script.{script}
use Rattle.queues.specs.Asks.{IsSameRun}
use Rattle.task_frames.specs.Opened.{AreFirstQueues, roots_to}
use Rattle.task_frames.proofs.begin.make_queues.Given as goal

abbrev pub invariant-loop-root : goal.invariant-loop-root
invariant-loop-root g l =
    record {
      next : (goal.iterator-loop-root g).can_next l.root-iterator;
      finite : (goal.iterator-loop-root g).is_finite l.root-iterator;
      left : into_iter_items l.root-iterator ≡ drop l.made l.fn.roots;
      few : l.made ≤ length l.fn.roots;
      queues : AreFirstQueues (script g.B.Body l.plan.means) (g.Q.Queues.state l.queues) l.made;
      reading : l.reading ≡ at_start (roots_to l.made) [];
      same : IsSameRun g.Q.Queues.name g.Q.Queues.run l.fn.queues l.queues;
      plan : l.plan ≡ l.fn.plan;
    }
