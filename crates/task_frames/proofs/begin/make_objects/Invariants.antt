use Rattle.std.proofs.Common.{◌≡◌, ◌≤◌, drop, length}
use Rattle.std.specs.Vec.Iter.{into_iter_items}
use Rattle.swan_model.specs.Readings.{at_start}
use Rattle.swan_model.specs.Script.{script}
use Rattle.task_frames.specs.Opened.{AreFirstObjects, roots_to}
use Rattle.task_frames.proofs.begin.make_objects.Given as goal

abbrev pub invariant-loop-value : goal.invariant-loop-value
invariant-loop-value g l =
    record {
      next : (goal.iterator-loop-value g).can_next l.value-iterator;
      finite : (goal.iterator-loop-value g).is_finite l.value-iterator;
      left : into_iter_items l.value-iterator ≡ drop l.made l.fn.roots;
      few : l.made ≤ length l.fn.roots;
      objects : AreFirstObjects (script g.B.Body l.plan.means) l.versions l.first l.made;
      reading : l.reading ≡ at_start (roots_to l.first) (roots_to l.made);
    }
