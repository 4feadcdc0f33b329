use Rattle.task_frames.specs.Resumes.{ends_of}
use Rattle.swan_runtime.proofs.Bedding.{entered_count, has_entered}
use Rattle.swan_model.proofs.Lookups.{untied}
use Rattle.swan_runtime.proofs.Waking.{all_same, no_sleepers, sleepers_inserted}
use Rattle.swan_runtime.proofs.asleep.Asleep.enter.Goals as goal

pub returns-in_err-before-clause-kept : goal.returns-in_err-before-clause-kept
returns-in_err-before-clause-kept g c = record {
  asleep = λ plan run new are. c.spawns.ensures.own plan run (c.wake_given.ensures.kept.asleep plan run new are);
  ready = λ plan run new are too. c.wake_given.ensures.kept.ready plan run new are too;
}

pub returns-in_err-insert-clause-kept : goal.returns-in_err-insert-clause-kept
returns-in_err-insert-clause-kept g c = record {
  asleep = λ plan run new are.
      record { each = all_same (ends_of g.Q.Ends.LocalEnds) plan run _ _ c.in_err-insert.ensures.err (c.spawns.ensures.own plan run (c.wake_given.ensures.kept.asleep plan run new are)).each };
  ready = λ plan run new are too. c.wake_given.ensures.kept.ready plan run new are too;
}

pub returns-clause-kept : goal.returns-clause-kept
returns-clause-kept g c =
    let of = ends_of g.Q.Ends.LocalEnds in
    record {
      asleep = λ plan run new are.
          record {
            each = sleepers_inserted of plan run _ _ c.args.child c.new.result c.in_ok-insert.ensures.entries (c.spawns.ensures.own plan run (c.wake_given.ensures.kept.asleep plan run new are)).each
                (no_sleepers of plan run c.new.result c.new.ensures.at_end c.new.ensures.at_push);
          };
      ready = λ plan run new are too. c.wake_given.ensures.kept.ready plan run new are too;
    }

pub returns-clause-entered : goal.returns-clause-entered
returns-clause-entered g c =
    has_entered _ _ c.spawns.new.self _ c.args.parent c.args.child c.args.holdings.now _ c.new.result c.wake_given.ensures.sleepers c.in_ok-wake_given.ensures.woken c.in_ok-before.ensures.noted c.spawns.ensures.others
    c.in_ok-before.ensures.before c.new.ensures c.in_ok-insert.ensures.updates

pub returns-clause-none_lost : goal.returns-clause-none_lost
returns-clause-none_lost g c = λ ne.
    entered_count _ _ _ c.args.child c.args.holdings.now _ _ _ c.in_ok-wake_given.ensures.none_lost c.in_ok-before.ensures.noted
    (c.in_ok-insert.ensures.updates.2 c.args.parent (untied c.args.child c.args.parent ne))
