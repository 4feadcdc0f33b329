use Rattle.std.proofs.Common.{None}
use Rattle.task_frames.specs.Resumes.{ends_of}
use Rattle.swan_runtime.proofs.Bedding.{only_sleepers}
use Rattle.swan_runtime.proofs.Waking.{sleepers_found, sleepers_removed}
use Rattle.swan_runtime.proofs.asleep.Asleep.wake_all.Goals as goal

pub returns-in-Some-clause-kept : goal.returns-in-Some-clause-kept
returns-in-Some-clause-kept g c =
    let of = ends_of g.Q.Ends.LocalEnds in
    record {
      asleep = λ plan run new are. record { each = sleepers_removed of plan run c.args.self.now.sleepers.entries _ _ c.remove.ensures.entries are.each };
      ready = λ plan run new are ready.
          c.wakes_all.ensures.ready plan run (sleepers_found of plan run c.args.self.now.sleepers.entries _ c.in-Some.sleepers c.in-Some.ensures.value are.each) ready;
    }

pub returns-in-None-clause-kept : goal.returns-in-None-clause-kept
returns-in-None-clause-kept g c = record {
  asleep = λ plan run new are. record { each = sleepers_removed (ends_of g.Q.Ends.LocalEnds) plan run c.args.self.now.sleepers.entries _ _ c.remove.ensures.entries are.each };
  ready = λ plan run new are ready. ready;
}

pub returns-in-Some-clause-gone : goal.returns-in-Some-clause-gone
returns-in-Some-clause-gone g c = let updates = c.remove.ensures.updates in only_sleepers _ _ c.args.number None updates.1 updates.2

pub returns-in-None-clause-gone : goal.returns-in-None-clause-gone
returns-in-None-clause-gone g c = let updates = c.remove.ensures.updates in only_sleepers _ _ c.args.number None updates.1 updates.2
