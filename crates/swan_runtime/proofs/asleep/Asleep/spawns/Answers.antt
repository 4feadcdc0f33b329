use Rattle.std.proofs.Common.{rules, Some, ap}
use Rattle.task_frames.specs.Resumes.{ends_of}
use Rattle.swan_runtime.proofs.Bedding.{noted_at, only_sleepers, others_stay}
use Rattle.swan_runtime.proofs.Waking.{sleepers_found, sleepers_same, sleepers_set}
use Rattle.swan_runtime.proofs.asleep.Asleep.spawns.Goals as goal

pub returns-in-Some-clause-own : goal.returns-in-Some-clause-own
returns-in-Some-clause-own g c = λ plan run are.
    let of = ends_of g.Q.Ends.LocalEnds in
    let was = sleepers_found of plan run c.args.self.now.sleepers.entries _ c.in-Some.sleepers.now c.in-Some.ensures.value are.each in
    record {
      each = sleepers_set of plan run c.args.self.now.sleepers.entries _ _ c.spawns.new.self (c.get_mut.follows.holds c.spawns.new.self).0 are.each
          (sleepers_same of plan run c.in-Some.sleepers.now c.spawns.new.self (ap (λ v. v.items) c.spawns.ensures.sleepers.at_end) (ap (λ v. v.items) c.spawns.ensures.sleepers.at_push) was);
    }

pub returns-in-Some-clause-noted : goal.returns-in-Some-clause-noted
returns-in-Some-clause-noted g c =
    let updates = (c.get_mut.follows.holds c.spawns.new.self).3 (search rules) in
    noted_at c.spawns.result _ _ c.in-Some.sleepers.now c.spawns.new.self c.args.child c.args.holdings.now c.in-Some.ensures.value updates.1 c.spawns.ensures.noted

pub returns-in-Some-clause-others : goal.returns-in-Some-clause-others
returns-in-Some-clause-others g c =
    let updates = (c.get_mut.follows.holds c.spawns.new.self).3 (search rules) in
    others_stay _ _ c.args.parent (Some c.spawns.new.self) (only_sleepers _ _ c.args.parent (Some c.spawns.new.self) updates.1 updates.2)
