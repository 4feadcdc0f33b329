use Rattle.std.proofs.Common.{rules, refl}
use Rattle.task_frames.specs.declared.resumed.Resumed.TheVariants as resumed
use Rattle.task_frames.specs.Resumes.{ends_of}
use Rattle.swan_runtime.specs.declared.trying.Tried.{Tried}
use Rattle.swan_runtime.proofs.Answering.{ends_wake, runs_wake, spawns_wake, waits_wake}
use Rattle.swan_runtime.proofs.Waking.{alone, none}
use Rattle.swan_runtime.proofs.trying.try_by_core.Goals as goal

pub returns-in-Runs-clause-asleep : goal.returns-in-Runs-clause-asleep
returns-in-Runs-clause-asleep g c = c.has_run.ensures.kept.asleep _ _ (none (ends_of g.Q.Ends.LocalEnds) _ _) c.requires.asleep

pub returns-in-Runs-clause-ready : goal.returns-in-Runs-clause-ready
returns-in-Runs-clause-ready g c = c.has_run.ensures.kept.ready _ _ (none (ends_of g.Q.Ends.LocalEnds) _ _) c.requires.asleep c.requires.ready

pub returns-in-Spawned-clause-asleep : goal.returns-in-Spawned-clause-asleep
returns-in-Spawned-clause-asleep g c = c.has_spawned.ensures.kept.asleep _ _ (alone (ends_of g.Q.Ends.LocalEnds) _ _ _ (search rules)) c.requires.asleep

pub returns-in-Spawned-clause-ready : goal.returns-in-Spawned-clause-ready
returns-in-Spawned-clause-ready g c = c.has_spawned.ensures.kept.ready _ _ (alone (ends_of g.Q.Ends.LocalEnds) _ _ _ (search rules)) c.requires.asleep c.requires.ready

pub returns-in-Ended-clause-asleep : goal.returns-in-Ended-clause-asleep
returns-in-Ended-clause-asleep g c = c.has_ended.ensures.kept.asleep _ _ (none (ends_of g.Q.Ends.LocalEnds) _ _) c.requires.asleep

pub returns-in-Ended-clause-ready : goal.returns-in-Ended-clause-ready
returns-in-Ended-clause-ready g c = c.has_ended.ensures.kept.ready _ _ (none (ends_of g.Q.Ends.LocalEnds) _ _) c.requires.asleep c.requires.ready

pub returns-in-Waits-clause-asleep : goal.returns-in-Waits-clause-asleep
returns-in-Waits-clause-asleep g c = c.has_to_wait.ensures.kept.asleep _ _ (alone (ends_of g.Q.Ends.LocalEnds) _ _ _ (search rules)) c.requires.asleep

pub returns-in-Waits-clause-ready : goal.returns-in-Waits-clause-ready
returns-in-Waits-clause-ready g c = c.has_to_wait.ensures.kept.ready _ _ (alone (ends_of g.Q.Ends.LocalEnds) _ _ _ (search rules)) c.requires.asleep c.requires.ready

pub returns-in-Runs-clause-woken : goal.returns-in-Runs-clause-woken
returns-in-Runs-clause-woken g c =
    runs_wake g.B.Body (ends_of g.Q.Ends.LocalEnds) c.args.core.now c.resume.new.self c.args.frame c.args.asleep.now c.has_run.new.asleep c.args.ready.now.items c.has_run.new.ready.items
    (λ (t : Tried _ _ _ _). t.frame) c.has_run.result c.in-Runs.frame c.in-Runs.steps c.has_begun-had_begun.result c.asked_queue-asked.result c.in-Runs.ensures.resumed
    c.has_begun-had_begun.ensures c.asked_queue-asked.ensures c.has_run.ensures.frame c.has_run.ensures.woken c.has_run.ensures.first c.has_run.ensures.sleepers
    c.has_run.ensures.none_lost

pub returns-in-Spawned-clause-woken : goal.returns-in-Spawned-clause-woken
returns-in-Spawned-clause-woken g c =
    spawns_wake g.B.Body (ends_of g.Q.Ends.LocalEnds) c.args.core.now c.resume.new.self c.args.frame c.args.asleep.now c.has_spawned.new.asleep c.args.ready.now.items c.has_spawned.new.ready.items
    (λ (t : Tried _ _ _ _). t.frame) c.has_spawned.result c.in-Spawned.parent c.in-Spawned.child c.in-Spawned.steps c.in-Spawned.ensures.resumed
    c.has_spawned.ensures.frame c.has_spawned.ensures.entered c.has_spawned.ensures.ready c.has_spawned.ensures.none_lost

pub returns-in-Ended-clause-woken : goal.returns-in-Ended-clause-woken
returns-in-Ended-clause-woken g c =
    ends_wake g.B.Body (ends_of g.Q.Ends.LocalEnds) c.args.core.now c.resume.new.self c.args.frame c.args.asleep.now c.has_ended.new.asleep c.args.ready.now.items c.has_ended.new.ready.items
    (λ (t : Tried _ _ _ _). t.frame) c.has_ended.result c.number-number.result c.in-Ended.steps c.in-Ended.ensures.resumed
    c.number-number.ensures.number c.has_ended.ensures.none_lost c.has_ended.ensures.gone

pub returns-in-Waits-clause-woken : goal.returns-in-Waits-clause-woken
returns-in-Waits-clause-woken g c =
    waits_wake g.B.Body (ends_of g.Q.Ends.LocalEnds) c.args.core.now c.resume.new.self c.args.frame c.args.asleep.now c.has_to_wait.new.asleep c.args.ready.now.items c.has_to_wait.new.ready.items
    (λ (t : Tried _ _ _ _). t.frame) c.has_to_wait.result c.in-Waits.frame c.in-Waits.waited c.in-Waits.ensures.resumed c.has_to_wait.ensures.bed

pub returns-in-Strange-clause-woken : goal.returns-in-Strange-clause-woken
returns-in-Strange-clause-woken g c = record {
  answer = resumed.Strange c.in-Strange.frame c.in-Strange.foreign;
  answered = c.in-Strange.ensures.resumed;
  woken = (refl, refl, refl);
}
