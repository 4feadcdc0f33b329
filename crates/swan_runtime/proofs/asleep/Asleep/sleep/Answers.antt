use Rattle.std.proofs.Common.{rules, Some, ap, subst, sym}
use Rattle.task_frames.specs.Resumes.{ends_of}
use Rattle.swan_runtime.specs.Shared.{AreOfRun}
use Rattle.swan_runtime.proofs.Bedding.{left_ready, only_sleepers, put_to_bed}
use Rattle.swan_runtime.proofs.Waking.{all_same, pushed, sleepers_found, sleepers_set, that_one, tried_to_sleep}
use Rattle.swan_runtime.proofs.asleep.Asleep.sleep.Goals as goal

pub returns-in-Some-clause-kept : goal.returns-in-Some-clause-kept
returns-in-Some-clause-kept g c =
    let of = ends_of g.Q.Ends.LocalEnds in
    record {
      asleep = λ plan run new are.
          let was = sleepers_found of plan run c.args.self.now.sleepers.entries _ c.in-Some.sleepers.now c.in-Some.ensures.value are.each in
          record {
            each = sleepers_set of plan run c.args.self.now.sleepers.entries _ _ c.takes_in.new.self (c.get_mut.follows.holds c.takes_in.new.self).0 are.each
                (tried_to_sleep of plan run c.in-Some.sleepers.now c.takes_in.new.self c.args.frame c.args.wait _ c.takes_in.result c.takes_in.ensures.ok c.takes_in.ensures.err was
                (that_one of plan run c.args.frame new));
          };
      ready = λ plan run new are too. too;
    }

pub returns-in_err-push-in-None-clause-kept : goal.returns-in_err-push-in-None-clause-kept
returns-in_err-push-in-None-clause-kept g c =
    let of = ends_of g.Q.Ends.LocalEnds in
    record {
      asleep = λ plan run new are. record { each = all_same of plan run c.args.self.now.sleepers.entries _ (ap (λ m. m.entries) c.get_mut.follows.holds-at-none) are.each };
      ready = λ plan run new are too. subst (AreOfRun of plan run) (sym c.in_err-push-in-None.ensures.items) too;
    }

pub returns-in_ok-push-in-None-clause-kept : goal.returns-in_ok-push-in-None-clause-kept
returns-in_ok-push-in-None-clause-kept g c =
    let of = ends_of g.Q.Ends.LocalEnds in
    record {
      asleep = λ plan run new are. record { each = all_same of plan run c.args.self.now.sleepers.entries _ (ap (λ m. m.entries) c.get_mut.follows.holds-at-none) are.each };
      ready = λ plan run new are too. subst (AreOfRun of plan run) (sym c.in_ok-push-in-None.ensures.items) (pushed of plan run c.args.ready.now.items c.args.frame too (that_one of plan run c.args.frame new));
    }

pub returns-in-Some-clause-bed : goal.returns-in-Some-clause-bed
returns-in-Some-clause-bed g c =
    let updates = (c.get_mut.follows.holds c.takes_in.new.self).3 (search rules) in
    put_to_bed c.takes_in.result c.bed-bed.result _ c.args.self.now _ c.args.ready.now.items c.args.frame c.args.wait c.asked_queue-queue.result c.in-Some.sleepers.now c.takes_in.new.self (search rules)
    c.asked_queue-queue.ensures c.in-Some.ensures.value (only_sleepers _ _ _ (Some c.takes_in.new.self) updates.1 updates.2) c.takes_in.ensures.notes c.takes_in.ensures.ok

pub returns-in_ok-push-in-None-clause-bed : goal.returns-in_ok-push-in-None-clause-bed
returns-in_ok-push-in-None-clause-bed g c =
    left_ready c.bed-bed.result _ c.args.self.now _ c.args.ready.now.items _ c.args.frame c.args.wait (search rules) c.in-None.ensures.value (ap (λ m. m.entries) c.get_mut.follows.holds-at-none)
    c.in_ok-push-in-None.ensures.items
