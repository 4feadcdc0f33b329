use Rattle.std.proofs.Common.{rules, Some, ap, subst, sym}
use Rattle.std.proofs.lemmas.Result.{on_ok_weaker}
use Rattle.task_frames.specs.Resumes.{ends_of}
use Rattle.swan_runtime.proofs.Bedding.{none_woke, only_sleepers, sleepers_woke}
use Rattle.swan_runtime.specs.Beds.{NoneAwaits}
use Rattle.swan_runtime.proofs.Waking.{sleepers_found, sleepers_set}
use Rattle.swan_runtime.proofs.asleep.Asleep.wake_all_poppers.Goals as goal

pub returns-in-Some-clause-kept : goal.returns-in-Some-clause-kept
returns-in-Some-clause-kept g c =
    let of = ends_of g.Q.Ends.LocalEnds in
    record {
      asleep = λ plan run new are.
          let was = sleepers_found of plan run c.args.self.now.sleepers.entries _ c.in-Some.sleepers.now c.in-Some.ensures.value are.each in
          record { each = sleepers_set of plan run c.args.self.now.sleepers.entries _ _ c.wakes_poppers.new.self (c.get_mut.follows.holds c.wakes_poppers.new.self).0 are.each (c.wakes_poppers.ensures.own plan run was) };
      ready = λ plan run new are ready.
          c.wakes_poppers.ensures.ready plan run (sleepers_found of plan run c.args.self.now.sleepers.entries _ c.in-Some.sleepers.now c.in-Some.ensures.value are.each) ready;
    }

pub returns-in-Some-clause-woken : goal.returns-in-Some-clause-woken
returns-in-Some-clause-woken g c =
    let updates = (c.get_mut.follows.holds c.wakes_poppers.new.self).3 (search rules) in
    on_ok_weaker c.wakes_poppers.result (λ none queue. subst (NoneAwaits queue) (sym updates.1) (none queue)) c.wakes_poppers.ensures.woken

pub returns-in-Some-clause-sleepers : goal.returns-in-Some-clause-sleepers
returns-in-Some-clause-sleepers g c =
    let updates = (c.get_mut.follows.holds c.wakes_poppers.new.self).3 (search rules) in
    sleepers_woke c.args.number _ _ c.in-Some.sleepers.now c.wakes_poppers.new.self c.in-Some.ensures.value (only_sleepers _ _ c.args.number (Some c.wakes_poppers.new.self) updates.1 updates.2) c.wakes_poppers.ensures.notes c.wakes_poppers.ensures.none_more

pub returns-in-None-clause-sleepers : goal.returns-in-None-clause-sleepers
returns-in-None-clause-sleepers g c = none_woke c.args.number _ _ (ap (λ m. m.entries) c.get_mut.follows.holds-at-none)
