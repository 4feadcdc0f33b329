use Rattle.std.proofs.Common.{rules, ◌≡◌, ◌∙◌, ap, false, subst, sym}
use Rattle.std.proofs.lemmas.Bool.{or_parts}
use Rattle.std.specs.Arc.{arc_value}
use Rattle.named_lock.specs.Seats.{IsSeatOf, knows}
use Rattle.task_frames.specs.Resumes.{ends_of}
use Rattle.swan_runtime.specs.Workers.{IsWorkerOf, saw_done, saw_stopped}
use Rattle.swan_runtime.proofs.Crews.{none_saw, seat_of_worker, still_free, unseen}
use Rattle.swan_model.proofs.Elements.{all_popped, all_pushed}
use Rattle.swan_runtime.proofs.opening.seats_of.Goals as goal

pub loop-worker-preserved : goal.loop-worker-preserved
loop-worker-preserved g c =
    let of = ends_of g.Q.Ends.LocalEnds in
    let lock = arc_value c.args.lock.now in
    let popped = all_popped (IsWorkerOf of lock) _ c.pop.new.self.items c.in-Some.worker c.in-Some.ensures.items c.loop-worker.invariant.2 in
    let sits = subst (λ o. IsSeatOf lock false o.seat) (sym c.into_inner-seat.ensures) (seat_of_worker of lock c.in-Some.worker popped.1) in (
      search rules,
      all_pushed (IsSeatOf lock false) c.loop-worker.seats.items c.push.new.self.items c.is_stopped.new.seat c.in_ok-push.ensures.items c.loop-worker.invariant.1
          (still_free lock c.deref.result.now c.into_inner-seat.result.seat c.is_stopped.new.seat (search rules) sits c.is_stopped.ensures.seat),
      popped.0,
      λ rest. c.loop-worker.invariant.3 (all_pushed (λ worker. saw_stopped worker ≡ false) c.pop.new.self.items c.loop-worker.workers.items c.in-Some.worker c.in-Some.ensures.items rest
          (ap (λ o. (knows o.seat).saw_stopped) (sym c.into_inner-seat.ensures) ∙ unseen _ _ _ c.is_stopped.ensures.again.1 c.is_stopped.ensures.sign.1 (search rules))),
      λ none rest.
          let before = none_saw c.loop-worker.seats.items c.push.new.self.items c.is_stopped.new.seat c.in_ok-push.ensures.items none in
          c.loop-worker.invariant.4 before.0 (all_pushed (λ worker. saw_done worker ≡ false) c.pop.new.self.items c.loop-worker.workers.items c.in-Some.worker c.in-Some.ensures.items rest
          (ap (λ o. (knows o.seat).saw_done) (sym c.into_inner-seat.ensures) ∙ (or_parts _ _ (ap (λ v. v.saw_done) (sym c.is_stopped.ensures.knows) ∙ before.1)).0)),
      search rules,
    )
