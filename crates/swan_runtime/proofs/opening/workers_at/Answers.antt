use Rattle.std.proofs.Common.{rules, ◌≡◌, [], ◌∷◌, false, ap, arith, length, length-append, subst, sym, vec_len, ◌∙◌}
use Rattle.std.specs.Arc.{arc_value}
use Rattle.named_lock.specs.Seats.{IsNewSeatOf}
use Rattle.task_frames.specs.Resumes.{ends_of}
use Rattle.swan_runtime.specs.Workers.{IsWorkerOf, has_met}
use Rattle.swan_model.proofs.Elements.{all_popped, all_pushed}
use Rattle.swan_runtime.proofs.Crews.{next_number, number_after, numbered_more}
use Rattle.swan_runtime.proofs.opening.workers_at.Goals as goal

pub loop-seat-preserved : goal.loop-seat-preserved
loop-seat-preserved g c =
    let of = ends_of g.Q.Ends.LocalEnds in (
      search rules,
      (all_popped (IsNewSeatOf (arc_value c.args.lock.now)) _ c.pop.new.self.items c.in-Some.seat c.in-Some.ensures.items c.loop-seat.invariant.1).0,
      all_pushed (IsWorkerOf of (arc_value c.args.lock.now)) c.loop-seat.workers.items c.push.new.self.items c.worker_of.result c.in_ok-push.ensures.items c.loop-seat.invariant.2
          (subst (λ l. IsWorkerOf of l c.worker_of.result) c.in_ok-own_lock.ensures c.worker_of.ensures.worker),
      all_pushed (λ worker. has_met worker ≡ false) c.loop-seat.workers.items c.push.new.self.items c.worker_of.result c.in_ok-push.ensures.items c.loop-seat.invariant.3 c.worker_of.ensures.met,
      number_after (length c.loop-seat.workers.items) (length c.push.new.self.items) c.loop-seat.number _ c.loop-seat.invariant.4
          (ap length c.in_ok-push.ensures.items ∙ length-append c.loop-seat.workers.items (c.worker_of.result ∷ [])) c.saturating_add-number.ensures,
      λ few. numbered_more of c.loop-seat.workers.items c.push.new.self.items c.worker_of.result c.in_ok-push.ensures.items
          (c.worker_of.ensures.number ∙ next_number (length c.loop-seat.workers.items) (vec_len c.loop-seat.seats) (vec_len c.args.seats) c.loop-seat.number
          (omega (arith, c.loop-seat.invariant.0, c.loop-seat.workers.ok.0))
          (omega (arith, ap length c.in-Some.ensures.items ∙ length-append c.pop.new.self.items (c.in-Some.seat ∷ []), c.loop-seat.seats.ok.0)) few c.loop-seat.invariant.4)
          (c.loop-seat.invariant.5 few),
      search rules,
      search rules,
    )

pub worker_of-requires-clause-seat : goal.worker_of-requires-clause-seat
worker_of-requires-clause-seat g c κs within =
    subst (λ l. IsNewSeatOf l c.in-Some.seat) (sym c.in_ok-own_lock.ensures)
    (all_popped (IsNewSeatOf (arc_value c.args.lock.now)) _ c.pop.new.self.items c.in-Some.seat c.in-Some.ensures.items c.loop-seat.invariant.1).1
