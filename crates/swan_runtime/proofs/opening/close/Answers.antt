use Rattle.std.proofs.Common.{rules, ◌≡◌, ◌∙◌, false, All, IfOk, ap, length, subst, sym, vec_len}
use Rattle.std.proofs.lemmas.Bool.{true_from_ne_false}
use Rattle.std.specs.Arc.{arc_value}
use Rattle.swan_model.specs.Elision.{outcome}
use Rattle.swan_model.specs.Script.{script}
use Rattle.named_lock.specs.Seats.{IsSeatOf, any_saw_done, lock_name, lock_seats}
use Rattle.named_lock.specs.declared.lock.NamedLock.{NamedLock}
use Rattle.task_frames.specs.declared.run.PlanRun.{PlanRun}
use Rattle.swan_runtime.specs.Shared.{SharedView}
use Rattle.task_frames.specs.Resumes.{ends_of}
use Rattle.swan_runtime.specs.Workers.{IsWorkerOf}
use Rattle.swan_runtime.proofs.Crews.{not_unseen}
use Rattle.swan_runtime.proofs.opening.close.Goals as goal

pub seats_of-requires-clause-workers : goal.seats_of-requires-clause-workers
seats_of-requires-clause-workers g c κs within =
    subst (λ l. All (IsWorkerOf (ends_of g.Q.Ends.LocalEnds) l) c.args.workers.items) (sym (c.in_ok-lock.ensures.lock c.requires.workers.lock c.requires.workers.each)) c.requires.workers.each

pub close-requires-clause-all : goal.close-requires-clause-all
close-requires-clause-all g c κs within =
    let same : c.deref.result.now ≡ arc_value c.in_ok-lock.lock = search rules in
    let many : vec_len c.args.workers ≡ length c.args.workers.items = search rules in
    c.in_ok-seats.ensures.count ∙ many ∙ c.requires.workers.all ∙ ap lock_seats (sym (same ∙ c.in_ok-lock.ensures.lock c.requires.workers.lock c.requires.workers.each))

pub close-requires-clause-free : goal.close-requires-clause-free
close-requires-clause-free g c κs within =
    let same : c.deref.result.now ≡ arc_value c.in_ok-lock.lock = search rules in
    subst (λ l. All (IsSeatOf l false) c.in_ok-seats.seats.items) (sym same) c.in_ok-seats.ensures.seats

pub returns-clause-outcome : goal.returns-clause-outcome
returns-clause-outcome g c = λ plan run.
    let same : c.deref.result.now ≡ arc_value c.in_ok-lock.lock = search rules in
    let core : c.into_core.result ≡ c.close.result.core = search rules in
    subst (λ p. IfOk c.take_outcome.result (λ ran. ran.outcome ≡ outcome g.B.Body p))
    (ap (λ k. k.plan) core ∙ ap (λ n. n.plan) c.close.ensures.name ∙ ap (λ (l : NamedLock (SharedView _ _ _) (PlanRun _ _)). (lock_name l).plan) same ∙ c.in_ok-lock.ensures.plan plan run) c.take_outcome.ensures.outcome

pub returns-clause-script : goal.returns-clause-script
returns-clause-script g c = λ plan run.
    let same : c.deref.result.now ≡ arc_value c.in_ok-lock.lock = search rules in
    let core : c.into_core.result ≡ c.close.result.core = search rules in
    subst (λ p. IfOk c.take_outcome.result (λ ran. ran.script.means ≡ script g.B.Body p))
    (ap (λ k. k.plan) core ∙ ap (λ n. n.plan) c.close.ensures.name ∙ ap (λ (l : NamedLock (SharedView _ _ _) (PlanRun _ _)). (lock_name l).plan) same ∙ c.in_ok-lock.ensures.plan plan run) c.take_outcome.ensures.script

pub take_outcome-requires-clause-done : goal.take_outcome-requires-clause-done
take_outcome-requires-clause-done g c κs within =
    let core : c.into_core.result ≡ c.close.result.core = search rules in
    ap (λ k. k.is_done) core ∙ c.close.ensures.done (true_from_ne_false (any_saw_done c.in_ok-seats.seats.items) (λ none.
    not_unseen (ends_of g.Q.Ends.LocalEnds) c.requires.workers.lock c.args.workers.items c.requires.workers.each c.requires.met c.in_ok-seats.ensures.stopped (c.in_ok-seats.ensures.done none)))
