use Rattle.std.proofs.lemmas.Result.{IfOk-weaker}
use Rattle.std.proofs.Common.{[], ◌∷◌, ◌++◌, length, refl, sym, ap, ◌∙◌}
use Rattle.swan_model.specs.declared.outcome.Outcome.{Outcome}
use Rattle.swan_model.specs.declared.plan.Plan.{Plan}
use Rattle.task_frames.specs.Resumes.{ends_of}
use Rattle.serial_elision.proofs.Counts.{length-outcome_objects, length-outcome_queues}
use Rattle.swan_runtime.proofs.Turning.{nobody-left, not-false, opened-stack}
use Rattle.swan_runtime.proofs.alone.run_alone.Goals as goal

pub loop-top-init : goal.loop-top-init
loop-top-init g c =
    let stack = opened-stack (ends_of g.Q.Ends.LocalEnds) c.args.opened.core c.args.opened.root c.requires.opened in
    let items = ap (λ l. l ++ c.args.opened.root ∷ []) c.new-below.ensures.items in
    record {
      stack = rw (sym items) at stack;
      empty = λ none. absurd (cc);
      plan = refl;
      body = c.requires.body;
    }

pub unreachable-requires : goal.unreachable-requires
unreachable-requires g c =
    let left = c.loop-top.invariant.empty c.in_default.is in
    let below = rw left at c.loop-top.invariant.stack in
    let stack = rw c.in_default.is at below in
    not-false _ _ (nobody-left (ends_of g.Q.Ends.LocalEnds) c.loop-top.core g.B.Body c.is_done.ensures.core stack) c.is_done.ensures.done c.if-not-is_done.true

pub returns-clause-queues : goal.returns-clause-queues
returns-clause-queues g c =
    let plan = c.loop-top.invariant.plan in
    IfOk-weaker c.take_outcome.result _ _
    (λ ran is. ap (λ (o : Outcome). length o.queues) is ∙ length-outcome_queues g.B.Body c.loop-top.core.plan ∙ ap (λ (p : Plan g.row.B.Denot g.row.B-Local.Denot). length p.roots.queues) plan)
    c.take_outcome.ensures.outcome

pub returns-clause-objects : goal.returns-clause-objects
returns-clause-objects g c =
    let plan = c.loop-top.invariant.plan in
    IfOk-weaker c.take_outcome.result _ _
    (λ ran is. ap (λ (o : Outcome). length o.objects) is ∙ length-outcome_objects g.B.Body c.loop-top.core.plan ∙ ap (λ (p : Plan g.row.B.Denot g.row.B-Local.Denot). length p.roots.objects) plan)
    c.take_outcome.ensures.outcome
