use Rattle.std.proofs.Common.{◌≡◌, ◌<◌, ◌∙◌, IfNone, suc, slice_get, sym, ap, subst, arith}
use Rattle.swan_model.specs.Work.{AreWork, local_after}
use Rattle.swan_model.specs.declared.body.Worked.{Worked}
use Rattle.job_body.specs.Runs.{next_by}
use Rattle.job_body.specs.Standing.{Standing}
use Rattle.job_body.proofs.Rows.{at-end, did-work}
use Rattle.job_body.proofs.run.steps.Goals as goal

pub loop-works-preserved : goal.loop-works-preserved
loop-works-preserved c =
    did-work c.args.program.now c.args.local c.args.answer (suc c.args.left) c.loop-works.works _ c.loop-works.local c.do_work.new.local c.in-Some.instruction.now _ _ c.loop-works.invariant (omega arith) (ap (slice_get c.args.program.now) (sym c.at.ensures) ∙ sym c.in-Some.ensures) c.in-Work.is c.in_ok-do_work-in-Work.ensures c.in-None.is

pub returns-clause-works : goal.returns-clause-works
returns-clause-works c =
    let e : c.loop-works.works ≡ c.args.most = omega (arith, c.loop-works.auto.works-end, c.loop-works-test.false) in
    subst (λ (w : Worked Standing). AreWork (next_by c.args.program.now) c.args.local c.args.answer (suc c.args.left) w.works) (sym c.row.ensures)
    (subst (λ k. AreWork (next_by c.args.program.now) c.args.local c.args.answer (suc c.args.left) k) e c.loop-works.invariant.works)

pub returns-clause-last : goal.returns-clause-last
returns-clause-last c =
    let e : c.loop-works.works ≡ c.args.most = omega (arith, c.loop-works.auto.works-end, c.loop-works-test.false) in
    let more : 0 < c.loop-works.works = omega (arith, e, c.requires.some) in
    subst (λ (w : Worked Standing). IfNone w.stop (w.local ≡ local_after (next_by c.args.program.now) c.args.local c.args.answer (suc c.args.left) w.works)) (sym c.row.ensures)
    (at-end c.args.program.now c.args.local c.args.answer (suc c.args.left) c.loop-works.works c.loop-works.local c.loop-works.invariant more
    ∙ ap (local_after (next_by c.args.program.now) c.args.local c.args.answer (suc c.args.left)) e)
