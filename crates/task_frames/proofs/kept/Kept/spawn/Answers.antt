use Rattle.std.proofs.Common.{arith, sym, subst, ap, ◌∙◌}
use Rattle.std.specs.Prelude.{IfOk}
use Rattle.swan_model.specs.Rights.{is_aliased}
use Rattle.task_frames.specs.Cores.{FrameAtCoreView}
use Rattle.task_frames.specs.Resumes.{IsStep}
use Rattle.task_frames.proofs.SpawnStep.{alias-so, depth-so, ends-so, fuel-so, given-some}
use Rattle.task_frames.proofs.kept.Kept.spawn.Goals as goal

pub fault-requires-clause-faults : goal.fault-requires-clause-faults
fault-requires-clause-faults g c κs within =
    let given_is = given-some _ _ c.in-Some.held _ c.in_ok-held.ensures c.in-Some.is in
    ends-so g.B.Body _ c.args.mid c.args.child c.requires.has _ given_is c.asks.result c.at-at.result _ c.asks.ensures c.at-at.ensures
    (alias-so g.B.Body _ c.args.mid c.args.child c.requires.has _ given_is (ap is_aliased (sym c.as_slice.ensures) ∙ sym c.in_ok-is_aliased.ensures ∙ c.if-branch.true))

pub fault-requires-then-depth-ge-PATH_MOST-clause-faults :
    goal.fault-requires-then-depth-ge-PATH_MOST-clause-faults
fault-requires-then-depth-ge-PATH_MOST-clause-faults g c κs within =
    let given_is = given-some _ _ c.in-Some.held _ c.in_ok-held.ensures c.in-Some.is in
    ends-so g.B.Body _ c.args.mid c.args.child c.requires.has _ given_is c.asks-then-depth-ge-PATH_MOST.result c.at-at.result _ c.asks-then-depth-ge-PATH_MOST.ensures c.at-at.ensures
    (depth-so g.B.Body _ c.args.mid c.args.child c.requires.has _ given_is (ap is_aliased (sym c.as_slice.ensures) ∙ sym c.in_ok-is_aliased.ensures ∙ c.if-branch.false) (omega (arith, c.if-depth-ge-PATH_MOST.true, c.depth.ensures)))

pub fault-requires-then-fuel-child-clause-faults :
    goal.fault-requires-then-fuel-child-clause-faults
fault-requires-then-fuel-child-clause-faults g c κs within =
    let given_is = given-some _ _ c.in-Some.held _ c.in_ok-held.ensures c.in-Some.is in
    ends-so g.B.Body _ c.args.mid c.args.child c.requires.has _ given_is c.asks-then-fuel-child.result c.at-at.result _ c.asks-then-fuel-child.ensures c.at-at.ensures
    (fuel-so g.B.Body _ c.args.mid c.args.child c.requires.has _ given_is (ap is_aliased (sym c.as_slice.ensures) ∙ sym c.in_ok-is_aliased.ensures ∙ c.if-branch.false) (omega (arith, c.if-depth-ge-PATH_MOST.false, c.depth.ensures)) (omega (arith, c.if-fuel-child.true, c.fuel.ensures)))

pub returns-then-branch-clause-step : goal.returns-then-branch-clause-step
returns-then-branch-clause-step g c =
    subst (λ (f : FrameAtCoreView g.row.B.Denot g.row.B-Local.Denot). IfOk c.fault.result (IsStep g.B.Body c.args.self.now c.fault.new.self f.task)) c.asks.ensures c.fault.ensures.step

pub returns-then-depth-ge-PATH_MOST-clause-step : goal.returns-then-depth-ge-PATH_MOST-clause-step
returns-then-depth-ge-PATH_MOST-clause-step g c =
    subst (λ (f : FrameAtCoreView g.row.B.Denot g.row.B-Local.Denot). IfOk c.fault-then-depth-ge-PATH_MOST.result (IsStep g.B.Body c.args.self.now c.fault-then-depth-ge-PATH_MOST.new.self f.task)) c.asks-then-depth-ge-PATH_MOST.ensures c.fault-then-depth-ge-PATH_MOST.ensures.step

pub returns-then-fuel-child-clause-step : goal.returns-then-fuel-child-clause-step
returns-then-fuel-child-clause-step g c =
    subst (λ (f : FrameAtCoreView g.row.B.Denot g.row.B-Local.Denot). IfOk c.fault-then-fuel-child.result (IsStep g.B.Body c.args.self.now c.fault-then-fuel-child.new.self f.task)) c.asks-then-fuel-child.ensures c.fault-then-fuel-child.ensures.step
