use Rattle.std.proofs.Common.{◌∷◌, ◌++◌, [], arith, sym, ap, ◌∙◌}
use Rattle.swan_model.specs.declared.plan.Plan.{Plan}
use Rattle.swan_model.proofs.Elements.{some_of}
use Rattle.task_frames.specs.Resumes.{ends_of}
use Rattle.swan_runtime.specs.Stacks.{turns_left}
use Rattle.task_frames.proofs.Amid.{few}
use Rattle.swan_runtime.proofs.Spending.{fuel-is, left-more}
use Rattle.swan_runtime.proofs.Stacking.{top-given}
use Rattle.swan_runtime.proofs.Turning.{fewer-runs, fewer-spawns, moved-named, never-strange, never-waits, stack-ends, stack-runs, stack-spawns}
use Rattle.swan_runtime.proofs.alone.turn.Goals as goal

pub run_local-requires-clause-body : goal.run_local-requires-clause-body
run_local-requires-clause-body g c κs within =
    let given = top-given (ends_of g.Q.Ends.LocalEnds) c.args.core.now c.args.below.now.items c.args.frame c.requires.stack.stacked in
    c.requires.body ∙ ap (λ (p : Plan g.row.B.Denot g.row.B-Local.Denot). p.body) (sym given.plan)

pub resume-requires-clause-name : goal.resume-requires-clause-name
resume-requires-clause-name g c κs within =
    moved-named g.B.Body g.Q.Ends.LocalEnds.name g.Q.Ends.LocalEnds.run g.Q.Ends.LocalEnds.ends g.Q.Ends.LocalEnds.counts
    c.args.core.now c.args.below.now.items c.args.frame c.run_local.new.self c.requires.stack c.run_local.ensures.same

pub unreachable-requires : goal.unreachable-requires
unreachable-requires g c =
    let whole = some_of c.run_local.new.self.stage c.in-Budget.ensures.whole in
    let less = few g.B.Body _ _ _ whole.0 (c.number-in-Budget.ensures.frame whole.0 whole.1) in
    omega (arith, less, c.in-Budget.ensures.done, c.in-Budget.ensures.budget)

pub unreachable-requires-in-Waits : goal.unreachable-requires-in-Waits
unreachable-requires-in-Waits g c =
    let said = c.in-Waits.ensures in
    never-waits g.B.Body g.Q.Ends.LocalEnds.name g.Q.Ends.LocalEnds.run g.Q.Ends.LocalEnds.ends g.Q.Ends.LocalEnds.counts
    c.args.core.now c.args.below.now.items c.args.frame c.run_local.new.self c.requires.stack c.run_local.ensures.same
    c.resume.new.self said.plan said.run said.resumed.3 c.in-Waits.field-0 c.in-Waits.field-1.wait said.resumed.0 said.resumed.1 said.resumed.2

pub unreachable-requires-in-Strange : goal.unreachable-requires-in-Strange
unreachable-requires-in-Strange g c =
    let said = c.in-Strange.ensures in
    never-strange g.B.Body g.Q.Ends.LocalEnds.name g.Q.Ends.LocalEnds.run g.Q.Ends.LocalEnds.ends g.Q.Ends.LocalEnds.counts
    c.args.core.now c.args.below.now.items c.args.frame c.run_local.new.self c.requires.stack c.run_local.ensures.same said.resumed.3

pub returns-in-Runs-clause-stack : goal.returns-in-Runs-clause-stack
returns-in-Runs-clause-stack g c =
    let said = c.in-Runs.ensures in
    stack-runs g.B.Body g.Q.Ends.LocalEnds.name g.Q.Ends.LocalEnds.run g.Q.Ends.LocalEnds.ends g.Q.Ends.LocalEnds.counts
    c.args.core.now c.args.below.now.items c.args.frame c.run_local.new.self c.requires.stack c.run_local.ensures.same
    c.resume.new.self said.plan said.run said.resumed.4 c.in-Runs.next said.resumed.1 said.resumed.2

pub returns-in-Runs-clause-fewer : goal.returns-in-Runs-clause-fewer
returns-in-Runs-clause-fewer g c =
    let said = c.in-Runs.ensures in
    let given = top-given (ends_of g.Q.Ends.LocalEnds) c.args.core.now c.args.below.now.items c.args.frame c.requires.stack.stacked in
    fewer-runs g.B.Body g.Q.Ends.LocalEnds.name g.Q.Ends.LocalEnds.run g.Q.Ends.LocalEnds.ends g.Q.Ends.LocalEnds.counts
    c.args.below.now.items c.args.frame c.run_local.new.self c.run_local.ensures.same c.in-AtCore.field-0.count c.in-AtCore.ensures.done
    (fuel-is g.B.Body g.Q.Ends.LocalEnds.name g.Q.Ends.LocalEnds.ends c.args.frame given.whole c.number.ensures.frame)
    c.in-Runs.next said.resumed.2 (fuel-is g.B.Body g.Q.Ends.LocalEnds.name g.Q.Ends.LocalEnds.ends c.in-Runs.next said.resumed.1.whole c.number-in-Runs.ensures.frame)

pub returns-in_ok-push-in-Spawned-clause-stack :
    goal.returns-in_ok-push-in-Spawned-clause-stack
returns-in_ok-push-in-Spawned-clause-stack g c =
    let said = c.in-Spawned.ensures in
    let items = ap (λ l. l ++ c.in-Spawned.child ∷ []) c.in_ok-push-in-Spawned.ensures.items in
    let stack = stack-spawns g.B.Body g.Q.Ends.LocalEnds.name g.Q.Ends.LocalEnds.run g.Q.Ends.LocalEnds.ends g.Q.Ends.LocalEnds.counts
    c.args.core.now c.args.below.now.items c.args.frame c.run_local.new.self c.requires.stack c.run_local.ensures.same
    c.resume.new.self said.plan said.run c.in-Spawned.parent c.in-Spawned.child said.resumed.1 said.resumed.2 said.resumed.3 said.resumed.4 said.resumed.6 said.resumed.7 in
    rw (sym items) at stack

pub returns-in_ok-push-in-Spawned-clause-fewer :
    goal.returns-in_ok-push-in-Spawned-clause-fewer
returns-in_ok-push-in-Spawned-clause-fewer g c =
    let said = c.in-Spawned.ensures in
    let given = top-given (ends_of g.Q.Ends.LocalEnds) c.args.core.now c.args.below.now.items c.args.frame c.requires.stack.stacked in
    let items = ap (λ l. l ++ c.in-Spawned.child ∷ []) c.in_ok-push-in-Spawned.ensures.items in
    let fewer = fewer-spawns g.B.Body g.Q.Ends.LocalEnds.name g.Q.Ends.LocalEnds.run g.Q.Ends.LocalEnds.ends g.Q.Ends.LocalEnds.counts
    c.args.below.now.items c.args.frame c.run_local.new.self c.run_local.ensures.same c.in-AtCore.field-0.count c.in-AtCore.ensures.done
    (fuel-is g.B.Body g.Q.Ends.LocalEnds.name g.Q.Ends.LocalEnds.ends c.args.frame given.whole c.number.ensures.frame)
    c.in-Spawned.parent c.in-Spawned.child said.resumed.3 said.resumed.4 said.resumed.5
    (fuel-is g.B.Body g.Q.Ends.LocalEnds.name g.Q.Ends.LocalEnds.ends c.run_local.new.self c.in-AtCore.ensures.whole c.number-in-AtCore.ensures.frame)
    (fuel-is g.B.Body g.Q.Ends.LocalEnds.name g.Q.Ends.LocalEnds.ends c.in-Spawned.parent said.resumed.1.whole c.number-in-Spawned.ensures.frame)
    (fuel-is g.B.Body g.Q.Ends.LocalEnds.name g.Q.Ends.LocalEnds.ends c.in-Spawned.child said.resumed.2.whole c.number-in-Spawned-2.ensures.frame) in
    rw (sym items) at fewer

pub returns-in-Ended-clause-stack : goal.returns-in-Ended-clause-stack
returns-in-Ended-clause-stack g c =
    let said = c.in-Ended.ensures in
    let now = some_of c.resume.new.self.kept said.resumed.1 in
    let stack = stack-ends g.B.Body g.Q.Ends.LocalEnds.name g.Q.Ends.LocalEnds.run g.Q.Ends.LocalEnds.ends g.Q.Ends.LocalEnds.counts
    c.args.core.now c.args.below.now.items c.args.frame c.run_local.new.self c.requires.stack c.run_local.ensures.same
    c.resume.new.self said.plan said.run now.0 now.1 said.resumed.4 said.resumed.5 in
    rw c.pop.ensures.items at stack

pub returns-in-Ended-clause-fewer : goal.returns-in-Ended-clause-fewer
returns-in-Ended-clause-fewer g c =
    let more = left-more c.args.below.now.items c.args.frame in
    let left = ap turns_left c.pop.ensures.items in
    omega (arith, more, left)
