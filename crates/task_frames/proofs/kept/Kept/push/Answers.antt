use Rattle.std.proofs.Common.{sym, subst, ◌∙◌, ◌<◌, IsSome}
use Rattle.swan_model.specs.declared.rights.Mode.TheVariants.{Push}
use Rattle.swan_model.specs.declared.script.Deed.TheVariants as deed
use Rattle.swan_model.specs.QueueFollows.{IsNextAbout}
use Rattle.swan_model.specs.Values.{COUNT_MOST}
use Rattle.queues.specs.Asks.{IsOnTurn, MayUse, OnNext}
use Rattle.task_frames.specs.Records.{live_at}
use Rattle.task_frames.proofs.Goings.{live-here}
use Rattle.task_frames.proofs.Asked.{noted-so, steps-few}
use Rattle.task_frames.proofs.AtQueues.{deed-kept, push-may, push-steps, turn}
use Rattle.task_frames.proofs.Given.{over}
use Rattle.task_frames.proofs.kept.Kept.push.Goals as goal

pub push-requires-clause-may : goal.push-requires-clause-may
push-requires-clause-may g c =
    over (λ k n. MayUse k.state n c.in-Some.queue Push) _ _ _ _ c.self.view_is c.number-number.ensures (push-may g.B.Body _ _ _ _ c.requires.has c.in-Some.queue (sym c.number_at.ensures ∙ c.in-Some.is)).0

pub push-requires-clause-turn : goal.push-requires-clause-turn
push-requires-clause-turn g c = over (λ k n. IsOnTurn k.name k.state n) _ _ _ _ c.self.view_is c.number-number.ensures (turn g.B.Body _ _ _ c.requires.has c.requires.begun)

pub push-requires-clause-next : goal.push-requires-clause-next
push-requires-clause-next g c =
    over (λ k n. OnNext k.name k.state n (λ s own. IsNextAbout (λ o. deed.Push o c.args.value) s k.state own c.in-Some.queue)) _ _ _ _ c.self.view_is c.number-number.ensures
    (push-may g.B.Body _ _ _ _ c.requires.has c.in-Some.queue (sym c.number_at.ensures ∙ c.in-Some.is)).1

pub note_step-requires-clause-few : goal.note_step-requires-clause-few
note_step-requires-clause-few g c κs within = subst (λ k. k < COUNT_MOST) (sym c.done.ensures) (steps-few g.B.Body _ _ _ c.requires.has)

pub note_step-requires-clause-live : goal.note_step-requires-clause-live
note_step-requires-clause-live g c κs within =
    over (λ k n. IsSome (live_at k.live n)) _ _ _ _ c.self.view_is c.number-number.ensures (live-here g.B.Body _ _ c.requires.has)

pub is_told-frame-requires-after_bounds : goal.is_told-frame-requires-after_bounds
is_told-frame-requires-after_bounds g c κs within = steps-few g.B.Body _ _ _ c.requires.has

pub returns-clause-step : goal.returns-clause-step
returns-clause-step g c =
    let same = deed-kept _ _ _ _ _ _ _ c.self.view_is c.number-number.ensures c.in_ok-push.ensures.same.0 c.in_ok-push.ensures.same.1 c.in_ok-push.ensures.ok in
    let noted = noted-so _ _ _ _ _ _ _ same c.number-number.ensures c.done.ensures c.note_step.ensures.same c.note_step.ensures.live in
    push-steps g.B.Body _ _ _ _ c.requires.has c.in-Some.queue (sym c.number_at.ensures ∙ c.in-Some.is) c.requires.begun c.note_step.new.self c.is_told-frame.result c.is_told-frame.ensures noted.1 noted.0
