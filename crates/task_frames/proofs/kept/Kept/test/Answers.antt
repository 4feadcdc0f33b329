use Rattle.std.proofs.Common.{refl, sym, subst, ◌∙◌, ◌<◌, ◌≡◌, IsSome}
use Rattle.swan_model.specs.declared.rights.Mode.TheVariants.{Pop}
use Rattle.swan_model.specs.declared.script.Deed.TheVariants as deed
use Rattle.swan_model.specs.QueueFollows.{IsNextAbout}
use Rattle.queues.specs.Asks.{IsOnTurn, MayUse, OnActive, OnNext}
use Rattle.queues.specs.Tells.{FindsItem, FindsNone, IsCause, OnQueue}
use Rattle.swan_model.specs.QueueState.{after_deed}
use Rattle.swan_model.specs.Values.{COUNT_MOST}
use Rattle.task_frames.specs.Records.{live_at}
use Rattle.task_frames.proofs.Goings.{live-here}
use Rattle.task_frames.proofs.Asked.{noted-so, steps-few}
use Rattle.task_frames.proofs.AtQueues.{IsToldOf, deed-kept, state-kept, test-may, test-steps, turn, waits}
use Rattle.task_frames.specs.Resumes.{to_test}
use Rattle.task_frames.proofs.Given.{over}
use Rattle.task_frames.proofs.kept.Kept.test.Goals as goal
use Rattle.task_frames.proofs.kept.Kept.test.Goals.{in-Empty, in-Holds}

pub test-requires-clause-may : goal.test-requires-clause-may
test-requires-clause-may g c =
    over (λ k n. MayUse k.state n c.in-Some.queue Pop) _ _ _ _ c.self.view_is c.number-number.ensures (test-may g.B.Body _ _ _ c.requires.has c.in-Some.queue (sym c.number_at.ensures ∙ c.in-Some.is)).0

pub test-requires-clause-turn : goal.test-requires-clause-turn
test-requires-clause-turn g c = over (λ k n. IsOnTurn k.name k.state n) _ _ _ _ c.self.view_is c.number-number.ensures (turn g.B.Body _ _ _ c.requires.has c.requires.begun)

pub test-requires-clause-next : goal.test-requires-clause-next
test-requires-clause-next g c =
    over (λ k n. OnNext k.name k.state n (λ s own. IsNextAbout deed.Test s k.state own c.in-Some.queue)) _ _ _ _ c.self.view_is c.number-number.ensures
    (test-may g.B.Body _ _ _ c.requires.has c.in-Some.queue (sym c.number_at.ensures ∙ c.in-Some.is)).1

pub returns-in-NotYet-clause-step : goal.returns-in-NotYet-clause-step
returns-in-NotYet-clause-step g c =
    waits g.B.Body _ _ _ c.requires.has _ c.asks.result c.in-Some.queue c.in-NotYet.wait
    (state-kept _ _ _ _ _ c.self.view_is c.in-NotYet.ensures.same.0 c.in-NotYet.ensures.same.1 c.in-NotYet.ensures.after) c.asks.ensures (to_test _ _ _ refl (sym c.number_at.ensures ∙ c.in-Some.is))
    (over (λ k n. OnActive k.state n (λ b. IsCause k.name k.state b c.in-Some.queue c.in-NotYet.wait)) _ _ _ _ (sym c.self.view_is) (sym c.number-number.ensures) c.in-NotYet.ensures.answer)

pub note_step-requires-clause-few : goal.note_step-requires-clause-few
note_step-requires-clause-few g c κs within = subst (λ k. k < COUNT_MOST) (sym c.done.ensures) (steps-few g.B.Body _ _ _ c.requires.has)

pub note_step-requires-clause-live : goal.note_step-requires-clause-live
note_step-requires-clause-live g c κs within =
    over (λ k n. IsSome (live_at k.live n)) _ _ _ _ c.self.view_is c.number-number.ensures (live-here g.B.Body _ _ c.requires.has)

pub is_told-frame-requires-after_bounds : goal.is_told-frame-requires-after_bounds
is_told-frame-requires-after_bounds g c κs within = steps-few g.B.Body _ _ _ c.requires.has

pub returns-clause-step : goal.returns-clause-step
returns-clause-step g c =
    let told : IsToldOf c.args.self.now c.args.mid.task.number c.in-Some.queue c.match-test.is_empty × (g.Q.Queues.state c.test.new.self ≡ after_deed (g.Q.Queues.state c.self.inside.queues) c.number-number.result) =
    elim c.match-test.branch [
      | in-Holds w ↦ (
        subst (IsToldOf c.args.self.now c.args.mid.task.number c.in-Some.queue) (sym w.is_empty-is)
            (over (λ k n. OnActive k.state n (λ own. OnQueue k.name k.state c.in-Some.queue (FindsItem own))) _ _ _ _ (sym c.self.view_is) (sym c.number-number.ensures) w.in-Holds.ensures.answer),
        w.in-Holds.ensures.after,
      )
      | in-Empty w ↦ (
        subst (IsToldOf c.args.self.now c.args.mid.task.number c.in-Some.queue) (sym w.is_empty-is)
            (over (λ k n. OnActive k.state n (λ own. OnQueue k.name k.state c.in-Some.queue (FindsNone own))) _ _ _ _ (sym c.self.view_is) (sym c.number-number.ensures) w.in-Empty.ensures.answer),
        w.in-Empty.ensures.after,
      )
    ] in
    let same = deed-kept _ _ _ _ _ _ _ c.self.view_is c.number-number.ensures c.test.ensures.same.0 c.test.ensures.same.1 told.1 in
    let noted = noted-so _ _ _ _ _ _ _ same c.number-number.ensures c.done.ensures c.note_step.ensures.same c.note_step.ensures.live in
    test-steps g.B.Body _ _ _ c.requires.has c.in-Some.queue (sym c.number_at.ensures ∙ c.in-Some.is) c.requires.begun c.match-test.is_empty told.0
    c.note_step.new.self c.is_told-frame.result c.is_told-frame.ensures noted.1 noted.0
