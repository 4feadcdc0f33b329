use Rattle.std.proofs.Common.{◌<◌, refl, sym, subst, IsSome}
use Rattle.swan_model.specs.declared.body.Answer.TheVariants as answer
use Rattle.swan_model.specs.declared.script.Deed.TheVariants as deed
use Rattle.swan_model.specs.Values.{COUNT_MOST}
use Rattle.serial_elision.proofs.AskSteps.{works}
use Rattle.task_frames.specs.Records.{live_at}
use Rattle.task_frames.proofs.Asked.{noted-so, quiet-so, steps-few}
use Rattle.task_frames.proofs.Goings.{is-asking, live-here}
use Rattle.task_frames.proofs.kept.Kept.work.Goals as goal

pub note_step-requires-clause-few : goal.note_step-requires-clause-few
note_step-requires-clause-few g c κs within = subst (λ k. k < COUNT_MOST) (sym c.done.ensures) (steps-few g.B.Body _ _ _ c.requires.has)

pub note_step-requires-clause-live : goal.note_step-requires-clause-live
note_step-requires-clause-live g c κs within =
    subst (λ n. IsSome (live_at c.args.self.now.live n)) (sym c.number.ensures) (live-here g.B.Body _ _ c.requires.has)

pub is_told-frame-requires-after_bounds : goal.is_told-frame-requires-after_bounds
is_told-frame-requires-after_bounds g c κs within = steps-few g.B.Body _ _ _ c.requires.has

pub returns-clause-step : goal.returns-clause-step
returns-clause-step g c =
    let has = c.requires.has in
    let noted = noted-so c.args.self.now _ _ _ _ _ _ refl c.number.ensures c.done.ensures c.note_step.ensures.same c.note_step.ensures.live in
    quiet-so g.B.Body _ _ _ has c.requires.begun answer.Nothing deed.Quiet
    (works g.B.Body c.args.mid.task.plan c.args.mid.task.path c.args.mid.task.done has.is.alone.top c.args.mid.local has.is.plan.lists (is-asking g.B.Body _ _ _ has c.requires.begun))
    c.note_step.new.self c.is_told-frame.result c.is_told-frame.ensures noted.1 noted.0 refl refl refl (λ same. absurd (cc))
