use Rattle.std.proofs.Common.{◌<◌, ◌≡◌, Some, refl, sym, subst, ◌∙◌, IsSome}
use Rattle.swan_model.specs.declared.rights.Mode.TheVariants.{Out}
use Rattle.swan_model.specs.Versions.{Placed, after_write, placed_at}
use Rattle.swan_model.specs.Values.{COUNT_MOST}
use Rattle.task_frames.specs.Records.{live_at}
use Rattle.task_frames.proofs.Goings.{live-here}
use Rattle.swan_model.proofs.Elements.{some_of}
use Rattle.task_frames.proofs.Asked.{noted-so, steps-few}
use Rattle.task_frames.proofs.Given.{over}
use Rattle.task_frames.proofs.ObjectSteps.{object-there, write-runs, written-kept}
use Rattle.task_frames.proofs.kept.Kept.write.Goals as goal

pub write-requires : goal.write-requires
write-requires g c =
    let at = some_of _ c.if-is_none.ensures in
    record {
      placed = over (λ k n. (x : Placed) × (placed_at k.versions n c.args.place ≡ Some x)) _ _ _ _ c.self.view_is c.number-number.ensures
          (object-there g.B.Body _ _ _ c.requires.has c.args.place at.0 Out refl (sym c.number_at.ensures ∙ at.1));
    }

pub note_step-requires-clause-few : goal.note_step-requires-clause-few
note_step-requires-clause-few g c κs within = subst (λ k. k < COUNT_MOST) (sym c.done.ensures) (steps-few g.B.Body _ _ _ c.requires.has)

pub note_step-requires-clause-live : goal.note_step-requires-clause-live
note_step-requires-clause-live g c κs within =
    over (λ k n. IsSome (live_at k.live n)) _ _ _ _ c.self.view_is c.number-number.ensures (live-here g.B.Body _ _ c.requires.has)

pub is_told-frame-requires-after_bounds : goal.is_told-frame-requires-after_bounds
is_told-frame-requires-after_bounds g c κs within = steps-few g.B.Body _ _ _ c.requires.has

pub returns-clause-step : goal.returns-clause-step
returns-clause-step g c =
    let at = some_of _ c.if-is_none.ensures in
    let same = written-kept _ _ _ _ _ _ _ c.in_ok-write.ensures.ok c.self.view_is c.number-number.ensures in
    let noted = noted-so (record c.args.self.now { versions = after_write c.args.self.now.versions c.args.mid.task.number c.args.place c.args.value }) _ _ _ _ _ _ same c.number-number.ensures c.done.ensures
    c.note_step.ensures.same c.note_step.ensures.live in
    write-runs g.B.Body _ _ c.args.place at.0 c.args.value c.requires.has (sym c.number_at.ensures ∙ at.1) c.requires.begun c.note_step.new.self c.is_told-frame.result c.is_told-frame.ensures noted.1 noted.0
