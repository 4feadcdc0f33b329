use Rattle.std.proofs.Common.{◌<◌, ◌≡◌, Some, refl, sym, subst, ap, ◌∙◌, IsSome}
use Rattle.swan_model.specs.declared.body.Answer.TheVariants as answer
use Rattle.swan_model.specs.declared.script.Script.{Script}
use Rattle.swan_model.specs.declared.value.Value.{Value}
use Rattle.swan_model.specs.SerialTime.{Progress, Reading, frame_of, version}
use Rattle.swan_model.specs.VersionsFollow.{ObjectsFollow}
use Rattle.task_frames.specs.declared.stage.Stage.TheVariants.{Ready}
use Rattle.swan_model.specs.declared.rights.Mode.TheVariants.{In}
use Rattle.swan_model.specs.Versions.{Placed, owed, placed_at}
use Rattle.swan_model.specs.Values.{COUNT_MOST}
use Rattle.task_frames.specs.Cores.{FrameAtCoreView, one_on}
use Rattle.task_frames.specs.Records.{live_at}
use Rattle.task_frames.proofs.Goings.{live-here}
use Rattle.swan_model.proofs.Elements.{some_of}
use Rattle.task_frames.proofs.Asked.{noted-so, steps-few}
use Rattle.task_frames.proofs.Given.{over}
use Rattle.task_frames.proofs.ObjectSteps.{object-there, read-runs, read-waits}
use Rattle.task_frames.proofs.kept.Kept.read.Goals as goal

pub value-requires : goal.value-requires
value-requires g c =
    let at = some_of _ c.if-is_none.ensures in
    record {
      placed = over (λ k n. (x : Placed) × (placed_at k.versions n c.args.place ≡ Some x)) _ _ _ _ c.self.view_is c.number-number.ensures
          (object-there g.B.Body _ _ _ c.requires.has c.args.place at.0 In refl (sym c.number_at.ensures ∙ at.1));
    }

pub note_step-requires-clause-few : goal.note_step-requires-clause-few
note_step-requires-clause-few g c κs within = subst (λ k. k < COUNT_MOST) (sym c.done.ensures) (steps-few g.B.Body _ _ _ c.requires.has)

pub note_step-requires-clause-live : goal.note_step-requires-clause-live
note_step-requires-clause-live g c κs within =
    subst (λ n. IsSome (live_at c.args.self.now.live n)) (sym c.number-number.ensures) (live-here g.B.Body _ _ c.requires.has)

pub is_told-frame-requires-after_bounds : goal.is_told-frame-requires-after_bounds
is_told-frame-requires-after_bounds g c κs within = steps-few g.B.Body _ _ _ c.requires.has

pub returns-in_ok-item-in-Ok-clause-step : goal.returns-in_ok-item-in-Ok-clause-step
returns-in_ok-item-in-Ok-clause-step g c =
    let at = some_of _ c.if-is_none.ensures in
    let noted = noted-so c.args.self.now _ _ _ _ _ _ refl c.number-number.ensures c.done.ensures c.note_step.ensures.same c.note_step.ensures.live in
    let told = ap (λ (v : Value). let a : FrameAtCoreView g.row.B.Denot g.row.B-Local.Denot = record { task = one_on c.args.mid.task; stage = Ready c.args.mid.local (answer.Item v) } in a) c.in_ok-item-in-Ok.ensures in
    read-runs g.B.Body _ _ c.args.place at.0 c.requires.has (sym c.number_at.ensures ∙ at.1) c.requires.begun c.in-Ok.value.now
    (over (λ k n. (s : Script) (r : Reading) (reader : Progress) (object : Placed) → ObjectsFollow s r k.versions → frame_of r n ≡ Some reader → placed_at k.versions n c.args.place ≡ Some object
    → version s r object.object reader ≡ Some c.in-Ok.value.now) _ _ _ _ (sym c.self.view_is) (sym c.number-number.ensures) c.in-Ok.ensures.follows)
    c.note_step.new.self c.is_told-frame.result (c.is_told-frame.ensures ∙ told) noted.1 noted.0

pub returns-in-Err-clause-step : goal.returns-in-Err-clause-step
returns-in-Err-clause-step g c =
    let at = some_of _ c.if-is_none.ensures in
    read-waits g.B.Body _ _ c.args.place at.0 c.requires.has (sym c.number_at.ensures ∙ at.1) c.in-Err.owing
    (over (λ k n. (object : Placed) → placed_at k.versions n c.args.place ≡ Some object → object.present ≡ owed c.in-Err.owing) _ _ _ _ (sym c.self.view_is) (sym c.number-number.ensures) c.in-Err.ensures.err)
    c.args.self.now c.asks.result refl c.asks.ensures
