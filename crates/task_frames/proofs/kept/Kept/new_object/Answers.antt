use Rattle.std.proofs.Common.{◌≡◌, ◌<◌, None, sym, subst, ap, arith, IsSome}
use Rattle.swan_model.specs.declared.rights.Mode.TheVariants.{InOut}
use Rattle.swan_model.specs.SerialState.{Holding}
use Rattle.swan_model.specs.Versions.{placed_at}
use Rattle.swan_model.specs.QueueState.{OBJECTS_MOST}
use Rattle.swan_model.specs.Values.{COUNT_MOST}
use Rattle.task_frames.specs.Cores.{KeptView, Mid}
use Rattle.task_frames.specs.Records.{live_at}
use Rattle.task_frames.proofs.Goings.{live-here}
use Rattle.task_frames.proofs.Asked.{steps-few}
use Rattle.task_frames.proofs.AtPlaces.{noted-place, object-free, object-kept, object-room, object-runs, told-more}
use Rattle.task_frames.proofs.Given.{over}
use Rattle.task_frames.proofs.kept.Kept.new_object.Goals as goal

pub create-requires : goal.create-requires
create-requires g c = record {
  free = over (λ k n. placed_at k.versions n c.places-place.result ≡ None) _ _ _ _ c.self.view_is c.number-number.ensures
      (subst (λ p. placed_at c.args.self.now.versions c.args.mid.task.number p ≡ None) (sym c.places-place.ensures) (object-free g.B.Body _ _ _ c.requires.has c.requires.begun));
}

pub overflow_add-self : goal.overflow_add-self
overflow_add-self g c =
    let room = subst (λ (k : KeptView). k.objects < OBJECTS_MOST) (sym c.self.view_is) (object-room g.B.Body _ _ _ c.requires.has c.requires.begun) in
    omega (arith, room)

pub note_place-requires-clause-few : goal.note_place-requires-clause-few
note_place-requires-clause-few g c κs within = subst (λ k. k < COUNT_MOST) (sym c.done-done.ensures) (steps-few g.B.Body _ _ _ c.requires.has)

pub note_place-requires-clause-live : goal.note_place-requires-clause-live
note_place-requires-clause-live g c κs within =
    over (λ k n. IsSome (live_at k.live n)) _ _ _ _ c.self.view_is c.number-number.ensures (live-here g.B.Body _ _ c.requires.has)

pub is_told-frame-requires-after_bounds : goal.is_told-frame-requires-after_bounds
is_told-frame-requires-after_bounds g c κs within =
    subst (λ (m : Mid g.row.B.Denot g.row.B-Local.Denot). m.task.done < COUNT_MOST) (sym c.in_ok-next.ensures) (steps-few g.B.Body _ _ _ c.requires.has)

pub returns-clause-step : goal.returns-clause-step
returns-clause-step g c =
    let held = ap {B = Holding} (λ (k : KeptView). record { mode = InOut; number = k.objects }) c.self.view_is in
    object-runs g.B.Body _ _ _ c.requires.has c.requires.begun c.note_place.new.self c.is_told-frame.result
    (told-more _ _ _ _ _ _ c.is_told-frame.ensures c.in_ok-next.ensures c.places-place.ensures held)
    (noted-place _ _ _ _ _ _ _ _ _ c.self.view_is c.number-number.ensures c.done-done.ensures held c.in_ok-note_place.ensures.live)
    (object-kept _ _ _ _ _ _ _ _ _ _ _ c.self.view_is c.number-number.ensures c.places-place.ensures c.in_ok-create.ensures.ok c.makes_object-reading.ensures c.in_ok-note_place.ensures.same)
