use Rattle.std.proofs.Common.{◌≡◌, ◌<◌, Some, length, refl, sym, subst, ap, ◌∙◌, IsSome}
use Rattle.swan_model.specs.declared.script.Deed.TheVariants as deed
use Rattle.swan_model.specs.QueueFollows.{next_queue_deed}
use Rattle.swan_model.specs.QueueState.{after_create}
use Rattle.swan_model.specs.Values.{COUNT_MOST}
use Rattle.queues.specs.Asks.{HasRoom, IsOnTurn, MayDo, OnActive, OnNext}
use Rattle.task_frames.specs.Cores.{KeptView, Mid}
use Rattle.task_frames.specs.Records.{live_at}
use Rattle.task_frames.proofs.Goings.{live-here}
use Rattle.task_frames.proofs.Asked.{steps-few}
use Rattle.task_frames.proofs.AtPlaces.{noted-place, queue-kept, queue-next, queue-room, queue-runs, told-more}
use Rattle.task_frames.proofs.AtQueues.{may-do, turn}
use Rattle.task_frames.proofs.Given.{over}
use Rattle.task_frames.proofs.kept.Kept.new_queue.Goals as goal

pub create-requires-clause-may : goal.create-requires-clause-may
create-requires-clause-may g c = over (λ k n. MayDo k.state n) _ _ _ _ c.self.view_is c.number-number.ensures (may-do g.B.Body _ _ _ c.requires.has)

pub create-requires-clause-room : goal.create-requires-clause-room
create-requires-clause-room g c = subst (λ (k : KeptView). HasRoom k.state) (sym c.self.view_is) (queue-room g.B.Body _ _ c.requires.has c.requires.begun)

pub create-requires-clause-turn : goal.create-requires-clause-turn
create-requires-clause-turn g c = over (λ k n. IsOnTurn k.name k.state n) _ _ _ _ c.self.view_is c.number-number.ensures (turn g.B.Body _ _ _ c.requires.has c.requires.begun)

pub create-requires-clause-next : goal.create-requires-clause-next
create-requires-clause-next g c =
    over (λ k n. OnNext k.name k.state n (λ s own. next_queue_deed s own.path own.deeds ≡ Some deed.MakeQueue)) _ _ _ _ c.self.view_is c.number-number.ensures
    (queue-next g.B.Body _ _ c.requires.has c.requires.begun)

pub note_place-requires-clause-few : goal.note_place-requires-clause-few
note_place-requires-clause-few g c κs within = subst (λ k. k < COUNT_MOST) (sym c.done-done.ensures) (steps-few g.B.Body _ _ _ c.requires.has)

pub note_place-requires-clause-live : goal.note_place-requires-clause-live
note_place-requires-clause-live g c κs within =
    over (λ k n. IsSome (live_at k.live n)) _ _ _ _ c.self.view_is c.number-number.ensures (live-here g.B.Body _ _ c.requires.has)

pub is_told-frame-requires-after_bounds : goal.is_told-frame-requires-after_bounds
is_told-frame-requires-after_bounds g c κs within =
    subst (λ (m : Mid g.row.B.Denot g.row.B-Local.Denot). m.task.done < COUNT_MOST) (sym c.in_ok-next.ensures) (steps-few g.B.Body _ _ _ c.requires.has)

pub returns-clause-step : goal.returns-clause-step
returns-clause-step g c =
    queue-runs g.B.Body _ _ c.requires.has c.requires.begun c.note_place.new.self c.is_told-frame.result c.in_ok-queue.queue (g.Q.Queues.state c.create.new.self)
    (c.in_ok-queue.ensures.number ∙ ap (λ (k : KeptView). length k.state.makers) c.self.view_is)
    (told-more _ _ _ _ _ _ c.is_told-frame.ensures c.in_ok-next.ensures c.places-place.ensures refl)
    (over (λ k n. OnActive k.state n (λ own. g.Q.Queues.state c.create.new.self ≡ after_create k.state own)) _ _ _ _ (sym c.self.view_is) (sym c.number-number.ensures) c.in_ok-queue.ensures.ok)
    (noted-place _ _ _ _ _ _ _ _ _ c.self.view_is c.number-number.ensures c.done-done.ensures refl c.in_ok-note_place.ensures.live)
    (queue-kept _ _ _ _ _ _ _ _ _ c.self.view_is c.in_ok-queue.ensures.same.0 c.in_ok-queue.ensures.same.1 c.makes_queue-reading.ensures c.in_ok-note_place.ensures.same)
