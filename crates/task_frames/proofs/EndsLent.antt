-- Ends that are lent to a live frame are its own.
use Rattle.std.proofs.Common.{◌≡◌, ℕ, true, cond, Option, Some, map, refl, sym, ap, subst, ◌∙◌}
use Rattle.std.proofs.lemmas.Option.{same_Some}
use Rattle.std.specs.Prelude.{slice_get}
use Rattle.swan_model.specs.declared.body.Body.{Ghosts}
use Rattle.swan_model.specs.declared.script.Script.{Script}
use Rattle.swan_model.specs.Lawful.{IsLawful}
use Rattle.swan_model.specs.QueueFollows.{FitsFrame, queue_origin}
use Rattle.swan_model.specs.QueueState.{ActiveFrame, LentEnd, QueueState, active}
use Rattle.swan_model.specs.Rights.{is_queue_mode}
use Rattle.swan_model.specs.Script.{script}
use Rattle.swan_model.specs.Segments.{segment_queue}
use Rattle.swan_model.specs.SerialState.{Holding}
use Rattle.swan_model.specs.SerialTime.{Reading}
use Rattle.swan_model.specs.TrueFrames.{StandsAt, give_in, gives_at}
use Rattle.queues.specs.Asks.{LentEnds}
use Rattle.queues.specs.Reads.{deeds_among}
use Rattle.queues.specs.Tells.{OnQueue}
use Rattle.queues.proofs.Rereading.{fit_of}
use Rattle.serial_elision.proofs.TaskSteps.{stands-one}
use Rattle.task_frames.specs.Cores.{AreQueues, IsAsRead}
use Rattle.task_frames.specs.Frames.{AreEndsOf, TaskView}
use Rattle.task_frames.specs.Records.{LiveFrame}
use Rattle.task_frames.proofs.Names.{name-at}

module _ {B L : Type 0} (G : Ghosts B L) (task : TaskView B L) (lawful : IsLawful (script G task.plan)) (r : Reading) (state : QueueState) (queues : AreQueues (script G task.plan) r state)
    (f : LiveFrame) (told : IsAsRead G task.plan r task.number f) (path : f.path ≡ task.path) (done : f.done ≡ task.done) (since : task.since ≡ task.done) (holdings : f.holdings ≡ task.holdings) where
  abbrev s : Script
  s = script G task.plan

  pub ends-are : (a : ActiveFrame) → active state task.number ≡ Some a → (name : Option Script) (ends : LentEnds) → name ≡ Some s
      → ends ≡ record { frame = task.number; path = a.path; before = a.deeds; deeds = a.deeds; list = ends.list }
      → ((i : ℕ) (end : LentEnd) → slice_get ends.list i ≡ Some end → OnQueue (Some s) state end.queue (λ x origin. segment_queue x end.tag ≡ Some origin))
      → AreEndsOf G task name ends
  ends-are a own name ends named are segments = record {
    named = named;
    own = ap (λ (e : LentEnds). e.frame) are;
    path = ap (λ (e : LentEnds). e.path) are ∙ sym fit.path ∙ path;
    before = ap (λ (e : LentEnds). e.before) are ∙ sym (deeds-so task.since (done ∙ sym since));
    deeds = ap (λ (e : LentEnds). e.deeds) are ∙ sym (deeds-so task.done done);
    queues = λ top at i place end holding give end_is holding_is queue same given.
        let here : StandsAt G task.plan task.path task.done told.top = subst (λ q. StandsAt G task.plan q task.done told.top) path (subst (λ j. StandsAt G task.plan f.path j told.top) done told.stands) in
        let one = stands-one G task.plan task.path task.done told.top top here at in
        let names : map (give_in r) task.holdings ≡ gives_at G task.plan task.path task.done top =
        ap (map (give_in r)) (sym holdings) ∙ told.named ∙ ap (λ q. gives_at G task.plan q f.done told.top) path ∙ ap (λ j. gives_at G task.plan task.path j told.top) done
        ∙ ap (gives_at G task.plan task.path task.done) one in
        let at_place = name-at r task.holdings (gives_at G task.plan task.path task.done top) place give names given in
        let it : at_place.holding ≡ holding = same_Some at_place.holding holding (sym at_place.stands ∙ holding_is) in
        let number : at_place.holding.number ≡ end.queue = ap (λ (h : Holding). h.number) it ∙ same in
        let kind : is_queue_mode at_place.holding.mode ≡ true = ap (λ (h : Holding). is_queue_mode h.mode) it ∙ queue in
        let known : slice_get r.queues at_place.holding.number ≡ Some give.origin =
        sym (ap (λ b. cond b (slice_get r.queues at_place.holding.number) (slice_get r.objects at_place.holding.number)) kind) ∙ at_place.known in
        let made : queue_origin s state end.queue ≡ Some give.origin = ap (queue_origin s state) (sym number) ∙ sym (queues.fit.queues at_place.holding.number) ∙ known in
        segments i end end_is s refl lawful give.origin made;
  } where
    fit : FitsFrame s a (record { number = task.number; path = f.path; done = f.done })
    fit = fit_of s lawful state r queues.fit task.number (record { number = task.number; path = f.path; done = f.done }) told.progress a own

    deeds-so : (k : ℕ) → f.done ≡ k → deeds_among s task.path k ≡ a.deeds
    deeds-so k is = ap (λ q. deeds_among s q k) (sym path ∙ fit.path) ∙ ap (deeds_among s a.path) (sym is) ∙ fit.deeds
