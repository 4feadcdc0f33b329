-- A frame at the core whose next step is tried: its body says what it asks for, or it has no fuel for that.
use Rattle.std.proofs.Common.{◌≡◌, ℕ, ◌+◌, ◌-◌, ◌<◌, false, Option, None, Some, length, refl, sym, ap, subst, ◌∙◌, arith}
use Rattle.std.proofs.lemmas.Option.{same_Some}
use Rattle.swan_model.specs.declared.body.Answer.{Answer}
use Rattle.swan_model.specs.declared.body.Ask.{Ask}
use Rattle.swan_model.specs.declared.body.Ask.TheVariants as ask
use Rattle.swan_model.specs.declared.body.Body.{Ghosts}
use Rattle.swan_model.specs.declared.fault.FaultKind.{FaultKind}
use Rattle.swan_model.specs.declared.fault.FaultKind.TheVariants as kind
use Rattle.swan_model.specs.QueueState.{after_finish}
use Rattle.swan_model.specs.Readings.{gone_on_by}
use Rattle.swan_model.specs.Script.{is_end, script}
use Rattle.swan_model.specs.SerialState.{Activation}
use Rattle.swan_model.specs.SerialTime.{is_queue_deed, time, times}
use Rattle.swan_model.specs.Told.{deed_at}
use Rattle.swan_model.specs.Versions.{IsSettled, objects_after_finish}
use Rattle.queues.specs.Asks.{IsOnTurn, MayJoin, OnNext}
use Rattle.swan_model.specs.QueueFollows.{next_queue_deed}
use Rattle.serial_elision.specs.Caught.{children_by, children_by_sync}
use Rattle.serial_elision.specs.TaskSteps.{EndsTask}
use Rattle.serial_elision.proofs.AskSteps.{dry, finishes}
use Rattle.serial_elision.proofs.FewMade.{few-times}
use Rattle.serial_elision.proofs.TaskSteps.{ends_last, stands-one}
use Rattle.task_frames.specs.declared.stage.Stage.TheVariants.{Ready}
use Rattle.task_frames.specs.declared.step.Step.{Step}
use Rattle.task_frames.specs.declared.step.Step.TheVariants as step
use Rattle.task_frames.specs.Cores.{FrameAtCoreView, HasIt, KeptView, MayBegin, Mid, asking}
use Rattle.task_frames.specs.Frames.{TaskView}
use Rattle.task_frames.specs.Records.{HasRoomForOne, IsLiveChild, IsOnlyLive, LiveFrame, live_at}
use Rattle.task_frames.specs.Resumes.{EndsTaskByFault, IsLast, IsStep, deed_now}
use Rattle.task_frames.proofs.Failing.{children-few, count-few}
use Rattle.task_frames.proofs.Goings.{done-is, lawful, own}
use Rattle.task_frames.proofs.MayEnd as ending

module _ {B L : Type 0} (G : Ghosts B L) (kept : KeptView) where
  -- ---- before the body is asked

  module _ (task : TaskView B L) (local : L) (said : Answer) (has : HasIt G kept (record { task = task; stage = Ready local said })) where
    pub dry-ends : (place : ℕ) → task.fuel ≡ 0 → place ≡ G.place_of task.plan.body local → EndsTaskByFault G task place kind.Fuel
    dry-ends place none at other stands =
        let top = has.is.alone.top in
        let one = stands-one G task.plan task.path task.done other top stands has.is.alone.stands in
        let empty : other.fuel ≡ 0 = ap (λ (a : Activation L). a.fuel) one ∙ sym has.is.alone.stage.1 ∙ none in (
          dry G task.plan task.path task.done other stands empty,
          at ∙ ap (G.place_of task.plan.body) has.is.alone.stage.0 ∙ ap (λ (a : Activation L). G.place_of task.plan.body a.local) (sym one),
        )

    pub has-asked : (place : ℕ) (next : L) (asks : Ask L) → 0 < task.fuel → place ≡ G.place_of task.plan.body local → (next, asks) ≡ G.next task.plan.body local said (task.fuel - 1)
        → HasIt G kept (asking (record { task = record task { fuel = task.fuel - 1 }; local = next; at = place }) asks)
    has-asked place next asks some at step =
        let alone = has.is.alone in
        let top = alone.top in
        let steps : G.next task.plan.body local said (task.fuel - 1) ≡ G.next task.plan.body top.local top.answer (top.fuel - 1) =
        ap (λ l. G.next task.plan.body l said (task.fuel - 1)) alone.stage.0
        ∙ ap (λ a. G.next task.plan.body top.local a (task.fuel - 1)) alone.stage.2
        ∙ ap (λ n. G.next task.plan.body top.local top.answer (n - 1)) alone.stage.1 in
        record {
          core = has.core;
          is = record {
            plan = has.is.plan;
            alone = record {
              top = top;
              stands = alone.stands;
              stage = (let e = alone.stage.1 in omega (arith, e, some), ap (λ n. n - 1) alone.stage.1, at ∙ ap (G.place_of task.plan.body) alone.stage.0, step ∙ steps);
              modes = alone.modes;
              children = alone.children;
            };
            within = has.is.within;
            since = has.is.since;
          };
          of = record { frame = has.of.frame; live = has.of.live; path = has.of.path; done = has.of.done; holdings = has.of.holdings };
          back = has.back;
        }

  -- ---- ends

  module _ (frame : FrameAtCoreView B L) (has : HasIt G kept frame) where
    pub fault-last : (place : ℕ) (fault : FaultKind) → EndsTaskByFault G frame.task place fault → IsLast G frame.task
    fault-last place fault is =
        let top = has.is.alone.top in
        ends_last G frame.task.plan frame.task.path frame.task.done top has.is.alone.stands (ap is_end (is top has.is.alone.stands).0.effect)

    -- the frame above it, where there is one, is live, and one failed child more of it can be counted
    pub room-so : (f : LiveFrame) → live_at kept.live frame.task.number ≡ Some f → HasRoomForOne kept.live f.parent
    room-so f there = by f.parent refl where
      by : (parent : Option ℕ) → f.parent ≡ parent → HasRoomForOne kept.live parent
      by None root = tt
      by (Some parent) of =
          let s = script G frame.task.plan in
          let it = has.core.frames.active_is frame.task.number f there in
          let above = has.core.queues.follow.children frame.task.number parent it.0 it.1 (it.2 ∙ of) in
          let found = has.core.frames.live_is parent above.above above.live in
          let x = found.0 in
          let told = has.core.frames.told parent x found.1 in
          let count = has.core.counted.counts parent x found.1 in
          let few = count-few kept.faults x.path (children_by_sync s x.path x.done) (children_by s x.path x.done) in
          let children = children-few s x.path x.done in
          let left = told.stands.left in
          let times_few = few-times G frame.task.plan x.path in
          let most = has.is.plan.fuel in
          (x, found.1, omega (arith, count, few, children, left, times_few, most))

    module _ (begun : MayBegin kept frame.task.number) (alone : (m : ℕ) → ¬ IsLiveChild kept.live frame.task.number m) where
      pub on-turn-so : IsOnTurn kept.name kept.state frame.task.number
      on-turn-so = λ s is x live. begun.turn x live

      pub join-so : MayJoin kept.state frame.task.number
      join-so =
          let it = own G kept frame has in
          ending.may-join G frame.task.plan (lawful G kept frame has) kept.reading kept.state kept.live kept.frames has.core.queues has.core.frames frame.task.number has.of.frame has.of.live alone
          it.0 it.1 (has.back it.0 it.1)

      pub settled-so : IsSettled kept.versions frame.task.number
      settled-so =
          ending.may-end G frame.task.plan (lawful G kept frame has) kept.reading kept.state kept.live kept.frames has.core.queues has.core.frames frame.task.number has.of.frame has.of.live alone
          kept.versions kept.objects has.core.objects begun.ready

      pub over-so : (does : _) → deed_now G frame.task ≡ does → is_queue_deed does ≡ false → IsLast G frame.task → OnNext kept.name kept.state frame.task.number (λ s x. next_queue_deed s x.path x.deeds ≡ None)
      over-so does is quiet last = λ s named x live.
          let f = has.of.frame in
          let at : deed_at (script G frame.task.plan) (time (script G frame.task.plan) f.path f.done) ≡ does =
          ap (λ p. deed_at (script G frame.task.plan) (time (script G frame.task.plan) p f.done)) has.of.path
          ∙ ap (λ k. deed_at (script G frame.task.plan) (time (script G frame.task.plan) frame.task.path k)) (done-is G kept frame has) ∙ is in
          let ends : f.done + 1 ≡ length (times (script G frame.task.plan) f.path) =
          ap (λ k. k + 1) (done-is G kept frame has) ∙ last ∙ ap (λ p. length (times (script G frame.task.plan) p)) (sym has.of.path) in
          subst (λ z. next_queue_deed z x.path x.deeds ≡ None) (same_Some (script G frame.task.plan) s (sym has.core.name ∙ named))
          (ending.over-next G frame.task.plan (lawful G kept frame has) kept.reading kept.state kept.live kept.frames has.core.queues has.core.frames frame.task.number f has.of.live alone
          x live does at quiet ends)

-- ---- the end that a task asks for

module _ {B L : Type 0} (G : Ghosts B L) (kept : KeptView) (mid : Mid B L) (has : HasIt G kept (asking mid ask.Finish)) where
  pub finish-ends : EndsTask G mid.task.plan mid.task.path mid.task.done has.is.alone.top
  finish-ends = finishes G mid.task.plan mid.task.path mid.task.done has.is.alone.top mid.local (record { stands = has.is.alone.stands; paid = has.is.alone.stage.0; said = has.is.alone.stage.3 })

  pub finish-last : IsLast G mid.task
  finish-last = ends_last G mid.task.plan mid.task.path mid.task.done has.is.alone.top has.is.alone.stands (ap is_end finish-ends.effect)

-- ---- what is kept once a frame has left

-- by a number that is the frame's
pub left-so : (kept after : KeptView) (n m : ℕ) → n ≡ m → after.name ≡ kept.name → after.run ≡ kept.run
    → after ≡ record kept {
      name = after.name;
      run = after.run;
      state = after_finish kept.state n;
      versions = objects_after_finish kept.versions n;
      reading = gone_on_by kept.reading n 1;
      live = after.live;
    }
    → IsOnlyLive kept.live after.live n None
    → (after ≡ record kept { state = after_finish kept.state m; versions = objects_after_finish kept.versions m; reading = gone_on_by kept.reading m 1; live = after.live })
    × IsOnlyLive kept.live after.live m None
left-so kept after n m number name run is only = (
  subst (λ x. after ≡ record kept { state = after_finish kept.state x; versions = objects_after_finish kept.versions x; reading = gone_on_by kept.reading x 1; live = after.live }) number
      (is
      ∙ ap {B = KeptView} (λ x. record kept {
        name = x;
        run = after.run;
        state = after_finish kept.state n;
        versions = objects_after_finish kept.versions n;
        reading = gone_on_by kept.reading n 1;
        live = after.live;
      }) name
      ∙ ap {B = KeptView} (λ x. record kept {
        run = x;
        state = after_finish kept.state n;
        versions = objects_after_finish kept.versions n;
        reading = gone_on_by kept.reading n 1;
        live = after.live;
      }) run),
  subst (λ x. IsOnlyLive kept.live after.live x None) number only,
)

-- and over what is the same
pub left-over : (kept other after : KeptView) (n m : ℕ) → other ≡ kept → n ≡ m → after.name ≡ other.name → after.run ≡ other.run
    → after ≡ record other {
      name = after.name;
      run = after.run;
      state = after_finish other.state n;
      versions = objects_after_finish other.versions n;
      reading = gone_on_by other.reading n 1;
      live = after.live;
    }
    → IsOnlyLive other.live after.live n None
    → (after ≡ record kept { state = after_finish kept.state m; versions = objects_after_finish kept.versions m; reading = gone_on_by kept.reading m 1; live = after.live })
    × IsOnlyLive kept.live after.live m None
left-over kept other after n m same number name run is only =
    subst (λ (k : KeptView). (after ≡ record k { state = after_finish k.state m; versions = objects_after_finish k.versions m; reading = gone_on_by k.reading m 1; live = after.live })
    × IsOnlyLive k.live after.live m None) same (left-so other after n m number name run is only)

-- a step is the same whether or not its unit of fuel is taken
pub paid-step : {B L : Type 0} (G : Ghosts B L) (before after : KeptView) (task : TaskView B L) (fuel : ℕ) (its : Step B L) → IsStep G before after (record task { fuel = fuel }) its → IsStep G before after task its
paid-step G before after task fuel (step.Runs next) so = so
paid-step G before after task fuel (step.Spawned parent new) so = (so.0, so.1, so.2, record { plan = so.3.plan; path = so.3.path; done = so.3.done; other = so.3.other }, so.4, so.5, so.6, so.7, so.8, so.9)
paid-step G before after task fuel (step.Waits same wait_for) so = so
paid-step G before after task fuel step.Ended so = so
