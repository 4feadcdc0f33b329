-- A frame at the core that ends by its next step, or has to wait for its children before it may.
use Rattle.std.proofs.Common.{◌≡◌, ◌≢◌, inr, ℕ, false, None, [], ◌∷◌, ◌++◌, refl, sym, ap, subst, ◌∙◌, arith}
use Rattle.std.specs.Option.{option_map}
use Rattle.swan_model.specs.declared.body.Body.{Ghosts}
use Rattle.swan_model.specs.declared.fault.Fault.{Fault}
use Rattle.swan_model.specs.declared.script.Deed.{Deed}
use Rattle.swan_model.specs.declared.script.Deed.TheVariants as deed
use Rattle.swan_model.specs.declared.script.Script.{Script}
use Rattle.swan_model.specs.Granted.{is_spawn}
use Rattle.swan_model.specs.QueueState.{after_finish}
use Rattle.swan_model.specs.Script.{script}
use Rattle.swan_model.specs.SerialStep.{ends, faults}
use Rattle.swan_model.specs.TrueFrames.{effect_at}
use Rattle.swan_model.specs.Versions.{IsSettled, objects_after_finish}
use Rattle.swan_model.specs.VersionsFollow.{is_object_deed}
use Rattle.queues.specs.Asks.{MayJoin}
use Rattle.swan_model.specs.Readings.{gone_on_by}
use Rattle.queues.specs.Tree.{IsOnlyFrame}
use Rattle.task_frames.specs.declared.step.Step.TheVariants as step
use Rattle.task_frames.specs.Cores.{AreBooked, AreCounted, AreFrames, AreObjects, AreQueues, FrameAtCoreView, HasIt, IsCore, KeptView, MayBegin}
use Rattle.task_frames.specs.Frames.{TaskView}
use Rattle.task_frames.specs.Records.{AreGivenSo, HasNoLiveChild, HasOneFailed, IsLiveChild, IsOldestChild, IsOnlyLive, NumberedFrames, as_given, live_at}
use Rattle.task_frames.specs.Resumes.{IsLast, IsLiveBefore, IsStep, deed_now}
use Rattle.queues.specs.declared.answers.WaitFor.TheVariants as wait
use Rattle.queues.proofs.ActiveAfter.{one_gone}
use Rattle.serial_elision.specs.Caught.{has_failed}
use Rattle.serial_elision.specs.TaskSteps.{IsFaultOf}
use Rattle.task_frames.proofs.AsGiven.{WasGiven, one-failed-given, one-failed-others, others-given, was-given}
use Rattle.task_frames.proofs.Booked as booked
use Rattle.task_frames.proofs.Counted as counted
use Rattle.task_frames.proofs.Failing.{never-failed}
use Rattle.task_frames.proofs.Goings.{known, lawful}
use Rattle.task_frames.proofs.Live as live
use Rattle.task_frames.proofs.Objects as objects
use Rattle.task_frames.proofs.Queues as queues
use Rattle.task_frames.proofs.Waiting as waiting

module _ {B L : Type 0} (G : Ghosts B L) (kept : KeptView) (frame : FrameAtCoreView B L) (has : HasIt G kept frame) where
  abbrev task : TaskView B L
  task = frame.task

  abbrev s : Script
  s = script G task.plan

  -- ---- waits

  -- the frame stands as it did, and waits for its oldest child
  pub child-before : (child : ℕ) → IsOldestChild kept.live task.number child → IsLiveBefore kept.live task.path child
  child-before child is =
      subst (λ path. IsLiveBefore kept.live path child) has.of.path
      (waiting.oldest-live G task.plan (lawful G kept frame has) kept.reading kept.state kept.live kept.frames has.core.queues has.core.frames task.number has.of.frame has.of.live child is)

  pub waits-child : (child : ℕ) → IsOldestChild kept.live task.number child → IsLast G task → IsStep G kept kept task (step.Waits frame (wait.Child child))
  waits-child child is last = (has, refl, refl, (is, inr last), child-before child is)

  -- ---- ends

  -- who has no active child has no live one
  no-child : MayJoin kept.state task.number → HasNoLiveChild kept.live task.number
  no-child may child is = let it = has.core.frames.active_is child is.frame is.live in may.alone child (record { frame = it.0; live = it.1; of = it.2 ∙ is.of })

  module _ (begun : MayBegin kept task.number) (last : IsLast G task) where
    -- it ends by this deed, which no object hears of; its faults are booked
    module _ (does : Deed) (is : deed_now G task ≡ does) (no_object : is_object_deed does ≡ false) (no_spawn : is_spawn does ≡ false) (after : KeptView) (settled : IsSettled kept.versions task.number)
        (between : NumberedFrames) (given : AreGivenSo kept.live between) (alike : (other : ℕ) → ¬ IsLiveChild kept.live other task.number → live_at between other ≡ live_at kept.live other) (only : IsOnlyLive between after.live task.number None) (name : after.name ≡ kept.name) (reading : after.reading ≡ gone_on_by kept.reading task.number 1) (count : after.frames ≡ kept.frames) (made : after.objects ≡ kept.objects)
        (ended : after.versions ≡ objects_after_finish kept.versions task.number) (alone : HasNoLiveChild kept.live task.number) (gone : IsOnlyFrame kept.state after.state task.number None)
        (queues_are : AreQueues s (gone_on_by kept.reading task.number 1) after.state)
        (frames_are : AreFrames G task.plan (gone_on_by kept.reading task.number 1) after.state after.live kept.frames)
        (booked_are : AreBooked G task.plan (gone_on_by kept.reading task.number 1) after.faults)
        (counted_are : AreCounted s after.live after.faults) where
      -- the frame, as it stands there still
      here-still : WasGiven between task.number has.of.frame
      here-still = was-given between kept.live task.number has.of.frame (sym (given task.number)) has.of.live

      pub core-ended : IsCore G task.plan after
      core-ended = record {
        sound = has.core.sound;
        name = name ∙ has.core.name;
        queues = subst (λ r. AreQueues s r after.state) (sym reading) queues_are;
        objects = subst (λ r. AreObjects s r after.versions after.live after.objects) (sym reading)
            (subst (AreObjects s (gone_on_by kept.reading task.number 1) after.versions after.live) (sym made)
            (objects.finished s (lawful G kept frame has) kept.reading kept.versions between kept.objects
            (objects.as-before s kept.reading kept.versions kept.live between kept.objects given has.core.objects) task.number task.path task.done (known G kept frame has)
            here-still.was here-still.live after.live does after.versions is no_object no_spawn last settled ended only));
        frames = subst (λ r. AreFrames G task.plan r after.state after.live after.frames) (sym reading)
            (subst (AreFrames G task.plan (gone_on_by kept.reading task.number 1) after.state after.live) (sym count) frames_are);
        booked = subst (λ r. AreBooked G task.plan r after.faults) (sym reading) booked_are;
        counted = counted_are;
      }

      pub ends-so : IsStep G kept after task step.Ended
      ends-so = (
        core-ended,
        last,
        ap is_spawn is ∙ no_spawn,
        only.changed,
        (
          record { live = stays; active_are = gone.others },
          record { live = λ other apart. only.others other apart.0 ∙ alike other apart.1; active_are = λ other apart. gone.others other apart.0 },
        ),
        alone,
        begun,
        omega (arith, count),
      )
        where
          stays : (other : ℕ) → other ≢ task.number → option_map as_given (live_at after.live other) ≡ option_map as_given (live_at kept.live other)
          stays other differs = others-given between after.live task.number None only other differs ∙ given other

    pub is-fault : (fault : Fault) → effect_at G task.plan task.path task.done has.is.alone.top ≡ faults fault.kind → fault.path ≡ task.path
        → fault.place ≡ G.place_of task.plan.body has.is.alone.top.local → IsFaultOf G task.plan fault
    is-fault fault effect path place =
        subst (IsFaultOf G task.plan) (let same : record { path = task.path; place = fault.place; kind = fault.kind } ≡ fault = λ i. record { path = sym path i; place = fault.place; kind = fault.kind } in same)
        (booked.fault-of-step G task.plan task.path task.done has.is.alone.top fault.kind fault.place has.is.alone.stands effect place)

    -- its failed children, where it ends by a fault: its parent has one more
    pub counted-fault : (between : NumberedFrames) (then_live : NumberedFrames) (fault : Fault) → fault.path ≡ task.path → HasOneFailed kept.live between has.of.frame.parent → IsOnlyLive between then_live task.number None
        → AreCounted s then_live (kept.faults ++ fault ∷ [])
    counted-fault between then_live fault path one only =
        counted.failed s kept.live kept.faults has.core.counted then_live task.number has.of.frame has.of.live between (kept.faults ++ fault ∷ []) fault (path ∙ sym has.of.path)
        (ap (has_failed kept.faults) has.of.path
        ∙ never-failed kept.faults task.path (booked.fresh G task.plan kept.reading task.number task.path task.done (known G kept frame has) has.core.queues.fit.tasks kept.faults has.core.booked has.is.alone.stands.left))
        refl one only
        (λ m i above at own_path.
        waiting.parent-is G task.plan (lawful G kept frame has) kept.reading kept.state kept.live kept.frames has.core.queues has.core.frames m above at task.number i has.of.frame has.of.live own_path)

    -- where it fails, all but the frame above are as before
    pub alike-failed : (between : NumberedFrames) → HasOneFailed kept.live between has.of.frame.parent → (other : ℕ) → ¬ IsLiveChild kept.live other task.number → live_at between other ≡ live_at kept.live other
    alike-failed between one other none = one-failed-others kept.live between has.of.frame.parent one other (λ is. none (record { frame = has.of.frame; live = has.of.live; of = is }))

    module _ (after : KeptView) (settled : IsSettled kept.versions task.number) (may : MayJoin kept.state task.number) where
      -- by the end that it asks for
      pub ends-quietly : IsOnlyLive kept.live after.live task.number None → after ≡ record kept {
        state = after_finish kept.state task.number;
        versions = objects_after_finish kept.versions task.number;
        reading = gone_on_by kept.reading task.number 1;
        live = after.live;
      }
          → deed_now G task ≡ deed.Quiet → effect_at G task.plan task.path task.done has.is.alone.top ≡ ends → IsStep G kept after task step.Ended
      ends-quietly only is quiet effect =
          subst (λ k. IsStep G kept k task step.Ended) (sym is)
          (ends-so deed.Quiet quiet refl refl
          (record kept {
            state = after_finish kept.state task.number;
            versions = objects_after_finish kept.versions task.number;
            reading = gone_on_by kept.reading task.number 1;
            live = after.live;
          })
          settled kept.live (λ m. refl) (λ m none. refl) only refl refl refl refl refl (no-child may) (one_gone kept.state task.number)
          (queues.finished s (lawful G kept frame has) kept.reading kept.state has.core.queues task.number task.path task.done (known G kept frame has) deed.Quiet
          (after_finish kept.state task.number) quiet refl last may refl)
          (live.leaves-finish G task.plan kept.reading kept.state kept.live kept.frames has.core.frames has.core.queues.tree task.number (after_finish kept.state task.number) after.live may refl only)
          (booked.ended G task.plan kept.reading task.number task.path task.done (known G kept frame has) has.is.alone.top has.is.alone.stands last kept.faults effect has.core.booked)
          (counted.ended s kept.live kept.faults has.core.counted after.live task.number only))

      -- by a fault
      pub ends-faulty : (between : NumberedFrames) → HasOneFailed kept.live between has.of.frame.parent → IsOnlyLive between after.live task.number None → (fault : Fault) → after ≡ record kept {
        state = after_finish kept.state task.number;
        versions = objects_after_finish kept.versions task.number;
        reading = gone_on_by kept.reading task.number 1;
        live = after.live;
        faults = kept.faults ++ fault ∷ [];
      }
          → deed_now G task ≡ deed.Quiet → effect_at G task.plan task.path task.done has.is.alone.top ≡ faults fault.kind → fault.path ≡ task.path
          → fault.place ≡ G.place_of task.plan.body has.is.alone.top.local → IsStep G kept after task step.Ended
      ends-faulty between one only fault is quiet effect path place =
          let given = one-failed-given kept.live between has.of.frame.parent one in
          subst (λ k. IsStep G kept k task step.Ended) (sym is)
          (ends-so deed.Quiet quiet refl refl
          (record kept {
            state = after_finish kept.state task.number;
            versions = objects_after_finish kept.versions task.number;
            reading = gone_on_by kept.reading task.number 1;
            live = after.live;
            faults = kept.faults ++ fault ∷ [];
          })
          settled between given (alike-failed between one) only refl refl refl refl refl (no-child may) (one_gone kept.state task.number)
          (queues.finished s (lawful G kept frame has) kept.reading kept.state has.core.queues task.number task.path task.done (known G kept frame has) deed.Quiet
          (after_finish kept.state task.number) quiet refl last may refl)
          (live.leaves-finish G task.plan kept.reading kept.state between kept.frames (live.as-before G task.plan kept.reading kept.state kept.live kept.frames has.core.frames between given)
          has.core.queues.tree task.number (after_finish kept.state task.number) after.live may refl only)
          (booked.faulted G task.plan kept.reading task.number task.path task.done (known G kept frame has) has.is.alone.top has.is.alone.stands last has.core.queues.fit.tasks
          kept.faults (kept.faults ++ fault ∷ []) fault (is-fault fault effect path place) path refl has.core.booked)
          (counted-fault between after.live fault path one only))
