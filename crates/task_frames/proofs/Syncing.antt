-- A frame at the core that takes a Sync: what it is told of its failed children is what the elision tells it.
use Rattle.std.proofs.Common.{◌≡◌, inl, inr, ℕ, ◌+◌, ◌<◌, true, nat_eq, [], ◌∷◌, ◌++◌, Some, length, refl, sym, ap, subst, ◌∙◌, arith}
use Rattle.std.proofs.lemmas.Option.{same_Some}
use Rattle.std.specs.Option.{option_map}
use Rattle.std.specs.Prelude.{slice_get}
use Rattle.swan_model.specs.declared.body.Answer.TheVariants as answer
use Rattle.swan_model.specs.declared.body.Ask.TheVariants as ask
use Rattle.swan_model.specs.declared.body.Body.{Ghosts}
use Rattle.swan_model.specs.declared.plan.Plan.{Plan}
use Rattle.swan_model.specs.declared.script.Deed.TheVariants as deed
use Rattle.swan_model.specs.declared.script.Script.{Script}
use Rattle.swan_model.specs.Elision.{outcome}
use Rattle.swan_model.specs.Granted.{children_before}
use Rattle.swan_model.specs.Nested.{IsEntryOf}
use Rattle.swan_model.specs.QueueState.{active}
use Rattle.swan_model.specs.Readings.{gone_on_by}
use Rattle.swan_model.specs.Script.{script}
use Rattle.swan_model.specs.SerialState.{Activation}
use Rattle.swan_model.specs.SerialStep.{after_next, synced}
use Rattle.swan_model.specs.SerialTime.{Progress, frame_of, point, time, times}
use Rattle.swan_model.proofs.Elements.{found_is, option_cases}
use Rattle.swan_model.proofs.TaskEntries.{point_is, spawn_own}
use Rattle.queues.proofs.Lineage.{spawn_before}
use Rattle.queues.proofs.Refitting.{past_done}
use Rattle.serial_elision.specs.Caught.{children_by, children_by_sync, failed_children, has_failed}
use Rattle.serial_elision.specs.TaskSteps.{Syncs}
use Rattle.serial_elision.proofs.Caught.{children-counted, failed-counted}
use Rattle.serial_elision.proofs.FaultsTold.{fault-booked, fault-of}
use Rattle.serial_elision.proofs.Onward.{failed-at, failed-from}
use Rattle.serial_elision.proofs.Room.{children-told}
use Rattle.task_frames.specs.declared.stage.Stage.TheVariants.{Ready}
use Rattle.task_frames.specs.declared.step.Step.TheVariants as step
use Rattle.task_frames.specs.Cores.{FrameAtCoreView, HasEnded, HasIt, KeptView, MayBegin, Mid, asking, one_on}
use Rattle.task_frames.specs.Frames.{TaskView}
use Rattle.task_frames.specs.Records.{HasNoLiveChild, IsOnlyLive, LiveFrame, live_at, synced_at}
use Rattle.task_frames.specs.Resumes.{IsStep}
use Rattle.task_frames.proofs.Failing.{count-same, failed-alike}
use Rattle.task_frames.proofs.Goings.{done-is, known, lawful, runs-synced}
use Rattle.task_frames.proofs.MayEnd.{none-active}
use Rattle.task_frames.proofs.Waiting.{active-child}

module _ {B L : Type 0} (G : Ghosts B L) (kept : KeptView) (mid : Mid B L) (has : HasIt G kept (asking mid ask.Sync)) (alone : HasNoLiveChild kept.live mid.task.number) where
  abbrev task : TaskView B L
  task = mid.task

  abbrev plan : Plan B L
  plan = mid.task.plan

  abbrev s : Script
  s = script G plan

  abbrev n : ℕ
  n = mid.task.number

  abbrev top : Activation L
  top = has.is.alone.top

  abbrev f : LiveFrame
  f = has.of.frame

  abbrev p : Progress
  p = record { number = n; path = task.path; done = task.done }

  known-so : frame_of kept.reading n ≡ Some (record { number = n; path = task.path; done = task.done })
  known-so = known G kept (asking mid ask.Sync) has

  children-so : top.children ≡ children_by s task.path task.done
  children-so = children-counted G plan task.path task.done top has.is.alone.stands

  -- a frame of the reading that is a child of it has no entry left, since it isn't live
  no-entry-left : (index i : ℕ) (below : Progress) → slice_get kept.reading.frames index ≡ Some below → below.path ≡ task.path ++ i ∷ [] → below.done ≡ length (times s below.path)
  no-entry-left index i below stands path = elim (option_cases (active kept.state below.number)) [
    | inl none ↦ has.core.queues.fit.ended index below stands none
    | inr found ↦
        let there = has.core.frames.live_is below.number found.0 found.1 in
        let told = has.core.frames.told below.number there.0 there.1 in
        let same = same_Some _ below (sym told.progress ∙ has.core.queues.fit.numbers index below stands) in
        let below_path : there.0.path ≡ f.path ++ i ∷ [] = ap (λ (q : Progress). q.path) same ∙ path ∙ ap (λ q. q ++ i ∷ []) (sym has.of.path) in
        let law = lawful G kept (asking mid ask.Sync) has in
        let child = active-child G plan law kept.reading kept.state kept.live kept.frames has.core.queues has.core.frames n f has.of.live below.number i there.0 there.1 below_path in
        absurd (none-active G plan law kept.reading kept.state kept.live kept.frames has.core.queues has.core.frames n f has.of.live alone below.number child)
  ]

  -- each child that it has spawned has ended
  child-ended : (i : ℕ) → i < children_by s task.path task.done → HasEnded G plan kept.reading (task.path ++ i ∷ [])
  child-ended i less =
      let now = time s task.path task.done in
      let told : top.children ≡ children_before s task.path now = children-told G plan task.path task.done top has.is.alone.stands in
      let spawn = spawn_before s task.path i now (omega (arith, less, told, children-so)) in
      let place = found_is (λ (q : Progress). nat_eq q.number n) kept.reading.frames p known-so in
      let own : IsEntryOf s task.path spawn.0 = spawn_own s task.path i spawn.0 spawn.1 in
      let at : point s p ≡ now = point_is s p has.is.alone.stands.left in
      let below = has.core.queues.fit.all task.path i spawn.0 spawn.1 (past_done s kept.reading place.index p spawn.0 place.stands own (omega (arith, at, spawn.2))) in
      record {
        number = below.1.number;
        progress = below.1;
        known = has.core.queues.fit.numbers below.0 below.1 below.2;
        own = below.3;
        all = no-entry-left below.0 i below.1 below.2 below.3 ∙ ap (λ q. length (times s q)) below.3;
      }

  -- so of a child a fault is booked where the elision leaves one
  same-failed : (i : ℕ) → i < children_by s task.path task.done → has_failed kept.faults (task.path ++ i ∷ []) ≡ has_failed (outcome G plan).faults (task.path ++ i ∷ [])
  same-failed i less =
      let path = task.path ++ i ∷ [] in
      failed-alike kept.faults (outcome G plan).faults path
      (λ is.
      let found = failed-from kept.faults path is in
      let there = fault-booked G plan found.1 (has.core.booked.only found.0 found.1 found.2).0 in
      subst (λ q. has_failed (outcome G plan).faults q ≡ true) found.3 (failed-at (outcome G plan).faults there.0 found.1 there.1))
      (λ is.
      let found = failed-from (outcome G plan).faults path is in
      let there = has.core.booked.all found.1 (fault-of G plan found.0 found.1 found.2) (subst (HasEnded G plan kept.reading) (sym found.3) (child-ended i less)) in
      subst (λ q. has_failed kept.faults q ≡ true) found.3 (failed-at kept.faults there.0 found.1 there.1))

  -- the frame has as many failed children as its task
  caught-so : f.failed ≡ top.failed
  caught-so =
      let from = children_by_sync s task.path task.done in
      has.core.counted.counts n f has.of.live
      ∙ ap (λ q. failed_children kept.faults q (children_by_sync s q f.done) (children_by s q f.done)) has.of.path
      ∙ ap (λ j. failed_children kept.faults task.path (children_by_sync s task.path j) (children_by s task.path j)) (done-is G kept (asking mid ask.Sync) has)
      ∙ count-same kept.faults (outcome G plan).faults task.path from (children_by s task.path task.done) (λ i late early. same-failed i early)
      ∙ ap (failed_children (outcome G plan).faults task.path from) (sym children-so)
      ∙ sym (failed-counted G plan task.path task.done top has.is.alone.stands)

  module _ (begun : MayBegin kept n) (goes : Syncs G plan task.path task.done top mid.local) (after : KeptView) (next : FrameAtCoreView B L) (failed : ℕ)
      (failed_is : (frame : LiveFrame) → live_at kept.live n ≡ Some frame → failed ≡ frame.failed)
      (next_is : next ≡ record { task = one_on mid.task; stage = Ready mid.local (answer.Caught failed) })
      (only : IsOnlyLive kept.live after.live n (option_map (synced_at (task.done + 1)) (live_at kept.live n))) where
    pub synced-so : after ≡ record kept { reading = gone_on_by kept.reading n 1; live = after.live } → IsStep G kept after mid.task (step.Runs next)
    synced-so is =
        subst (λ x. IsStep G kept after mid.task (step.Runs x)) (sym next_is)
        (runs-synced G kept mid ask.Sync has begun (answer.Caught failed) deed.Sync (synced (after_next top mid.local)) goes
        (record { local_is = refl; fuel = refl; answer_is = ap answer.Caught (failed_is f has.of.live ∙ caught-so); holdings = refl; children = refl })
        after (subst (λ o. IsOnlyLive kept.live after.live n (option_map (synced_at (task.done + 1)) o)) has.of.live only) is refl alone)
