-- A frame at the core that goes on by its next step.
use Rattle.std.proofs.Common.{◌≡◌, ◌≢◌, inl, inr, ℕ, ◌+◌, ◌-◌, true, false, Option, Some, None, IsSome, map, refl, sym, ap, subst, ◌∙◌, arith}
use Rattle.std.proofs.lemmas.Bool.{cases_eq, false≢true}
use Rattle.std.proofs.lemmas.Option.{same_Some}
use Rattle.std.specs.Option.{option_map}
use Rattle.std.specs.Prelude.{slice_get}
use Rattle.swan_model.specs.declared.body.Answer.{Answer}
use Rattle.swan_model.specs.declared.body.Ask.{Ask}
use Rattle.swan_model.specs.declared.body.Body.{Ghosts}
use Rattle.swan_model.specs.declared.origin.Origin.{Origin}
use Rattle.swan_model.specs.declared.plan.Plan.{Plan}
use Rattle.swan_model.specs.declared.rights.Mode.TheVariants.{Out}
use Rattle.swan_model.specs.declared.script.Deed.{Deed}
use Rattle.swan_model.specs.declared.script.Deed.TheVariants as deed
use Rattle.swan_model.specs.declared.script.Script.{Script}
use Rattle.swan_model.specs.declared.value.Value.{Value}
use Rattle.swan_model.specs.Granted.{is_spawn}
use Rattle.swan_model.specs.Lawful.{IsLawful}
use Rattle.swan_model.specs.QueueState.{ActiveFrame, active, after_deed, with_deed}
use Rattle.swan_model.specs.Rights.{allows}
use Rattle.swan_model.specs.Script.{script}
use Rattle.swan_model.specs.SerialState.{Activation, Holding}
use Rattle.swan_model.specs.SerialStep.{after_next, with_answer}
use Rattle.swan_model.specs.SerialTime.{Progress, frame_of, is_queue_deed}
use Rattle.swan_model.specs.TrueFrames.{StandsAt, give_in, gives_at}
use Rattle.swan_model.specs.Versions.{Placed, after_write, placed_at}
use Rattle.swan_model.specs.VersionsFollow.{is_object_deed}
use Rattle.swan_model.proofs.Elements.{some_is}
use Rattle.queues.specs.Asks.{MayDo}
use Rattle.swan_model.specs.Readings.{gone_on_by}
use Rattle.queues.specs.Tree.{IsOnlyFrame}
use Rattle.queues.proofs.ActiveAfter.{one_changed}
use Rattle.serial_elision.specs.TaskSteps.{GoesOnAs, IsAsking}
use Rattle.serial_elision.proofs.Lawful as elision
use Rattle.serial_elision.proofs.TaskSteps.{goes_on_next, stands-one}
use Rattle.task_frames.specs.declared.stage.Stage.TheVariants.{Ready}
use Rattle.task_frames.specs.declared.step.Step.TheVariants as step
use Rattle.task_frames.specs.Cores.{AreBooked, AreCounted, AreFrames, AreObjects, AreQueues, FrameAtCoreView, HasIt, IsAtCore, IsCore, IsAsRead, KeptView, MayBegin, Mid, asking, one_on}
use Rattle.task_frames.specs.Frames.{TaskView}
use Rattle.task_frames.specs.Records.{AreGivenSo, HasNoLiveChild, IsOnlyLive, LiveFrame, NumberedFrames, as_given, come_at, come_to, live_at, synced_at}
use Rattle.task_frames.specs.Resumes.{IsStep}
use Rattle.task_frames.proofs.Booked as booked
use Rattle.task_frames.proofs.Counted as counted
use Rattle.task_frames.proofs.Failing.{still-one}
use Rattle.task_frames.proofs.Live as live
use Rattle.task_frames.proofs.Lives.{come-only}
use Rattle.task_frames.proofs.Objects as objects
use Rattle.task_frames.proofs.Queues as queues

-- ---- a frame at the core, as the core has it

module _ {B L : Type 0} (G : Ghosts B L) (kept : KeptView) (frame : FrameAtCoreView B L) (has : HasIt G kept frame) where
  abbrev task : TaskView B L
  task = frame.task

  abbrev s : Script
  s = script G task.plan

  abbrev here : LiveFrame
  here = has.of.frame

  pub live-here : IsSome (live_at kept.live task.number)
  live-here = some_is (live_at kept.live task.number) here has.of.live

  abbrev top : Activation L
  top = has.is.alone.top

  abbrev p : Progress
  p = record { number = task.number; path = task.path; done = task.done }

  pub lawful : IsLawful s
  lawful = elision.lawful G task.plan has.is.plan.lists

  pub done-is : here.done ≡ task.done
  done-is = has.of.done ∙ has.is.since

  -- the reading has it
  pub known : frame_of kept.reading task.number ≡ Some p
  known =
      let told = has.core.frames.told task.number here has.of.live in
      told.progress ∙ ap {B = Option Progress} (λ path. Some (record { number = task.number; path = path; done = here.done })) has.of.path
      ∙ ap {B = Option Progress} (λ k. Some (record { number = task.number; path = task.path; done = k })) done-is

  -- what it holds, by name
  pub told-now : IsAsRead G task.plan kept.reading task.number (record { parent = here.parent; path = task.path; done = task.done; holdings = task.holdings; failed = here.failed })
  told-now =
      let told = has.core.frames.told task.number here has.of.live in
      subst (λ hs. IsAsRead G task.plan kept.reading task.number (record { parent = here.parent; path = task.path; done = task.done; holdings = hs; failed = here.failed })) has.of.holdings
      (subst (λ k. IsAsRead G task.plan kept.reading task.number (record { parent = here.parent; path = task.path; done = k; holdings = here.holdings; failed = here.failed })) done-is
      (subst (λ path. IsAsRead G task.plan kept.reading task.number (record { parent = here.parent; path = path; done = here.done; holdings = here.holdings; failed = here.failed })) has.of.path told))

  pub named : map (give_in kept.reading) task.holdings ≡ gives_at G task.plan task.path task.done top
  named =
      let told = told-now in
      told.named ∙ ap (gives_at G task.plan task.path task.done) (stands-one G task.plan task.path task.done told.top top told.stands has.is.alone.stands)

  -- it is active
  pub own : (a : ActiveFrame) × (active kept.state task.number ≡ Some a) × (a.parent ≡ here.parent)
  own = has.core.frames.active_is task.number here has.of.live

-- ---- a step that leaves it with what it holds

-- The activation at its next step: it has this local, is told this, and has paid for the step. It holds the same, and has the same
-- number of children.
pub record GoesWith {L : Type 0} (was : Activation L) (local : L) (said : Answer) (next : Activation L) : Type 0 where
  pub local_is : local ≡ next.local
  pub fuel : next.fuel ≡ was.fuel - 1
  pub answer_is : said ≡ next.answer
  pub holdings : next.holdings ≡ was.holdings
  pub children : next.children ≡ was.children

-- where it is told something, and nothing else
pub goes-told : {L : Type 0} (was : Activation L) (local : L) (said : Answer) → GoesWith was local said (with_answer (after_next was local) said)
goes-told was local said = record { local_is = refl; fuel = refl; answer_is = refl; holdings = refl; children = refl }

module _ {B L : Type 0} (G : Ghosts B L) (kept : KeptView) (mid : Mid B L) (asks : Ask L) (has : HasIt G kept (asking mid asks)) (begun : MayBegin kept mid.task.number) where
  pub is-asking : IsAsking G mid.task.plan mid.task.path mid.task.done has.is.alone.top mid.local asks
  is-asking = record { stands = has.is.alone.stands; paid = has.is.alone.stage.0; said = has.is.alone.stage.3 }

  module _ (said : Answer) (does : Deed) (next : Activation L) (goes : GoesOnAs G mid.task.plan mid.task.path mid.task.done has.is.alone.top next does) (so : GoesWith has.is.alone.top mid.local said next) where
    pub stands-next : StandsAt G mid.task.plan mid.task.path (mid.task.done + 1) next
    stands-next = goes_on_next G mid.task.plan mid.task.path mid.task.done has.is.alone.top has.is.alone.stands next goes.store goes.effect

    pub is-next : IsAtCore G (record { task = one_on mid.task; stage = Ready mid.local said })
    is-next =
        let within = has.is.within in
        let paid = has.is.alone.stage.0 in
        record {
          plan = has.is.plan;
          alone = record {
            top = next;
            stands = stands-next;
            stage = (so.local_is, has.is.alone.stage.1 ∙ sym so.fuel, so.answer_is);
            modes = has.is.alone.modes ∙ ap (map (λ (h : Holding). h.mode)) (sym so.holdings);
            children = has.is.alone.children ∙ sym so.children;
          };
          within = record { holds = let a = within.holds in omega (arith, a, paid, so.fuel); spawned = let a = within.spawned in omega (arith, a, paid, so.fuel) };
          since = refl;
        }

    module _ (after : KeptView) (g : LiveFrame) (own_path : g.path ≡ mid.task.path) (own_done : g.done ≡ mid.task.done + 1) (own_holdings : g.holdings ≡ mid.task.holdings)
        (only : IsOnlyLive kept.live after.live mid.task.number (Some g))
        (name : after.name ≡ kept.name) (reading : after.reading ≡ gone_on_by kept.reading mid.task.number 1) (count : after.frames ≡ kept.frames) (faults : after.faults ≡ kept.faults)
        (queues : AreQueues (script G mid.task.plan) (gone_on_by kept.reading mid.task.number 1) after.state)
        (objects : AreObjects (script G mid.task.plan) (gone_on_by kept.reading mid.task.number 1) after.versions after.live after.objects)
        (frames : AreFrames G mid.task.plan (gone_on_by kept.reading mid.task.number 1) after.state after.live kept.frames)
        (counted : AreCounted (script G mid.task.plan) after.live kept.faults)
        (b : ActiveFrame) (changed : IsOnlyFrame kept.state after.state mid.task.number (Some b)) (back : b.lent ≡ None) (no_spawn : is_spawn does ≡ false)
        (childless : does ≡ deed.Sync → HasNoLiveChild kept.live mid.task.number) where
      core-next : IsCore G mid.task.plan after
      core-next = record {
        sound = has.core.sound;
        name = name ∙ has.core.name;
        queues = subst (λ r. AreQueues (script G mid.task.plan) r after.state) (sym reading) queues;
        objects = subst (λ r. AreObjects (script G mid.task.plan) r after.versions after.live after.objects) (sym reading) objects;
        frames = subst (λ r. AreFrames G mid.task.plan r after.state after.live after.frames) (sym reading)
            (subst (AreFrames G mid.task.plan (gone_on_by kept.reading mid.task.number 1) after.state after.live) (sym count) frames);
        booked = subst (λ r. AreBooked G mid.task.plan r after.faults) (sym reading)
            (subst (AreBooked G mid.task.plan (gone_on_by kept.reading mid.task.number 1)) (sym faults)
            (booked.goes G mid.task.plan kept.reading mid.task.number mid.task.path mid.task.done (known G kept (asking mid asks) has) 1 kept.faults stands-next.left has.core.booked));
        counted = subst (AreCounted (script G mid.task.plan) after.live) (sym faults) counted;
      }

      has-next : HasIt G after (record { task = one_on mid.task; stage = Ready mid.local said })
      has-next = record {
        core = core-next;
        is = is-next;
        of = record { frame = g; live = only.changed; path = own_path; done = own_done; holdings = own_holdings };
        back = λ c live_now. ap (λ (x : ActiveFrame). x.lent) (same_Some c b (sym live_now ∙ changed.changed)) ∙ back;
      }

      pub runs : IsStep G kept after mid.task (step.Runs (record { task = one_on mid.task; stage = Ready mid.local said }))
      runs = (
        has-next,
        refl,
        ap is_spawn goes.deed ∙ no_spawn,
        record { live = only.others; active_are = changed.others },
        λ is. childless (sym goes.deed ∙ is),
        begun,
        omega (arith, count),
      )

    abbrev n : ℕ
    n = mid.task.number

    abbrev plan : Plan B L
    plan = mid.task.plan

    abbrev told-by : Script
    told-by = script G plan

    abbrev f : LiveFrame
    f = has.of.frame

    f-done : f.done ≡ mid.task.done
    f-done = done-is G kept (asking mid asks) has

    abbrev a : ActiveFrame
    a = (own G kept (asking mid asks) has).0

    own-live : active kept.state n ≡ Some a
    own-live = (own G kept (asking mid asks) has).1

    -- its failed children, where it neither spawns nor takes a Sync
    still-counted : (then_live : NumberedFrames) → IsOnlyLive kept.live then_live n (Some (record f { done = mid.task.done + 1 })) → is_spawn does ≡ false → does ≢ deed.Sync → AreCounted told-by then_live kept.faults
    still-counted then_live only no_spawn no_wait =
        counted.goes told-by kept.live kept.faults has.core.counted then_live n f has.of.live (record f { done = mid.task.done + 1 }) only refl refl mid.task.path mid.task.done has.of.path f-done refl
        (still-one told-by mid.task.path mid.task.done does goes.deed no_spawn no_wait)

    -- a step of which neither the queues nor the objects hear
    pub runs-quiet : (after : KeptView) → IsOnlyLive kept.live after.live n (Some (record has.of.frame { done = mid.task.done + 1 }))
        → after ≡ record kept { reading = gone_on_by kept.reading n 1; live = after.live }
        → is_queue_deed does ≡ false → is_object_deed does ≡ false → is_spawn does ≡ false → does ≢ deed.Sync
        → IsStep G kept after mid.task (step.Runs (record { task = one_on mid.task; stage = Ready mid.local said }))
    runs-quiet after only is no_queue no_object no_spawn no_wait =
        subst (λ k. IsStep G kept k mid.task (step.Runs (record { task = one_on mid.task; stage = Ready mid.local said }))) (sym is)
        (runs (record kept { reading = gone_on_by kept.reading n 1; live = after.live }) (record f { done = mid.task.done + 1 }) has.of.path refl has.of.holdings only refl refl refl refl
        (queues.others told-by (lawful G kept (asking mid asks) has) kept.reading kept.state has.core.queues n mid.task.path mid.task.done (known G kept (asking mid asks) has)
        does goes.deed no_queue stands-next.left)
        (objects.others told-by (lawful G kept (asking mid asks) has) kept.reading kept.versions kept.live kept.objects has.core.objects n mid.task.path mid.task.done (known G kept (asking mid asks) has)
        f has.of.live after.live does goes.deed has.is.alone.stands.left no_object no_spawn begun.ready only)
        (live.goes G plan kept.reading kept.state kept.live kept.frames has.core.frames n f has.of.live a own-live after.live mid.task.path mid.task.done has.is.alone.top next
        has.of.path f-done has.is.alone.stands stands-next goes.names (begun.turn a own-live) only)
        (still-counted after.live only no_spawn no_wait)
        a (record { changed = own-live; others = λ m other. refl }) (has.back a own-live) no_spawn (λ is_wait. absurd (no_wait is_wait)))

    -- a Sync, where no child is live
    pub runs-synced : (after : KeptView) → IsOnlyLive kept.live after.live n (Some (synced_at (mid.task.done + 1) has.of.frame))
        → after ≡ record kept { reading = gone_on_by kept.reading n 1; live = after.live } → does ≡ deed.Sync → HasNoLiveChild kept.live n
        → IsStep G kept after mid.task (step.Runs (record { task = one_on mid.task; stage = Ready mid.local said }))
    runs-synced after only is wait alone =
        subst (λ k. IsStep G kept k mid.task (step.Runs (record { task = one_on mid.task; stage = Ready mid.local said }))) (sym is)
        (runs (record kept { reading = gone_on_by kept.reading n 1; live = after.live }) (synced_at (mid.task.done + 1) f) has.of.path refl has.of.holdings only refl refl refl refl
        (queues.others told-by (lawful G kept (asking mid asks) has) kept.reading kept.state has.core.queues n mid.task.path mid.task.done (known G kept (asking mid asks) has)
        does goes.deed (ap is_queue_deed wait) stands-next.left)
        (objects.as-before told-by (gone_on_by kept.reading n 1) kept.versions then-live after.live kept.objects given-so
        (objects.others told-by (lawful G kept (asking mid asks) has) kept.reading kept.versions kept.live kept.objects has.core.objects n mid.task.path mid.task.done (known G kept (asking mid asks) has)
        f has.of.live then-live does goes.deed has.is.alone.stands.left (ap is_object_deed wait) (ap is_spawn wait) begun.ready only-then))
        (live.as-before G plan (gone_on_by kept.reading n 1) kept.state then-live kept.frames
        (live.goes G plan kept.reading kept.state kept.live kept.frames has.core.frames n f has.of.live a own-live then-live mid.task.path mid.task.done has.is.alone.top next
        has.of.path f-done has.is.alone.stands stands-next goes.names (begun.turn a own-live) only-then)
        after.live given-so)
        (counted.synced told-by kept.live kept.faults has.core.counted after.live n f has.of.live mid.task.path mid.task.done has.of.path f-done (goes.deed ∙ wait) alone only)
        a (record { changed = own-live; others = λ m other. refl }) (has.back a own-live) (ap is_spawn wait) (λ is_wait. alone))
      where
        -- the record in which it has its failed children still
        then-live : NumberedFrames
        then-live = come_at kept.live n (mid.task.done + 1) (live_at kept.live n)

        only-then : IsOnlyLive kept.live then-live n (Some (record f { done = mid.task.done + 1 }))
        only-then = subst (λ o. IsOnlyLive kept.live then-live n (option_map (come_to (mid.task.done + 1)) o)) has.of.live (come-only kept.live then-live n (mid.task.done + 1) (live_at kept.live n) refl refl)

        given-so : AreGivenSo then-live after.live
        given-so m = elim (cases_eq m n) [
          | inl own_is ↦ ap (λ j. option_map as_given (live_at after.live j)) own_is ∙ ap (option_map as_given) only.changed ∙ sym (ap (λ j. option_map as_given (live_at then-live j)) own_is ∙ ap (option_map as_given) only-then.changed)
          | inr other ↦ ap (option_map as_given) (only.others m other ∙ sym (only-then.others m other))
        ]

    -- a write of an object
    pub runs-written : (after : KeptView) (place : ℕ) (value : Value) (origin : Origin) (object : Placed) → IsOnlyLive kept.live after.live n (Some (record has.of.frame { done = mid.task.done + 1 }))
        → after ≡ record kept { versions = after_write kept.versions n place value; reading = gone_on_by kept.reading n 1; live = after.live }
        → does ≡ deed.Write origin value → placed_at kept.versions n place ≡ Some object → allows object.mode Out ≡ true → slice_get kept.reading.objects object.object ≡ Some origin
        → IsStep G kept after mid.task (step.Runs (record { task = one_on mid.task; stage = Ready mid.local said }))
    runs-written after place value origin object only is written stands may named =
        let no_wait : does ≢ deed.Sync = λ same. let both : deed.Write origin value ≡ deed.Sync = sym written ∙ same in absurd (cc) in
        subst (λ k. IsStep G kept k mid.task (step.Runs (record { task = one_on mid.task; stage = Ready mid.local said }))) (sym is)
        (runs (record kept { versions = after_write kept.versions n place value; reading = gone_on_by kept.reading n 1; live = after.live }) (record f { done = mid.task.done + 1 }) has.of.path refl has.of.holdings
        only refl refl refl refl
        (queues.others told-by (lawful G kept (asking mid asks) has) kept.reading kept.state has.core.queues n mid.task.path mid.task.done (known G kept (asking mid asks) has)
        does goes.deed (ap is_queue_deed written) stands-next.left)
        (objects.written told-by (lawful G kept (asking mid asks) has) kept.reading kept.versions kept.live kept.objects has.core.objects n mid.task.path mid.task.done (known G kept (asking mid asks) has)
        f has.of.live after.live place value object origin (after_write kept.versions n place value) (goes.deed ∙ written) has.is.alone.stands.left stands may named refl begun.ready only)
        (live.goes G plan kept.reading kept.state kept.live kept.frames has.core.frames n f has.of.live a own-live after.live mid.task.path mid.task.done has.is.alone.top next
        has.of.path f-done has.is.alone.stands stands-next goes.names (begun.turn a own-live) only)
        (still-counted after.live only (ap is_spawn written) no_wait)
        a (record { changed = own-live; others = λ m other. refl }) (has.back a own-live) (ap is_spawn written) (λ same. absurd (no_wait same)))

    -- a push, a pop or a test
    pub runs-used : (after : KeptView) → IsOnlyLive kept.live after.live n (Some (record has.of.frame { done = mid.task.done + 1 })) → MayDo kept.state n
        → after ≡ record kept { name = kept.name; run = kept.run; state = after_deed kept.state n; reading = gone_on_by kept.reading n 1; live = after.live }
        → is_queue_deed does ≡ true → is_object_deed does ≡ false → is_spawn does ≡ false → does ≢ deed.MakeQueue
        → IsStep G kept after mid.task (step.Runs (record { task = one_on mid.task; stage = Ready mid.local said }))
    runs-used after only act is queue no_object no_spawn no_making =
        let no_wait : does ≢ deed.Sync = λ same. absurd (false≢true (sym (ap is_queue_deed same) ∙ queue)) in
        subst (λ k. IsStep G kept k mid.task (step.Runs (record { task = one_on mid.task; stage = Ready mid.local said }))) (sym is)
        (runs (record kept { state = after_deed kept.state n; reading = gone_on_by kept.reading n 1; live = after.live }) (record f { done = mid.task.done + 1 }) has.of.path refl has.of.holdings only refl refl refl refl
        (queues.used told-by (lawful G kept (asking mid asks) has) kept.reading kept.state has.core.queues n mid.task.path mid.task.done (known G kept (asking mid asks) has)
        does (after_deed kept.state n) goes.deed queue no_spawn no_making stands-next.left act refl)
        (objects.others told-by (lawful G kept (asking mid asks) has) kept.reading kept.versions kept.live kept.objects has.core.objects n mid.task.path mid.task.done (known G kept (asking mid asks) has)
        f has.of.live after.live does goes.deed has.is.alone.stands.left no_object no_spawn begun.ready only)
        (live.goes-used G plan kept.reading kept.state kept.live kept.frames has.core.frames n f has.of.live a own-live after.live has.core.queues.tree act
        mid.task.path mid.task.done has.is.alone.top next (after_deed kept.state n) has.of.path f-done has.is.alone.stands stands-next goes.names (begun.turn a own-live) refl only)
        (still-counted after.live only no_spawn no_wait)
        (with_deed a) (one_changed kept.state n with_deed (λ x. refl) a own-live) (has.back a own-live) no_spawn (λ same. absurd (no_wait same)))
