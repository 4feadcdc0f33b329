-- A frame that comes back to the core, and one that the core gives.
use Rattle.std.proofs.Common.{◌≡◌, ◌≢◌, ℕ, ◌+◌, ◌-◌, false, List, Option, Some, None, map, refl, sym, ap, subst, ◌∙◌, arith}
use Rattle.std.proofs.lemmas.Option.{same_Some}
use Rattle.std.specs.Option.{option_map}
use Rattle.std.specs.Prelude.{slice_get}
use Rattle.swan_model.specs.declared.body.Body.{Ghosts}
use Rattle.swan_model.specs.declared.script.Script.{Script}
use Rattle.swan_model.specs.Lawful.{IsLawful}
use Rattle.swan_model.specs.QueueFollows.{AreByEnds}
use Rattle.swan_model.specs.QueueState.{ActiveFrame, LentEnd, QueueState, active, after_back, after_lend}
use Rattle.swan_model.specs.Readings.{gone_on_by}
use Rattle.swan_model.specs.Script.{script}
use Rattle.swan_model.specs.Segments.{segment_queue}
use Rattle.swan_model.specs.SerialTime.{Progress, Reading, frame_of}
use Rattle.swan_model.specs.TrueFrames.{IsTrueFrame, StandsAt, give_in, gives_at}
use Rattle.queues.specs.Asks.{LentEnds, OnNext}
use Rattle.queues.specs.Reads.{deeds_among}
use Rattle.queues.specs.Tells.{OnQueue}
use Rattle.queues.specs.Tree.{IsOnlyFrame}
use Rattle.queues.proofs.ActiveAfter.{one_changed, one_goes_on}
use Rattle.serial_elision.proofs.Lawful as elision
use Rattle.task_frames.specs.declared.stage.Stage.{Stage}
use Rattle.task_frames.specs.Cores.{CoreView, FrameAtCoreView, HasIt, IsCore, IsCoreView, IsGiven, IsOf, KeptView, after_coming_in}
use Rattle.task_frames.specs.Frames.{AreEndsOf, AreLocal, FrameView, IsAnyFrame, IsFrame, TaskView, state_of}
use Rattle.task_frames.specs.Records.{IsOnlyLive, LiveFrame, NumberedFrames, come_at, come_to, live_at}
use Rattle.task_frames.specs.Resumes.{EndsOf, HasLent, IsGivenAs, OthersStay}
use Rattle.task_frames.proofs.Booked as booked
use Rattle.task_frames.proofs.Counted as counted
use Rattle.task_frames.proofs.Failing.{still-local}
use Rattle.task_frames.proofs.EndsLent.{ends-are}
use Rattle.task_frames.proofs.Given.{with-state}
use Rattle.task_frames.proofs.Goings.{lawful, own}
use Rattle.task_frames.proofs.Live as live
use Rattle.task_frames.proofs.LocalNames.{local-names}
use Rattle.task_frames.proofs.Objects as objects
use Rattle.task_frames.proofs.Queues as queues

-- ---- it comes back

module _ {B L : Type 0} (G : Ghosts B L) (kept : KeptView) (task : TaskView B L) (core : IsCore G task.plan kept) (of : IsOf kept task) where
  abbrev s : Script
  s = script G task.plan

  abbrev f : LiveFrame
  f = of.frame

  pub active-so : (a : ActiveFrame) × (active kept.state task.number ≡ Some a) × (a.parent ≡ f.parent)
  active-so = core.frames.active_is task.number f of.live

  -- the reading has it as it was given
  read-so : frame_of kept.reading task.number ≡ Some (record { number = task.number; path = task.path; done = task.since })
  read-so =
      let told = core.frames.told task.number f of.live in
      told.progress ∙ ap {B = Option Progress} (λ path. Some (record { number = task.number; path = path; done = f.done })) of.path
      ∙ ap {B = Option Progress} (λ k. Some (record { number = task.number; path = task.path; done = k })) of.done

  -- its path is that of the active frame
  pub path-so : (own : ActiveFrame) → active kept.state task.number ≡ Some own → task.path ≡ own.path
  path-so own live_now =
      let fit = queues.fit-now s (elision.lawful G task.plan core.sound.lists) kept.reading kept.state core.queues task.number task.path task.since read-so own live_now in
      fit.path

  module _ (stage : Stage L) (name : Option Script) (ends : LentEnds) (is : IsFrame G task name ends stage) where
    abbrev many : ℕ
    many = task.done - task.since

    sum : task.since + many ≡ task.done
    sum = let order = is.since.order in omega (arith, order)

    -- it is true by the reading, with the names of what it holds
    pub true-so : IsTrueFrame G task.plan kept.reading (state_of task stage)
    true-so =
        let told = core.frames.told task.number f of.live in
        let was : StandsAt G task.plan task.path task.since told.top =
        subst (λ path. StandsAt G task.plan path task.since told.top) of.path (subst (λ k. StandsAt G task.plan f.path k told.top) of.done told.stands) in
        let named : map (give_in kept.reading) task.holdings ≡ gives_at G task.plan task.path task.since told.top =
        subst (λ hs. map (give_in kept.reading) hs ≡ gives_at G task.plan task.path task.since told.top) of.holdings
        (subst (λ path. map (give_in kept.reading) f.holdings ≡ gives_at G task.plan path task.since told.top) of.path
        (subst (λ k. map (give_in kept.reading) f.holdings ≡ gives_at G task.plan f.path k told.top) of.done told.named)) in
        let now : StandsAt G task.plan task.path (task.since + many) is.alone.top = subst (λ k. StandsAt G task.plan task.path k is.alone.top) (sym sum) is.alone.stands in
        let stays = local-names G task.plan core.sound.lists task.path many task.since told.top is.alone.top was now (subst (AreLocal s task.path task.since) (sym sum) is.since) in
        record { alone = is.alone; named = named ∙ sym stays ∙ ap (λ k. gives_at G task.plan task.path k is.alone.top) sum }

    module _ (after : KeptView) (only : IsOnlyLive kept.live after.live task.number (Some (come_to task.done f)))
        (after_is : after ≡ record kept { state = after_back kept.state task.number ends.deeds; reading = gone_on_by kept.reading task.number many; live = after.live })
        (by_ends : IsLawful s → AreByEnds s active-so.0.path active-so.0.deeds ends.deeds) where
      abbrev then-kept : KeptView
      then-kept = record kept { state = after_back kept.state task.number ends.deeds; reading = gone_on_by kept.reading task.number many; live = after.live }

      at-now : StandsAt G task.plan task.path (task.since + many) is.alone.top
      at-now = subst (λ k. StandsAt G task.plan task.path k is.alone.top) (sym sum) is.alone.stands

      local-now : AreLocal s task.path task.since (task.since + many)
      local-now = subst (AreLocal s task.path task.since) (sym sum) is.since

      only-now : IsOnlyLive kept.live after.live task.number (Some (record f { done = task.since + many }))
      only-now = subst (λ k. IsOnlyLive kept.live after.live task.number (Some (record f { done = k }))) (sym sum) only

      first-now : task.since ≡ 0 → many ≡ 0
      first-now none = let undone = is.begun none in omega (arith, undone)

      deeds-now : ends.deeds ≡ deeds_among s task.path (task.since + many)
      deeds-now = is.lent.deeds ∙ ap (deeds_among s task.path) (sym sum)

      core-now : IsCore G task.plan then-kept
      core-now =
          let law = elision.lawful G task.plan core.sound.lists in
          let told = core.frames.told task.number f of.live in
          let was : StandsAt G task.plan task.path task.since told.top =
          subst (λ path. StandsAt G task.plan path task.since told.top) of.path (subst (λ k. StandsAt G task.plan f.path k told.top) of.done told.stands) in
          record {
            sound = core.sound;
            name = core.name;
            queues = queues.back s law kept.reading kept.state core.queues task.number task.path task.since read-so active-so.0 many (after_back kept.state task.number ends.deeds)
                active-so.1 at-now.left
                (subst (λ path. AreByEnds s path active-so.0.deeds (deeds_among s task.path (task.since + many))) (sym (path-so active-so.0 active-so.1))
                (subst (AreByEnds s active-so.0.path active-so.0.deeds) deeds-now (by_ends law)))
                (ap (after_back kept.state task.number) deeds-now);
            objects = objects.back s law kept.reading kept.versions kept.live kept.objects core.objects task.number task.path task.since read-so f of.live after.live many of.done only-now first-now local-now
                (let left = at-now.left in omega (arith, left));
            frames = live.back G task.plan kept.reading kept.state kept.live kept.frames core.frames task.number f of.live active-so.0 active-so.1 after.live core.sound.lists core.queues.tree many task.path task.since
                ends.deeds told.top is.alone.top (after_back kept.state task.number ends.deeds) of.path of.done was at-now local-now first-now refl only-now;
            booked = booked.goes G task.plan kept.reading task.number task.path task.since read-so many kept.faults at-now.left core.booked;
            counted = counted.goes s kept.live kept.faults core.counted after.live task.number f of.live (record f { done = task.since + many }) only-now refl refl task.path task.since of.path of.done refl
                (still-local s task.path task.since many local-now);
          }

      changed-now : IsOnlyFrame kept.state (after_back kept.state task.number ends.deeds) task.number (Some (record active-so.0 { deeds = ends.deeds; lent = None }))
      changed-now = one_changed kept.state task.number (λ x. record x { deeds = ends.deeds; lent = None }) (λ x. refl) active-so.0 active-so.1

      has-now : HasIt G then-kept (record { task = record task { since = task.done }; stage = stage })
      has-now = record {
        core = core-now;
        is = record { plan = is.plan; alone = is.alone; within = is.within; since = refl };
        of = record { frame = come_to task.done f; live = only.changed; path = of.path; done = refl; holdings = of.holdings };
        back = λ c now. ap (λ (x : ActiveFrame). x.lent) (same_Some c (record active-so.0 { deeds = ends.deeds; lent = None }) (sym now ∙ changed-now.changed));
      }

      pub taken : HasIt G after (record { task = record task { since = task.done }; stage = stage })
      taken = subst (λ k. HasIt G k (record { task = record task { since = task.done }; stage = stage })) (sym after_is) has-now

      pub taken-others : OthersStay kept after (λ other. other ≢ task.number)
      taken-others = subst (λ k. OthersStay kept k (λ other. other ≢ task.number)) (sym after_is) (record { live = only.others; active_are = changed-now.others })

-- ---- it is given

module _ {B L : Type 0} (G : Ghosts B L) (kept : KeptView) (at : FrameAtCoreView B L) (has : HasIt G kept at) where
  abbrev a : ActiveFrame
  a = (own G kept at has).0

  a-live : active kept.state at.task.number ≡ Some a
  a-live = (own G kept at has).1

  module _ (after : KeptView) (list : List LentEnd) (after_is : after ≡ record kept { state = after_lend kept.state a list }) where
    pub given-core : IsCore G at.task.plan after
    given-core = subst (IsCore G at.task.plan) (sym after_is) (record {
      sound = has.core.sound;
      name = has.core.name;
      queues = queues.lent (script G at.task.plan) kept.reading kept.state has.core.queues at.task.number a list (after_lend kept.state a list) a-live refl;
      objects = has.core.objects;
      frames = live.lent G at.task.plan kept.reading kept.state kept.live kept.frames has.core.frames has.core.queues.tree at.task.number has.of.frame has.of.live a a-live list (after_lend kept.state a list) refl;
      booked = has.core.booked;
      counted = has.core.counted;
    })

    pub given-lent : HasLent kept after at.task.number
    given-lent = record { own = a; active_is = a-live; list = list; after_is = after_is }

    module _ (name : Option Script) (ends : LentEnds) (list_is : ends.list ≡ list) (named : name ≡ kept.name)
        (are : ends ≡ record { frame = at.task.number; path = a.path; before = a.deeds; deeds = a.deeds; list = ends.list }) where
      pub given-so-far : IsGiven after at.task ends
      given-so-far =
          record {
            of = record {
              frame = has.of.frame;
              live = ap (λ (k : KeptView). live_at k.live at.task.number) after_is ∙ has.of.live;
              path = has.of.path;
              done = has.of.done;
              holdings = has.of.holdings;
            };
            lent = record {
              frame = record a { lent = Some (record { deeds = a.deeds; ends = list }) };
              live = ap (λ (k : KeptView). active k.state at.task.number) after_is ∙ lent-there;
              lent = record { deeds = a.deeds; ends = list };
              has = refl;
              own = ap (λ (e : LentEnds). e.frame) are;
              deeds = ap (λ (e : LentEnds). e.before) are;
              list = list_is;
            };
          }
        where
          lent-there : active (after_lend kept.state a list) at.task.number ≡ Some (record a { lent = Some (record { deeds = a.deeds; ends = list }) })
          lent-there = (one_goes_on kept.state at.task.number a (λ x. record x { lent = Some (record { deeds = a.deeds; ends = list }) }) (λ x. refl) a-live).changed

      pub given-ends : ((i : ℕ) (end : LentEnd) → slice_get ends.list i ≡ Some end → OnQueue kept.name kept.state end.queue (λ s origin. segment_queue s end.tag ≡ Some origin)) → AreEndsOf G at.task name ends
      given-ends segments =
          ends-are G at.task (lawful G kept at has) kept.reading kept.state has.core.queues has.of.frame (has.core.frames.told at.task.number has.of.frame has.of.live) has.of.path
          (has.of.done ∙ has.is.since) has.is.since has.of.holdings a a-live name ends (named ∙ has.core.name) are
          (λ i end at_i. subst (λ x. OnQueue x kept.state end.queue (λ s origin. segment_queue s end.tag ≡ Some origin)) has.core.name (segments i end at_i))

      -- the frame with its ends
      pub given-frame : AreEndsOf G at.task name ends → IsFrame G at.task name ends at.stage
      given-frame lent = record {
        plan = has.is.plan;
        alone = has.is.alone;
        within = has.is.within;
        since = subst (λ k. AreLocal (script G at.task.plan) at.task.path k at.task.done) (sym has.is.since) (record { order = omega arith; each = λ k from to. absurd (omega (arith, from, to)) });
        begun = λ none. sym has.is.since ∙ none;
        lent = lent;
      }

-- ---- all at once

pub by-number : (state : QueueState) (n m : ℕ) (P : ℕ → ActiveFrame → Type 0) → n ≡ m → ((x : ActiveFrame) → active state n ≡ Some x → P n x) → (x : ActiveFrame) → active state m ≡ Some x → P m x
by-number state n m P same holds = subst (λ k. (x : ActiveFrame) → active state k ≡ Some x → P k x) same holds

module _ {B L : Type 0} (G : Ghosts B L) (kept : KeptView) (at : FrameAtCoreView B L) (has : HasIt G kept at) (name : Option Script) (ends : LentEnds) (named : name ≡ kept.name)
    (are : (x : ActiveFrame) → active kept.state at.task.number ≡ Some x → ends ≡ record { frame = at.task.number; path = x.path; before = x.deeds; deeds = x.deeds; list = ends.list }) where
  abbrev given-state : KeptView
  given-state = record kept { state = after_lend kept.state (a G kept at has) ends.list }

  pub frame-so : ((i : ℕ) (end : LentEnd) → slice_get ends.list i ≡ Some end → OnQueue kept.name kept.state end.queue (λ s origin. segment_queue s end.tag ≡ Some origin)) → IsFrame G at.task name ends at.stage
  frame-so segments =
      let so = are (a G kept at has) (a-live G kept at has) in
      given-frame G kept at has given-state ends.list refl name ends refl named so (given-ends G kept at has given-state ends.list refl name ends refl named so segments)

  module _ (then_name : Option Script) (then_run : List ℕ) (then_state : QueueState) (same_name : then_name ≡ kept.name) (same_run : then_run ≡ kept.run)
      (after : (x : ActiveFrame) → active kept.state at.task.number ≡ Some x → then_state ≡ after_lend kept.state x ends.list) where
    same-state : ◌≡◌ {A = KeptView} (record kept { name = then_name; run = then_run; state = then_state }) given-state
    same-state = with-state kept then_name then_run then_state (after_lend kept.state (a G kept at has) ends.list) same_name same_run (after (a G kept at has) (a-live G kept at has))

    pub core-so : IsCore G at.task.plan (record kept { name = then_name; run = then_run; state = then_state })
    core-so = given-core G kept at has (record kept { name = then_name; run = then_run; state = then_state }) ends.list same-state

    pub lent-so : HasLent kept (record kept { name = then_name; run = then_run; state = then_state }) at.task.number
    lent-so = given-lent G kept at has (record kept { name = then_name; run = then_run; state = then_state }) ends.list same-state

    pub lent-now : (now : KeptView) → kept ≡ now → HasLent now (record kept { name = then_name; run = then_run; state = then_state }) at.task.number
    lent-now now same = subst (λ k. HasLent k (record kept { name = then_name; run = then_run; state = then_state }) at.task.number) same lent-so

    module _ {E : Type 0} (of : EndsOf E) (frame : FrameView B L E) (its : E) (frame_is : frame ≡ record { task = at.task; stage = Some at.stage; mark = false; ends = its }) (ends_are : of.ends its ≡ ends)
        (run_is : of.run its ≡ kept.run) where
      pub given-so : IsGivenAs of (record kept { name = then_name; run = then_run; state = then_state }) at frame
      given-so =
          let so = are (a G kept at has) (a-live G kept at has) in
          let far = given-so-far G kept at has (record kept { name = then_name; run = then_run; state = then_state }) ends.list same-state name ends refl named so in
          subst (IsGivenAs of (record kept { name = then_name; run = then_run; state = then_state }) at) (sym frame_is) (record {
            task = refl;
            stage = refl;
            mark = refl;
            run = run_is ∙ sym same_run;
            given = subst (IsGiven (record kept { name = then_name; run = then_run; state = then_state }) at.task) (sym ends_are) far;
          })

-- ---- a frame that comes back, as its call has it

module _ {B L : Type 0} (G : Ghosts B L) (kept : KeptView) (task : TaskView B L) (core : IsCore G task.plan kept) (of : IsOf kept task) (stage : Stage L) (name : Option Script) (ends : LentEnds)
    (is : IsFrame G task name ends stage) (then_name : Option Script) (then_run : List ℕ) (then_state : QueueState) (then_reading : Reading) (then_live : NumberedFrames) (done many : ℕ)
    (same_name : then_name ≡ kept.name) (same_run : then_run ≡ kept.run) (state_is : then_state ≡ after_back kept.state task.number ends.deeds)
    (reading_is : then_reading ≡ gone_on_by kept.reading task.number many) (many_is : many ≡ task.done - task.since) (done_is : done ≡ task.done)
    (only : IsOnlyLive kept.live then_live task.number (option_map (come_to done) (live_at kept.live task.number)))
    (by_ends : OnNext kept.name kept.state task.number (λ s own. IsLawful s → AreByEnds s own.path own.deeds ends.deeds)) where
  abbrev then-taken : KeptView
  then-taken = record kept { name = then_name; run = then_run; state = then_state; reading = then_reading; live = then_live }

  taken-is : ◌≡◌ {A = KeptView} then-taken (record kept { state = after_back kept.state task.number ends.deeds; reading = gone_on_by kept.reading task.number (task.done - task.since); live = then_live })
  taken-is =
      with-state (record kept { reading = then_reading; live = then_live }) then_name then_run then_state (after_back kept.state task.number ends.deeds) same_name same_run state_is
      ∙ ap {B = KeptView} (λ r. record kept { state = after_back kept.state task.number ends.deeds; reading = r; live = then_live }) (reading_is ∙ ap (gone_on_by kept.reading task.number) many_is)

  only-is : IsOnlyLive kept.live then_live task.number (Some (come_to task.done of.frame))
  only-is = subst (λ k. IsOnlyLive kept.live then_live task.number (Some (come_to k of.frame))) done_is (subst (λ o. IsOnlyLive kept.live then_live task.number (option_map (come_to done) o)) of.live only)

  ends-so : IsLawful (script G task.plan) → AreByEnds (script G task.plan) (active-so G kept task core of).0.path (active-so G kept task core of).0.deeds ends.deeds
  ends-so law = by_ends (script G task.plan) core.name (active-so G kept task core of).0 (active-so G kept task core of).1 law

  pub has-taken : (at : FrameAtCoreView B L) → at.task ≡ record task { since = task.done } → at.stage ≡ stage → HasIt G then-taken at
  has-taken at task_is stage_is =
      subst (λ t. HasIt G then-taken (record { task = t; stage = at.stage })) (sym task_is)
      (subst (λ x. HasIt G then-taken (record { task = record task { since = task.done }; stage = x })) (sym stage_is)
      (taken G kept task core of stage name ends is then-taken only-is taken-is ends-so))

  pub taken-stay : OthersStay kept then-taken (λ other. other ≢ task.number)
  taken-stay = taken-others G kept task core of stage name ends is then-taken only-is taken-is ends-so

-- a frame in the record as it stands there
pub stands-so : {B L : Type 0} (kept : KeptView) (task : TaskView B L) (frame : LiveFrame) → live_at kept.live task.number ≡ Some frame
    → (frame.path ≡ task.path) × (frame.done ≡ task.since) × (frame.holdings ≡ task.holdings) → IsOf kept task
stands-so kept task frame live same = record { frame = frame; live = live; path = same.0; done = same.1; holdings = same.2 }

-- what stays stays, whatever the state before is called
pub stay-from : (before same after : KeptView) (number : ℕ) → before ≡ same → OthersStay before after (λ other. other ≢ number) → OthersStay same after (λ other. other ≢ number)
stay-from before same after number are stays = subst (λ k. OthersStay k after (λ other. other ≢ number)) are stays

-- what is kept once a frame has come in, as its call has it
pub come-so : {B L : Type 0} (kept now : KeptView) (task : TaskView B L) (ends : LentEnds) (number done since : ℕ) (name : Option Script) (run : List ℕ) (state : QueueState) (reading : Reading) (live : NumberedFrames)
    → kept ≡ now → number ≡ task.number → done ≡ task.done → since ≡ task.since → name ≡ kept.name → run ≡ kept.run → state ≡ after_back kept.state task.number ends.deeds
    → reading ≡ gone_on_by kept.reading number (done - since) → live ≡ come_at kept.live number done (live_at kept.live number)
    → ◌≡◌ {A = KeptView} (record kept { name = name; run = run; state = state; reading = reading; live = live }) (after_coming_in now task ends)
come-so kept now task ends number done since name run state reading live same number_is done_is since_is same_name same_run state_is reading_is live_is =
    with-state (record kept { reading = reading; live = live }) name run state (after_back kept.state task.number ends.deeds) same_name same_run state_is
    ∙ ap {B = KeptView} (λ r. record kept { state = after_back kept.state task.number ends.deeds; reading = r; live = live }) reading_is
    ∙ ap {B = KeptView} (λ l. record kept { state = after_back kept.state task.number ends.deeds; reading = gone_on_by kept.reading number (done - since); live = l }) live_is
    ∙ ap {B = KeptView} (λ n. record kept { state = after_back kept.state task.number ends.deeds; reading = gone_on_by kept.reading n (done - since); live = come_at kept.live n done (live_at kept.live n) }) number_is
    ∙ ap {B = KeptView} (λ d. record kept { state = after_back kept.state task.number ends.deeds; reading = gone_on_by kept.reading task.number (d - since); live = come_at kept.live task.number d (live_at kept.live task.number) }) done_is
    ∙ ap {B = KeptView} (λ z. record kept { state = after_back kept.state task.number ends.deeds; reading = gone_on_by kept.reading task.number (task.done - z); live = come_at kept.live task.number task.done (live_at kept.live task.number) }) since_is
    ∙ ap (λ k. after_coming_in k task ends) same

-- ---- a frame that the core gave, whatever it did by itself since

pub given-true : {B L E : Type 0} (G : Ghosts B L) (name : E → Option Script) (ends : E → LentEnds) (core : CoreView B L) (kept : KeptView) (frame : FrameView B L E) (stage : Stage L) → IsCoreView G core
    → core.kept ≡ Some kept → frame.task.plan ≡ core.plan → IsGiven kept frame.task (ends frame.ends) → IsAnyFrame G name ends frame → frame.stage ≡ Some stage
    → IsTrueFrame G core.plan kept.reading (state_of frame.task stage)
given-true G name ends core kept frame stage is keeps plan given any stands =
    subst (λ p. IsTrueFrame G p kept.reading (state_of frame.task stage)) plan
    (true-so G kept frame.task (subst (λ p. IsCore G p kept) (sym plan) (is kept keeps).0) given.of stage (name frame.ends) (ends frame.ends) (any stage stands))
