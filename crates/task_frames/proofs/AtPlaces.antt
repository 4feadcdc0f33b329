-- A frame at the core whose next step makes a queue or an object, which stands at a new place.
use Rattle.std.proofs.Common.{◌≡◌, ◌≢◌, inl, inr, ℕ, ◌+◌, ◌<◌, false, Option, Some, None, List, [], ◌∷◌, ◌++◌, length, map, refl, sym, ap, subst, ◌∙◌, arith}
use Rattle.std.proofs.lemmas.Bool.{cases_lt}
use Rattle.std.proofs.lemmas.List.{length-append, length-map, map-append}
use Rattle.std.proofs.lemmas.Option.{none-some, same_Some, slice_get_within}
use Rattle.swan_model.proofs.Elements.{option_cases}
use Rattle.std.specs.Option.{option_map}
use Rattle.std.specs.Prelude.{slice_get}
use Rattle.swan_model.specs.declared.body.Answer.TheVariants as answer
use Rattle.swan_model.specs.declared.body.Ask.{Ask}
use Rattle.swan_model.specs.declared.body.Ask.TheVariants as ask
use Rattle.swan_model.specs.declared.body.Body.{Ghosts}
use Rattle.swan_model.specs.declared.origin.Origin.{Origin}
use Rattle.swan_model.specs.declared.origin.Origin.TheVariants.{Step}
use Rattle.swan_model.specs.declared.rights.Mode.{Mode}
use Rattle.swan_model.specs.declared.rights.Mode.TheVariants.{InOut, PushPop}
use Rattle.swan_model.specs.declared.script.Deed.{Deed}
use Rattle.swan_model.specs.declared.script.Deed.TheVariants as deed
use Rattle.swan_model.specs.declared.script.Script.{Script}
use Rattle.swan_model.specs.declared.value.Value.{Value}
use Rattle.swan_model.specs.Granted.{is_spawn}
use Rattle.swan_model.specs.QueueFollows.{next_queue_deed, origin_in}
use Rattle.swan_model.specs.QueueState.{ActiveFrame, QueueState, after_create, with_deed, with_made, OBJECTS_MOST}
use Rattle.swan_model.specs.Readings.{with_object, with_queue}
use Rattle.swan_model.specs.Script.{script}
use Rattle.swan_model.specs.SerialState.{Activation, Holding}
use Rattle.swan_model.specs.SerialStep.{after_next, with_place}
use Rattle.swan_model.specs.SerialTime.{Reading, time}
use Rattle.swan_model.specs.TrueFrames.{StandsAt}
use Rattle.swan_model.specs.Versions.{VersionState, objects_after_create, placed_at}
use Rattle.swan_model.proofs.Lists.{some_within}
use Rattle.queues.specs.Asks.{HasRoom, OnActive, OnNext}
use Rattle.swan_model.specs.Readings.{gone_on_by}
use Rattle.queues.specs.Tree.{IsOnlyFrame}
use Rattle.queues.proofs.ActiveAfter.{one_goes_on}
use Rattle.serial_elision.specs.TaskSteps.{GetsPlace}
use Rattle.serial_elision.proofs.AskMakes.{makes-object, makes-queue}
use Rattle.serial_elision.proofs.TaskSteps.{goes_on_next}
use Rattle.task_frames.specs.declared.stage.Stage.TheVariants.{Ready}
use Rattle.task_frames.specs.declared.step.Step.TheVariants as step
use Rattle.task_frames.specs.Cores.{FrameAtCoreView, HasIt, IsAtCore, IsCore, KeptView, MayBegin, Mid, asking, one_on}
use Rattle.task_frames.specs.Records.{IsOnlyLive, NumberedFrames, come_to, holding_too, live_at}
use Rattle.task_frames.specs.Resumes.{IsStep}
use Rattle.task_frames.proofs.AtQueues.{a, a-back, a-live, asked, done-now, for-next, law, may-do, told}
use Rattle.task_frames.proofs.Booked as booked
use Rattle.task_frames.proofs.Counted as counted
use Rattle.task_frames.proofs.Failing.{still-one}
use Rattle.task_frames.proofs.Given.{with-state}
use Rattle.task_frames.proofs.Goings.{known}
use Rattle.task_frames.proofs.Live as live
use Rattle.task_frames.proofs.Objects as objects
use Rattle.task_frames.proofs.Queues as queues
use Rattle.task_frames.proofs.Rights as rights

-- ---- a reading has as many queues as were made

as-many : {X Y : Type 0} (f : X → Y) (ys : List Y) (xs : List X) → ((i : ℕ) → slice_get ys i ≡ option_map f (slice_get xs i)) → length ys ≡ length xs
as-many f ys xs same = elim (cases_lt (length ys) (length xs)) [
  | inl fewer ↦
      let it = some_within xs (length ys) fewer in
      let there : slice_get ys (length ys) ≡ Some (f it.0) = same (length ys) ∙ ap (option_map f) it.1 in
      let within = slice_get_within ys (length ys) (f it.0) there in
      absurd (omega (arith, within))
  | inr least ↦ elim (cases_lt (length xs) (length ys)) [
    | inl more ↦
        let it = some_within ys (length xs) more in
        let none : option_map f (slice_get xs (length xs)) ≡ Some it.0 = sym (same (length xs)) ∙ it.1 in
        elim (option_cases (slice_get xs (length xs))) [
          | inl not_there ↦ absurd (none-some it.0 (sym (ap (option_map f) not_there) ∙ none))
          | inr there ↦ let within = slice_get_within xs (length xs) there.0 there.1 in absurd (omega (arith, within))
        ]
    | inr most ↦ omega (arith, least, most)
  ]
]

-- ---- what is kept, by a number and a count that are the frame's, and over what is the same

-- the record, with a place more
pub noted-place : (kept other : KeptView) (then_live : NumberedFrames) (n m d e : ℕ) (h g : Holding) → other ≡ kept → n ≡ m → d ≡ e → h ≡ g
    → IsOnlyLive other.live then_live n (option_map (come_to (d + 1)) (option_map (holding_too h) (live_at other.live n)))
    → IsOnlyLive kept.live then_live m (option_map (come_to (e + 1)) (option_map (holding_too g) (live_at kept.live m)))
noted-place kept other then_live n m d e h g same number done held only =
    subst (λ x. IsOnlyLive kept.live then_live m (option_map (come_to (e + 1)) (option_map (holding_too x) (live_at kept.live m)))) held
    (subst (λ x. IsOnlyLive kept.live then_live m (option_map (come_to (x + 1)) (option_map (holding_too h) (live_at kept.live m)))) done
    (subst (λ x. IsOnlyLive kept.live then_live x (option_map (come_to (d + 1)) (option_map (holding_too h) (live_at kept.live x)))) number
    (subst (λ (k : KeptView). IsOnlyLive k.live then_live n (option_map (come_to (d + 1)) (option_map (holding_too h) (live_at k.live n)))) same only)))

-- a queue more
pub queue-kept : (base kept after : KeptView) (n : ℕ) (o : Origin) (name : Option Script) (run : List ℕ) (state : QueueState) (reading : Reading) → base ≡ kept → name ≡ base.name → run ≡ base.run
    → reading ≡ with_queue (gone_on_by base.reading n 1) o → after ≡ record base { name = name; run = run; state = state; reading = reading; live = after.live }
    → after ≡ record kept { state = state; reading = with_queue (gone_on_by kept.reading n 1) o; live = after.live }
queue-kept base kept after n o name run state reading same_kept same_name same_run reading_is is =
    is
    ∙ ap {B = KeptView} (λ x. record base { name = name; run = run; state = state; reading = x; live = after.live }) reading_is
    ∙ with-state (record base { reading = with_queue (gone_on_by base.reading n 1) o; live = after.live }) name run state state same_name same_run refl
    ∙ ap {B = KeptView} (λ (k : KeptView). record k { state = state; reading = with_queue (gone_on_by k.reading n 1) o; live = after.live }) same_kept

-- an object more
pub object-kept : (base kept after : KeptView) (m n place next : ℕ) (value : Value) (o : Origin) (versions : VersionState) (reading : Reading) → base ≡ kept → m ≡ n → place ≡ next
    → versions ≡ objects_after_create base.versions m place value → reading ≡ with_object (gone_on_by base.reading n 1) o
    → after ≡ record base { versions = versions; reading = reading; live = after.live; objects = base.objects + 1 }
    → after ≡ record kept { versions = objects_after_create kept.versions n next value; reading = with_object (gone_on_by kept.reading n 1) o; live = after.live; objects = kept.objects + 1 }
object-kept base kept after m n place next value o versions reading same_kept same_number same_place versions_are reading_is is =
    is
    ∙ ap {B = KeptView} (λ x. record base { versions = versions; reading = x; live = after.live; objects = base.objects + 1 }) reading_is
    ∙ ap {B = KeptView} (λ v. record base { versions = v; reading = with_object (gone_on_by base.reading n 1) o; live = after.live; objects = base.objects + 1 }) versions_are
    ∙ ap {B = KeptView} (λ (k : KeptView). record k { versions = objects_after_create k.versions m place value; reading = with_object (gone_on_by k.reading n 1) o; live = after.live; objects = k.objects + 1 }) same_kept
    ∙ ap {B = KeptView} (λ j. record kept { versions = objects_after_create kept.versions j place value; reading = with_object (gone_on_by kept.reading n 1) o; live = after.live; objects = kept.objects + 1 }) same_number
    ∙ ap {B = KeptView} (λ j. record kept { versions = objects_after_create kept.versions n j value; reading = with_object (gone_on_by kept.reading n 1) o; live = after.live; objects = kept.objects + 1 }) same_place

-- the frame, which is told its new place
pub told-more : {B L : Type 0} (mid with_more : Mid B L) (h g : Holding) (place : ℕ) (frame : FrameAtCoreView B L) → frame ≡ record { task = one_on with_more.task; stage = Ready with_more.local (answer.Place place) }
    → with_more ≡ record mid { task = record mid.task { holdings = mid.task.holdings ++ h ∷ [] } } → place ≡ length mid.task.holdings → h ≡ g
    → frame ≡ record { task = record (one_on mid.task) { holdings = mid.task.holdings ++ g ∷ [] }; stage = Ready mid.local (answer.Place (length mid.task.holdings)) }
told-more {B} {L} mid with_more h g place frame is more at held =
    is
    ∙ ap {B = FrameAtCoreView B L} (λ (m : Mid B L). record { task = one_on m.task; stage = Ready m.local (answer.Place place) }) more
    ∙ ap {B = FrameAtCoreView B L} (λ p. record { task = record (one_on mid.task) { holdings = mid.task.holdings ++ h ∷ [] }; stage = Ready mid.local (answer.Place p) }) at
    ∙ ap {B = FrameAtCoreView B L} (λ x. record { task = record (one_on mid.task) { holdings = mid.task.holdings ++ x ∷ [] }; stage = Ready mid.local (answer.Place (length mid.task.holdings)) }) held

-- ---- a place more

module _ {B L : Type 0} (G : Ghosts B L) (kept : KeptView) (mid : Mid B L) (asks : Ask L) (has : HasIt G kept (asking mid asks)) where
  abbrev top : Activation L
  top = has.is.alone.top

  module _ (mode : Mode) (does : Deed) (gets : GetsPlace G mid.task.plan mid.task.path mid.task.done has.is.alone.top mid.local mode does) (h : Holding) (mode_is : h.mode ≡ mode) where
    abbrev next : Activation L
    next = with_place (after_next has.is.alone.top mid.local) (record { mode = mode; number = gets.number })

    abbrev more : FrameAtCoreView B L
    more = record { task = record (one_on mid.task) { holdings = mid.task.holdings ++ h ∷ [] }; stage = Ready mid.local (answer.Place (length mid.task.holdings)) }

    pub stands-next : StandsAt G mid.task.plan mid.task.path (mid.task.done + 1) next
    stands-next = goes_on_next G mid.task.plan mid.task.path mid.task.done has.is.alone.top has.is.alone.stands next gets.store gets.effect

    same-length : length mid.task.holdings ≡ length top.holdings
    same-length =
        sym (length-map mid.task.holdings (λ (x : Holding). x.mode)) ∙ ap length has.is.alone.modes ∙ length-map top.holdings (λ (x : Holding). x.mode)

    is-next : IsAtCore G more
    is-next = record {
      plan = has.is.plan;
      alone = record {
        top = next;
        stands = stands-next;
        stage = (refl, has.is.alone.stage.1, ap answer.Place same-length);
        modes =
            map-append (λ (x : Holding). x.mode) mid.task.holdings (h ∷ []) ∙ ap (λ ms. ms ++ h.mode ∷ []) has.is.alone.modes
            ∙ ap (λ m. map (λ (x : Holding). x.mode) top.holdings ++ m ∷ []) mode_is ∙ sym (map-append (λ (x : Holding). x.mode) top.holdings ((record { mode = mode; number = gets.number }) ∷ []));
        children = has.is.alone.children;
      };
      within = record {
        holds = let within = has.is.within.holds in let paid = has.is.alone.stage.0 in omega (arith, within, paid, length-append mid.task.holdings (h ∷ []));
        spawned = let within = has.is.within.spawned in let paid = has.is.alone.stage.0 in omega (arith, within, paid);
      };
      since = refl;
    }

    module _ (after : KeptView) (only : IsOnlyLive kept.live after.live mid.task.number (Some (record has.of.frame { done = mid.task.done + 1; holdings = has.of.frame.holdings ++ h ∷ [] })))
        (core : IsCore G mid.task.plan after) (b : ActiveFrame) (changed : IsOnlyFrame kept.state after.state mid.task.number (Some b)) (back : b.lent ≡ None) (no_spawn : is_spawn does ≡ false) (no_wait : does ≢ deed.Sync) (begun : MayBegin kept mid.task.number) (count : after.frames ≡ kept.frames) where
      has-next : HasIt G after more
      has-next = record {
        core = core;
        is = is-next;
        of = record {
          frame = record has.of.frame { done = mid.task.done + 1; holdings = has.of.frame.holdings ++ h ∷ [] };
          live = only.changed;
          path = has.of.path;
          done = refl;
          holdings = ap (λ hs. hs ++ h ∷ []) has.of.holdings;
        };
        back = λ c live_now. ap (λ (x : ActiveFrame). x.lent) (same_Some c b (sym live_now ∙ changed.changed)) ∙ back;
      }

      pub places : IsStep G kept after mid.task (step.Runs more)
      places = (
        has-next,
        refl,
        ap is_spawn gets.deed ∙ no_spawn,
        record { live = only.others; active_are = changed.others },
        λ is. absurd (no_wait (sym gets.deed ∙ is)),
        begun,
        omega (arith, count),
      )

  -- the record, by what stood in it
  pub held-more : (then_live : NumberedFrames) (h : Holding) → IsOnlyLive kept.live then_live mid.task.number (option_map (come_to (mid.task.done + 1)) (option_map (holding_too h) (live_at kept.live mid.task.number)))
      → IsOnlyLive kept.live then_live mid.task.number (Some (record has.of.frame { done = mid.task.done + 1; holdings = has.of.frame.holdings ++ h ∷ [] }))
  held-more then_live h only =
      subst (λ o. IsOnlyLive kept.live then_live mid.task.number (option_map (come_to (mid.task.done + 1)) (option_map (holding_too h) o))) has.of.live only

-- ---- a queue

module _ {B L : Type 0} (G : Ghosts B L) (kept : KeptView) (mid : Mid B L) (has : HasIt G kept (asking mid ask.NewQueue)) (begun : MayBegin kept mid.task.number) where
  queue-gets : GetsPlace G mid.task.plan mid.task.path mid.task.done has.is.alone.top mid.local PushPop deed.MakeQueue
  queue-gets = makes-queue G mid.task.plan mid.task.path mid.task.done has.is.alone.top mid.local has.is.plan.lists (asked G kept mid ask.NewQueue has)

  pub queue-room : HasRoom kept.state
  queue-room =
      rights.room-for-queue G mid.task.plan has.core.sound (law G kept mid ask.NewQueue has) kept.reading mid.task.number has.of.frame (told G kept mid ask.NewQueue has)
      mid.task.path mid.task.done has.is.alone.top has.of.path (done-now G kept mid ask.NewQueue has) has.is.alone.stands kept.state has.core.queues
      (a G kept mid ask.NewQueue has) (a-live G kept mid ask.NewQueue has)

  pub queue-next : OnNext kept.name kept.state mid.task.number (λ s own. next_queue_deed s own.path own.deeds ≡ Some deed.MakeQueue)
  queue-next =
      for-next G kept mid ask.NewQueue has (λ s own. next_queue_deed s own.path own.deeds ≡ Some deed.MakeQueue)
      (rights.next-so G mid.task.plan has.core.sound (law G kept mid ask.NewQueue has) kept.reading mid.task.number has.of.frame (told G kept mid ask.NewQueue has)
      mid.task.path mid.task.done has.is.alone.top has.of.path (done-now G kept mid ask.NewQueue has) has.is.alone.stands kept.state has.core.queues
      (a G kept mid ask.NewQueue has) (a-live G kept mid ask.NewQueue has) deed.MakeQueue queue-gets.deed refl)

  module _ (then_live : NumberedFrames) where
    abbrev made-queue : Holding
    made-queue = record { mode = PushPop; number = length kept.state.makers }

    abbrev with-one-queue : KeptView
    with-one-queue = record kept {
      state = after_create kept.state (a G kept mid ask.NewQueue has);
      reading = with_queue (gone_on_by kept.reading mid.task.number 1) (Step (time (script G mid.task.plan) mid.task.path mid.task.done));
      live = then_live;
    }

    module _ (only : IsOnlyLive kept.live then_live mid.task.number (Some (record has.of.frame { done = mid.task.done + 1; holdings = has.of.frame.holdings ++ record { mode = PushPop; number = length kept.state.makers } ∷ [] }))) where
      queue-core : IsCore G mid.task.plan with-one-queue
      queue-core =
          let n = mid.task.number in
          let s = script G mid.task.plan in
          let r = kept.reading in
          let own = a G kept mid ask.NewQueue has in
          let own_live = a-live G kept mid ask.NewQueue has in
          let lawful = law G kept mid ask.NewQueue has in
          let act = may-do G kept mid ask.NewQueue has in
          let known_is = known G kept (asking mid ask.NewQueue) has in
          let o = Step (time s mid.task.path mid.task.done) in
          let top = has.is.alone.top in
          record {
            sound = has.core.sound;
            name = has.core.name;
            queues = queues.created s lawful r kept.state has.core.queues n mid.task.path mid.task.done known_is act (after_create kept.state own) queue-gets.deed has.is.alone.stands.left refl;
            objects = objects.queue-made s lawful r kept.versions kept.live kept.objects has.core.objects n mid.task.path mid.task.done known_is has.of.frame has.of.live then_live
                (record { mode = PushPop; number = length kept.state.makers }) (r.queues ++ o ∷ []) queue-gets.deed has.is.alone.stands.left refl begun.ready only;
            frames = live.made-queue G mid.task.plan r kept.state kept.live kept.frames has.core.frames n has.of.frame has.of.live own own_live then_live has.is.plan.lists has.core.queues.tree act
                mid.task.path mid.task.done top (with_place (after_next top mid.local) (record { mode = PushPop; number = queue-gets.number })) (after_create kept.state own)
                has.of.path (done-now G kept mid ask.NewQueue has) has.is.alone.stands
                (stands-next G kept mid ask.NewQueue has PushPop deed.MakeQueue queue-gets (record { mode = PushPop; number = length kept.state.makers }) refl)
                queue-gets.names (as-many (origin_in s) r.queues kept.state.makers has.core.queues.fit.queues) (begun.turn own own_live) refl only;
            booked = booked.frames-same G mid.task.plan (gone_on_by r n 1) (with_queue (gone_on_by r n 1) o) kept.faults refl
                (booked.goes G mid.task.plan r n mid.task.path mid.task.done known_is 1 kept.faults
                (stands-next G kept mid ask.NewQueue has PushPop deed.MakeQueue queue-gets (record { mode = PushPop; number = length kept.state.makers }) refl).left has.core.booked);
            counted = counted.goes s kept.live kept.faults has.core.counted then_live n has.of.frame has.of.live
                (record has.of.frame { done = mid.task.done + 1; holdings = has.of.frame.holdings ++ record { mode = PushPop; number = length kept.state.makers } ∷ [] }) only refl refl
                mid.task.path mid.task.done has.of.path (done-now G kept mid ask.NewQueue has) refl
                (still-one s mid.task.path mid.task.done deed.MakeQueue queue-gets.deed refl (λ same. absurd (cc)));
          }

      queue-steps : IsStep G kept with-one-queue mid.task (step.Runs (record {
        task = record (one_on mid.task) { holdings = mid.task.holdings ++ record { mode = PushPop; number = length kept.state.makers } ∷ [] };
        stage = Ready mid.local (answer.Place (length mid.task.holdings));
      }))
      queue-steps =
          let own = a G kept mid ask.NewQueue has in
          places G kept mid ask.NewQueue has PushPop deed.MakeQueue queue-gets (record { mode = PushPop; number = length kept.state.makers }) refl with-one-queue only queue-core
          (with_deed (with_made (length kept.state.makers) own)) (one_goes_on kept.state mid.task.number own (λ x. with_deed (with_made (length kept.state.makers) x)) (λ x. refl) (a-live G kept mid ask.NewQueue has))
          (a-back G kept mid ask.NewQueue has) refl (λ same. absurd (cc)) begun refl

  pub queue-runs : (after : KeptView) (next : FrameAtCoreView B L) (queue : ℕ) (state : QueueState) → queue ≡ length kept.state.makers
      → next ≡ record { task = record (one_on mid.task) { holdings = mid.task.holdings ++ record { mode = PushPop; number = queue } ∷ [] }; stage = Ready mid.local (answer.Place (length mid.task.holdings)) }
      → OnActive kept.state mid.task.number (λ own. state ≡ after_create kept.state own)
      → IsOnlyLive kept.live after.live mid.task.number (option_map (come_to (mid.task.done + 1)) (option_map (holding_too (record { mode = PushPop; number = queue })) (live_at kept.live mid.task.number)))
      → after ≡ record kept { state = state; reading = with_queue (gone_on_by kept.reading mid.task.number 1) (Step (time (script G mid.task.plan) mid.task.path mid.task.done)); live = after.live }
      → IsStep G kept after mid.task (step.Runs next)
  queue-runs after next queue state queue_is next_is state_is only is =
      let made : (m : ℕ) → Holding = λ m. record { mode = PushPop; number = m } in
      let same : next ≡ record { task = record (one_on mid.task) { holdings = mid.task.holdings ++ made (length kept.state.makers) ∷ [] }; stage = Ready mid.local (answer.Place (length mid.task.holdings)) } =
      next_is ∙ ap {B = FrameAtCoreView B L} (λ m. record { task = record (one_on mid.task) { holdings = mid.task.holdings ++ made m ∷ [] }; stage = Ready mid.local (answer.Place (length mid.task.holdings)) }) queue_is in
      let only_now = held-more G kept mid ask.NewQueue has after.live (made (length kept.state.makers))
      (subst (λ m. IsOnlyLive kept.live after.live mid.task.number (option_map (come_to (mid.task.done + 1)) (option_map (holding_too (made m)) (live_at kept.live mid.task.number)))) queue_is only) in
      let all : after ≡ with-one-queue after.live = is ∙ ap {B = KeptView} (λ q. record kept {
        state = q;
        reading = with_queue (gone_on_by kept.reading mid.task.number 1) (Step (time (script G mid.task.plan) mid.task.path mid.task.done));
        live = after.live;
      }) (state_is (a G kept mid ask.NewQueue has) (a-live G kept mid ask.NewQueue has)) in
      subst (λ k. IsStep G kept k mid.task (step.Runs next)) (sym all)
      (subst (λ x. IsStep G kept (with-one-queue after.live) mid.task (step.Runs x)) (sym same) (queue-steps after.live only_now))

-- ---- an object

module _ {B L : Type 0} (G : Ghosts B L) (kept : KeptView) (mid : Mid B L) (value : Value) (has : HasIt G kept (asking mid (ask.NewObject value))) (begun : MayBegin kept mid.task.number) where
  object-gets : GetsPlace G mid.task.plan mid.task.path mid.task.done has.is.alone.top mid.local InOut (deed.MakeObject value)
  object-gets = makes-object G mid.task.plan mid.task.path mid.task.done has.is.alone.top mid.local has.is.plan.lists value (asked G kept mid (ask.NewObject value) has)

  pub object-room : kept.objects < OBJECTS_MOST
  object-room = rights.room-for-object G mid.task.plan has.core.sound (law G kept mid (ask.NewObject value) has) kept.reading kept.versions kept.live kept.objects has.core.objects

  -- the next place has no object
  pub object-free : placed_at kept.versions mid.task.number (length mid.task.holdings) ≡ None
  object-free =
      subst (λ hs. placed_at kept.versions mid.task.number (length hs) ≡ None) has.of.holdings
      (objects.free-place (script G mid.task.plan) (law G kept mid (ask.NewObject value) has) kept.reading kept.versions kept.live kept.objects has.core.objects mid.task.number mid.task.path mid.task.done
      (known G kept (asking mid (ask.NewObject value)) has) has.of.frame has.of.live kept.live)

  module _ (then_live : NumberedFrames) where
    abbrev with-one-object : KeptView
    with-one-object = record kept {
      versions = objects_after_create kept.versions mid.task.number (length mid.task.holdings) value;
      reading = with_object (gone_on_by kept.reading mid.task.number 1) (Step (time (script G mid.task.plan) mid.task.path mid.task.done));
      live = then_live;
      objects = kept.objects + 1;
    }

    module _ (only : IsOnlyLive kept.live then_live mid.task.number (Some (record has.of.frame { done = mid.task.done + 1; holdings = has.of.frame.holdings ++ record { mode = InOut; number = kept.objects } ∷ [] }))) where
      object-core : IsCore G mid.task.plan with-one-object
      object-core =
          let n = mid.task.number in
          let s = script G mid.task.plan in
          let r = kept.reading in
          let asks = ask.NewObject value in
          let own = a G kept mid asks has in
          let own_live = a-live G kept mid asks has in
          let lawful = law G kept mid asks has in
          let known_is = known G kept (asking mid asks) has in
          let o = Step (time s mid.task.path mid.task.done) in
          let top = has.is.alone.top in
          let then = stands-next G kept mid asks has InOut (deed.MakeObject value) object-gets (record { mode = InOut; number = kept.objects }) refl in
          record {
            sound = has.core.sound;
            name = has.core.name;
            queues = queues.others-over s lawful r kept.state has.core.queues n mid.task.path mid.task.done known_is (deed.MakeObject value) (r.objects ++ o ∷ []) object-gets.deed refl then.left;
            objects = objects.created s lawful r kept.versions kept.live kept.objects has.core.objects n mid.task.path mid.task.done known_is has.of.frame has.of.live then_live
                value (objects_after_create kept.versions n (length mid.task.holdings) value) object-gets.deed has.is.alone.stands.left
                (ap (λ hs. objects_after_create kept.versions n (length hs) value) (sym has.of.holdings)) begun.ready only;
            frames = live.made-object G mid.task.plan r kept.state kept.live kept.frames has.core.frames n has.of.frame has.of.live own own_live then_live has.is.plan.lists
                mid.task.path mid.task.done kept.objects top (with_place (after_next top mid.local) (record { mode = InOut; number = object-gets.number }))
                has.of.path (done-now G kept mid asks has) has.is.alone.stands then
                object-gets.names (has.core.objects.follow.objects ∙ has.core.objects.count) (begun.turn own own_live) only;
            booked = booked.frames-same G mid.task.plan (gone_on_by r n 1) (with_object (gone_on_by r n 1) o) kept.faults refl
                (booked.goes G mid.task.plan r n mid.task.path mid.task.done known_is 1 kept.faults then.left has.core.booked);
            counted = counted.goes s kept.live kept.faults has.core.counted then_live n has.of.frame has.of.live
                (record has.of.frame { done = mid.task.done + 1; holdings = has.of.frame.holdings ++ record { mode = InOut; number = kept.objects } ∷ [] }) only refl refl
                mid.task.path mid.task.done has.of.path (done-now G kept mid asks has) refl
                (still-one s mid.task.path mid.task.done (deed.MakeObject value) object-gets.deed refl (λ same. absurd (cc)));
          }

      object-steps : IsStep G kept with-one-object mid.task (step.Runs (record {
        task = record (one_on mid.task) { holdings = mid.task.holdings ++ record { mode = InOut; number = kept.objects } ∷ [] };
        stage = Ready mid.local (answer.Place (length mid.task.holdings));
      }))
      object-steps =
          let asks = ask.NewObject value in
          let own = a G kept mid asks has in
          places G kept mid asks has InOut (deed.MakeObject value) object-gets (record { mode = InOut; number = kept.objects }) refl with-one-object only object-core
          own (record { changed = a-live G kept mid asks has; others = λ m other. refl }) (a-back G kept mid asks has) refl (λ same. absurd (cc)) begun refl

  pub object-runs : (after : KeptView) (next : FrameAtCoreView B L)
      → next ≡ record { task = record (one_on mid.task) { holdings = mid.task.holdings ++ record { mode = InOut; number = kept.objects } ∷ [] }; stage = Ready mid.local (answer.Place (length mid.task.holdings)) }
      → IsOnlyLive kept.live after.live mid.task.number (option_map (come_to (mid.task.done + 1)) (option_map (holding_too (record { mode = InOut; number = kept.objects })) (live_at kept.live mid.task.number)))
      → after ≡ with-one-object after.live → IsStep G kept after mid.task (step.Runs next)
  object-runs after next next_is only is =
      subst (λ k. IsStep G kept k mid.task (step.Runs next)) (sym is)
      (subst (λ x. IsStep G kept (with-one-object after.live) mid.task (step.Runs x)) (sym next_is)
      (object-steps after.live (held-more G kept mid (ask.NewObject value) has after.live (record { mode = InOut; number = kept.objects }) only)))
