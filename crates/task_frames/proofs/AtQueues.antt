-- A frame at the core whose next step asks something of a queue.
use Rattle.std.proofs.Common.{◌≡◌, inl, inr, ℕ, ◌+◌, ◌<◌, ◌≤◌, Bool, true, false, Option, Some, None, List, [], ◌∷◌, ◌++◌, length, refl, sym, ap, subst, ◌∙◌, arith}
use Rattle.std.proofs.lemmas.Bool.{cases_lt}
use Rattle.std.proofs.lemmas.Option.{same_Some}
use Rattle.std.specs.Option.{option_map}
use Rattle.std.specs.Prelude.{slice_get}
use Rattle.swan_model.specs.declared.body.Answer.TheVariants as answer
use Rattle.swan_model.specs.declared.body.Ask.{Ask}
use Rattle.swan_model.specs.declared.body.Ask.TheVariants as ask
use Rattle.swan_model.specs.declared.body.Body.{Ghosts}
use Rattle.swan_model.specs.declared.fault.Fault.{Fault}
use Rattle.swan_model.specs.declared.fault.FaultKind.TheVariants as kind
use Rattle.swan_model.specs.declared.origin.Origin.{Origin}
use Rattle.swan_model.specs.declared.plan.Plan.{Plan}
use Rattle.swan_model.specs.declared.rights.Mode.{Mode}
use Rattle.swan_model.specs.declared.rights.Mode.TheVariants.{Push, Pop}
use Rattle.swan_model.specs.declared.script.Deed.TheVariants as deed
use Rattle.swan_model.specs.declared.script.Script.{Script}
use Rattle.swan_model.specs.declared.value.Value.{Value}
use Rattle.swan_model.specs.Lawful.{IsLawful}
use Rattle.swan_model.specs.QueueFollows.{IsNextAbout, next_item, next_queue_deed, queue_origin}
use Rattle.swan_model.specs.QueueState.{ActiveFrame, QueueState, active, after_deed, after_finish, with_deed}
use Rattle.swan_model.specs.Rights.{is_queue_mode}
use Rattle.swan_model.specs.Script.{is_end, script}
use Rattle.swan_model.specs.SerialState.{Activation}
use Rattle.swan_model.specs.SerialStep.{faults, number_at}
use Rattle.swan_model.specs.SerialTime.{time, times}
use Rattle.swan_model.specs.Told.{count, deed_at, pushes, taken}
use Rattle.swan_model.specs.TrueFrames.{effect_at}
use Rattle.swan_model.specs.Versions.{objects_after_finish}
use Rattle.queues.specs.Asks.{IsOnTurn, MayDo, MayJoin, MayLook, MayUse, OnActive, OnNext}
use Rattle.swan_model.specs.Readings.{gone_on_by}
use Rattle.queues.specs.Tells.{FindsItem, FindsNone, IsCause, OnQueue}
use Rattle.queues.specs.Tree.{IsOnlyFrame}
use Rattle.queues.specs.declared.answers.WaitFor.{WaitFor}
use Rattle.queues.proofs.ActiveAfter.{one_changed, one_gone}
use Rattle.queues.proofs.TurnsGoOn.{go_on-deed}
use Rattle.serial_elision.specs.TaskSteps.{MeetsFault, GoesOn, IsAsking, IsFaultOf, MayUseAt}
use Rattle.serial_elision.proofs.AskSteps.{pops-none, pops-on, pushes-on, tests-none, tests-some}
use Rattle.serial_elision.proofs.TaskSteps.{ends_last}
use Rattle.task_frames.specs.declared.stage.Stage.TheVariants.{Ready}
use Rattle.task_frames.specs.declared.step.Step.TheVariants as step
use Rattle.task_frames.specs.Cores.{FrameAtCoreView, HasIt, IsAsRead, KeptView, MayBegin, Mid, asking, one_on}
use Rattle.task_frames.specs.Records.{HasOneFailed, IsLiveChild, IsOnlyLive, NumberedFrames, come_to, live_at}
use Rattle.task_frames.specs.Resumes.{AsksOf, IsLast, IsStep}
use Rattle.task_frames.proofs.Asked.{pop-does, usable, used-so}
use Rattle.task_frames.proofs.Booked as booked
use Rattle.task_frames.proofs.AsGiven.{one-failed-given}
use Rattle.task_frames.proofs.Endings.{alike-failed, counted-fault, ends-so, is-fault}
use Rattle.task_frames.proofs.Firsts.{waits-cause}
use Rattle.task_frames.proofs.Given.{with-state}
use Rattle.task_frames.proofs.Goings.{done-is, known, lawful, own}
use Rattle.task_frames.proofs.Served.{some-and}
use Rattle.task_frames.proofs.Live as live
use Rattle.task_frames.proofs.MayEnd as ending
use Rattle.task_frames.proofs.Queues as queues
use Rattle.task_frames.proofs.Rights as rights
use Rattle.task_frames.proofs.Tried.{settled-so}

-- what is kept, once the queues have counted a deed
pub deed-kept : (base kept : KeptView) (m n : ℕ) (name : Option Script) (run : List ℕ) (state : QueueState) → base ≡ kept → m ≡ n → name ≡ base.name → run ≡ base.run → state ≡ after_deed base.state m
    → ◌≡◌ {A = KeptView} (record base { name = name; run = run; state = state }) (record kept { state = after_deed kept.state n })
deed-kept base kept m n name run state same_kept same_number same_name same_run same_state =
    with-state base name run state (after_deed base.state m) same_name same_run same_state
    ∙ ap {B = KeptView} (λ (k : KeptView). record k { state = after_deed k.state m }) same_kept
    ∙ ap {B = KeptView} (λ j. record kept { state = after_deed kept.state j }) same_number

-- and once they have changed nothing
pub state-kept : (base kept : KeptView) (name : Option Script) (run : List ℕ) (state : QueueState) → base ≡ kept → name ≡ base.name → run ≡ base.run → state ≡ base.state
    → ◌≡◌ {A = KeptView} (record base { name = name; run = run; state = state }) kept
state-kept base kept name run state same_kept same_name same_run same_state = with-state base name run state base.state same_name same_run same_state ∙ same_kept

-- a frame that has left, once the queues had counted a deed of it and a fault was booked
pub dry-kept : (base kept booked : KeptView) (m n : ℕ) (name : Option Script) (run : List ℕ) (state : QueueState) (fault : Fault) → base ≡ kept → m ≡ n → name ≡ base.name → run ≡ base.run
    → state ≡ after_deed base.state m → booked ≡ record base { name = name; run = run; state = state; live = booked.live; faults = base.faults ++ fault ∷ [] }
    → booked ≡ record kept { state = after_deed kept.state n; live = booked.live; faults = kept.faults ++ fault ∷ [] }
dry-kept base kept booked m n name run state fault same_kept same_number same_name same_run same_state is =
    is
    ∙ with-state (record base { live = booked.live; faults = base.faults ++ fault ∷ [] }) name run state (after_deed base.state m) same_name same_run same_state
    ∙ ap {B = KeptView} (λ (k : KeptView). record k { state = after_deed k.state m; live = booked.live; faults = k.faults ++ fault ∷ [] }) same_kept
    ∙ ap {B = KeptView} (λ j. record kept { state = after_deed kept.state j; live = booked.live; faults = kept.faults ++ fault ∷ [] }) same_number

module _ {B L : Type 0} (G : Ghosts B L) (kept : KeptView) (mid : Mid B L) (asks : Ask L) (has : HasIt G kept (asking mid asks)) where
  abbrev plan : Plan B L
  plan = mid.task.plan

  abbrev s : Script
  s = script G mid.task.plan

  abbrev n : ℕ
  n = mid.task.number

  abbrev top : Activation L
  top = has.is.alone.top

  abbrev now : ℕ
  now = time (script G mid.task.plan) mid.task.path mid.task.done

  pub law : IsLawful s
  law = lawful G kept (asking mid asks) has

  abbrev pub a : ActiveFrame
  a = (own G kept (asking mid asks) has).0

  abbrev pub a-live : active kept.state n ≡ Some a
  a-live = (own G kept (asking mid asks) has).1

  pub a-back : a.lent ≡ None
  a-back = has.back a a-live

  pub told : IsAsRead G plan kept.reading n has.of.frame
  told = has.core.frames.told n has.of.frame has.of.live

  pub asked : IsAsking G plan mid.task.path mid.task.done top mid.local asks
  asked = record { stands = has.is.alone.stands; paid = has.is.alone.stage.0; said = has.is.alone.stage.3 }

  pub held : (place queue : ℕ) (mode : _) → number_at mid.task.holdings place mode ≡ Some queue → number_at has.of.frame.holdings place mode ≡ Some queue
  held place queue mode at = ap (λ hs. number_at hs place mode) has.of.holdings ∙ at

  pub done-now : has.of.frame.done ≡ mid.task.done
  done-now = done-is G kept (asking mid asks) has

  -- what holds for this script and this active frame
  pub for-next : (Says : Script → ActiveFrame → Type 0) → Says s a → OnNext kept.name kept.state n Says
  for-next Says holds x is b b_live =
      subst (Says x) (same_Some a b (sym a-live ∙ b_live)) (subst (λ y. Says y a) (same_Some s x (sym has.core.name ∙ is)) holds)

  pub turn : MayBegin kept n → IsOnTurn kept.name kept.state n
  turn begun x is b b_live = begun.turn b b_live

  -- ---- it waits for whom the queues name

  pub waits : (after : KeptView) (same : FrameAtCoreView B L) (queue : ℕ) (wait_for : WaitFor) → after ≡ kept → same ≡ asking mid asks → AsksOf (asking mid asks) queue
      → OnActive kept.state n (λ b. IsCause kept.name kept.state b queue wait_for) → IsStep G kept after mid.task (step.Waits same wait_for)
  waits after same queue wait_for after_is same_is about causes = waits-cause G kept (asking mid asks) has after same queue wait_for after_is same_is about (causes a a-live)

  -- ---- a queue that it uses

  module _ (place queue : ℕ) (origin : Origin) (mode : Mode) (used : MayUseAt G plan mid.task.path mid.task.done top place mode origin) (at : number_at mid.task.holdings place mode ≡ Some queue)
      (kind_is : is_queue_mode mode ≡ true) where
    made : queue_origin s kept.state queue ≡ Some origin
    made =
        rights.queue-so G plan has.core.sound law kept.reading n has.of.frame told mid.task.path mid.task.done top has.of.path done-now has.is.alone.stands
        kept.state has.core.queues a a-live place queue mode origin used (held place queue mode at) kind_is

    -- what the queues tell of it
    pub on-queue : (Says : Script → Origin → Type 0) → OnQueue kept.name kept.state queue Says → Says s origin
    on-queue Says tells = tells s has.core.name law origin made

  abbrev pub may-do : MayDo kept.state n
  may-do =
      rights.may-do G plan has.core.sound law kept.reading n has.of.frame told mid.task.path mid.task.done top has.of.path done-now has.is.alone.stands
      kept.state has.core.queues a a-live a-back

-- ---- a push

module _ {B L : Type 0} (G : Ghosts B L) (kept : KeptView) (mid : Mid B L) (place : ℕ) (value : Value) (has : HasIt G kept (asking mid (ask.Push place value)))
    (queue : ℕ) (at : number_at mid.task.holdings place Push ≡ Some queue) where
  push-used : (origin : Origin) × MayUseAt G mid.task.plan mid.task.path mid.task.done has.is.alone.top place Push origin
  push-used = usable G kept mid (ask.Push place value) has place queue Push at

  push-goes : GoesOn G mid.task.plan mid.task.path mid.task.done has.is.alone.top mid.local answer.Nothing (deed.Push push-used.0 value)
  push-goes =
      pushes-on G mid.task.plan mid.task.path mid.task.done has.is.alone.top mid.local has.is.plan.lists place value push-used.0 (asked G kept mid (ask.Push place value) has) push-used.1

  pub push-may : MayUse kept.state mid.task.number queue Push × OnNext kept.name kept.state mid.task.number (λ s own. IsNextAbout (λ o. deed.Push o value) s kept.state own queue)
  push-may =
      let own_a = a G kept mid (ask.Push place value) has in
      let it =
      rights.may-push G mid.task.plan has.core.sound (law G kept mid (ask.Push place value) has) kept.reading mid.task.number has.of.frame (told G kept mid (ask.Push place value) has)
      mid.task.path mid.task.done has.is.alone.top has.of.path (done-now G kept mid (ask.Push place value) has) has.is.alone.stands kept.state has.core.queues
      own_a (a-live G kept mid (ask.Push place value) has) place queue value push-used.0 push-used.1 (held G kept mid (ask.Push place value) has place queue Push at)
      push-goes.deed (a-back G kept mid (ask.Push place value) has) in
      (it.0, for-next G kept mid (ask.Push place value) has (λ s own. IsNextAbout (λ o. deed.Push o value) s kept.state own queue) it.1)

  pub push-steps : MayBegin kept mid.task.number → (after : KeptView) (next : FrameAtCoreView B L) → next ≡ record { task = one_on mid.task; stage = Ready mid.local answer.Nothing }
      → IsOnlyLive kept.live after.live mid.task.number (option_map (come_to (mid.task.done + 1)) (live_at kept.live mid.task.number))
      → after ≡ record kept { state = after_deed kept.state mid.task.number; reading = gone_on_by kept.reading mid.task.number 1; live = after.live }
      → IsStep G kept after mid.task (step.Runs next)
  push-steps begun after next next_is only is =
      used-so G kept mid (ask.Push place value) has begun answer.Nothing (deed.Push push-used.0 value) push-goes after next next_is only
      (may-do G kept mid (ask.Push place value) has) is refl refl refl (λ same. absurd (cc))

-- ---- a pop

module _ {B L : Type 0} (G : Ghosts B L) (kept : KeptView) (mid : Mid B L) (place : ℕ) (has : HasIt G kept (asking mid (ask.Pop place)))
    (queue : ℕ) (at : number_at mid.task.holdings place Pop ≡ Some queue) where
  pop-used : (origin : Origin) × MayUseAt G mid.task.plan mid.task.path mid.task.done has.is.alone.top place Pop origin
  pop-used = usable G kept mid (ask.Pop place) has place queue Pop at

  popped-deed : deed_at (script G mid.task.plan) (time (script G mid.task.plan) mid.task.path mid.task.done) ≡ deed.Pop pop-used.0
  popped-deed = pop-does G kept mid place has pop-used.0 pop-used.1

  pub pop-may : MayUse kept.state mid.task.number queue Pop × OnNext kept.name kept.state mid.task.number (λ s own. IsNextAbout deed.Pop s kept.state own queue)
  pop-may =
      let it =
      rights.may-pop G mid.task.plan has.core.sound (law G kept mid (ask.Pop place) has) kept.reading mid.task.number has.of.frame (told G kept mid (ask.Pop place) has)
      mid.task.path mid.task.done has.is.alone.top has.of.path (done-now G kept mid (ask.Pop place) has) has.is.alone.stands kept.state has.core.queues
      (a G kept mid (ask.Pop place) has) (a-live G kept mid (ask.Pop place) has) place queue pop-used.0 pop-used.1 (held G kept mid (ask.Pop place) has place queue Pop at)
      popped-deed (a-back G kept mid (ask.Pop place) has) in
      (it.0, for-next G kept mid (ask.Pop place) has (λ s own. IsNextAbout deed.Pop s kept.state own queue) it.1)

  pub look-may : MayLook kept.state mid.task.number queue
  look-may =
      rights.may-look G mid.task.plan has.core.sound (law G kept mid (ask.Pop place) has) kept.reading mid.task.number has.of.frame (told G kept mid (ask.Pop place) has)
      mid.task.path mid.task.done has.is.alone.top has.of.path (done-now G kept mid (ask.Pop place) has) has.is.alone.stands kept.state has.core.queues
      (a G kept mid (ask.Pop place) has) (a-live G kept mid (ask.Pop place) has) place queue pop-used.0 pop-used.1 (held G kept mid (ask.Pop place) has place queue Pop at)
      popped-deed (a-back G kept mid (ask.Pop place) has)

  -- an item was found, or none, so the other answer isn't given
  pub finds-one : OnActive kept.state mid.task.number (λ own. OnQueue kept.name kept.state queue (FindsItem own))
      → OnActive kept.state mid.task.number (λ own. OnQueue kept.name kept.state queue (FindsNone own)) → ⊥
  finds-one some none =
      let mine = a G kept mid (ask.Pop place) has in
      let there = a-live G kept mid (ask.Pop place) has in
      let is_some = on-queue G kept mid (ask.Pop place) has place queue pop-used.0 Pop pop-used.1 at refl (FindsItem mine) (some mine there) in
      let is_none = on-queue G kept mid (ask.Pop place) has place queue pop-used.0 Pop pop-used.1 at refl (FindsNone mine) (none mine there) in
      omega (arith, is_some, is_none)

  item-goes : (item : Value) → OnActive kept.state mid.task.number (λ own. OnQueue kept.name kept.state queue (λ s origin. (next_item s own origin ≡ Some item) × FindsItem own s origin))
      → GoesOn G mid.task.plan mid.task.path mid.task.done has.is.alone.top mid.local (answer.Item item) (deed.Pop pop-used.0)
  item-goes item answers =
      let s = script G mid.task.plan in
      let now = time s mid.task.path mid.task.done in
      let mine = a G kept mid (ask.Pop place) has in
      let there = a-live G kept mid (ask.Pop place) has in
      let it = on-queue G kept mid (ask.Pop place) has place queue pop-used.0 Pop pop-used.1 at refl (λ s origin. (next_item s mine origin ≡ Some item) × FindsItem mine s origin) (answers mine there) in
      let left = rights.item-left G mid.task.plan has.core.sound (law G kept mid (ask.Pop place) has) kept.reading mid.task.number has.of.frame (told G kept mid (ask.Pop place) has)
      mid.task.path mid.task.done has.is.alone.top has.of.path (done-now G kept mid (ask.Pop place) has) has.is.alone.stands kept.state has.core.queues mine there pop-used.0 it.1 in
      let first = rights.item-so G mid.task.plan has.core.sound (law G kept mid (ask.Pop place) has) kept.reading mid.task.number has.of.frame (told G kept mid (ask.Pop place) has)
      mid.task.path mid.task.done has.is.alone.top has.of.path (done-now G kept mid (ask.Pop place) has) has.is.alone.stands kept.state has.core.queues mine there pop-used.0 item it.0 in
      some-and (slice_get (pushes s pop-used.0) (taken s pop-used.0 now))
      (λ value. GoesOn G mid.task.plan mid.task.path mid.task.done has.is.alone.top mid.local (answer.Item value) (deed.Pop pop-used.0))
      (GoesOn G mid.task.plan mid.task.path mid.task.done has.is.alone.top mid.local (answer.Item item) (deed.Pop pop-used.0))
      (pops-on G mid.task.plan mid.task.path mid.task.done has.is.alone.top mid.local has.is.plan.lists place pop-used.0 pop-used.1 (asked G kept mid (ask.Pop place) has) left)
      (λ value is goes. subst (λ v. GoesOn G mid.task.plan mid.task.path mid.task.done has.is.alone.top mid.local (answer.Item v) (deed.Pop pop-used.0)) (same_Some value item (sym is ∙ first)) goes)

  pub item-steps : MayBegin kept mid.task.number → (item : Value)
      → OnActive kept.state mid.task.number (λ own. OnQueue kept.name kept.state queue (λ s origin. (next_item s own origin ≡ Some item) × FindsItem own s origin))
      → (after : KeptView) (next : FrameAtCoreView B L) → next ≡ record { task = one_on mid.task; stage = Ready mid.local (answer.Item item) }
      → IsOnlyLive kept.live after.live mid.task.number (option_map (come_to (mid.task.done + 1)) (live_at kept.live mid.task.number))
      → after ≡ record kept { state = after_deed kept.state mid.task.number; reading = gone_on_by kept.reading mid.task.number 1; live = after.live }
      → IsStep G kept after mid.task (step.Runs next)
  item-steps begun item answers after next next_is only is =
      used-so G kept mid (ask.Pop place) has begun (answer.Item item) (deed.Pop pop-used.0) (item-goes item answers) after next next_is only
      (may-do G kept mid (ask.Pop place) has) is refl refl refl (λ same. absurd (cc))

  -- ---- no item is left

  none-faults : OnActive kept.state mid.task.number (λ own. OnQueue kept.name kept.state queue (FindsNone own))
      → MeetsFault G mid.task.plan mid.task.path mid.task.done has.is.alone.top kind.PopEmpty (deed.Pop pop-used.0)
  none-faults none =
      let mine = a G kept mid (ask.Pop place) has in
      let there = a-live G kept mid (ask.Pop place) has in
      let it = on-queue G kept mid (ask.Pop place) has place queue pop-used.0 Pop pop-used.1 at refl (FindsNone mine) (none mine there) in
      pops-none G mid.task.plan mid.task.path mid.task.done has.is.alone.top mid.local has.is.plan.lists place pop-used.0 pop-used.1 (asked G kept mid (ask.Pop place) has)
      (rights.none-left G mid.task.plan has.core.sound (law G kept mid (ask.Pop place) has) kept.reading mid.task.number has.of.frame (told G kept mid (ask.Pop place) has)
      mid.task.path mid.task.done has.is.alone.top has.of.path (done-now G kept mid (ask.Pop place) has) has.is.alone.stands kept.state has.core.queues mine there pop-used.0 it)

  pub none-last : OnActive kept.state mid.task.number (λ own. OnQueue kept.name kept.state queue (FindsNone own)) → IsLast G mid.task
  none-last none = ends_last G mid.task.plan mid.task.path mid.task.done has.is.alone.top has.is.alone.stands (ap is_end (none-faults none).effect)

  module _ (begun : MayBegin kept mid.task.number) (alone : (m : ℕ) → ¬ IsLiveChild kept.live mid.task.number m) where
    -- once the queues have counted the pop
    pub dry-join : MayJoin (after_deed kept.state mid.task.number) mid.task.number
    dry-join =
        ending.may-join_dry G mid.task.plan (law G kept mid (ask.Pop place) has) kept.reading kept.state kept.live kept.frames has.core.queues has.core.frames
        mid.task.number has.of.frame has.of.live alone (a G kept mid (ask.Pop place) has) (a-live G kept mid (ask.Pop place) has) (a-back G kept mid (ask.Pop place) has)

    pub dry-turn : IsOnTurn kept.name (after_deed kept.state mid.task.number) mid.task.number
    dry-turn x is b b_live =
        go_on-deed kept.state mid.task.number has.core.queues.tree (may-do G kept mid (ask.Pop place) has) mid.task.number (a G kept mid (ask.Pop place) has) b (a-live G kept mid (ask.Pop place) has) b_live
        (begun.turn (a G kept mid (ask.Pop place) has) (a-live G kept mid (ask.Pop place) has))

    popped : IsOnlyFrame kept.state (after_deed kept.state mid.task.number) mid.task.number (Some (with_deed (a G kept mid (ask.Pop place) has)))
    popped = one_changed kept.state mid.task.number with_deed (λ x. refl) (a G kept mid (ask.Pop place) has) (a-live G kept mid (ask.Pop place) has)

    module _ (none : OnActive kept.state mid.task.number (λ own. OnQueue kept.name kept.state queue (FindsNone own))) where
      pub dry-over : OnNext kept.name (after_deed kept.state mid.task.number) mid.task.number (λ s x. next_queue_deed s x.path x.deeds ≡ None)
      dry-over x is b b_live =
          let mine = a G kept mid (ask.Pop place) has in
          let f = has.of.frame in
          let s = script G mid.task.plan in
          let one : with_deed mine ≡ b = same_Some (with_deed mine) b (sym popped.changed ∙ b_live) in
          let does : deed_at s (time s f.path f.done) ≡ deed.Pop pop-used.0 =
          ap (λ q. deed_at s (time s q f.done)) has.of.path ∙ ap (λ k. deed_at s (time s mid.task.path k)) (done-now G kept mid (ask.Pop place) has) ∙ popped-deed in
          let last : f.done + 1 ≡ length (times s f.path) =
          ap (λ k. k + 1) (done-now G kept mid (ask.Pop place) has) ∙ none-last none ∙ ap (λ q. length (times s q)) (sym has.of.path) in
          subst (λ y. next_queue_deed y b.path b.deeds ≡ None) (same_Some s x (sym has.core.name ∙ is))
          (subst (λ (y : ActiveFrame). next_queue_deed s y.path y.deeds ≡ None) one
          (ending.over-next_dry G mid.task.plan (law G kept mid (ask.Pop place) has) kept.reading kept.state kept.live kept.frames has.core.queues has.core.frames
          mid.task.number f has.of.live alone mine (a-live G kept mid (ask.Pop place) has) pop-used.0 does last))

      pub dry-ends : (after : KeptView) (fault : Fault) (between : NumberedFrames) → HasOneFailed kept.live between has.of.frame.parent → IsOnlyLive between after.live mid.task.number None
          → after ≡ record kept {
            state = after_finish (after_deed kept.state mid.task.number) mid.task.number;
            versions = objects_after_finish kept.versions mid.task.number;
            reading = gone_on_by kept.reading mid.task.number 1;
            live = after.live;
            faults = kept.faults ++ fault ∷ [];
          }
          → fault.kind ≡ kind.PopEmpty → fault.path ≡ mid.task.path → fault.place ≡ mid.at → IsStep G kept after mid.task step.Ended
      dry-ends after fault between one only is kind_is path place_is =
          let given = one-failed-given kept.live between has.of.frame.parent one in
          let n = mid.task.number in
          let s = script G mid.task.plan in
          let effect : effect_at G mid.task.plan mid.task.path mid.task.done has.is.alone.top ≡ faults fault.kind = (none-faults none).effect ∙ ap faults (sym kind_is) in
          let settled = settled-so G kept (asking mid (ask.Pop place)) has begun alone in
          let gone = one_gone (after_deed kept.state n) n in
          let then_state = after_finish (after_deed kept.state n) n in
          let r = kept.reading in
          let known_is = known G kept (asking mid (ask.Pop place)) has in
          let lawful_is = law G kept mid (ask.Pop place) has in
          let act = may-do G kept mid (ask.Pop place) has in
          let is_fault : IsFaultOf G mid.task.plan fault =
          is-fault G kept (asking mid (ask.Pop place)) has begun (none-last none) fault effect path (place_is ∙ has.is.alone.stage.2) in
          subst (λ k. IsStep G kept k mid.task step.Ended) (sym is)
          (ends-so G kept (asking mid (ask.Pop place)) has begun (none-last none) (deed.Pop pop-used.0) popped-deed refl refl
          (record kept {
            state = then_state;
            versions = objects_after_finish kept.versions n;
            reading = gone_on_by r n 1;
            live = after.live;
            faults = kept.faults ++ fault ∷ [];
          })
          settled between given (alike-failed G kept (asking mid (ask.Pop place)) has begun (none-last none) between one) only refl refl refl refl refl alone
          (record { changed = gone.changed; others = λ m other. gone.others m other ∙ popped.others m other })
          (queues.finished-dry s lawful_is r kept.state has.core.queues n mid.task.path mid.task.done known_is pop-used.0 then_state popped-deed (none-last none) act dry-join refl)
          (live.leaves-dry G mid.task.plan r kept.state between kept.frames (live.as-before G mid.task.plan r kept.state kept.live kept.frames has.core.frames between given) has.core.queues.tree n (a G kept mid (ask.Pop place) has) then_state after.live
          (a-live G kept mid (ask.Pop place) has) act dry-join refl only)
          (booked.faulted G mid.task.plan r n mid.task.path mid.task.done known_is has.is.alone.top has.is.alone.stands (none-last none) has.core.queues.fit.tasks
          kept.faults (kept.faults ++ fault ∷ []) fault is_fault path refl has.core.booked)
          (counted-fault G kept (asking mid (ask.Pop place)) has begun (none-last none) between after.live fault path one only))

-- ---- a test

-- what was answered of a queue
abbrev pub IsToldOf : KeptView → (number queue : ℕ) → Bool → Type 0
IsToldOf kept number queue false = OnActive kept.state number (λ own. OnQueue kept.name kept.state queue (FindsItem own))
IsToldOf kept number queue true = OnActive kept.state number (λ own. OnQueue kept.name kept.state queue (FindsNone own))

module _ {B L : Type 0} (G : Ghosts B L) (kept : KeptView) (mid : Mid B L) (place : ℕ) (has : HasIt G kept (asking mid (ask.Empty place)))
    (queue : ℕ) (at : number_at mid.task.holdings place Pop ≡ Some queue) where
  test-used : (origin : Origin) × MayUseAt G mid.task.plan mid.task.path mid.task.done has.is.alone.top place Pop origin
  test-used = usable G kept mid (ask.Empty place) has place queue Pop at

  test-some : taken (script G mid.task.plan) test-used.0 (time (script G mid.task.plan) mid.task.path mid.task.done) < count (script G mid.task.plan) test-used.0 (time (script G mid.task.plan) mid.task.path mid.task.done)
      → GoesOn G mid.task.plan mid.task.path mid.task.done has.is.alone.top mid.local (answer.Flag false) (deed.Test test-used.0)
  test-some = tests-some G mid.task.plan mid.task.path mid.task.done has.is.alone.top mid.local has.is.plan.lists place test-used.0 test-used.1 (asked G kept mid (ask.Empty place) has)

  test-none : count (script G mid.task.plan) test-used.0 (time (script G mid.task.plan) mid.task.path mid.task.done) ≤ taken (script G mid.task.plan) test-used.0 (time (script G mid.task.plan) mid.task.path mid.task.done)
      → GoesOn G mid.task.plan mid.task.path mid.task.done has.is.alone.top mid.local (answer.Flag true) (deed.Test test-used.0)
  test-none = tests-none G mid.task.plan mid.task.path mid.task.done has.is.alone.top mid.local has.is.plan.lists place test-used.0 test-used.1 (asked G kept mid (ask.Empty place) has)

  tested-deed : deed_at (script G mid.task.plan) (time (script G mid.task.plan) mid.task.path mid.task.done) ≡ deed.Test test-used.0
  tested-deed =
      let s = script G mid.task.plan in
      let now = time s mid.task.path mid.task.done in
      elim (cases_lt (taken s test-used.0 now) (count s test-used.0 now)) [
        | inl some ↦ (test-some some).deed
        | inr none ↦ (test-none none).deed
      ]

  pub test-may : MayUse kept.state mid.task.number queue Pop × OnNext kept.name kept.state mid.task.number (λ s own. IsNextAbout deed.Test s kept.state own queue)
  test-may =
      let it =
      rights.may-test G mid.task.plan has.core.sound (law G kept mid (ask.Empty place) has) kept.reading mid.task.number has.of.frame (told G kept mid (ask.Empty place) has)
      mid.task.path mid.task.done has.is.alone.top has.of.path (done-now G kept mid (ask.Empty place) has) has.is.alone.stands kept.state has.core.queues
      (a G kept mid (ask.Empty place) has) (a-live G kept mid (ask.Empty place) has) place queue test-used.0 test-used.1 (held G kept mid (ask.Empty place) has place queue Pop at)
      tested-deed (a-back G kept mid (ask.Empty place) has) in
      (it.0, for-next G kept mid (ask.Empty place) has (λ s own. IsNextAbout deed.Test s kept.state own queue) it.1)

  test-goes : (empty : Bool) → IsToldOf kept mid.task.number queue empty → GoesOn G mid.task.plan mid.task.path mid.task.done has.is.alone.top mid.local (answer.Flag empty) (deed.Test test-used.0)
  test-goes false some =
      let mine = a G kept mid (ask.Empty place) has in
      let there = a-live G kept mid (ask.Empty place) has in
      let it = on-queue G kept mid (ask.Empty place) has place queue test-used.0 Pop test-used.1 at refl (FindsItem mine) (some mine there) in
      test-some (rights.item-left G mid.task.plan has.core.sound (law G kept mid (ask.Empty place) has) kept.reading mid.task.number has.of.frame (told G kept mid (ask.Empty place) has)
      mid.task.path mid.task.done has.is.alone.top has.of.path (done-now G kept mid (ask.Empty place) has) has.is.alone.stands kept.state has.core.queues mine there test-used.0 it)
  test-goes true none =
      let mine = a G kept mid (ask.Empty place) has in
      let there = a-live G kept mid (ask.Empty place) has in
      let it = on-queue G kept mid (ask.Empty place) has place queue test-used.0 Pop test-used.1 at refl (FindsNone mine) (none mine there) in
      test-none (rights.none-left G mid.task.plan has.core.sound (law G kept mid (ask.Empty place) has) kept.reading mid.task.number has.of.frame (told G kept mid (ask.Empty place) has)
      mid.task.path mid.task.done has.is.alone.top has.of.path (done-now G kept mid (ask.Empty place) has) has.is.alone.stands kept.state has.core.queues mine there test-used.0 it)

  pub test-steps : MayBegin kept mid.task.number → (empty : Bool) → IsToldOf kept mid.task.number queue empty
      → (after : KeptView) (next : FrameAtCoreView B L) → next ≡ record { task = one_on mid.task; stage = Ready mid.local (answer.Flag empty) }
      → IsOnlyLive kept.live after.live mid.task.number (option_map (come_to (mid.task.done + 1)) (live_at kept.live mid.task.number))
      → after ≡ record kept { state = after_deed kept.state mid.task.number; reading = gone_on_by kept.reading mid.task.number 1; live = after.live }
      → IsStep G kept after mid.task (step.Runs next)
  test-steps begun empty told_so after next next_is only is =
      used-so G kept mid (ask.Empty place) has begun (answer.Flag empty) (deed.Test test-used.0) (test-goes empty told_so) after next next_is only
      (may-do G kept mid (ask.Empty place) has) is refl refl refl (λ same. absurd (cc))
