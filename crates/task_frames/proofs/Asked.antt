-- A frame at the core that asks for something: what it may use, and how it goes on.
use Rattle.std.proofs.Common.{◌≡◌, ◌≢◌, inl, inr, ℕ, ◌+◌, ◌<◌, true, false, cond, Option, Some, None, List, [], ◌∷◌, map, refl, sym, ap, subst, ◌∙◌, arith}
use Rattle.std.proofs.lemmas.Bool.{cases_lt}
use Rattle.std.specs.Option.{option_map}
use Rattle.std.specs.Prelude.{slice_get}
use Rattle.swan_model.specs.declared.body.Answer.{Answer}
use Rattle.swan_model.specs.declared.body.Answer.TheVariants as answer
use Rattle.swan_model.specs.declared.body.Ask.{Ask}
use Rattle.swan_model.specs.declared.body.Ask.TheVariants as ask
use Rattle.swan_model.specs.declared.body.Body.{Ghosts}
use Rattle.swan_model.specs.declared.fault.FaultKind.TheVariants as kind
use Rattle.swan_model.specs.declared.origin.Origin.{Origin}
use Rattle.swan_model.specs.declared.rights.Give.{Give}
use Rattle.swan_model.specs.declared.rights.Mode.{Mode}
use Rattle.swan_model.specs.declared.rights.Mode.TheVariants.{In, Out, Push, Pop}
use Rattle.swan_model.specs.declared.script.Deed.{Deed}
use Rattle.swan_model.specs.declared.script.Deed.TheVariants as deed
use Rattle.swan_model.specs.declared.value.Value.{Value}
use Rattle.swan_model.specs.Granted.{is_spawn}
use Rattle.swan_model.specs.QueueState.{after_deed}
use Rattle.swan_model.specs.Values.{COUNT_MOST}
use Rattle.swan_model.specs.Readings.{gone_on_by}
use Rattle.swan_model.specs.Rights.{allows}
use Rattle.swan_model.specs.Script.{script}
use Rattle.swan_model.specs.SerialState.{Activation, Holding}
use Rattle.swan_model.specs.SerialStep.{after_next, given, given_also, number_at, used_by, with_answer}
use Rattle.swan_model.specs.SerialTime.{is_queue_deed, time}
use Rattle.swan_model.specs.Told.{count, deed_at, pushes, taken}
use Rattle.swan_model.specs.Versions.{Placed, after_write, placed_at}
use Rattle.swan_model.specs.VersionsFollow.{is_object_deed}
use Rattle.queues.specs.Asks.{MayDo}
use Rattle.serial_elision.specs.TaskSteps.{MeetsFault, GoesOn, IsAsking, LacksRight, MayUseAt}
use Rattle.serial_elision.proofs.AskSteps.{pops-none, pops-on, refused, use-named}
use Rattle.serial_elision.proofs.Held.{used-at}
use Rattle.serial_elision.proofs.TaskSteps.{stands-one}
use Rattle.task_frames.specs.declared.stage.Stage.TheVariants.{Ready}
use Rattle.task_frames.specs.declared.step.Step.TheVariants as step
use Rattle.task_frames.specs.Cores.{FrameAtCoreView, HasIt, KeptView, MayBegin, Mid, asking, one_on}
use Rattle.task_frames.specs.Records.{IsOnlyLive, LiveFrame, NumberedFrames, come_to, live_at}
use Rattle.task_frames.specs.Resumes.{EndsTaskByFault, IsStep, MayNotUse}
use Rattle.task_frames.proofs.Goings.{goes-told, runs-quiet, runs-used, runs-written}
use Rattle.task_frames.proofs.Served.{same-mode, some-and}
use Rattle.serial_elision.proofs.FewMade.{few-times}

-- ---- what is held, by the run's numbers and by the elision's

-- a place at which nothing may be used so, by one list, and by another of the same modes
none-too : (xs ys : List Holding) (place : ℕ) (mode : Mode) → map (λ (x : Holding). x.mode) xs ≡ map (λ (x : Holding). x.mode) ys → number_at xs place mode ≡ None → number_at ys place mode ≡ None
none-too xs ys place mode same none = by (slice_get ys place) refl where
  by : (found : Option Holding) → slice_get ys place ≡ found → used_by mode found ≡ None
  by None is = refl
  by (Some y) is =
      let x = same-mode ys xs place y (sym same) is in
      let was : used_by mode (Some x.0) ≡ None = ap (used_by mode) (sym x.1) ∙ none in
      go y x.0 (allows y.mode mode) refl x.2 was
    where
      go : (h g : Holding) (b : _) → allows h.mode mode ≡ b → g.mode ≡ h.mode → used_by mode (Some g) ≡ None → used_by mode (Some h) ≡ None
      go h g false not_so eq was = ap (λ b. cond b (Some h.number) None) not_so
      go h g true so eq was = let some : used_by mode (Some g) ≡ Some g.number = ap (λ b. cond b (Some g.number) None) (ap (λ m. allows m mode) eq ∙ so) in let both : None ≡ Some g.number = sym was ∙ some in absurd (cc)

given-none : (xs ys : List Holding) (gives : List Give) → map (λ (x : Holding). x.mode) xs ≡ map (λ (x : Holding). x.mode) ys → given xs gives ≡ None → given ys gives ≡ None
given-none xs ys [] same none = absurd (cc)
given-none xs ys (give ∷ gives) same none = by (number_at xs give.place give.mode) (given xs gives) refl refl none (given-none xs ys gives same) where
  last : (a : Option ℕ) → given ys gives ≡ None → given_also give a (given ys gives) ≡ None
  last None is = refl
  last (Some m) is = ap (given_also give (Some m)) is

  by : (a : Option ℕ) (b : Option (List Holding)) → number_at xs give.place give.mode ≡ a → given xs gives ≡ b → given_also give a b ≡ None → (given xs gives ≡ None → given ys gives ≡ None)
      → given ys (give ∷ gives) ≡ None
  by None b not_there rest is before = ap (λ a. given_also give a (given ys gives)) (none-too xs ys give.place give.mode same not_there)
  by (Some number) None some not_there is before = last (number_at ys give.place give.mode) (before not_there)
  by (Some number) (Some hs) some rest is before = absurd (cc)

-- the record, once a frame in it has come so far
pub noted : (before after : NumberedFrames) (n done : ℕ) (f : LiveFrame) → live_at before n ≡ Some f → IsOnlyLive before after n (option_map (come_to done) (live_at before n)) → IsOnlyLive before after n (Some (record f { done = done }))
noted before after n done f there only = subst (λ o. IsOnlyLive before after n (option_map (come_to done) o)) there only

-- the same, by a number and a count that are the frame's, and over what is the same, for each change of the frame
pub noted-by : (change : ℕ → LiveFrame → LiveFrame) (kept other after : KeptView) (n m d e : ℕ) → other ≡ kept → n ≡ m → d ≡ e → after ≡ record other { reading = gone_on_by other.reading n 1; live = after.live }
    → IsOnlyLive other.live after.live n (option_map (change (d + 1)) (live_at other.live n))
    → (after ≡ record kept { reading = gone_on_by kept.reading m 1; live = after.live }) × IsOnlyLive kept.live after.live m (option_map (change (e + 1)) (live_at kept.live m))
noted-by change kept other after n m d e same number done is only = (
  subst (λ x. after ≡ record kept { reading = gone_on_by kept.reading x 1; live = after.live }) number
      (subst (λ (k : KeptView). after ≡ record k { reading = gone_on_by k.reading n 1; live = after.live }) same is),
  subst (λ x. IsOnlyLive kept.live after.live m (option_map (change (x + 1)) (live_at kept.live m))) done
      (subst (λ x. IsOnlyLive kept.live after.live x (option_map (change (d + 1)) (live_at kept.live x))) number
      (subst (λ (k : KeptView). IsOnlyLive k.live after.live n (option_map (change (d + 1)) (live_at k.live n))) same only)),
)

pub noted-so : (kept other after : KeptView) (n m d e : ℕ) → other ≡ kept → n ≡ m → d ≡ e → after ≡ record other { reading = gone_on_by other.reading n 1; live = after.live }
    → IsOnlyLive other.live after.live n (option_map (come_to (d + 1)) (live_at other.live n))
    → (after ≡ record kept { reading = gone_on_by kept.reading m 1; live = after.live }) × IsOnlyLive kept.live after.live m (option_map (come_to (e + 1)) (live_at kept.live m))
noted-so = noted-by come_to

module _ {B L : Type 0} (G : Ghosts B L) (kept : KeptView) (mid : Mid B L) (asks : Ask L) (has : HasIt G kept (asking mid asks)) where
  abbrev top : Activation L
  top = has.is.alone.top

  -- ---- it can be counted

  pub steps-few : mid.task.done < COUNT_MOST
  steps-few = let left = has.is.alone.stands.left in let few = few-times G mid.task.plan mid.task.path in let most = has.is.plan.fuel in omega (arith, left, few, most)

  -- ---- what it may use

  pub usable : (place number : ℕ) (mode : Mode) → number_at mid.task.holdings place mode ≡ Some number → (origin : Origin) × MayUseAt G mid.task.plan mid.task.path mid.task.done top place mode origin
  usable place number mode at =
      let used = used-at mid.task.holdings place number mode (slice_get mid.task.holdings place) refl at in
      let same = same-mode mid.task.holdings top.holdings place used.holding has.is.alone.modes used.stands in
      use-named G mid.task.plan mid.task.path mid.task.done top has.is.plan.lists has.is.alone.stands place same.0 mode same.1 (ap (λ m. allows m mode) same.2 ∙ used.allowed)

  -- ---- what it may not

  is-refused : (other : Ask L) → MayNotUse mid.task.holdings other → LacksRight G mid.task.plan mid.task.path mid.task.done top other
  is-refused (ask.Read place) none = none-too mid.task.holdings top.holdings place In has.is.alone.modes none
  is-refused (ask.Write place value) none = none-too mid.task.holdings top.holdings place Out has.is.alone.modes none
  is-refused (ask.Push place value) none = none-too mid.task.holdings top.holdings place Push has.is.alone.modes none
  is-refused (ask.Pop place) none = none-too mid.task.holdings top.holdings place Pop has.is.alone.modes none
  is-refused (ask.Empty place) none = none-too mid.task.holdings top.holdings place Pop has.is.alone.modes none
  is-refused (ask.Spawn new) none = given-none mid.task.holdings top.holdings new.gives has.is.alone.modes none
  is-refused ask.Work none = absurd none
  is-refused ask.NewQueue none = absurd none
  is-refused (ask.NewObject value) none = absurd none
  is-refused ask.Sync none = absurd none
  is-refused ask.Finish none = absurd none
  is-refused (ask.Fail trouble) none = absurd none

  -- a fault of the step at which it stands, at the place before it
  pub ends-by : (fault : _) → MeetsFault G mid.task.plan mid.task.path mid.task.done top fault deed.Quiet → EndsTaskByFault G mid.task mid.at fault
  ends-by fault is other at =
      let one = stands-one G mid.task.plan mid.task.path mid.task.done top other has.is.alone.stands at in
      (subst (λ a. MeetsFault G mid.task.plan mid.task.path mid.task.done a fault deed.Quiet) one is, has.is.alone.stage.2 ∙ ap (λ (a : Activation L). G.place_of mid.task.plan.body a.local) one)

  pub refused-so : MayNotUse mid.task.holdings asks → EndsTaskByFault G mid.task mid.at kind.Privilege
  refused-so none = ends-by kind.Privilege (refused G mid.task.plan mid.task.path mid.task.done top mid.local asks (is-asking-so) (is-refused asks none)) where
    is-asking-so : IsAsking G mid.task.plan mid.task.path mid.task.done top mid.local asks
    is-asking-so = record { stands = has.is.alone.stands; paid = has.is.alone.stage.0; said = has.is.alone.stage.3 }

  -- ---- how it goes on

  module _ (begun : MayBegin kept mid.task.number) (said : Answer) (does : Deed) (goes : GoesOn G mid.task.plan mid.task.path mid.task.done top mid.local said does)
      (after : KeptView) (next : FrameAtCoreView B L) (next_is : next ≡ record { task = one_on mid.task; stage = Ready mid.local said })
      (only : IsOnlyLive kept.live after.live mid.task.number (option_map (come_to (mid.task.done + 1)) (live_at kept.live mid.task.number))) where
    abbrev n : ℕ
    n = mid.task.number

    abbrev then : Activation L
    then = with_answer (after_next top mid.local) said

    pub quiet-so : after ≡ record kept { reading = gone_on_by kept.reading n 1; live = after.live } → is_queue_deed does ≡ false → is_object_deed does ≡ false → is_spawn does ≡ false
        → does ≢ deed.Sync → IsStep G kept after mid.task (step.Runs next)
    quiet-so is no_queue no_object no_spawn no_wait =
        subst (λ x. IsStep G kept after mid.task (step.Runs x)) (sym next_is)
        (runs-quiet G kept mid asks has begun said does then goes (goes-told top mid.local said) after (noted kept.live after.live n (mid.task.done + 1) has.of.frame has.of.live only) is no_queue no_object no_spawn no_wait)

    pub written-so : (place : ℕ) (value : Value) (origin : Origin) (object : Placed) → after ≡ record kept { versions = after_write kept.versions n place value; reading = gone_on_by kept.reading n 1; live = after.live }
        → does ≡ deed.Write origin value → placed_at kept.versions n place ≡ Some object → allows object.mode Out ≡ true → slice_get kept.reading.objects object.object ≡ Some origin
        → IsStep G kept after mid.task (step.Runs next)
    written-so place value origin object is written stands may named =
        subst (λ x. IsStep G kept after mid.task (step.Runs x)) (sym next_is)
        (runs-written G kept mid asks has begun said does then goes (goes-told top mid.local said) after place value origin object (noted kept.live after.live n (mid.task.done + 1) has.of.frame has.of.live only) is written stands may named)

    pub used-so : MayDo kept.state n → after ≡ record kept { state = after_deed kept.state n; reading = gone_on_by kept.reading n 1; live = after.live }
        → is_queue_deed does ≡ true → is_object_deed does ≡ false → is_spawn does ≡ false → does ≢ deed.MakeQueue → IsStep G kept after mid.task (step.Runs next)
    used-so act is queue no_object no_spawn no_making =
        subst (λ x. IsStep G kept after mid.task (step.Runs x)) (sym next_is)
        (runs-used G kept mid asks has begun said does then goes (goes-told top mid.local said) after (noted kept.live after.live n (mid.task.done + 1) has.of.frame has.of.live only) act is queue no_object no_spawn no_making)

-- ---- the deed of a pop, whether or not an item is left

module _ {B L : Type 0} (G : Ghosts B L) (kept : KeptView) (mid : Mid B L) (place : ℕ) (has : HasIt G kept (asking mid (ask.Pop place))) where
  pub pop-does : (origin : Origin) → MayUseAt G mid.task.plan mid.task.path mid.task.done has.is.alone.top place Pop origin
      → deed_at (script G mid.task.plan) (time (script G mid.task.plan) mid.task.path mid.task.done) ≡ deed.Pop origin
  pop-does origin may =
      let s = script G mid.task.plan in
      let now = time s mid.task.path mid.task.done in
      let asked : IsAsking G mid.task.plan mid.task.path mid.task.done has.is.alone.top mid.local (ask.Pop place) =
      record { stands = has.is.alone.stands; paid = has.is.alone.stage.0; said = has.is.alone.stage.3 } in
      elim (cases_lt (taken s origin now) (count s origin now)) [
        | inl some ↦
            some-and (slice_get (pushes s origin) (taken s origin now)) (λ value. GoesOn G mid.task.plan mid.task.path mid.task.done has.is.alone.top mid.local (answer.Item value) (deed.Pop origin)) (deed_at s now ≡ deed.Pop origin)
            (pops-on G mid.task.plan mid.task.path mid.task.done has.is.alone.top mid.local has.is.plan.lists place origin may asked some) (λ item there goes. goes.deed)
        | inr none ↦ (pops-none G mid.task.plan mid.task.path mid.task.done has.is.alone.top mid.local has.is.plan.lists place origin may asked none).deed
      ]
