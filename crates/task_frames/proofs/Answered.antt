-- What the core answers of a step.
use Rattle.std.proofs.Common.{◌≡◌, ◌≢◌, ◌<◌, ℕ, ◌+◌, Some, None, is_some, length, refl, sym, ap, subst, ◌∙◌, arith}
use Rattle.std.proofs.lemmas.Option.{same_Some}
use Rattle.std.specs.Option.{option_map}
use Rattle.swan_model.specs.declared.body.Body.{Ghosts}
use Rattle.swan_model.specs.declared.plan.Plan.{Plan}
use Rattle.swan_model.specs.QueueState.{active}
use Rattle.swan_model.specs.Script.{script}
use Rattle.swan_model.specs.SerialTime.{times}
use Rattle.queues.proofs.ActiveAfter.{one_goes_on}
use Rattle.task_frames.specs.declared.resumed.Resumed.{Resumed}
use Rattle.task_frames.specs.declared.resumed.Resumed.TheVariants as resumed
use Rattle.task_frames.specs.declared.step.Step.{Step}
use Rattle.task_frames.specs.declared.step.Step.TheVariants as step
use Rattle.task_frames.specs.declared.steps.Steps.{Steps}
use Rattle.task_frames.specs.Cores.{MayBegin, FrameAtCoreView, CoreView, HasIt, IsCore, KeptView, after_coming_in}
use Rattle.task_frames.specs.Frames.{FrameView, TaskView}
use Rattle.task_frames.specs.Records.{HasNoLiveChild, IsLiveChild, as_given, come_at, live_at}
use Rattle.task_frames.specs.Resumes.{MayStep, AreOfPlan, EndsOf, HasMoreFrames, HasMoreFramesAtCore, HasLent, HasNoChildAtCore, HaveCome, IsAnswered, IsNewChildOf, IsGivenAs, IsGivenBy, IsLast, IsLiveBefore, IsNextNumber, IsOneOn, IsResumed, IsShown, IsStep, OnGoneOn, OthersKept, OthersKeptAtEnd, OthersStay, OthersStayAtEnd, WaitsForEarlier, waited_for}
use Rattle.task_frames.proofs.Given.{given-stays, has-stays}
use Rattle.task_frames.proofs.Lives.{child-came, child-comes, come-only}

-- ---- frames that are given one after the other

pub lent-others : (before after : KeptView) (n : ℕ) → HasLent before after n → OthersStay before after (λ other. other ≢ n)
lent-others before after n lent = record {
  live = λ other differs. ap (λ (k : KeptView). live_at k.live other) lent.after_is;
  active_are = λ other differs. ap (λ (k : KeptView). active k.state other) lent.after_is
      ∙ (one_goes_on before.state n lent.own (λ x. record x { lent = Some (record { deeds = lent.own.deeds; ends = lent.list }) }) (λ x. refl) lent.active_is).others other differs;
}

pub lent-run : (before after : KeptView) (n : ℕ) → HasLent before after n → after.run ≡ before.run
lent-run before after n lent = ap (λ (k : KeptView). k.run) lent.after_is

pub lent-count : (before after : KeptView) (n : ℕ) → HasLent before after n → HasMoreFrames before after 0
lent-count before after n lent = let same : after.frames ≡ before.frames = ap (λ (k : KeptView). k.frames) lent.after_is in omega (arith, same)

then-count : (a b c : KeptView) → HasMoreFrames a b 0 → HasMoreFrames b c 0 → HasMoreFrames a c 0
then-count a b c first then = omega (arith, first, then)

then-stay : (a b c : KeptView) (IsOther : ℕ → Type 0) → OthersStay a b IsOther → OthersStay b c IsOther → OthersStay a c IsOther
then-stay a b c IsOther first then = record {
  live = λ other is. then.live other is ∙ first.live other is;
  active_are = λ other is. then.active_are other is ∙ first.active_are other is;
}

fewer-stay : (a b : KeptView) (IsOther IsToo : ℕ → Type 0) → ((n : ℕ) → IsToo n → IsOther n) → OthersStay a b IsOther → OthersStay a b IsToo
fewer-stay a b IsOther IsToo of stay = record { live = λ other is. stay.live other (of other is); active_are = λ other is. stay.active_are other (of other is) }

module _ {B L : Type 0} (G : Ghosts B L) (before middle : KeptView) (plan : Plan B L) (its : Step B L) (parent child : FrameAtCoreView B L) (is : its ≡ step.Spawned parent child) (come : HaveCome G before its)
    (of_plan : AreOfPlan plan its) (core : IsCore G parent.task.plan middle) (lent : HasLent before middle parent.task.number) where
  both : HaveCome G before (step.Spawned parent child)
  both = subst (HaveCome G before) is come

  pub child-stays : HasIt G middle child
  child-stays =
      let plans = subst (AreOfPlan plan) is of_plan in
      has-stays G before middle (λ other. other ≢ parent.task.number) (lent-others before middle parent.task.number lent) child both.2 (subst (λ p. IsCore G p middle) (plans.0 ∙ sym plans.1) core) both.1

  pub spawned-answered : {E : Type 0} (Q : Type 0) (of : EndsOf E) (after : KeptView) (frame spawned : FrameView B L E) (steps : Steps) → steps.count ≡ 1 → IsGivenAs of middle parent frame → IsGivenAs of after child spawned
      → HasLent middle after child.task.number → IsAnswered {Q = Q} of before after its (resumed.Spawned frame spawned steps)
  spawned-answered Q of after frame spawned steps one given child_given then =
      subst (λ x. IsAnswered {Q = Q} of before after x (resumed.Spawned frame spawned steps)) (sym is) (
        one,
        record {
          task = given.task;
          stage = given.stage;
          mark = given.mark;
          run = given.run ∙ sym (lent-run middle after child.task.number then);
          given = given-stays G middle after (λ other. other ≢ child.task.number) (lent-others middle after child.task.number then) frame.task (of.ends frame.ends)
              (λ same. both.2 (sym (sym (ap (λ (t : TaskView B L). t.number) given.task) ∙ same))) given.given;
        },
        child_given,
        then-stay before middle after (λ other. (other ≢ parent.task.number) × (other ≢ child.task.number))
            (fewer-stay before middle (λ other. other ≢ parent.task.number) (λ other. (other ≢ parent.task.number) × (other ≢ child.task.number)) (λ n both_apart. both_apart.0)
            (lent-others before middle parent.task.number lent))
            (fewer-stay middle after (λ other. other ≢ child.task.number) (λ other. (other ≢ parent.task.number) × (other ≢ child.task.number)) (λ n both_apart. both_apart.1)
            (lent-others middle after child.task.number then)),
        then-count before middle after (lent-count before middle parent.task.number lent) (lent-count middle after child.task.number then),
      )

pub runs-answered : {B L E : Type 0} (Q : Type 0) (of : EndsOf E) (before after : KeptView) (its : Step B L) (next : FrameAtCoreView B L) (frame : FrameView B L E) (steps : Steps) → its ≡ step.Runs next → steps.count ≡ 1
    → IsGivenAs of after next frame → HasLent before after next.task.number → IsAnswered {Q = Q} of before after its (resumed.Runs frame steps)
runs-answered Q of before after its next frame steps is one given lent =
    subst (λ x. IsAnswered {Q = Q} of before after x (resumed.Runs frame steps)) (sym is)
    (one, given, lent-others before after next.task.number lent, lent-count before after next.task.number lent)

-- ---- a frame that is resumed

all-stay : (a : KeptView) (IsOther : ℕ → Type 0) → OthersStay a a IsOther
all-stay a IsOther = record { live = λ other is. refl; active_are = λ other is. refl }

module _ {B L E : Type 0} (G : Ghosts B L) (of : EndsOf E) (before after : CoreView B L) (frame : FrameView B L E) (at : FrameAtCoreView B L) (start taken stepped given : KeptView)
    (start_is : before.kept ≡ Some start) (given_is : after.kept ≡ Some given) (plan : frame.task.plan ≡ after.plan) (run : given.run ≡ after.run)
    (task : at.task ≡ record frame.task { since = frame.task.done }) (come : taken ≡ after_coming_in start frame.task (of.ends frame.ends))
    (others : OthersStay start taken (λ other. other ≢ frame.task.number)) where
  abbrev n : ℕ
  n = frame.task.number

  number-is : at.task.number ≡ n
  number-is = ap (λ (t : TaskView B L). t.number) task

  kept-others : (IsOther : ℕ → Type 0) → OthersStay start given IsOther → OthersKept before after IsOther
  kept-others IsOther stay = λ x is y its.
      subst (λ k. OthersStay k y IsOther) (same_Some start x (sym start_is ∙ is)) (subst (λ k. OthersStay start k IsOther) (same_Some given y (sym given_is ∙ its)) stay)

  -- how many frames there were
  frames-taken : taken.frames ≡ start.frames
  frames-taken = ap (λ (k : KeptView). k.frames) come

  counted-on : (more : ℕ) → HasMoreFrames taken stepped more → HasMoreFrames stepped given 0 → HasMoreFramesAtCore before after more
  counted-on more goes stays = λ x is y its.
      let first : start.frames ≡ x.frames = ap (λ (k : KeptView). k.frames) (same_Some start x (sym start_is ∙ is)) in
      let last : given.frames ≡ y.frames = ap (λ (k : KeptView). k.frames) (same_Some given y (sym given_is ∙ its)) in
      omega (arith, first, last, frames-taken, goes, stays)

  next-number : (number : ℕ) → number ≡ taken.frames → IsNextNumber before number
  next-number number is = λ x kept_is. is ∙ frames-taken ∙ ap (λ (k : KeptView). k.frames) (same_Some start x (sym start_is ∙ kept_is))

  -- where nothing was changed
  counted-same : (a b : KeptView) → b ≡ a → HasMoreFrames a b 0
  counted-same a b same = let frames : b.frames ≡ a.frames = ap (λ (k : KeptView). k.frames) same in omega (arith, frames)

  kept-at-end : OthersStayAtEnd start given n → OthersKeptAtEnd before after n
  kept-at-end stay = λ x is y its.
      subst (λ k. OthersStayAtEnd k y n) (same_Some start x (sym start_is ∙ is)) (subst (λ k. OthersStayAtEnd start k n) (same_Some given y (sym given_is ∙ its)) stay)

  given-by : (next : FrameAtCoreView B L) (it : FrameView B L E) → next.task.plan ≡ frame.task.plan → IsGivenAs of given next it → IsGivenBy of after it
  given-by next it same so = record {
    kept = given;
    keeps = given_is;
    given = so.given;
    mark = so.mark;
    whole = ap is_some so.stage;
    plan = ap (λ (t : TaskView B L). t.plan) so.task ∙ same ∙ plan;
    run = so.run ∙ run;
  }

  from-start : (IsOther : ℕ → Type 0) → ((m : ℕ) → IsOther m → m ≢ n) → OthersStay taken stepped IsOther → OthersStay stepped given IsOther → OthersStay start given IsOther
  from-start IsOther apart second third =
      then-stay start taken given IsOther (fewer-stay start taken (λ other. other ≢ n) IsOther apart others) (then-stay taken stepped given IsOther second third)

  -- who is its parent once the frame has come in was so before
  was-child : (other : ℕ) → IsLiveChild taken.live other n → IsLiveChild start.live other n
  was-child other child =
      let frame-then = live_at start.live n in
      child-came start.live (come_at start.live n frame.task.done frame-then) n frame.task.done other n (come-only start.live _ n frame.task.done frame-then refl refl)
      (subst (λ (k : KeptView). IsLiveChild k.live other n) come child)

  end-from-start : OthersStayAtEnd taken stepped n → OthersStayAtEnd start stepped n
  end-from-start stay = (
    record {
      live = λ other differs. stay.0.live other differs ∙ ap (option_map as_given) (others.live other differs);
      active_are = λ other differs. stay.0.active_are other differs ∙ others.active_are other differs;
    },
    record {
      live = λ other apart. stay.1.live other (apart.0, λ child. apart.1 (was-child other child)) ∙ others.live other apart.0;
      active_are = λ other apart. stay.1.active_are other (apart.0, λ child. apart.1 (was-child other child)) ∙ others.active_are other apart.0;
    },
  )

  -- who has no child once the frame has come in had none before
  no-child : HasNoLiveChild taken.live n → HasNoChildAtCore before n
  no-child none x is other child =
      let was = subst (λ (k : KeptView). IsLiveChild k.live n other) (same_Some x start (sym is ∙ start_is)) child in
      let frame-then = live_at start.live n in
      let came = child-comes start.live (come_at start.live n frame.task.done frame-then) n frame.task.done n other (come-only start.live _ n frame.task.done frame-then refl refl) was in
      none other (subst (λ (k : KeptView). IsLiveChild k.live n other) (sym come) came)

  -- and who may begin then
  may-step : MayBegin taken n → MayStep of before frame
  may-step may x is =
      subst (λ k. MayBegin (after_coming_in k frame.task (of.ends frame.ends)) n) (same_Some start x (sym start_is ∙ is)) (subst (λ k. MayBegin k n) come may)

  abbrev t : TaskView B L
  t = record frame.task { since = frame.task.done }

  resumed-cases : (Q : Type 0) (its : Step B L) (answer : Resumed B Q L E) → IsStep G taken stepped t its → IsAnswered {Q = Q} of stepped given its answer → IsResumed {Q = Q} G of before after frame answer
  resumed-cases Q (step.Runs next) (resumed.Runs it steps) so answered =
      let own : next.task.number ≡ n = ap (λ (x : TaskView B L). x.number) so.1 in (
        answered.0,
        given-by next it (ap (λ (x : TaskView B L). x.plan) so.1) answered.1,
        ap (λ (x : TaskView B L). x) (answered.1.task ∙ so.1) ∙ same-rest next it answered.1.task,
        so.2,
        kept-others (λ other. other ≢ n) (from-start (λ other. other ≢ n) (λ m apart. apart) so.3
            (fewer-stay stepped given (λ other. other ≢ next.task.number) (λ other. other ≢ n) (λ m apart same. apart (same ∙ own)) answered.2)),
        (λ sync. no-child (so.4 sync)),
        may-step so.5,
        counted-on 0 so.6 answered.3,
      )
    where
      same-rest : (a : FrameAtCoreView B L) (b : FrameView B L E) → b.task ≡ a.task
          → ◌≡◌ {A = TaskView B L} (record frame.task { done = frame.task.done + 1; since = frame.task.done + 1; fuel = a.task.fuel; holdings = a.task.holdings; children = a.task.children })
          (record frame.task { done = frame.task.done + 1; since = frame.task.done + 1; fuel = b.task.fuel; holdings = b.task.holdings; children = b.task.children })
      same-rest a b is = ap (λ (x : TaskView B L). let y : TaskView B L = record frame.task { done = frame.task.done + 1; since = frame.task.done + 1; fuel = x.fuel; holdings = x.holdings; children = x.children } in y) (sym is)
  resumed-cases Q (step.Spawned parent new) (resumed.Spawned it child steps) so answered =
      let own : parent.task.number ≡ n = ap (λ (x : TaskView B L). x.number) so.2 in
      let IsOther : ℕ → Type 0 = λ other. (other ≢ n) × (other ≢ child.task.number) in
      let child_own : child.task.number ≡ new.task.number = ap (λ (x : TaskView B L). x.number) answered.2.task in (
        answered.0,
        given-by parent it (ap (λ (x : TaskView B L). x.plan) so.2) answered.1,
        given-by new child so.3.plan answered.2,
        answered.1.task ∙ so.2 ∙ ap (λ (x : TaskView B L). let y : TaskView B L = record frame.task { done = frame.task.done + 1; since = frame.task.done + 1; fuel = x.fuel; holdings = x.holdings; children = x.children } in y) (sym answered.1.task),
        subst (IsNewChildOf frame.task) (sym answered.2.task) (record { plan = so.3.plan; path = so.3.path; done = so.3.done; other = so.3.other }),
        so.4,
        (λ x is. subst (λ (k : KeptView). live_at k.live child.task.number ≡ None) (same_Some start x (sym start_is ∙ is))
            (sym (others.live child.task.number (λ same. so.3.other (sym child_own ∙ same))) ∙ ap (live_at taken.live) child_own ∙ so.5)),
        kept-others IsOther (from-start IsOther (λ m apart. apart.0)
            (fewer-stay taken stepped (λ other. (other ≢ n) × (other ≢ new.task.number)) IsOther (λ m apart. (apart.0, λ same. apart.1 (same ∙ sym child_own))) so.6)
            (fewer-stay stepped given (λ other. (other ≢ parent.task.number) × (other ≢ new.task.number)) IsOther (λ m apart. (λ same. apart.0 (same ∙ own), λ same. apart.1 (same ∙ sym child_own))) answered.3)),
        may-step so.7,
        next-number child.task.number (child_own ∙ so.8),
        counted-on 1 so.9 answered.4,
      )
  resumed-cases Q (step.Waits same wait_for) (resumed.Waits it waited) so answered =
      let its_so = answered.1 in
      let own : same.task.number ≡ n = ap (λ (x : TaskView B L). x.number) so.2 in
      let its_own : same.task.number ≡ it.task.number = ap (λ (x : TaskView B L). x.number) (sym its_so.task) in
      let path : frame.task.path ≡ it.task.path = sym (ap (λ (x : TaskView B L). x.path) so.2) ∙ ap (λ (x : TaskView B L). x.path) (sym its_so.task) in (
        given-by same it (ap (λ (x : TaskView B L). x.plan) so.2) its_so,
        its_so.task ∙ so.2 ∙ ap (λ (x : TaskView B L). let y : TaskView B L = record frame.task { since = frame.task.done; fuel = x.fuel } in y) (sym its_so.task),
        record {
          was = start;
          kept_was = start_is;
          at = same;
          task = sym its_so.task;
          stage = its_so.stage;
          shows = subst (λ k. IsShown G k same waited.wait) (so.1 ∙ come) (subst (IsShown G stepped same) (sym answered.0) so.3);
          earlier = subst (λ (k : KeptView). IsLiveBefore k.live it.task.path (waited_for waited.wait)) (so.1 ∙ come)
              (subst (λ q. IsLiveBefore stepped.live q (waited_for waited.wait)) path (subst (λ w. IsLiveBefore stepped.live frame.task.path (waited_for w)) (sym answered.0) so.4));
          kept = given;
          keeps = given_is;
          lent = subst (λ k. HasLent k given it.task.number) (so.1 ∙ come) (subst (HasLent stepped given) its_own answered.2);
        },
        kept-others (λ other. other ≢ n) (from-start (λ other. other ≢ n) (λ m apart. apart) (subst (λ k. OthersStay taken k (λ other. other ≢ n)) (sym so.1) (all-stay taken (λ other. other ≢ n)))
            (fewer-stay stepped given (λ other. other ≢ same.task.number) (λ other. other ≢ n) (λ m apart eq. apart (eq ∙ own)) (lent-others stepped given same.task.number answered.2))),
        counted-on 0 (counted-same taken stepped so.1) (lent-count stepped given same.task.number answered.2),
      )
  resumed-cases Q step.Ended (resumed.Ended steps) so answered = (
    answered.0,
    ap is_some given_is,
    so.1,
    so.2,
    (λ x is. subst (λ (k : KeptView). live_at k.live n ≡ None) (same_Some given x (sym given_is ∙ is)) (subst (λ (k : KeptView). live_at k.live n ≡ None) (sym answered.1) so.3)),
    kept-at-end (subst (λ k. OthersStayAtEnd start k n) (sym answered.1) (end-from-start so.4)),
    no-child so.5,
    may-step so.6,
    counted-on 0 so.7 (counted-same stepped given answered.1),
  )
  resumed-cases Q (step.Runs next) (resumed.Spawned it child steps) so answered = absurd answered
  resumed-cases Q (step.Runs next) (resumed.Waits it waited) so answered = absurd answered
  resumed-cases Q (step.Runs next) (resumed.Ended steps) so answered = absurd answered
  resumed-cases Q (step.Runs next) (resumed.Strange it foreign) so answered = absurd answered
  resumed-cases Q (step.Runs next) resumed.NoMemory so answered = absurd answered
  resumed-cases Q (step.Spawned parent new) (resumed.Runs it steps) so answered = absurd answered
  resumed-cases Q (step.Spawned parent new) (resumed.Waits it waited) so answered = absurd answered
  resumed-cases Q (step.Spawned parent new) (resumed.Ended steps) so answered = absurd answered
  resumed-cases Q (step.Spawned parent new) (resumed.Strange it foreign) so answered = absurd answered
  resumed-cases Q (step.Spawned parent new) resumed.NoMemory so answered = absurd answered
  resumed-cases Q (step.Waits same wait_for) (resumed.Runs it steps) so answered = absurd answered
  resumed-cases Q (step.Waits same wait_for) (resumed.Spawned it child steps) so answered = absurd answered
  resumed-cases Q (step.Waits same wait_for) (resumed.Ended steps) so answered = absurd answered
  resumed-cases Q (step.Waits same wait_for) (resumed.Strange it foreign) so answered = absurd answered
  resumed-cases Q (step.Waits same wait_for) resumed.NoMemory so answered = absurd answered
  resumed-cases Q step.Ended (resumed.Runs it steps) so answered = absurd answered
  resumed-cases Q step.Ended (resumed.Spawned it child steps) so answered = absurd answered
  resumed-cases Q step.Ended (resumed.Waits it waited) so answered = absurd answered
  resumed-cases Q step.Ended (resumed.Strange it foreign) so answered = absurd answered
  resumed-cases Q step.Ended resumed.NoMemory so answered = absurd answered

  pub resumed-so : (Q : Type 0) (its : Step B L) (answer : Resumed B Q L E) → IsStep G taken stepped at.task its → IsAnswered {Q = Q} of stepped given its answer → IsResumed {Q = Q} G of before after frame answer
  resumed-so Q its answer so answered = resumed-cases Q its answer (subst (λ x. IsStep G taken stepped x its) task so) answered

-- ---- steps that aren't the last

not-last : {B L : Type 0} (G : Ghosts B L) (after : KeptView) (task : TaskView B L) (next : FrameAtCoreView B L) → HasIt G after next → IsOneOn task next.task → ¬ IsLast G task
not-last {B} {L} G after task next has on last =
    let left : task.done + 1 < length (times (script G task.plan) task.path) =
    subst (λ (t : TaskView B L). t.done < length (times (script G t.plan) t.path)) on has.is.alone.stands.left in
    omega (arith, left, last)

-- a step that leaves its task more of them isn't the last
pub gone-on : {B L E : Type 0} (Q : Type 0) (G : Ghosts B L) (of : EndsOf E) (before after given : KeptView) (task : TaskView B L) (its : Step B L) (answer : Resumed B Q L E)
    → IsStep G before after task its → IsAnswered of after given its answer → OnGoneOn answer (¬ IsLast G task)
gone-on Q G of before after given task (step.Runs next) (resumed.Runs frame steps) so answered = not-last G after task next so.0 so.1
gone-on Q G of before after given task (step.Spawned parent new) (resumed.Runs frame steps) so answered = absurd answered
gone-on Q G of before after given task (step.Waits same wait_for) (resumed.Runs frame steps) so answered = absurd answered
gone-on Q G of before after given task step.Ended (resumed.Runs frame steps) so answered = absurd answered
gone-on Q G of before after given task (step.Spawned parent new) (resumed.Spawned frame spawned steps) so answered = not-last G after task parent so.0 so.2
gone-on Q G of before after given task (step.Runs next) (resumed.Spawned frame spawned steps) so answered = absurd answered
gone-on Q G of before after given task (step.Waits same wait_for) (resumed.Spawned frame spawned steps) so answered = absurd answered
gone-on Q G of before after given task step.Ended (resumed.Spawned frame spawned steps) so answered = absurd answered
gone-on Q G of before after given task its (resumed.Waits frame waited) so answered = tt
gone-on Q G of before after given task its (resumed.Ended steps) so answered = tt
gone-on Q G of before after given task its (resumed.Strange frame foreign) so answered = tt
gone-on Q G of before after given task its resumed.NoMemory so answered = tt

-- a wait is for a frame that comes before
pub waits-earlier : {B L E : Type 0} (Q : Type 0) (G : Ghosts B L) (of : EndsOf E) (before after given : KeptView) (core : CoreView B L) (task : TaskView B L) (its : Step B L) (answer : Resumed B Q L E)
    → core.kept ≡ Some given → IsStep G before after task its → IsAnswered of after given its answer → WaitsForEarlier core answer
waits-earlier {B} {L} Q G of before after given core task (step.Waits same wait_for) (resumed.Waits it waited) keeps so answered = λ x is.
    let live : after.live ≡ x.live = ap (λ (k : KeptView). k.live) (sym answered.2.after_is) ∙ ap (λ (k : KeptView). k.live) (same_Some given x (sym keeps ∙ is)) in
    let path : task.path ≡ it.task.path = sym (ap (λ (t : TaskView B L). t.path) so.2) ∙ ap (λ (t : TaskView B L). t.path) (sym answered.1.task) in
    subst (λ fs. IsLiveBefore fs it.task.path (waited_for waited.wait)) live
    (subst (λ w. IsLiveBefore after.live it.task.path (waited_for w)) (sym answered.0) (subst (λ q. IsLiveBefore after.live q (waited_for wait_for)) path so.4))
waits-earlier Q G of before after given core task (step.Runs next) (resumed.Waits it waited) keeps so answered = absurd answered
waits-earlier Q G of before after given core task (step.Spawned parent new) (resumed.Waits it waited) keeps so answered = absurd answered
waits-earlier Q G of before after given core task step.Ended (resumed.Waits it waited) keeps so answered = absurd answered
waits-earlier Q G of before after given core task its (resumed.Runs frame steps) keeps so answered = tt
waits-earlier Q G of before after given core task its (resumed.Spawned frame spawned steps) keeps so answered = tt
waits-earlier Q G of before after given core task its (resumed.Ended steps) keeps so answered = tt
waits-earlier Q G of before after given core task its (resumed.Strange frame foreign) keeps so answered = tt
waits-earlier Q G of before after given core task its resumed.NoMemory keeps so answered = tt

-- what a step leaves is still kept for the plan
pub step-core : {B L : Type 0} (G : Ghosts B L) (before after : KeptView) (task : TaskView B L) (its : Step B L) → IsStep G before after task its → IsCore G task.plan after
step-core G before after task (step.Runs next) so = subst (λ p. IsCore G p after) (ap (λ (t : TaskView _ _). t.plan) so.1) so.0.core
step-core G before after task (step.Spawned parent new) so = subst (λ p. IsCore G p after) (ap (λ (t : TaskView _ _). t.plan) so.2) so.0.core
step-core G before after task (step.Waits same wait_for) so = subst (λ p. IsCore G p after) (ap (λ (t : TaskView _ _). t.plan) so.2) so.0.core
step-core G before after task step.Ended so = so.0
