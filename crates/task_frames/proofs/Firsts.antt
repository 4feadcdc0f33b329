-- Whom a frame at the core has to wait for, and when it may begin.
use Rattle.std.proofs.Common.{◌≡◌, ◌⊎◌, inl, inr, ℕ, ◌<◌, true, false, nat_lt, Some, refl, sym, subst, ◌∙◌, arith}
use Rattle.std.proofs.lemmas.Bool.{cases_lt, lt-ltb, false≢true}
use Rattle.swan_model.specs.declared.body.Body.{Ghosts}
use Rattle.swan_model.specs.declared.rights.Mode.TheVariants.{In}
use Rattle.swan_model.specs.QueueState.{ActiveFrame, IsPoppingChild, active}
use Rattle.swan_model.specs.Rights.{allows}
use Rattle.swan_model.specs.Versions.{Awaits, Placed, owed, placed_at}
use Rattle.queues.specs.Tells.{IsBlockedBy, IsCause}
use Rattle.queues.specs.declared.answers.WaitFor.{WaitFor}
use Rattle.queues.specs.declared.answers.WaitFor.TheVariants as wait
use Rattle.queues.proofs.Frames.{active_number}
use Rattle.swan_model.specs.declared.script.Deed.TheVariants as deed
use Rattle.task_frames.specs.declared.step.Step.TheVariants as step
use Rattle.task_frames.specs.Cores.{FrameAtCoreView, HasIt, KeptView, MayBegin}
use Rattle.object_versions.specs.Following.{WaitsForNone}
use Rattle.task_frames.specs.Records.{IsOldestChild, LiveFrame}
use Rattle.task_frames.specs.Resumes.{AsksOf, IsLast, IsLiveBefore, IsShown, IsStep, deed_now, IsFirstToBlock, WaitsForTurn, WaitsForVersion, at_first, at_pop, at_start, waited_for}
use Rattle.task_frames.proofs.Endings.{child-before}
use Rattle.task_frames.proofs.Goings.{done-is, lawful, own}
use Rattle.task_frames.proofs.Waiting as waiting

not-less : (done : ℕ) → nat_lt 0 done ≡ false → done ≡ 0
not-less done not_so = elim (cases_lt 0 done) [
  | inl less ↦ absurd (false≢true (sym not_so ∙ lt-ltb 0 done less))
  | inr zero ↦ omega (arith, zero)
]

module _ {B L : Type 0} (G : Ghosts B L) (kept : KeptView) (frame : FrameAtCoreView B L) (has : HasIt G kept frame) where
  abbrev f : LiveFrame
  f = has.of.frame

  live-before : (m : ℕ) → IsLiveBefore kept.live f.path m → IsLiveBefore kept.live frame.task.path m
  live-before m before = subst (λ path. IsLiveBefore kept.live path m) has.of.path before

  -- ---- before the first step

  pub begun-so : 0 < frame.task.done → MayBegin kept frame.task.number
  begun-so some = record {
    turn = λ a live. has.core.frames.turns frame.task.number f a has.of.live live (let same = done-is G kept frame has in omega (arith, same, some));
    ready = has.core.objects.begun frame.task.number f has.of.live (let same = done-is G kept frame has in omega (arith, same, some));
  }

  pub may-begin : WaitsForNone kept.versions frame.task.number → ((older : ℕ) → ¬ IsBlockedBy kept.state frame.task.number older) → MayBegin kept frame.task.number
  may-begin ready free = record {
    turn = λ a live older by. free older (record { frame = a; live = live; by = by });
    ready = ready;
  }

  pub waits-awaited : (done m : ℕ) → done ≡ frame.task.done → nat_lt 0 done ≡ false → (place : ℕ) (awaits : Awaits kept.versions frame.task.number place m) → allows awaits.object.mode In ≡ true
      → WaitsForVersion G kept frame m
  waits-awaited done m same not_so place awaits may = at_first place (sym same ∙ not-less done not_so) awaits may

  pub waits-blocked : (done m : ℕ) → done ≡ frame.task.done → nat_lt 0 done ≡ false → WaitsForNone kept.versions frame.task.number → IsFirstToBlock kept.state frame.task.number m
      → WaitsForTurn G kept frame m
  waits-blocked done m same not_so ready first = at_start (sym same ∙ not-less done not_so) ready first

  pub awaited-before : (m place : ℕ) → Awaits kept.versions frame.task.number place m → IsLiveBefore kept.live frame.task.path m
  awaited-before m place awaits =
      live-before m (waiting.awaited-live G frame.task.plan (lawful G kept frame has) kept.reading kept.state kept.live kept.frames has.core.queues has.core.frames frame.task.number f has.of.live
      kept.versions kept.objects has.core.objects m place awaits)

  pub owed-before : (m place : ℕ) (object : Placed) → placed_at kept.versions frame.task.number place ≡ Some object → object.present ≡ owed m → IsLiveBefore kept.live frame.task.path m
  owed-before m place object stands owes =
      live-before m (waiting.owner-live G frame.task.plan (lawful G kept frame has) kept.reading kept.state kept.live kept.frames has.core.queues has.core.frames frame.task.number f has.of.live
      kept.versions kept.objects has.core.objects m place object stands (inl owes))

  pub blocked-before : (m : ℕ) → IsBlockedBy kept.state frame.task.number m → IsLiveBefore kept.live frame.task.path m
  blocked-before m blocks =
      live-before m (waiting.blocker-live G frame.task.plan (lawful G kept frame has) kept.reading kept.state kept.live kept.frames has.core.queues has.core.frames frame.task.number f has.of.live m blocks)

  -- ---- at a queue

  abbrev a : ActiveFrame
  a = (own G kept frame has).0

  a-live : active kept.state frame.task.number ≡ Some a
  a-live = (own G kept frame has).1

  pub cause-before : (queue : ℕ) (wait_for : WaitFor) → IsCause kept.name kept.state a queue wait_for → IsLiveBefore kept.live frame.task.path (waited_for wait_for)
  cause-before queue (wait.Child m) cause = absurd cause
  cause-before queue (wait.Version m) cause = absurd cause
  cause-before queue (wait.PopTurn m) cause =
      live-before m (waiting.popping-live G frame.task.plan (lawful G kept frame has) kept.reading kept.state kept.live kept.frames has.core.queues has.core.frames frame.task.number f has.of.live queue m
      (subst (λ n. IsPoppingChild kept.state n queue m) (active_number kept.state frame.task.number a a-live) cause.0))
  cause-before queue (wait.Pusher m) cause =
      live-before m (waiting.pusher-live G frame.task.plan (lawful G kept frame has) kept.reading kept.state kept.live kept.frames has.core.queues has.core.frames frame.task.number f has.of.live a a-live queue m cause.1.is)

  pub cause-shown : (queue : ℕ) (wait_for : WaitFor) → AsksOf frame queue → IsCause kept.name kept.state a queue wait_for → IsShown G kept frame wait_for
  cause-shown queue (wait.Child m) asks cause = absurd cause
  cause-shown queue (wait.Version m) asks cause = absurd cause
  cause-shown queue (wait.PopTurn m) asks cause = at_pop (record { own = a; active_is = a-live; queue = queue; asks = asks; cause = cause })
  cause-shown queue (wait.Pusher m) asks cause = record { own = a; active_is = a-live; queue = queue; asks = asks; cause = cause }

  -- ---- it waits

  pub waits-so : (after : KeptView) (same : FrameAtCoreView B L) (wait_for : WaitFor) → after ≡ kept → same ≡ frame → IsShown G kept frame wait_for → IsLiveBefore kept.live frame.task.path (waited_for wait_for)
      → IsStep G kept after frame.task (step.Waits same wait_for)
  waits-so after same wait_for after_is same_is shown before =
      subst (λ k. IsStep G kept k frame.task (step.Waits same wait_for)) (sym after_is)
      (subst (λ x. IsStep G kept kept frame.task (step.Waits x wait_for)) (sym same_is) (has, refl, refl, shown, before))

  pub waits-cause : (after : KeptView) (same : FrameAtCoreView B L) (queue : ℕ) (wait_for : WaitFor) → after ≡ kept → same ≡ frame → AsksOf frame queue → IsCause kept.name kept.state a queue wait_for → IsStep G kept after frame.task (step.Waits same wait_for)
  waits-cause after same queue wait_for after_is same_is asks cause = waits-so after same wait_for after_is same_is (cause-shown queue wait_for asks cause) (cause-before queue wait_for cause)

  pub waits-oldest : (after : KeptView) (same : FrameAtCoreView B L) (child : ℕ) → after ≡ kept → same ≡ frame → IsOldestChild kept.live frame.task.number child → (deed_now G frame.task ≡ deed.Sync) ⊎ IsLast G frame.task
      → IsStep G kept after frame.task (step.Waits same (wait.Child child))
  waits-oldest after same child after_is same_is oldest why = waits-so after same (wait.Child child) after_is same_is (oldest, why) (child-before G kept frame has child oldest)
