-- A frame before and after several of its steps.
use Rattle.std.proofs.Common.{◌≡◌, inl, inr, ◌⊎◌, ℕ, Bool, true, false, List, Option, Some, refl, sym, ap, subst, ◌∙◌, arith}
use Rattle.std.proofs.lemmas.Bool.{cases_Bool}
use Rattle.std.proofs.lemmas.Option.{same_Some}
use Rattle.std.specs.Option.{ForSome}
use Rattle.swan_model.specs.declared.body.Ask.{Ask}
use Rattle.swan_model.specs.declared.body.Ask.TheVariants as ask
use Rattle.swan_model.specs.declared.rights.Mode.TheVariants.{Pop}
use Rattle.swan_model.specs.declared.script.Script.{Script}
use Rattle.swan_model.specs.SerialState.{Holding}
use Rattle.swan_model.specs.SerialStep.{number_at}
use Rattle.queues.specs.Asks.{LentEnds, has_end, with_deeds}
use Rattle.queues.specs.Ends.{EndCounts}
use Rattle.task_frames.specs.declared.stage.Stage.{Stage}
use Rattle.task_frames.specs.declared.stage.Stage.TheVariants.{Ready, Asking}
use Rattle.task_frames.specs.Frames.{FrameView, TaskView}
use Rattle.task_frames.specs.declared.paused.Paused.{Paused}
use Rattle.task_frames.specs.declared.paused.Paused.TheVariants.{AtCore, Budget, NoMemory}
use Rattle.task_frames.specs.Going.{AreLater, Counts, IsBeyond, IsLater, IsNotServed, IsSameFrame, NeedsCore, OnAtCore, WasEmptySince, WasFullSince, at_first, beyond, counted, full}
use Rattle.task_frames.proofs.Shown.{same-later, then-later}

full-earlier : (before between after : EndCounts) → IsLater before between → WasFullSince between after → WasFullSince before after
full-earlier before between after later (full looked is) = full (let l = later.looks in omega (arith, l, looked)) is
full-earlier before between after later (counted is) = counted is

empty-earlier : (before between after : EndCounts) → IsLater before between → WasEmptySince between after → WasEmptySince before after
empty-earlier before between after later was = record { looked = let l = was.looked in let m = later.looks in omega (arith, l, m); empty = was.empty }

pub not-served-so : {L : Type 0} (holdings hs : List Holding) (ends es : LentEnds) (before after : Counts) (asks again : Ask L) → holdings ≡ hs → es ≡ ends → again ≡ asks
    → IsNotServed holdings ends before after asks → IsNotServed hs es before after again
not-served-so holdings hs ends es before after asks again holds same asked not =
    subst (λ h. IsNotServed h es before after again) holds
    (subst (λ e. IsNotServed holdings e before after again) (sym same) (subst (IsNotServed holdings ends before after) (sym asked) not))

-- a consumer that had nothing lately had nothing since earlier
none-popped : (holdings : List Holding) (ends : LentEnds) (before between after : Counts) (place : ℕ) → AreLater ends before between
    → ForSome (number_at holdings place Pop) (λ queue. (has_end ends queue false ≡ false) ⊎ WasEmptySince (between queue false) (after queue false))
    → ForSome (number_at holdings place Pop) (λ queue. (has_end ends queue false ≡ false) ⊎ WasEmptySince (before queue false) (after queue false))
none-popped holdings ends before between after place later not = λ queue at. elim (cases_Bool (has_end ends queue false)) [
  | inl has ↦ elim (not queue at) [
    | inl none ↦ inl none
    | inr was ↦ inr (empty-earlier (before queue false) (between queue false) (after queue false) (later queue false has) was)
  ]
  | inr none ↦ inl none
]

-- what the ends didn't serve lately they didn't serve since earlier
not-served-earlier : {L : Type 0} (holdings : List Holding) (ends : LentEnds) (before between after : Counts) (asks : Ask L) → AreLater ends before between
    → IsNotServed holdings ends between after asks → IsNotServed holdings ends before after asks
not-served-earlier holdings ends before between after ask.Work later not = not
not-served-earlier holdings ends before between after (ask.Read place) later not = not
not-served-earlier holdings ends before between after (ask.Write place value) later not = not
not-served-earlier holdings ends before between after (ask.Push place value) later not = λ queue at. elim (cases_Bool (has_end ends queue true)) [
  | inl has ↦ elim (not queue at) [
    | inl none ↦ inl none
    | inr was ↦ inr (full-earlier (before queue true) (between queue true) (after queue true) (later queue true has) was)
  ]
  | inr none ↦ inl none
]
not-served-earlier holdings ends before between after (ask.Pop place) later not = none-popped holdings ends before between after place later not
not-served-earlier holdings ends before between after (ask.Empty place) later not = none-popped holdings ends before between after place later not
not-served-earlier holdings ends before between after ask.NewQueue later not = not
not-served-earlier holdings ends before between after (ask.NewObject value) later not = not
not-served-earlier holdings ends before between after (ask.Spawn child) later not = not
not-served-earlier holdings ends before between after ask.Sync later not = not
not-served-earlier holdings ends before between after ask.Finish later not = not
not-served-earlier holdings ends before between after (ask.Fail trouble) later not = not

-- ends that did some more deeds, or fewer, are the same ends
not-served-by : {L : Type 0} (holdings : List Holding) (ends : LentEnds) (deeds : ℕ) (before after : Counts) (asks : Ask L)
    → IsNotServed holdings ends before after asks → IsNotServed holdings (with_deeds ends deeds) before after asks
not-served-by holdings ends deeds before after ask.Work not = not
not-served-by holdings ends deeds before after (ask.Read place) not = not
not-served-by holdings ends deeds before after (ask.Write place value) not = not
not-served-by holdings ends deeds before after (ask.Push place value) not = not
not-served-by holdings ends deeds before after (ask.Pop place) not = not
not-served-by holdings ends deeds before after (ask.Empty place) not = not
not-served-by holdings ends deeds before after ask.NewQueue not = not
not-served-by holdings ends deeds before after (ask.NewObject value) not = not
not-served-by holdings ends deeds before after (ask.Spawn child) not = not
not-served-by holdings ends deeds before after ask.Sync not = not
not-served-by holdings ends deeds before after ask.Finish not = not
not-served-by holdings ends deeds before after (ask.Fail trouble) not = not

module _ {B L E : Type 0} (name : E → Option Script) (run : E → List ℕ) (ends : E → LentEnds) (counts : E → Counts) where
  abbrev Same : FrameView B L E → FrameView B L E → Type 0
  Same = IsSameFrame name run ends counts

  pub same-itself : (frame : FrameView B L E) → Same frame frame
  same-itself frame = record { task = refl; name_is = refl; run_is = refl; ends_are = refl; counts_are = λ queue is_producer has. same-later (counts frame.ends queue is_producer) }

  -- the same ends are there
  same-has : (before after : FrameView B L E) → Same before after → (queue : ℕ) (is_producer : Bool) → has_end (ends after.ends) queue is_producer ≡ has_end (ends before.ends) queue is_producer
  same-has before after same queue is_producer = ap (λ e. has_end e queue is_producer) same.ends_are

  pub same-then : (before between after : FrameView B L E) → Same before between → Same between after → Same before after
  same-then before between after one two = record {
    task = two.task ∙ ap (λ (t : TaskView B L). record t { done = after.task.done; fuel = after.task.fuel }) one.task;
    name_is = two.name_is ∙ one.name_is;
    run_is = two.run_is ∙ one.run_is;
    ends_are = two.ends_are ∙ ap (λ e. with_deeds e (ends after.ends).deeds) one.ends_are;
    counts_are = λ queue is_producer has. then-later (counts before.ends queue is_producer) (counts between.ends queue is_producer) (counts after.ends queue is_producer)
        (one.counts_are queue is_producer has) (two.counts_are queue is_producer (same-has before between one queue is_producer ∙ has));
  }

  beyond-earlier : (before between after : FrameView B L E) (stage : Stage L) → Same before between → Same between after
      → IsBeyond ends counts between after stage → IsBeyond ends counts before after stage
  beyond-earlier before between after (Ready local said) one two is = is
  beyond-earlier before between after (Asking local asks place) one two is =
      not-served-earlier after.task.holdings (ends after.ends) (counts before.ends) (counts between.ends) (counts after.ends) asks
      (λ queue is_producer has. one.counts_are queue is_producer (sym (same-has before between one queue is_producer) ∙ sym (same-has between after two queue is_producer) ∙ has)) is

  -- what needs the core by its last steps needs it by all of them
  pub needs-earlier : (before between after : FrameView B L E) → Same before between → Same between after → NeedsCore ends counts between after → NeedsCore ends counts before after
  needs-earlier before between after one two (at_first is) = at_first is
  needs-earlier before between after one two (beyond is) = beyond (λ stage at. beyond-earlier before between after stage one two (is stage at))

  -- what needs the core after steps that began with ends that had done a little, needs it since these had done less
  needs-later : (before between after : FrameView B L E) (was : E) (deeds : ℕ) → was ≡ before.ends → ends between.ends ≡ with_deeds (ends was) deeds
      → AreLater (ends was) (counts was) (counts between.ends) → Same between after → NeedsCore ends counts between after → NeedsCore ends counts before after
  needs-later before between after was deeds is are later same (at_first first) = at_first first
  needs-later before between after was deeds is are later same (beyond found) = beyond (λ stage at. so stage (found stage at)) where
    so : (stage : Stage L) → IsBeyond ends counts between after stage → IsBeyond ends counts before after stage
    so (Ready local said) none = none
    so (Asking local asks place) not =
        subst (λ e. IsNotServed after.task.holdings (ends after.ends) (counts e) (counts after.ends) asks) is
        (not-served-earlier after.task.holdings (ends after.ends) (counts was) (counts between.ends) (counts after.ends) asks
        (λ queue is_producer has. later queue is_producer
        (sym (ap (λ e. has_end e queue is_producer) same.ends_are ∙ ap (λ e. has_end e queue is_producer) are) ∙ has)) not)

  -- and so it is said of an answer
  pub at-core-later : (answer : Paused) (before between after : FrameView B L E) (was : E) (deeds : ℕ) → was ≡ before.ends → ends between.ends ≡ with_deeds (ends was) deeds
      → AreLater (ends was) (counts was) (counts between.ends) → Same between after → OnAtCore answer (λ k. NeedsCore ends counts between after)
      → OnAtCore answer (λ k. NeedsCore ends counts before after)
  at-core-later (AtCore steps) before between after was deeds is are later same needs = needs-later before between after was deeds is are later same needs
  at-core-later (Budget steps) before between after was deeds is are later same needs = needs
  at-core-later NoMemory before between after was deeds is are later same needs = needs

  -- the same of ends that are still the same
  pub at-core-still : (answer : Paused) (before between after : FrameView B L E) → between.ends ≡ before.ends → Same between after
      → OnAtCore answer (λ k. NeedsCore ends counts between after) → OnAtCore answer (λ k. NeedsCore ends counts before after)
  at-core-still answer before between after is same needs =
      at-core-later answer before between after between.ends (ends between.ends).deeds is refl (λ queue is_producer has. same-later (counts between.ends queue is_producer)) same needs

module _ {B L E : Type 0} (ends : E → LentEnds) (counts : E → Counts) where
  -- a frame whose next step is beyond it, from how it was before
  pub needs-from : (now before after : FrameView B L E) → before ≡ now → (stage : Stage L) → after.stage ≡ Some stage → IsBeyond ends counts before after stage
      → NeedsCore ends counts now after
  needs-from now before after same stage is not =
      subst (λ v. NeedsCore ends counts v after) same
      (beyond (λ found at. subst (IsBeyond ends counts before after) (same_Some stage found (sym is ∙ at)) not))

  beyond-marked : (before after : FrameView B L E) (from to : Bool) (stage : Stage L) → IsBeyond ends counts (record before { mark = from }) after stage
      → IsBeyond ends counts before (record after { mark = to }) stage
  beyond-marked before after from to (Ready local said) is = is
  beyond-marked before after from to (Asking local asks place) is = is

  -- it is so whatever their marks are
  marked : (before after : FrameView B L E) (from to : Bool) → NeedsCore ends counts (record before { mark = from }) after → NeedsCore ends counts before (record after { mark = to })
  marked before after from to (at_first is) = at_first is
  marked before after from to (beyond is) = beyond (λ stage at. beyond-marked before after from to stage (is stage at))

  pub needs-marked : (now then before after : FrameView B L E) (from to : Bool) → before ≡ now → after ≡ then → NeedsCore ends counts (record before { mark = from }) then
      → NeedsCore ends counts now (record after { mark = to })
  needs-marked now then before after from to same again needs =
      subst (λ v. NeedsCore ends counts v (record after { mark = to })) same
      (marked before after from to (subst (NeedsCore ends counts (record before { mark = from })) (sym again) needs))
