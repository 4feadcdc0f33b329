-- What a turn of the top makes of a stack, by what the core answers.
use Rattle.std.proofs.Common.{◌≡◌, ◌≢◌, inl, inr, ℕ, zero, suc, ◌+◌, ◌<◌, Bool, true, false, Option, Some, List, [], ◌∷◌, ◌++◌, refl, sym, ap, ◌∙◌, subst, arith}
use Rattle.std.specs.Option.{ForSome}
use Rattle.std.specs.Prelude.{is_none, slice_get}
use Rattle.swan_model.specs.declared.body.Body.{Ghosts}
use Rattle.swan_model.specs.declared.plan.Plan.{Plan}
use Rattle.swan_model.specs.declared.script.Script.{Script}
use Rattle.swan_model.specs.Granted.{is_spawn}
use Rattle.swan_model.specs.PathOrder.{comes_before}
use Rattle.swan_model.specs.SerialState.{Activation}
use Rattle.swan_model.specs.TrueFrames.{StandsAt}
use Rattle.swan_model.proofs.Elements.{option_cases}
use Rattle.queues.specs.Asks.{IsRecorded, LentEnds}
use Rattle.queues.specs.declared.answers.WaitFor.{WaitFor}
use Rattle.task_frames.specs.Cores.{CoreView, IsCoreView, IsGiven, IsOf, KeptView}
use Rattle.task_frames.specs.Frames.{FrameView, TaskView}
use Rattle.task_frames.specs.Going.{Counts, IsSameFrame}
use Rattle.task_frames.specs.Records.{live_at}
use Rattle.task_frames.specs.Resumes.{EndsOf, HasNone, IsNewChildOf, IsGivenBy, IsOneOn, IsShownBy, OthersKept, OthersKeptAtEnd, deed_now, waited_for}
use Rattle.task_frames.specs.Resumes.{IsOpened}
use Rattle.task_frames.proofs.AsGiven.{OthersKeptAsGiven, ended-given, kept-given}
use Rattle.swan_runtime.specs.Stacks.{IsStack, fuel_of, turns_left}
use Rattle.swan_runtime.proofs.Fuel.{later-less, spawned-less}
use Rattle.swan_runtime.proofs.Spending.{HasFuel, left-more}
use Rattle.swan_runtime.proofs.Stacking.{after-ends, after-runs, after-spawns, none-before, top-given}

-- ---- the beginning and the end

-- one frame alone has none above it
alone-nested : {X : Type 0} (x a b : X) (low high : ℕ) → low < high → slice_get (x ∷ []) low ≡ Some a → slice_get (x ∷ []) high ≡ Some b → ⊥
alone-nested x a b low zero less one two = omega arith
alone-nested x a b low (suc high) less one two = absurd (cc)

module _ {B L E : Type 0} (of : EndsOf E) (core : CoreView B L) where
  opened-given : (root : FrameView B L E) → IsOpened of core root → (index : ℕ) (frame : FrameView B L E) → slice_get (root ∷ []) index ≡ Some frame → IsGivenBy of core frame
  opened-given root opened zero frame is = let same : root ≡ frame = cc in subst (IsGivenBy of core) same opened.given
  opened-given root opened (suc index) frame is = absurd (cc)

  pub opened-stack : (root : FrameView B L E) → IsOpened of core root → IsStack of core (root ∷ [])
  opened-stack root opened = record {
    kept = opened.given.kept;
    keeps = opened.given.keeps;
    stacked = record {
      given = opened-given root opened;
      nested = λ low high a b less one two. absurd (alone-nested root a b low high less one two);
    };
    all = λ number live stands.
        record { index = 0; frame = root; stands = refl; same = opened.first ∙ sym (opened.alone opened.given.kept opened.given.keeps number live stands) };
  }

  -- where no frame is left the core is done
  pub nobody-left : (G : Ghosts B L) → IsCoreView G core → IsStack {E = E} of core [] → core.is_done ≡ true
  nobody-left G view is = elim (option_cases (live_at is.kept.live 0)) [
    | inl none ↦ (view is.kept is.keeps).2 ∙ ap is_none none
    | inr some ↦ let on = is.all 0 some.0 some.1 in absurd (cc)
  ]

-- what tells truth isn't false
pub not-false : (told is : Bool) → is ≡ true → told ≡ is → told ≡ false → ⊥
not-false told is so same differs = absurd (cc)

-- ---- a turn

module _ {B L E : Type 0} (G : Ghosts B L) (name : E → Option Script) (run : E → List ℕ) (ends : E → LentEnds) (counts : E → Counts) where
  abbrev of : EndsOf E
  of = record { run = run; ends = ends }

  module _ (core : CoreView B L) (stack : List (FrameView B L E)) (top moved : FrameView B L E) (is : IsStack of core (stack ++ top ∷ []))
      (same : IsSameFrame name run ends counts top moved) where
    given : IsGivenBy of core top
    given = top-given of core stack top is.stacked

    number : moved.task.number ≡ top.task.number
    number = ap (λ (t : TaskView B L). t.number) same.task

    path : moved.task.path ≡ top.task.path
    path = ap (λ (t : TaskView B L). t.path) same.task

    -- after the steps that it took by itself it is still the one that the core gave
    pub moved-named : (moved.task.plan ≡ core.plan) × (run moved.ends ≡ core.run)
    moved-named = (ap (λ (t : TaskView B L). t.plan) same.task ∙ given.plan, same.run_is ∙ given.run)

    moved-of : IsOf given.kept moved.task
    moved-of =
        let own = given.given.of in
        let as-was : IsOf given.kept (record top.task { done = moved.task.done; fuel = moved.task.fuel }) =
        record { frame = own.frame; live = own.live; path = own.path; done = own.done; holdings = own.holdings } in
        subst (IsOf given.kept) (sym same.task) as-was

    moved-lent : IsRecorded given.kept.state moved.task.number (ends moved.ends)
    moved-lent =
        let lent = given.given.lent in
        let as-was : IsRecorded given.kept.state top.task.number (record (ends top.ends) { deeds = (ends moved.ends).deeds }) =
        record { frame = lent.frame; live = lent.live; lent = lent.lent; has = lent.has; own = lent.own; deeds = lent.deeds; list = lent.list } in
        subst (λ n. IsRecorded given.kept.state n (ends moved.ends)) (sym number) (subst (IsRecorded given.kept.state top.task.number) (sym same.ends_are) as-was)

    -- so it isn't strange
    pub never-strange : ForSome core.kept (λ kept. ¬ IsGiven kept moved.task (ends moved.ends)) → ⊥
    never-strange strange = strange given.kept given.keeps (record { of = moved-of; lent = moved-lent })

    module _ (after : CoreView B L) (plan : after.plan ≡ core.plan) (run-is : after.run ≡ core.run) (stay : OthersKept core after (λ other. other ≢ moved.task.number)) where
      stay-top : OthersKeptAsGiven core after (λ other. other ≢ top.task.number)
      stay-top = subst (λ n. OthersKeptAsGiven core after (λ other. other ≢ n)) number (kept-given core after (λ other. other ≢ moved.task.number) stay)

      -- and doesn't wait
      pub never-waits : (next : FrameView B L E) (wait_for : WaitFor) → IsGivenBy of after next
          → next.task ≡ record moved.task { since = moved.task.done; fuel = next.task.fuel } → IsShownBy G of core after moved next wait_for → ⊥
      never-waits next wait_for gives task shown =
          let number-is : next.task.number ≡ top.task.number = ap (λ (t : TaskView B L). t.number) task ∙ number in
          let path-is : next.task.path ≡ top.task.path = ap (λ (t : TaskView B L). t.path) task ∙ path in
          let live : live_at shown.kept.live (waited_for wait_for) ≡ Some shown.earlier.frame =
          ap (λ (k : KeptView). live_at k.live (waited_for wait_for)) shown.lent.after_is ∙ shown.earlier.live in
          none-before of core after stack top is plan run-is shown.kept shown.keeps (waited_for wait_for) shown.earlier.frame live stay-top next gives number-is path-is
          (ap (comes_before shown.earlier.frame.path) (sym path-is) ∙ shown.earlier.earlier)

      pub stack-runs : (next : FrameView B L E) → IsGivenBy of after next → IsOneOn moved.task next.task → IsStack of after (stack ++ next ∷ [])
      stack-runs next gives one-on =
          after-runs of core after stack top is plan run-is gives.kept gives.keeps next (ap (λ (t : TaskView B L). t.number) one-on ∙ number) (ap (λ (t : TaskView B L). t.path) one-on ∙ path)
          gives stay-top

    pub stack-spawns : (after : CoreView B L) → after.plan ≡ core.plan → after.run ≡ core.run → (parent child : FrameView B L E) → IsGivenBy of after parent → IsGivenBy of after child
        → IsOneOn moved.task parent.task → IsNewChildOf moved.task child.task → HasNone core child.task.number
        → OthersKept core after (λ other. (other ≢ moved.task.number) × (other ≢ child.task.number)) → IsStack of after ((stack ++ parent ∷ []) ++ child ∷ [])
    stack-spawns after plan run-is parent child gives begins one-on made none stay =
        after-spawns of core after stack top is plan run-is gives.kept gives.keeps parent child
        (ap (λ (t : TaskView B L). t.number) one-on ∙ number) (ap (λ (t : TaskView B L). t.path) one-on ∙ path) gives
        moved.task.children (made.path ∙ ap (λ p. p ++ moved.task.children ∷ []) path) begins none
        (subst (λ n. OthersKeptAsGiven core after (λ other. (other ≢ n) × (other ≢ child.task.number))) number
        (kept-given core after (λ other. (other ≢ moved.task.number) × (other ≢ child.task.number)) stay))

    pub stack-ends : (after : CoreView B L) → after.plan ≡ core.plan → after.run ≡ core.run → (now : KeptView) → after.kept ≡ Some now → HasNone after moved.task.number
        → OthersKeptAtEnd core after moved.task.number → IsStack of after stack
    stack-ends after plan run-is now keeps none stay =
        after-ends of core after stack top is plan run-is now keeps (subst (HasNone after) number none) (subst (λ n. OthersKeptAsGiven core after (λ other. other ≢ n)) number (ended-given core after moved.task.number stay))

  -- ---- what it costs

  stands-so : {plan other : Plan B L} {path own : List ℕ} {k n : ℕ} (a : Activation L) → plan ≡ other → path ≡ own → k ≡ n → StandsAt G plan path k a → StandsAt G other own n a
  stands-so {other = other} {path = path} {own = own} {k = k} a one two three at =
      subst (λ n. StandsAt G other own n a) three (subst (λ p. StandsAt G other p k a) two (subst (λ q. StandsAt G q path k a) one at))

  module _ (stack : List (FrameView B L E)) (top moved : FrameView B L E) (same : IsSameFrame name run ends counts top moved)
      (steps : ℕ) (done : moved.task.done ≡ top.task.done + steps) (had : HasFuel G top.task (fuel_of top.task.fuel top.stage)) where
    pub fewer-runs : (next : FrameView B L E) → IsOneOn moved.task next.task → HasFuel G next.task (fuel_of next.task.fuel next.stage)
        → turns_left (stack ++ next ∷ []) < turns_left (stack ++ top ∷ [])
    fewer-runs next one-on has =
        let plan-is : next.task.plan ≡ top.task.plan = ap (λ (t : TaskView B L). t.plan) one-on ∙ ap (λ (t : TaskView B L). t.plan) same.task in
        let path-is : next.task.path ≡ top.task.path = ap (λ (t : TaskView B L). t.path) one-on ∙ ap (λ (t : TaskView B L). t.path) same.task in
        let far : next.task.done ≡ top.task.done + suc steps = omega (arith, ap (λ (t : TaskView B L). t.done) one-on, done) in
        let less = later-less G top.task.plan (suc steps) top.task.path top.task.done had.top has.top had.stands (stands-so has.top plan-is path-is far has.stands) in
        omega (arith, less, had.is, has.is, left-more stack next, left-more stack top)

    pub fewer-spawns : (parent child : FrameView B L E) → IsOneOn moved.task parent.task → IsNewChildOf moved.task child.task → is_spawn (deed_now G moved.task) ≡ true
        → HasFuel G moved.task (fuel_of moved.task.fuel moved.stage) → HasFuel G parent.task (fuel_of parent.task.fuel parent.stage)
        → HasFuel G child.task (fuel_of child.task.fuel child.stage)
        → turns_left ((stack ++ parent ∷ []) ++ child ∷ []) < turns_left (stack ++ top ∷ [])
    fewer-spawns parent child one-on made spawn here goes begins =
        let plan-was : moved.task.plan ≡ top.task.plan = ap (λ (t : TaskView B L). t.plan) same.task in
        let path-was : moved.task.path ≡ top.task.path = ap (λ (t : TaskView B L). t.path) same.task in
        let less = later-less G top.task.plan steps top.task.path top.task.done had.top here.top had.stands (stands-so here.top plan-was path-was done here.stands) in
        let next = stands-so goes.top (ap (λ (t : TaskView B L). t.plan) one-on) (ap (λ (t : TaskView B L). t.path) one-on) (ap (λ (t : TaskView B L). t.done) one-on) goes.stands in
        let first-path : child.task.path ≡ moved.task.path ++ here.top.children ∷ [] = made.path ∙ ap (λ n. moved.task.path ++ n ∷ []) here.children in
        let first = stands-so begins.top made.plan first-path made.done begins.stands in
        let both = spawned-less G moved.task.plan moved.task.path moved.task.done here.top goes.top begins.top here.stands next spawn first in
        omega (arith, less, both, had.is, goes.is, begins.is, left-more (stack ++ parent ∷ []) child, left-more stack parent, left-more stack top)
