-- Rounds of steps that a frame takes by itself, with its stage out of its box: a row of steps of work, and then a step that its
-- ends serve.
use Rattle.std.proofs.Common.{◌≡◌, ℕ, suc, ◌+◌, ◌-◌, ◌<◌, ◌≤◌, Bool, true, false, List, Option, None, Some, refl, sym, ap, subst, ◌∙◌, arith}
use Rattle.std.specs.Option.{is_some}
use Rattle.std.specs.Prelude.{min, IfNone, IfSome}
use Rattle.swan_model.specs.declared.body.Answer.{Answer}
use Rattle.swan_model.specs.declared.body.Answer.TheVariants as answer
use Rattle.swan_model.specs.declared.body.Ask.{Ask}
use Rattle.swan_model.specs.declared.body.Body.{Ghosts}
use Rattle.swan_model.specs.declared.script.Script.{Script}
use Rattle.swan_model.specs.Values.{COUNT_MOST}
use Rattle.swan_model.specs.Work.{ask_after, AreWork, local_after}
use Rattle.queues.specs.Asks.{LentEnds, with_deeds}
use Rattle.task_frames.specs.declared.at_core.StagedTask.{StagedTask}
use Rattle.task_frames.specs.declared.stage.Stage.{Stage}
use Rattle.task_frames.specs.declared.stage.Stage.TheVariants.{Asking, Ready}
use Rattle.task_frames.specs.Frames.{FrameView, IsFrame, TaskView}
use Rattle.task_frames.specs.Going.{AreLater, Counts, IsNotServed, IsSameFrame, IsServedAnswer, NeedsCore, deeds_of}
use Rattle.task_frames.proofs.Amid.{few, worked-all, worked-to}
use Rattle.task_frames.proofs.Same.{needs-earlier, needs-from, not-served-so, same-itself, same-then}
use Rattle.task_frames.proofs.Served.{same-ends, served}

module _ {B L E : Type 0} (G : Ghosts B L) (name : E → Option Script) (run : E → List ℕ) (ends : E → LentEnds) (counts : E → Counts) (before : FrameView B L E) where
  -- the frame once it has done and paid so much, with these ends
  abbrev pub going : (done fuel : ℕ) → E → FrameView B L E
  going done fuel now = record before { task = record before.task { done = done; fuel = fuel }; ends = now }

  -- A frame in the midst of a call, with so many steps left of those that it may take, and so much fuel: it stands at the beginning of a
  -- step, with this local and this answer.
  pub record IsUnderWay (most left fuel : ℕ) (local : L) (said : Answer) (now : E) : Type 0 where
    pub done : ℕ
    pub counted : done + left ≡ before.task.done + most
    pub few : left ≤ most
    pub is : IsFrame G (record before.task { done = done; fuel = fuel }) (name now) (ends now) (Ready local said)
    pub same : IsSameFrame name run ends counts before (going done fuel now)

  -- In the middle of a step that isn't work, which it has paid for, with so many steps left before it.
  pub record IsAmid (most left fuel : ℕ) (local : L) (asked : Ask L) (place : ℕ) (now : E) : Type 0 where
    pub done : ℕ
    pub counted : done + left ≡ before.task.done + most
    pub few : left ≤ most
    pub some : 0 < left
    pub is : IsFrame G (record before.task { done = done; fuel = fuel }) (name now) (ends now) (Asking local asked place)
    pub same : IsSameFrame name run ends counts before (going done fuel now)

  pub begins : (most fuel : ℕ) (local : L) (said : Answer) (now : E) → fuel ≡ before.task.fuel → now ≡ before.ends
      → IsFrame G before.task (name before.ends) (ends before.ends) (Ready local said) → IsUnderWay most most fuel local said now
  begins most fuel local said now full same is =
      subst (λ e. IsUnderWay most most fuel local said e) (sym same) (subst (λ f. IsUnderWay most most f local said before.ends) (sym full)
      (record { done = before.task.done; counted = refl; few = omega arith; is = is; same = same-itself name run ends counts before }))

  -- ends that are the same but for how many deeds they did
  then-ends : (done fuel : ℕ) (now then : E) (done_then fuel_then deeds : ℕ) → IsSameFrame name run ends counts before (going done fuel now)
      → name then ≡ name now → run then ≡ run now → ends then ≡ with_deeds (ends now) deeds → AreLater (ends now) (counts now) (counts then)
      → IsSameFrame name run ends counts before (going done_then fuel_then then)
  then-ends done fuel now then done_then fuel_then deeds so named ran are later =
      let number : (ends then).deeds ≡ deeds = ap (λ (e : LentEnds). e.deeds) are in
      same-then name run ends counts before (going done fuel now) (going done_then fuel_then then) so
      (record { task = refl; name_is = named; run_is = ran; ends_are = are ∙ ap (with_deeds (ends now)) (sym number); counts_are = later })

  module _ (body : B) (own : body ≡ before.task.plan.body) (begun : 0 < before.task.done) (most left fuel : ℕ) (local : L) (said : Answer) (now : E)
      (here : IsUnderWay most left fuel local said now) where
    stepped : 0 < here.done
    stepped = let counted = here.counted in let few = here.few in omega (arith, counted, few, begun)

    -- work up to what is left, or with all the fuel
    pub works-on : (after : L) (works : ℕ) → 0 < left → 0 < fuel → AreWork (G.next body) local said fuel works → works ≡ min left fuel
        → after ≡ local_after (G.next body) local said fuel works → IsUnderWay most (left - works) (fuel - works) after answer.Nothing now
    works-on after works some full are all last =
        let are_own = subst (λ b. AreWork (G.next b) local said fuel works) own are in
        let last_own = subst (λ b. after ≡ local_after (G.next b) local said fuel works) own last in
        record {
          done = here.done + works;
          counted = let counted = here.counted in omega (arith, counted, all);
          few = let few = here.few in omega (arith, few);
          is = worked-all G (name now) (record before.task { done = here.done; fuel = fuel }) (ends now) local after said works here.is stepped (omega (arith, all)) (omega (arith, all, some, full)) are_own last_own;
          same = record { task = refl; name_is = here.same.name_is; run_is = here.same.run_is; ends_are = here.same.ends_are; counts_are = here.same.counts_are };
        }

    -- work up to a step that asks for something else
    pub works-to : (after : L) (asked : Ask L) (works place : ℕ) → AreWork (G.next body) local said fuel works → works < min left fuel
        → after ≡ local_after (G.next body) local said fuel (suc works) → asked ≡ ask_after (G.next body) local said fuel works
        → place ≡ G.place_of body (local_after (G.next body) local said fuel works) → IsAmid most (left - works) (fuel - works - 1) after asked place now
    works-to after asked works place are less moved asks at =
        let are_own = subst (λ b. AreWork (G.next b) local said fuel works) own are in
        let moved_own = subst (λ b. after ≡ local_after (G.next b) local said fuel (suc works)) own moved in
        let asks_own = subst (λ b. asked ≡ ask_after (G.next b) local said fuel works) own asks in
        let at_own = subst (λ b. place ≡ G.place_of b (local_after (G.next b) local said fuel works)) own at in
        record {
          done = here.done + works;
          counted = let counted = here.counted in omega (arith, counted, less);
          few = let few = here.few in omega (arith, few);
          some = omega (arith, less);
          is = worked-to G (name now) (record before.task { done = here.done; fuel = fuel }) (ends now) local after said asked place works here.is stepped (omega (arith, less)) are_own moved_own asks_own at_own;
          same = record { task = refl; name_is = here.same.name_is; run_is = here.same.run_is; ends_are = here.same.ends_are; counts_are = here.same.counts_are };
        }

  module _ (begun : 0 < before.task.done) (most left fuel : ℕ) (local : L) (asked : Ask L) (place : ℕ) (now : E) (amid : IsAmid most left fuel local asked place now) where
    -- the ends served it
    pub serves : (said : Answer) (then : E) → IsServedAnswer (name now) before.task.holdings (ends now) asked said → name then ≡ name now → run then ≡ run now
        → ends then ≡ with_deeds (ends now) ((ends now).deeds + deeds_of asked) → AreLater (ends now) (counts now) (counts then)
        → IsUnderWay most (left - 1) fuel local said then
    serves said then says named ran are later =
        let counted = amid.counted in
        let few = amid.few in
        let some = amid.some in
        record {
          done = amid.done + 1;
          counted = omega (arith, counted, some);
          few = omega (arith, few);
          is = served G (record before.task { done = amid.done; fuel = fuel }) (name now) (ends now) local asked place said (name then) (ends then) amid.is (omega (arith, counted, few, begun)) says named are;
          same = then-ends amid.done fuel now then (amid.done + 1) fuel ((ends now).deeds + deeds_of asked) amid.same named ran are later;
        }

  -- ---- where it stops

  -- a frame that has come so far has gone on from how it was before
  same-at : (done fuel : ℕ) (now : E) (after : FrameView B L E) → IsSameFrame name run ends counts before (going done fuel now) → after.ends ≡ now
      → after.task ≡ record before.task { done = after.task.done; fuel = after.task.fuel } → IsSameFrame name run ends counts before after
  same-at done fuel now after so at task = record {
    task = task;
    name_is = ap name at ∙ so.name_is;
    run_is = ap run at ∙ so.run_is;
    ends_are = subst (λ e. ends e ≡ with_deeds (ends before.ends) (ends e).deeds) (sym at) so.ends_are;
    counts_are = subst (λ e. AreLater (ends before.ends) (counts before.ends) (counts e)) (sym at) so.counts_are;
  }

  task-as : (task : TaskView B L) (done fuel : ℕ) → task ≡ record before.task { done = done; fuel = fuel } → task ≡ record before.task { done = task.done; fuel = task.fuel }
  task-as task done fuel is =
      is ∙ ap (λ n. record before.task { done = n; fuel = fuel }) (sym (ap (λ (t : TaskView B L). t.done) is))
      ∙ ap (λ n. record before.task { done = task.done; fuel = n }) (sym (ap (λ (t : TaskView B L). t.fuel) is))

  module _ (most left fuel : ℕ) (local : L) (said : Answer) (now : E) (here : IsUnderWay most left fuel local said now) where
    -- so many steps it has taken
    taken : here.done ≡ before.task.done + (most - left)
    taken = let counted = here.counted in let less = here.few in omega (arith, counted, less)

    pub few-ready : before.task.done + (most - left) ≤ COUNT_MOST
    few-ready = let steps = few G (name now) (record before.task { done = here.done; fuel = fuel }) (ends now) (Ready local said) here.is in let is = taken in omega (arith, steps, is)

    pub rests : (task : TaskView B L) → task ≡ record before.task { done = before.task.done + (most - left); fuel = fuel } → IsFrame G task (name now) (ends now) (Ready local said)
    rests task is =
        subst (λ t. IsFrame G t (name now) (ends now) (Ready local said)) (sym is)
        (subst (λ n. IsFrame G (record before.task { done = n; fuel = fuel }) (name now) (ends now) (Ready local said)) taken here.is)

    pub same-ready : (done paid : ℕ) (after : FrameView B L E) → after.ends ≡ now → after.task ≡ record before.task { done = done; fuel = paid } → IsSameFrame name run ends counts before after
    same-ready done paid after at is = same-at here.done fuel now after here.same at (task-as after.task done paid is)

  module _ (most left fuel : ℕ) (local : L) (asked : Ask L) (place : ℕ) (now : E) (amid : IsAmid most left fuel local asked place now) where
    taken-amid : amid.done ≡ before.task.done + (most - left)
    taken-amid = let counted = amid.counted in let less = amid.few in omega (arith, counted, less)

    pub few-amid : before.task.done + (most - left) ≤ COUNT_MOST
    few-amid = let steps = few G (name now) (record before.task { done = amid.done; fuel = fuel }) (ends now) (Asking local asked place) amid.is in let is = taken-amid in omega (arith, steps, is)

    -- its ends didn't serve it: the ask is as it was, and the ends have looked at most
    module _ (again : Ask L) (then : E) (as_it_was : again ≡ asked) (named : name then ≡ name now) (ran : run then ≡ run now) (are : ends then ≡ ends now) where
      pub stays : (task : TaskView B L) → task ≡ record before.task { done = before.task.done + (most - left); fuel = fuel }
          → IsFrame G task (name then) (ends then) (Asking local again place)
      stays task is =
          subst (λ t. IsFrame G t (name then) (ends then) (Asking local again place)) (sym is)
          (same-ends G (record before.task { done = before.task.done + (most - left); fuel = fuel }) (name now) (ends now) local asked place again (name then) (ends then)
          (subst (λ n. IsFrame G (record before.task { done = n; fuel = fuel }) (name now) (ends now) (Asking local asked place)) taken-amid amid.is) as_it_was named are)

      pub same-amid : (done paid : ℕ) (after : FrameView B L E) → AreLater (ends now) (counts now) (counts then) → after.ends ≡ then
          → after.task ≡ record before.task { done = done; fuel = paid } → IsSameFrame name run ends counts before after
      same-amid done paid after later at is =
          same-at amid.done fuel then after (then-ends amid.done fuel now then amid.done fuel (ends now).deeds amid.same named ran are later) at (task-as after.task done paid is)

      pub needs-amid : (done paid : ℕ) (after : FrameView B L E) → AreLater (ends now) (counts now) (counts then) → after.ends ≡ then → after.task ≡ record before.task { done = done; fuel = paid }
          → after.stage ≡ Some (Asking local again place) → IsNotServed before.task.holdings (ends now) (counts now) (counts then) asked → NeedsCore ends counts before after
      needs-amid done paid after later at is stage not =
          let between = going amid.done fuel now in
          let held : before.task.holdings ≡ after.task.holdings = sym (ap (λ (t : TaskView B L). t.holdings) is) in
          let not_then : IsNotServed before.task.holdings (ends now) (counts now) (counts after.ends) asked = subst (λ e. IsNotServed before.task.holdings (ends now) (counts now) (counts e) asked) (sym at) not in
          let so : IsSameFrame name run ends counts between after = record {
            task = task-as after.task done paid is;
            name_is = ap name at ∙ named;
            run_is = ap run at ∙ ran;
            ends_are = let number : (ends after.ends).deeds ≡ (ends now).deeds = ap (λ (e : LentEnds). e.deeds) (ap ends at ∙ are) in ap ends at ∙ are ∙ ap (with_deeds (ends now)) (sym number);
            counts_are = subst (λ e. AreLater (ends now) (counts now) (counts e)) (sym at) later;
          } in
          needs-earlier name run ends counts before between after amid.same so
          (needs-from ends counts between between after refl (Asking local again place) stage
          (not-served-so before.task.holdings after.task.holdings (ends now) (ends after.ends) (counts now) (counts after.ends) asked again held (ap ends at ∙ are) as_it_was not_then))

-- the task of a frame in its box, once that has gone on
module _ {B L : Type 0} (inside : TaskView B L) (since : ℕ) (before : TaskView B L) (staged : StagedTask B L) (is : record inside { since = since } ≡ before) (at : staged.task ≡ inside) where
  pub held-so : staged.task.holdings ≡ before.holdings
  held-so = ap (λ (t : TaskView B L). t.holdings) at ∙ ap (λ (t : TaskView B L). t.holdings) is

  pub done-so : staged.task.done ≡ before.done
  done-so = ap (λ (t : TaskView B L). t.done) at ∙ ap (λ (t : TaskView B L). t.done) is

  pub fuel-so : staged.task.fuel ≡ before.fuel
  fuel-so = ap (λ (t : TaskView B L). t.fuel) at ∙ ap (λ (t : TaskView B L). t.fuel) is

  pub task-still : record staged.task { since = since } ≡ record before { done = before.done; fuel = before.fuel }
  task-still = ap (λ (t : TaskView B L). record t { since = since }) at ∙ is

  pub task-so : (steps fuel : ℕ) → record staged.task { done = staged.task.done + steps; since = since; fuel = fuel } ≡ record before { done = before.done + steps; fuel = fuel }
  task-so steps fuel =
      ap (λ (t : TaskView B L). record t { done = t.done + steps; since = since; fuel = fuel }) at
      ∙ ap (λ (t : TaskView B L). record t { done = t.done + steps; fuel = fuel }) is

  pub task-then : (steps fuel : ℕ) (stage : Stage L) (new : StagedTask B L)
      → new ≡ record { task = record staged.task { done = staged.task.done + steps; since = staged.task.done + steps; fuel = fuel }; stage = Some stage }
      → record new.task { since = since } ≡ record before { done = before.done + steps; fuel = fuel }
  task-then steps fuel stage new new_is = ap (λ (st : StagedTask B L). record st.task { since = since }) new_is ∙ task-so steps fuel

-- a frame without a stage and a mark owes nothing
pub nothing-owed : {X : Type 0} (P : X → Type 0) (stage : Option X) (mark : Bool) → stage ≡ None → mark ≡ false → ((x : X) → stage ≡ Some x → P x) × (mark ≡ true → is_some stage ≡ true)
nothing-owed P stage mark none unmarked = (λ x some. let both : None ≡ Some x = sym none ∙ some in absurd (cc), λ marked. let both : true ≡ false = sym marked ∙ unmarked in absurd (cc))

-- what is promised where there is nothing, or of what there is
pub none-of : {X : Type 0} (found : Option X) (P : Type 0) → found ≡ None → IfNone found P → P
none-of found P is has = subst (λ o. IfNone o P) is has

pub some-of : {X : Type 0} (found : Option X) (x : X) (P : X → Type 0) → found ≡ Some x → IfSome found P → P x
some-of found x P is has = subst (λ o. IfSome o P) is has
