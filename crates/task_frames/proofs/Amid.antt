-- A frame in the middle of its next step, and after steps of its own.
use Rattle.std.proofs.Common.{◌≡◌, inl, inr, Bool, ℕ, zero, suc, ◌+◌, ◌*◌, ◌-◌, ◌<◌, ◌≤◌, true, Option, Some, refl, sym, ap, subst, ◌∙◌, arith}
use Rattle.std.proofs.lemmas.Bool.{cases_lt}
use Rattle.std.proofs.lemmas.Option.{same_Some, slice_get-get_or}
use Rattle.std.specs.Option.{is_some}
use Rattle.std.specs.Prelude.{slice_get}
use Rattle.swan_model.specs.declared.body.Answer.{Answer}
use Rattle.swan_model.specs.declared.body.Answer.TheVariants as answer
use Rattle.swan_model.specs.declared.body.Ask.{Ask}
use Rattle.swan_model.specs.declared.body.Ask.TheVariants as ask
use Rattle.swan_model.specs.declared.body.Body.{Ghosts}
use Rattle.swan_model.specs.declared.plan.TheConstants.{FUEL_MOST}
use Rattle.swan_model.specs.declared.script.Deed.{Deed}
use Rattle.swan_model.specs.declared.script.Deed.TheVariants as deed
use Rattle.swan_model.specs.declared.script.Script.{Script}
use Rattle.swan_model.specs.Script.{script}
use Rattle.swan_model.specs.SerialState.{Activation}
use Rattle.swan_model.specs.SerialStep.{after_next, with_answer}
use Rattle.swan_model.specs.SerialTime.{is_queue_deed, time, times}
use Rattle.swan_model.specs.Told.{deed_at}
use Rattle.swan_model.specs.TrueFrames.{gives_at}
use Rattle.swan_model.specs.Work.{ask_after, AreWork, local_after, told_after}
use Rattle.swan_model.proofs.Elements.{filtered_more, one_if}
use Rattle.queues.specs.Asks.{LentEnds, with_deeds}
use Rattle.serial_elision.specs.TaskSteps.{GoesOn, IsAsking}
use Rattle.serial_elision.proofs.AskSteps.{works}
use Rattle.serial_elision.proofs.FewMade.{few-times}
use Rattle.serial_elision.proofs.TaskSteps.{goes_on_next, stands-one}
use Rattle.task_frames.specs.declared.at_core.StagedTask.{StagedTask}
use Rattle.task_frames.specs.declared.stage.Stage.TheVariants.{Ready, Asking}
use Rattle.task_frames.specs.declared.stage.Stage.{Stage}
use Rattle.queues.specs.Reads.{deeds_among}
use Rattle.task_frames.specs.Frames.{AreEndsOf, AreLocal, IsFrame, TaskView, is_local}

-- what holds of one stage holds of whatever the option has
pub for-one : {X : Type 0} (P : X → Type 0) (one : X) → P one → (x : X) → Some one ≡ Some x → P x
for-one P one is x same = subst P (same_Some one x same) is

-- what the invariant of a frame says of its staged task, once that has this task and stands so
pub at-stage : {B L : Type 0} (G : Ghosts B L) {name : Option Script} {ends : LentEnds} {since : ℕ} {mark : Bool} {staged : StagedTask B L} {task : TaskView B L}
    {stage : Stage L} → staged ≡ record { task = task; stage = Some stage } → IsFrame G (record task { since = since }) name ends stage
    → ((x : Stage L) → staged.stage ≡ Some x → IsFrame G (record staged.task { since = since }) name ends x) × (mark ≡ true → is_some staged.stage ≡ true)
at-stage {B = B} {L = L} G {name} {ends} {since} {mark} {staged} {task} {stage} so is =
    subst (λ (st : StagedTask B L). ((x : Stage L) → st.stage ≡ Some x → IsFrame G (record st.task { since = since }) name ends x) × (mark ≡ true → is_some st.stage ≡ true))
    (sym so) (for-one (IsFrame G (record task { since = since }) name ends) stage is, λ _. refl)

module _ {B L : Type 0} (G : Ghosts B L) (name : Option Script) where
  -- a task that has done and paid so much
  abbrev pub with-steps : TaskView B L → (done fuel : ℕ) → TaskView B L
  with-steps task done fuel = record task { done = done; fuel = fuel }

  module _ (task : TaskView B L) (ends : LentEnds) where
    -- its body says what it asks for
    pub asks : (local next : L) (said : Answer) (asked : Ask L) (place : ℕ) → IsFrame G task name ends (Ready local said) → 0 < task.fuel
        → (next, asked) ≡ G.next task.plan.body local said (task.fuel - 1) → place ≡ G.place_of task.plan.body local
        → IsFrame G (with-steps task task.done (task.fuel - 1)) name ends (Asking next asked place)
    asks local next said asked place is full step at =
        let stage = is.alone.stage in
        let top = is.alone.top in
        let steps : G.next task.plan.body local said (task.fuel - 1) ≡ G.next task.plan.body top.local top.answer (top.fuel - 1) =
        ap (λ l. G.next task.plan.body l said (task.fuel - 1)) stage.0
        ∙ ap (λ a. G.next task.plan.body top.local a (task.fuel - 1)) stage.2
        ∙ ap (λ n. G.next task.plan.body top.local top.answer (n - 1)) stage.1 in
        record {
          plan = is.plan;
          within = is.within;
          alone = record {
            top = top;
            stands = is.alone.stands;
            stage = (omega (arith, stage.1), omega (arith, stage.1), at ∙ ap (G.place_of task.plan.body) stage.0, step ∙ steps);
            modes = is.alone.modes;
            children = is.alone.children;
          };
          since = is.since;
          begun = is.begun;
          lent = record { named = is.lent.named; own = is.lent.own; path = is.lent.path; before = is.lent.before; deeds = is.lent.deeds; queues = is.lent.queues };
        }

    module _ (local : L) (asked : Ask L) (place : ℕ) (is : IsFrame G task name ends (Asking local asked place)) where
      abbrev top : Activation L
      top = is.alone.top

      abbrev s : Script
      s = script G task.plan

      pub is-asking : IsAsking G task.plan task.path task.done top local asked
      is-asking = record { stands = is.alone.stands; paid = is.alone.stage.0; said = is.alone.stage.3 }

      one-more-deed : (does : Deed) → deed_at s (time s task.path task.done) ≡ does
          → deeds_among s task.path (task.done + 1) ≡ deeds_among s task.path task.done + one_if (is_queue_deed does)
      one-more-deed does it =
          filtered_more (λ t. is_queue_deed (deed_at s t)) (times s task.path) task.done (time s task.path task.done) (slice_get-get_or (times s task.path) task.done 0 is.alone.stands.left)
          ∙ ap (λ d. deeds_among s task.path task.done + one_if (is_queue_deed d)) it

      -- the frame after a step, given with so many steps done
      goes-to : (since : ℕ) (said : Answer) (does : Deed) (then_ends : LentEnds) → GoesOn G task.plan task.path task.done top local said does
          → then_ends ≡ with_deeds ends (ends.deeds + one_if (is_queue_deed does)) → ends.before ≡ deeds_among s task.path since
          → AreLocal s task.path since (task.done + 1) → 0 < since
          → IsFrame G (record task { done = task.done + 1; since = since }) name then_ends (Ready local said)
      goes-to since said does then_ends goes ends_are before_is are_local some =
          let next = with_answer (after_next top local) said in
          let stands = goes_on_next G task.plan task.path task.done top is.alone.stands next goes.store goes.effect in
          let ends_of : AreEndsOf G (record task { done = task.done + 1; since = since }) name (with_deeds ends (ends.deeds + one_if (is_queue_deed does))) = record {
            named = is.lent.named;
            own = is.lent.own;
            path = is.lent.path;
            before = before_is;
            deeds = ap (λ n. n + one_if (is_queue_deed does)) is.lent.deeds ∙ sym (one-more-deed does goes.deed);
            queues = λ there at i p end holding give end_is holding_is queue_mode same given.
                let one = stands-one G task.plan task.path (task.done + 1) there next at stands in
                let P : Activation L → Type 0 = λ a. slice_get (gives_at G task.plan task.path (task.done + 1) a) p ≡ Some (Some give) in
                is.lent.queues top is.alone.stands i p end holding give end_is holding_is queue_mode same (ap (λ gs. slice_get gs p) (sym goes.names) ∙ subst P one given);
          } in
          record {
            plan = is.plan;
            within = record { holds = let a = is.within.holds in omega arith; spawned = let a = is.within.spawned in omega arith };
            alone = record {
              top = next;
              stands = stands;
              stage = (refl, is.alone.stage.1, refl);
              modes = is.alone.modes;
              children = is.alone.children;
            };
            since = are_local;
            begun = λ none. absurd (omega (arith, none, some));
            lent = subst (AreEndsOf G (record task { done = task.done + 1; since = since }) name) (sym ends_are) ends_of;
          }

      -- a frame with a step done was given with one
      given-some : 0 < task.done → 0 < task.since
      given-some begun = elim (cases_lt 0 task.since) [
        | inl some ↦ some
        | inr none ↦ let zero : task.since ≡ 0 = omega arith in let undone = is.begun zero in absurd (omega (arith, undone))
      ]

      -- a step that the frame takes by itself
      pub goes-on : 0 < task.done → (said : Answer) (does : Deed) (then_ends : LentEnds) → GoesOn G task.plan task.path task.done top local said does
          → is_local does ≡ true → then_ends ≡ with_deeds ends (ends.deeds + one_if (is_queue_deed does))
          → IsFrame G (with-steps task (task.done + 1) task.fuel) name then_ends (Ready local said)
      goes-on begun said does then_ends goes local_deed ends_are =
          let are_local : AreLocal s task.path task.since (task.done + 1) = record {
            order = let a = is.since.order in omega arith;
            each = λ k from to. elim (cases_lt k task.done) [
              | inl before ↦ is.since.each k from before
              | inr here ↦
                  let now : k ≡ task.done = omega arith in
                  ap (λ j. is_local (deed_at s (time s task.path j))) now ∙ ap is_local goes.deed ∙ local_deed
            ];
          } in
          goes-to task.since said does then_ends goes ends_are is.lent.before are_local (given-some begun)

    -- a step of the frame's own work
    pub worked : (local : L) (asked : Ask L) (place : ℕ) → IsFrame G task name ends (Asking local asked place) → 0 < task.done → asked ≡ ask.Work
        → IsFrame G (with-steps task (task.done + 1) task.fuel) name ends (Ready local answer.Nothing)
    worked local asked place is begun work =
        let w = subst (λ a. IsFrame G task name ends (Asking local a place)) work is in
        goes-on local ask.Work place w begun answer.Nothing deed.Quiet ends
        (works G task.plan task.path task.done w.alone.top local w.plan.lists (is-asking local ask.Work place w))
        refl (let n : ends.deeds ≡ ends.deeds + 0 = omega arith in ap (with_deeds ends) n)

  -- a task's steps are few
  pub few : (task : TaskView B L) (ends : LentEnds) (stage : _) → IsFrame G task name ends stage → task.done + 1 ≤ 2 * FUEL_MOST + 2
  few task ends stage is = let most = is.plan.fuel in omega (arith, is.alone.stands.left, few-times G task.plan task.path, most)

  -- so many steps of work in a row
  pub worked-on : (task : TaskView B L) (ends : LentEnds) (local : L) (said : Answer) (n : ℕ) → IsFrame G task name ends (Ready local said) → 0 < task.done → n ≤ task.fuel
      → AreWork (G.next task.plan.body) local said task.fuel n
      → IsFrame G (with-steps task (task.done + n) (task.fuel - n)) name ends (Ready (local_after (G.next task.plan.body) local said task.fuel n) (told_after said n))
  worked-on task ends local said zero is begun most are =
      let done : task.done ≡ task.done + 0 = omega arith in
      let fuel : task.fuel ≡ task.fuel - 0 = omega arith in
      subst (λ d. IsFrame G (with-steps task d (task.fuel - 0)) name ends (Ready local said)) done
      (subst (λ f. IsFrame G (with-steps task task.done f) name ends (Ready local said)) fuel is)
  worked-on task ends local said (suc n) is begun most are =
      let now = with-steps task (task.done + n) (task.fuel - n) in
      let here = local_after (G.next task.plan.body) local said task.fuel n in
      let step = G.next task.plan.body here (told_after said n) (task.fuel - n - 1) in
      let place = G.place_of task.plan.body here in
      let amid = asks now ends here step.0 (told_after said n) step.1 place (worked-on task ends local said n is begun (omega arith) are.0) (omega arith) refl refl in
      let then = worked (with-steps now now.done (now.fuel - 1)) ends step.0 step.1 place amid (omega (arith, begun)) are.1 in
      let done : task.done + n + 1 ≡ task.done + suc n = omega arith in
      let fuel : task.fuel - n - 1 ≡ task.fuel - suc n = omega arith in
      subst (λ d. IsFrame G (with-steps task d (task.fuel - suc n)) name ends (Ready step.0 answer.Nothing)) done
      (subst (λ f. IsFrame G (with-steps task (task.done + n + 1) f) name ends (Ready step.0 answer.Nothing)) fuel then)

  -- work up to the budget, or with all the fuel
  pub worked-all : (task : TaskView B L) (ends : LentEnds) (local after : L) (said : Answer) (n : ℕ) → IsFrame G task name ends (Ready local said) → 0 < task.done → n ≤ task.fuel → 0 < n
      → AreWork (G.next task.plan.body) local said task.fuel n → after ≡ local_after (G.next task.plan.body) local said task.fuel n
      → IsFrame G (with-steps task (task.done + n) (task.fuel - n)) name ends (Ready after answer.Nothing)
  worked-all task ends local after said zero is begun most some are after_is = absurd (omega arith)
  worked-all task ends local after said (suc n) is begun most some are after_is =
      subst (λ l. IsFrame G (with-steps task (task.done + suc n) (task.fuel - suc n)) name ends (Ready l answer.Nothing)) (sym after_is)
      (worked-on task ends local said (suc n) is begun most are)

  -- work up to a step that asks for something else
  pub worked-to : (task : TaskView B L) (ends : LentEnds) (local after : L) (said : Answer) (asked : Ask L) (place n : ℕ) → IsFrame G task name ends (Ready local said) → 0 < task.done → n < task.fuel
      → AreWork (G.next task.plan.body) local said task.fuel n → after ≡ local_after (G.next task.plan.body) local said task.fuel (suc n)
      → asked ≡ ask_after (G.next task.plan.body) local said task.fuel n → place ≡ G.place_of task.plan.body (local_after (G.next task.plan.body) local said task.fuel n)
      → IsFrame G (with-steps task (task.done + n) (task.fuel - n - 1)) name ends (Asking after asked place)
  worked-to task ends local after said asked place n is begun less are after_is asked_is place_is =
      let now = with-steps task (task.done + n) (task.fuel - n) in
      let here = local_after (G.next task.plan.body) local said task.fuel n in
      let step = G.next task.plan.body here (told_after said n) (task.fuel - n - 1) in
      let both : (after, asked) ≡ step = ap (λ l. (l, asked)) after_is ∙ ap (λ a. (step.0, a)) asked_is in
      asks now ends here after (told_after said n) asked place (worked-on task ends local said n is begun (omega arith) are) (omega arith) both place_is
