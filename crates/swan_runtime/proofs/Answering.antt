-- Whom the core's answers wake, by what was done of each.
use Rattle.std.proofs.Common.{◌≡◌, ◌≢◌, ◌↔◌, ℕ, ◌+◌, ◌<◌, Bool, true, false, IsTrue, Option, Some, None, List, ◌++◌, IfOk, IfSome, OnOk, Result, Ok, Err, arith, ap, length, option_to_list, refl, subst, sym, ◌∙◌}
use Rattle.swan_model.specs.declared.body.Body.{Ghosts}
use Rattle.task_frames.specs.declared.resumed.Resumed.{Resumed}
use Rattle.task_frames.specs.declared.resumed.Resumed.TheVariants as resumed
use Rattle.task_frames.specs.declared.resumed.Waited.{Waited}
use Rattle.task_frames.specs.declared.steps.Steps.{Steps}
use Rattle.task_frames.specs.Asked.{asked_queue}
use Rattle.task_frames.specs.Cores.{CoreView}
use Rattle.task_frames.specs.Frames.{FrameView, TaskView}
use Rattle.task_frames.specs.Resumes.{EndsOf, IsResumed}
use Rattle.swan_runtime.specs.declared.asleep.Asleep.{Asleep}
use Rattle.swan_runtime.specs.Beds.{AreOnlySleepers, HasEntered, HasGoneToBed, NoneAwaits, OnlyWoke, bed_of}
use Rattle.swan_runtime.specs.Shared.{IsOnTop, sleeper_count, sleepers_at}
use Rattle.swan_runtime.specs.Woken.{IsWokenBy}

not_begun : (begun : Bool) (done : ℕ) → (IsTrue begun ↔ (0 < done)) → done ≡ 0 → begun ≡ false
not_begun false done is none = refl
not_begun true done is none = let some : 0 < done = is.0 refl in absurd (omega arith)

module _ {B Q L E X : Type 0} (G : Ghosts B L) (of : EndsOf E) (core now : CoreView B L) (frame : FrameView B L E) (before after : Asleep B Q L E) (ready left : List (FrameView B L E))
    (next_of : X → Option (FrameView B L E)) where
  abbrev IsWoken : X → Type 0
  IsWoken tried = IsWokenBy frame before after ready left (next_of tried) G of core now

  abbrev IsAnswer : Resumed B Q L E → Type 0
  IsAnswer answer = IsResumed G of core now frame answer

  pub runs_wake : {F : Type 0} (result : Result X F) (next : FrameView B L E) (steps : Steps) (begun : Bool) (asked : Option ℕ) → IsAnswer (resumed.Runs next steps) → (IsTrue begun ↔ (0 < frame.task.done))
      → asked ≡ asked_queue frame → IfOk result (λ tried. next_of tried ≡ Some next) → OnOk result (IfSome asked (λ queue. NoneAwaits queue (sleepers_at after next.task.number)))
      → OnOk result (begun ≡ false → (queue : ℕ) → NoneAwaits queue (sleepers_at after next.task.number)) → OnlyWoke next.task.number before after
      → OnOk result (length left + sleeper_count (sleepers_at after next.task.number) ≡ length ready + sleeper_count (sleepers_at before next.task.number)) → IfOk result IsWoken
  runs_wake (Ok tried) next steps begun asked answered had asks goes woken first only none_lost =
      let same : next.task.number ≡ frame.task.number = ap (λ (t : TaskView B L). t.number) answered.2 in
      let none : IfSome (asked_queue frame) (λ queue. NoneAwaits queue (sleepers_at after next.task.number)) =
      subst (λ (a : Option ℕ). IfSome a (λ queue. NoneAwaits queue (sleepers_at after next.task.number))) asks woken in
      record {
        answer = resumed.Runs next steps;
        answered = answered;
        woken = (
          subst (λ (n : ℕ). IfSome (asked_queue frame) (λ queue. NoneAwaits queue (sleepers_at after n))) same none,
          λ is queue. subst (λ (n : ℕ). NoneAwaits queue (sleepers_at after n)) same (first (not_begun begun frame.task.done had is) queue),
          subst (λ (n : ℕ). OnlyWoke n before after) same only,
          goes,
          subst (λ (n : ℕ). length left + sleeper_count (sleepers_at after n) ≡ length ready + sleeper_count (sleepers_at before n)) same none_lost,
        );
      }
  runs_wake (Err none) next steps begun asked answered had asks goes woken first only none_lost = tt

  pub spawns_wake : {F : Type 0} (result : Result X F) (parent child : FrameView B L E) (steps : Steps) → IsAnswer (resumed.Spawned parent child steps) → IfOk result (λ tried. next_of tried ≡ Some child)
      → OnOk result (HasEntered before after parent.task.number child.task.number child.task.holdings) → OnOk result (IsOnTop parent left)
      → OnOk result (parent.task.number ≢ child.task.number
      → length left + sleeper_count (sleepers_at after parent.task.number) ≡ length ready + sleeper_count (sleepers_at before parent.task.number) + 1) → IfOk result IsWoken
  spawns_wake (Ok tried) parent child steps answered goes entered top none_lost =
      let same : parent.task.number ≡ frame.task.number = ap (λ (t : TaskView B L). t.number) answered.3 in
      record {
        answer = resumed.Spawned parent child steps;
        answered = answered;
        woken = (
          subst (λ (n : ℕ). HasEntered before after n child.task.number child.task.holdings) same entered,
          top,
          goes,
          subst (λ (n : ℕ). length left + sleeper_count (sleepers_at after n) ≡ length ready + sleeper_count (sleepers_at before n) + 1) same
              (none_lost (λ equal. answered.4.other (sym equal ∙ same))),
        );
      }
  spawns_wake (Err none) parent child steps answered goes entered top none_lost = tt

  pub waits_wake : {F : Type 0} (result : Result X F) (same : FrameView B L E) (waited : Waited) → IsAnswer (resumed.Waits same waited)
      → IfOk result (λ tried. HasGoneToBed (bed_of before same.task.number waited.wait) before after ready (left ++ option_to_list (next_of tried)) same waited.wait) → IfOk result IsWoken
  waits_wake (Ok tried) same waited answered bed =
      let number : same.task.number ≡ frame.task.number = ap (λ (t : TaskView B L). t.number) answered.1 in
      record {
        answer = resumed.Waits same waited;
        answered = answered;
        woken = subst (λ (n : ℕ). HasGoneToBed (bed_of before n waited.wait) before after ready (left ++ option_to_list (next_of tried)) same waited.wait) number bed;
      }
  waits_wake (Err none) same waited answered bed = tt

  pub ends_wake : {F : Type 0} (result : Result X F) (number : ℕ) (steps : Steps) → IsAnswer (resumed.Ended steps) → number ≡ frame.task.number
      → IfOk result (λ tried. length (left ++ option_to_list (next_of tried)) ≡ length ready + sleeper_count (sleepers_at before number)) → AreOnlySleepers before after number None → IfOk result IsWoken
  ends_wake (Ok tried) number steps answered own none_lost gone = record {
    answer = resumed.Ended steps;
    answered = answered;
    woken = (
      subst (λ (n : ℕ). AreOnlySleepers before after n None) own gone,
      subst (λ (n : ℕ). length (left ++ option_to_list (next_of tried)) ≡ length ready + sleeper_count (sleepers_at before n)) own none_lost,
    );
  }
  ends_wake (Err none) number steps answered own none_lost gone = tt
