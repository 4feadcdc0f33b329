-- All workers of an opening, as they take turns.
use Rattle.std.proofs.Common.{◌≡◌, ⊎_elim, inl, inr, ℕ, ◌+◌, ◌-◌, ◌^◌, ◌<◌, ◌≤◌, min, Bool, true, false, true≢false, Some, IsTrue, IfOk, Result, Ok, Err, List, [], ◌∷◌, ◌++◌, All, arith, ap, drop, length, refl, set, slice_get, slice_index_or, subst, sym, take, ◌∙◌}
use Rattle.std.specs.Arc.{arc_value}
use Rattle.std.proofs.Math.Seq.{take-append_seam}
use Rattle.std.proofs.lemmas.Bool.{or_from, or_parts}
use Rattle.std.proofs.lemmas.List.{length-set}
use Rattle.std.proofs.lemmas.Option.{get_or_from_slice_get, slice_get_within}
use Rattle.std.proofs.lemmas.List.Elements.{All-same, All-set}
use Rattle.named_lock.specs.Seats.{IsSeatOf, any_saw_done, knows, lock_name, lock_seats}
use Rattle.named_lock.specs.declared.seat.LockSeat.{LockSeat}
use Rattle.named_lock.specs.declared.lock.NamedLock.{NamedLock}
use Rattle.swan_model.proofs.Elements.{more_cases}
use Rattle.swan_model.proofs.Lists.{get-set_same}
use Rattle.swan_model.specs.declared.plan.Plan.{Plan}
use Rattle.task_frames.specs.declared.run.PlanRun.{PlanRun}
use Rattle.task_frames.specs.Resumes.{EndsOf}
use Rattle.swan_runtime.specs.declared.worker.Worker.{Worker}
use Rattle.swan_runtime.specs.Shared.{SharedView}
use Rattle.swan_runtime.specs.Workers.{AreDriven, AreNumbered, AreWorkersOfPlan, AreWorkers, IsSameWorker, IsWorker, IsWorkerOf, OneHasMet, has_met, number_of, own_of, saw_done, saw_stopped}

-- the next of the numbers from 0 on, where there is one
pub next_number : (length left whole number : ℕ) → length + left ≡ whole → 0 < left → whole ≤ 2 ^ 32 → number ≡ min length (2 ^ 32 - 1) → number ≡ length
next_number length left whole number same some few is = omega arith

pub number_after : (length now number next : ℕ) → number ≡ min length (2 ^ 32 - 1) → now ≡ length + 1 → next ≡ min (number + 1) (2 ^ 32 - 1) → next ≡ min now (2 ^ 32 - 1)
number_after length now number next is more steps = omega arith

-- what was written over the whole of a list
pub written : {X : Type 0} (xs ys : List X) (n : ℕ) → n ≡ length xs → length ys ≡ length xs → take n (ys ++ drop (length ys) xs) ≡ ys
written xs ys n whole same =
    ap (λ (k : ℕ). take k (ys ++ drop (length ys) xs)) (whole ∙ sym same) ∙ take-append_seam ys (drop (length ys) xs)

all_at : {X : Type 0} (P : X → Type 0) (xs : List X) (i : ℕ) (x : X) → slice_get xs i ≡ Some x → All P xs → P x
all_at P xs i x stands all = subst P (get_or_from_slice_get xs i x x stands) (all i x (slice_get_within xs i x stands))

none_here : (n : ℕ) → 0 < n → 0 ≡ n → ⊥
none_here n some same = omega (arith, some, same)

-- what a load that finds the sign otherwise tells of what was seen before
pub unseen : (seen : Bool) (Found : Type 0) (found : Bool) → (seen ≡ true → Found) → (Found → IsTrue found) → found ≡ false → seen ≡ false
unseen false Found found again told isnt = refl
unseen true Found true again told isnt = absurd (true≢false isnt)
unseen true Found false again told isnt = absurd (true≢false (sym (told (again refl))))

-- where no seat of a list and a further one has seen the run done, none of the list has, nor has that one
none_saw_both : {S N : Type 0} (seats : List (LockSeat S N)) (seat : LockSeat S N) → any_saw_done (seats ++ seat ∷ []) ≡ false → (any_saw_done seats ≡ false) × ((knows seat).saw_done ≡ false)
none_saw_both [] seat none = (refl, (or_parts (knows seat).saw_done false none).0)
none_saw_both (first ∷ seats) seat none =
    let parts = or_parts (knows first).saw_done _ none in
    let rest = none_saw_both seats seat parts.1 in
    (or_from (knows first).saw_done (any_saw_done seats) parts.0 rest.0, rest.1)

pub none_saw : {S N : Type 0} (seats more : List (LockSeat S N)) (seat : LockSeat S N) → more ≡ seats ++ seat ∷ [] → any_saw_done more ≡ false
    → (any_saw_done seats ≡ false) × ((knows seat).saw_done ≡ false)
none_saw seats more seat is none = none_saw_both seats seat (ap any_saw_done (sym is) ∙ none)

-- a seat that doesn't hold the state doesn't after a look either
pub still_free : {S N : Type 0} (lock other : NamedLock S N) (old new : LockSeat S N) → other ≡ lock → IsSeatOf lock false old → IsSeatOf other (knows old).holding new
    → IsSeatOf lock false new
still_free {S = S} {N = N} lock other old new same was is = subst (λ (b : Bool). IsSeatOf lock b new) was.3 (subst (λ (l : NamedLock S N). IsSeatOf l (knows old).holding new) same is)

module _ {B Q L E : Type 0} (of : EndsOf E) where
  pub seat_of_worker : (lock : NamedLock (SharedView B L E) (PlanRun B L)) (worker : Worker B Q L E) → IsWorkerOf of lock worker → IsSeatOf lock false (own_of worker).seat
  seat_of_worker lock worker is = subst (λ (l : NamedLock (SharedView B L E) (PlanRun B L)). IsSeatOf l false (own_of worker).seat) is.lock_is is.own.seat

  -- where one of them has met the end and none has seen the run stopped, not all have seen nothing
  pub not_unseen : (lock : NamedLock (SharedView B L E) (PlanRun B L)) (workers : List (Worker B Q L E)) → All (IsWorkerOf of lock) workers → OneHasMet workers
      → All (λ worker. saw_stopped worker ≡ false) workers → All (λ worker. saw_done worker ≡ false) workers → ⊥
  not_unseen lock workers are one unstopped undone =
      let is = all_at (IsWorkerOf of lock) workers one.index one.worker one.stands are in
      let stopped = all_at (λ worker. saw_stopped worker ≡ false) workers one.index one.worker one.stands unstopped in
      let done = all_at (λ worker. saw_done worker ≡ false) workers one.index one.worker one.stands undone in
      ⊎_elim (λ saw. true≢false (sym saw ∙ done)) (λ saw. true≢false (sym saw ∙ stopped)) (is.own.met one.met)

  -- turns change neither whose they are, nor how many
  pub driven_workers : (before after : List (Worker B Q L E)) → AreWorkers of before → length after ≡ length before → AreDriven of before after → AreWorkers of after
  driven_workers before after are same driven = record {
    lock = are.lock;
    some = subst (λ (n : ℕ). 0 < n) (sym same) are.some;
    all = same ∙ are.all;
    each = λ k d below.
        let within = subst (λ (n : ℕ). k < n) same below in
        let it = driven k d within in
        record { own = it.own; lock_is = ap arc_value it.same.0 ∙ (are.each k d within).lock_is };
  }

  pub driven_run : (plan : Plan B L) (before after : List (Worker B Q L E)) → length after ≡ length before → AreDriven of before after → AreWorkersOfPlan plan before → AreWorkersOfPlan plan after
  driven_run plan before after same driven runs = λ k d below.
      let within = subst (λ (n : ℕ). k < n) same below in
      let it = driven k d within in
      ap (λ (l : NamedLock (SharedView B L E) (PlanRun B L)). (lock_name l).plan) (ap arc_value it.same.0) ∙ runs k d within

  pub one_has_met : (before after : List (Worker B Q L E)) → 0 < length before → length after ≡ length before → AreDriven of before after → OneHasMet after
  one_has_met before [] some same driven = absurd (none_here (length before) some same)
  one_has_met before (worker ∷ workers) some same driven = record { index = 0; worker = worker; stands = refl; met = (driven 0 worker some).met }

  pub worker_at : (workers : List (Worker B Q L E)) (i : ℕ) (worker : Worker B Q L E) → i < length workers → worker ≡ slice_index_or workers i worker → AreWorkers of workers → IsWorker of worker
  worker_at workers i worker within stood are = (subst (IsWorkerOf of are.lock) (sym stood) (are.each i worker within)).own

  -- One of them took a turn.
  pub one_turned : (before after : List (Worker B Q L E)) (i : ℕ) (was now : Worker B Q L E) → i < length before → was ≡ slice_index_or before i was → after ≡ set before i now
      → AreWorkers of before → IsWorker of now → IsSameWorker was now → AreWorkers of after
  one_turned before after i was now within stood is are own same =
      let it = subst (IsWorkerOf of are.lock) (sym stood) (are.each i was within) in
      let many : length after ≡ length before = ap length is ∙ length-set before i now in
      record {
        lock = are.lock;
        some = subst (λ (n : ℕ). 0 < n) (sym many) are.some;
        all = many ∙ are.all;
        each = All-same (IsWorkerOf of are.lock) after _ is
            (All-set (IsWorkerOf of are.lock) before i now (record { own = own; lock_is = ap arc_value same.0 ∙ it.lock_is }) are.each);
      }

  pub this_has_met : (before after : List (Worker B Q L E)) (i : ℕ) (now : Worker B Q L E) → i < length before → after ≡ set before i now → has_met now ≡ true → OneHasMet after
  this_has_met before after i now within is met = record { index = i; worker = now; stands = ap (λ (ws : List (Worker B Q L E)). slice_get ws i) is ∙ get-set_same before i now within; met = met }

  -- ---- their numbers

  -- one more worker, behind them
  pub numbered_more : (before after : List (Worker B Q L E)) (worker : Worker B Q L E) → after ≡ before ++ worker ∷ [] → number_of worker ≡ length before → AreNumbered before
      → AreNumbered after
  numbered_more before after worker is own are = record {
    each = λ index one stands. elim (more_cases before worker index one (ap (λ (ws : List (Worker B Q L E)). slice_get ws index) (sym is) ∙ stands)) [
      | inl earlier ↦ are.each index one earlier
      | inr last ↦ ap number_of last.1 ∙ own ∙ sym last.0
    ];
  }

  -- as many as the lock has seats
  pub opened_workers : {V F : Type 0} (items : V → List (Worker B Q L E)) (lock : NamedLock (SharedView B L E) (PlanRun B L)) (n : ℕ) (result : Result V F)
      → IfOk result (λ w. length (items w) ≡ n) → IfOk result (λ w. All (IsWorkerOf of lock) (items w)) → n ≡ lock_seats lock → 0 < n → IfOk result (λ w. AreWorkers of (items w))
  opened_workers items lock n (Ok w) many each all some =
      record { lock = lock; some = subst (λ (k : ℕ). 0 < k) (sym many) some; all = many ∙ all; each = each }
  opened_workers items lock n (Err f) many each all some = tt
