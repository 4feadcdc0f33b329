-- Workers of a run.
use Rattle.std.specs.Prelude.{◌≡◌, ℕ, ◌<◌, ◌≤◌, Bool, true, false, Some, List, All, IfSome, length, slice_get, slice_index_or}
use Rattle.std.specs.Arc.{arc_value}
use Rattle.crossbeam_utils.specs.Padded.{padded_value}
use Rattle.named_lock.specs.Seats.{IsSeatOf, knows, lock_name, lock_seats}
use Rattle.named_lock.specs.declared.lock.NamedLock.{NamedLock}
use Rattle.named_lock.specs.declared.rule.View.{View}
use Rattle.swan_model.specs.declared.plan.Plan.{Plan}
use Rattle.task_frames.specs.declared.run.PlanRun.{PlanRun}
use Rattle.task_frames.specs.Resumes.{EndsOf}
use Rattle.swan_runtime.specs.declared.shape.TheConstants.{RING_MOST, WORKERS_MOST}
use Rattle.swan_runtime.specs.declared.worker.Own.{Own}
use Rattle.swan_runtime.specs.declared.worker.Worker.{Worker}
use Rattle.swan_runtime.specs.Shared.{IsOfRun, SharedView}
use Rattle.swan_runtime.specs.Turned.{HasSeenEnd}

module _ {B Q L E : Type 0} where
  -- whose a worker is: the run, and the plan
  abbrev pub name_of : Own B Q L E → PlanRun B L
  name_of own = lock_name (arc_value own.lock)

  -- what a worker has for itself
  abbrev pub own_of : Worker B Q L E → Own B Q L E
  own_of worker = padded_value worker.own

  -- what its seat at the lock knows
  abbrev pub seat_of : Worker B Q L E → View (PlanRun B L)
  seat_of worker = knows (own_of worker).seat

  -- the number by which it enters a gate
  abbrev pub number_of : Worker B Q L E → ℕ
  number_of worker = (own_of worker).number

  -- whether a turn of its own answered that the run is done or stopped
  abbrev pub has_met : Worker B Q L E → Bool
  has_met worker = (own_of worker).met

  -- whether it has seen the run done, or stopped
  abbrev pub saw_done : Worker B Q L E → Bool
  saw_done worker = (seat_of worker).saw_done

  abbrev pub saw_stopped : Worker B Q L E → Bool
  saw_stopped worker = (seat_of worker).saw_stopped

  -- What one worker has for itself belongs together: its seat is one of the lock, its frame one of the run, and it has the plan's body. Where a
  -- turn of its own met the end of the run, its seat has seen that.
  pub record IsOwn (of : EndsOf E) (own : Own B Q L E) : Type 0 where
    pub seat : IsSeatOf (arc_value own.lock) false own.seat
    pub frame : IfSome own.frame (IsOfRun of (name_of own).plan (name_of own).run)
    pub body : arc_value own.body ≡ (name_of own).plan.body
    pub met : own.met ≡ true → HasSeenEnd (knows own.seat)

  abbrev pub IsWorker : EndsOf E → Worker B Q L E → Type 0
  IsWorker of worker = IsOwn of (own_of worker)

  -- the same worker of the same opening
  abbrev pub IsSameOwn : (before after : Own B Q L E) → Type 0
  IsSameOwn before after = (after.lock ≡ before.lock) × (after.number ≡ before.number)

  abbrev pub IsSameWorker : (before after : Worker B Q L E) → Type 0
  IsSameWorker before after = IsSameOwn (own_of before) (own_of after)

-- how many workers, and how long rings may be
abbrev pub IsShape : (workers ring : ℕ) → Type 0
IsShape workers ring = (1 ≤ workers) × (workers ≤ WORKERS_MOST) × (1 ≤ ring) × (ring ≤ RING_MOST)

module _ {B Q L E : Type 0} where
  -- a worker of the opening that has this lock
  pub record IsWorkerOf (of : EndsOf E) (lock : NamedLock (SharedView B L E) (PlanRun B L)) (worker : Worker B Q L E) : Type 0 where
    pub own : IsWorker of worker
    pub lock_is : arc_value (own_of worker).lock ≡ lock

  -- These are all workers of one opening.
  pub record AreWorkers (of : EndsOf E) (workers : List (Worker B Q L E)) : Type 0 where
    pub lock : NamedLock (SharedView B L E) (PlanRun B L)
    pub some : 0 < length workers
    pub all : length workers ≡ lock_seats lock
    pub each : All (IsWorkerOf of lock) workers

  -- They are numbered from 0 on: each has the number of its place.
  pub record AreNumbered (workers : List (Worker B Q L E)) : Type 0 where
    pub each : (index : ℕ) (worker : Worker B Q L E) → slice_get workers index ≡ Some worker → number_of worker ≡ index

  -- Their run is of this plan.
  abbrev pub AreWorkersOfPlan : Plan B L → List (Worker B Q L E) → Type 0
  AreWorkersOfPlan plan workers = All (λ worker. (name_of (own_of worker)).plan ≡ plan) workers

  -- One of them has met the end of the run.
  pub record OneHasMet (workers : List (Worker B Q L E)) : Type 0 where
    pub index : ℕ
    pub worker : Worker B Q L E
    pub stands : slice_get workers index ≡ Some worker
    pub met : has_met worker ≡ true

  -- A worker has taken turns until it met the end of the run.
  pub record IsDriven (of : EndsOf E) (before after : Worker B Q L E) : Type 0 where
    pub own : IsWorker of after
    pub same : IsSameWorker before after
    pub met : has_met after ≡ true

  -- each of them has
  abbrev pub AreDriven : EndsOf E → (before after : List (Worker B Q L E)) → Type 0
  AreDriven of before after = (i : ℕ) (d : Worker B Q L E) → i < length before → IsDriven of (slice_index_or before i d) (slice_index_or after i d)
