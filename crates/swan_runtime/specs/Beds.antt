-- Under which frame one sleeps that has to wait.
use Rattle.std.specs.Prelude.{◌≡◌, ◌≢◌, ℕ, Bool, Option, Some, None, List, [], ◌∷◌, ◌++◌, All, IfSome, IsSomeAnd, MatchOption, if◌then◌else◌, is_some, true}
use Rattle.std.specs.BTreeMap.{get}
use Rattle.std.specs.List.{filter_map, find}
use Rattle.std.specs.Option.{option_flatten, option_map, unwrap_or}
use Rattle.std.specs.Ordering.{nat_cmp}
use Rattle.swan_model.specs.Rights.{allows}
use Rattle.swan_model.specs.SerialState.{Holding}
use Rattle.swan_model.specs.declared.rights.Mode.TheVariants.{Pop, Push}
use Rattle.pop_order.specs.Frames.{lets_use}
use Rattle.pop_order.specs.OneChange.{IsOnlyChange}
use Rattle.queues.specs.declared.answers.WaitFor.{WaitFor}
use Rattle.queues.specs.declared.answers.WaitFor.TheVariants as wait
use Rattle.task_frames.specs.Asked.{asked_queue}
use Rattle.task_frames.specs.Frames.{FrameView}
use Rattle.swan_runtime.specs.Shared.{HasTakenIn, sleepers_at}
use Rattle.swan_runtime.specs.declared.asleep.Asleep.{Asleep}
use Rattle.swan_runtime.specs.declared.sleepers.Popper.{Popper}
use Rattle.swan_runtime.specs.declared.sleepers.Sleepers.{Sleepers}

module _ {B Q L E : Type 0} where
  -- ---- what is told under a frame of its children

  -- the same frames sleep there
  pub record HasSameSleepers (before after : Sleepers B Q L E) : Type 0 where
    pub at_end : after.at_end ≡ before.at_end
    pub at_push : after.at_push ≡ before.at_push

  -- nobody sleeps there until this queue is pushed to
  pub record NoneAwaits (queue : ℕ) (sleepers : Option (Sleepers B Q L E)) : Type 0 where
    pub each : IfSome sleepers (λ (own : Sleepers B Q L E). All (λ (popper : Popper B Q L E). popper.queue ≢ queue) own.at_push.items)

  -- the last child that was given this queue to pop
  abbrev pub popper_of : Sleepers B Q L E → (queue : ℕ) → Option ℕ
  popper_of sleepers queue = get nat_cmp sleepers.poppers queue

  -- the last child that was given what this is of, where that may be popped
  abbrev pub popper_at : Sleepers B Q L E → Holding → Option ℕ
  popper_at sleepers holding = if allows holding.mode Pop then popper_of sleepers holding.number else None

  -- the last children that were given what these may pop, in the order of places
  abbrev pub poppers_of : Sleepers B Q L E → List Holding → List ℕ
  poppers_of sleepers holdings = filter_map (popper_at sleepers) holdings

  -- A child was noted that was given these: it is the one spawned last, and the last one that was given what it may pop.
  pub record IsNoted (before after : Sleepers B Q L E) (child : ℕ) (holdings : List Holding) : Type 0 where
    pub newest : after.newest ≡ Some child
    pub poppers : (queue : ℕ) → popper_of after queue ≡ (if lets_use holdings queue Pop then Some child else popper_of before queue)
    pub given_before : after.before ≡ before.before

  -- Nothing else was changed.
  pub record HasNoted (before after : Sleepers B Q L E) (child : ℕ) (holdings : List Holding) : Type 0 where
    pub notes : IsNoted before after child holdings
    pub sleepers : HasSameSleepers before after

  -- nothing was noted
  pub record HasSameNotes (before after : Sleepers B Q L E) : Type 0 where
    pub newest : after.newest ≡ before.newest
    pub poppers : after.poppers ≡ before.poppers
    pub given_before : after.before ≡ before.before

  -- ---- who is live, and under whom one sleeps

  -- Exactly the live frames have an entry.
  abbrev pub is_live : Asleep B Q L E → ℕ → Bool
  is_live asleep number = is_some (sleepers_at asleep number)

  -- this frame, where it is live
  abbrev pub if_live : Asleep B Q L E → Option ℕ → Option ℕ
  if_live asleep None = None
  if_live asleep (Some number) = if is_live asleep number then Some number else None

  -- the child of a frame that was spawned last, where it is live
  abbrev pub newest_child : Asleep B Q L E → ℕ → Option ℕ
  newest_child asleep number = if_live asleep (option_flatten (option_map (λ (sleepers : Sleepers B Q L E). sleepers.newest) (sleepers_at asleep number)))

  -- the first live one of those that were given, before it, what a frame may pop
  abbrev pub popper_before : Asleep B Q L E → ℕ → Option ℕ
  popper_before asleep number = option_flatten (option_map (λ (sleepers : Sleepers B Q L E). find (is_live asleep) sleepers.before.items) (sleepers_at asleep number))

  -- Under whom a frame sleeps that has to wait for this. Where the child that it spawned last has ended, or all that came before it to its
  -- queues have, it is the one that the wait names.
  abbrev pub bed_of : Asleep B Q L E → ℕ → WaitFor → ℕ
  bed_of asleep number (wait.Child child) = unwrap_or (newest_child asleep number) child
  bed_of asleep number (wait.PopTurn popper) = unwrap_or (popper_before asleep number) popper
  bed_of asleep number (wait.Version owing) = owing
  bed_of asleep number (wait.Pusher pusher) = pusher

  -- ---- what is changed

  -- What sleeps under this frame is this afterwards, or none where the frame isn't live then, and under all others it is as before.
  abbrev pub AreOnlySleepers : (before after : Asleep B Q L E) (number : ℕ) → Option (Sleepers B Q L E) → Type 0
  AreOnlySleepers before after number sleepers = IsOnlyChange (sleepers_at before) (sleepers_at after) number sleepers

  -- what sleeps under all frames but this one is as before
  abbrev pub OtherSleepersStay : (before after : Asleep B Q L E) → (number : ℕ) → Type 0
  OtherSleepersStay before after number = AreOnlySleepers before after number (sleepers_at after number)

  -- A frame sleeps under this one, among its sleepers.
  pub record SleepsUnder (bed : ℕ) (sleepers : Sleepers B Q L E) (before after : Asleep B Q L E) (frame : FrameView B L E) (wait_for : WaitFor) : Type 0 where
    pub within : Sleepers B Q L E
    pub only : AreOnlySleepers before after bed (Some within)
    pub taken_in : HasTakenIn sleepers within frame wait_for (asked_queue frame)
    pub notes : HasSameNotes sleepers within

  -- A frame that has to wait for this sleeps under that one, or is ready where that one isn't live.
  abbrev pub HasGoneToBed : (bed : ℕ) (before after : Asleep B Q L E) (were_ready are_ready : List (FrameView B L E)) → FrameView B L E → WaitFor → Type 0
  HasGoneToBed bed before after were_ready are_ready frame wait_for = MatchOption (sleepers_at before bed) ((after.sleepers.entries ≡ before.sleepers.entries) × (are_ready ≡ were_ready ++ frame ∷ []))
      (λ (sleepers : Sleepers B Q L E). SleepsUnder bed sleepers before after frame wait_for × (are_ready ≡ were_ready))

  -- Who was given, before a child that is given these, what it may pop: as is told under its parent, where that is live.
  abbrev pub before_child : Option (Sleepers B Q L E) → List Holding → List ℕ
  before_child None holdings = []
  before_child (Some sleepers) holdings = poppers_of sleepers holdings

  -- a child was noted under its parent, where that is live
  abbrev pub HasNotedAt : (before after : Option (Sleepers B Q L E)) → (child : ℕ) → List Holding → Type 0
  HasNotedAt None after child holdings = after ≡ None
  HasNotedAt (Some before) None child holdings = ⊥
  HasNotedAt (Some before) (Some after) child holdings = HasNoted before after child holdings

  -- nothing was noted under a frame, where it is live
  abbrev pub HasSameNotesAt : (before after : Option (Sleepers B Q L E)) → Type 0
  HasSameNotesAt None after = after ≡ None
  HasSameNotesAt (Some before) None = ⊥
  HasSameNotesAt (Some before) (Some after) = HasSameNotes before after

  -- Some that slept under a frame may have been woken, and nothing else was changed.
  pub record OnlyWoke (number : ℕ) (before after : Asleep B Q L E) : Type 0 where
    pub notes : HasSameNotesAt (sleepers_at before number) (sleepers_at after number)
    pub none_more : (queue : ℕ) → NoneAwaits queue (sleepers_at before number) → NoneAwaits queue (sleepers_at after number)
    pub others : OtherSleepersStay before after number

  -- what stands under a frame that has just been spawned
  pub record AreNewSleepers (sleepers : Sleepers B Q L E) (given_before : List ℕ) : Type 0 where
    pub before_is : sleepers.before.items ≡ given_before
    pub newest : sleepers.newest ≡ None
    pub poppers : sleepers.poppers.entries ≡ []
    pub at_end : sleepers.at_end.items ≡ []
    pub at_push : sleepers.at_push.items ≡ []

  -- A child came in that was given these. It is live, it is noted under its parent, and nobody sleeps there until the parent pushes to what
  -- the child may push to. (No frame is its own parent.)
  pub record HasEntered (before after : Asleep B Q L E) (parent child : ℕ) (holdings : List Holding) : Type 0 where
    pub own : IsSomeAnd (sleepers_at after child) (λ (sleepers : Sleepers B Q L E). AreNewSleepers sleepers (before_child (sleepers_at before parent) holdings))
    pub noted : parent ≢ child → IfSome (sleepers_at before parent) (λ (was : Sleepers B Q L E). IsSomeAnd (sleepers_at after parent) (λ (now : Sleepers B Q L E). IsNoted was now child holdings))
    pub woken : parent ≢ child → (queue : ℕ) → lets_use holdings queue Push ≡ true → NoneAwaits queue (sleepers_at after parent)
    pub others : (other : ℕ) → other ≢ parent → other ≢ child → sleepers_at after other ≡ sleepers_at before other
