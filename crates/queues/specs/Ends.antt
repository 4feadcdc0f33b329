-- What lent ends push, pop and test, and what they show of it in numbers.
use Rattle.std.specs.Prelude.{◌≡◌, ◌≢◌, ℕ, ◌+◌, ◌<◌, ◌≤◌, ◌⊎◌, true, false, Some, slice_get, Bool}
use Rattle.swan_model.specs.declared.origin.Origin.{Origin}
use Rattle.swan_model.specs.declared.script.Deed.TheVariants as deed
use Rattle.swan_model.specs.declared.script.Script.{Script}
use Rattle.swan_model.specs.declared.value.Value.{Value}
use Rattle.swan_model.specs.QueueFollows.{next_queue_deed, queue_time}
use Rattle.swan_model.specs.QueueState.{LentEnd}
use Rattle.swan_model.specs.Values.{COUNT_MOST}
use Rattle.swan_model.specs.Segments.{segment_queue}
use Rattle.swan_model.specs.Told.{count, pushes, taken}
use Rattle.queues.specs.Asks.{LentEnds, is_end_of}

-- the ends have this one, to push to a queue or to pop from it
pub record HasEnd (s : Script) (ends : LentEnds) (queue : ℕ) (is_producer : Bool) (origin : Origin) : Type 0 where
  pub index : ℕ
  pub end : LentEnd
  pub stands : slice_get ends.list index ≡ Some end
  pub is : is_end_of queue is_producer end ≡ true
  pub of : segment_queue s end.tag ≡ Some origin

-- a push by such an end is the frame's next queue deed
abbrev pub IsNextPush : Script → LentEnds → ℕ → Value → Type 0
IsNextPush s ends queue value =
    (origin : Origin) → HasEnd s ends queue true origin → next_queue_deed s ends.path ends.deeds ≡ Some (deed.Push origin value)

-- and so is a pop
abbrev pub IsNextPop : Script → LentEnds → ℕ → Type 0
IsNextPop s ends queue =
    (origin : Origin) → HasEnd s ends queue false origin → next_queue_deed s ends.path ends.deeds ≡ Some (deed.Pop origin)

-- and a test
abbrev pub IsNextTest : Script → LentEnds → ℕ → Type 0
IsNextTest s ends queue =
    (origin : Origin) → HasEnd s ends queue false origin → next_queue_deed s ends.path ends.deeds ≡ Some (deed.Test origin)

-- the item that the script has for that pop: the first one that is left, and it is pushed by then in serial order
abbrev pub IsItemNext : Script → LentEnds → Value → Type 0
IsItemNext s ends value =
    let t = queue_time s ends.path ends.deeds in
    (origin : Origin) → next_queue_deed s ends.path ends.deeds ≡ Some (deed.Pop origin)
    → (slice_get (pushes s origin) (taken s origin t) ≡ Some value) × (taken s origin t < count s origin t)

-- the script has an item for that test: more is pushed by then in serial order than is taken
abbrev pub HoldsNext : Script → LentEnds → Type 0
HoldsNext s ends =
    let t = queue_time s ends.path ends.deeds in
    (origin : Origin) → next_queue_deed s ends.path ends.deeds ≡ Some (deed.Test origin) → taken s origin t < count s origin t

-- ---- what an end shows of itself

pub record EndCounts : Type 0 where
  -- how many items it has pushed, or popped
  pub moved : ℕ
  -- how many of its tests have found an item
  pub tested : ℕ
  -- how many items its ring takes
  pub size : ℕ
  -- how often a push, a pop or a test has looked how many the other side has popped, or pushed
  pub looks : ℕ
  -- how often it has looked so for no deed
  pub glances : ℕ
  -- and how many it found at the last look of all
  pub found : ℕ

-- for a push, a pop or a test it has looked once, at the same ring, and found no less than before
pub record HasLooked (before after : EndCounts) : Type 0 where
  pub size : after.size ≡ before.size
  pub looks : after.looks ≡ before.looks + 1
  pub glances : after.glances ≡ before.glances
  pub risen : before.found ≤ after.found

-- A push: the look found that the ring had room.
pub record HasPushed (before after : EndCounts) : Type 0 where
  pub looked : HasLooked before after
  pub moved : after.moved ≡ before.moved + 1
  pub tested : after.tested ≡ before.tested
  pub room : before.moved < after.found + after.size

-- the look found that as many items as the ring takes were pushed and not popped
pub record WasFull (before after : EndCounts) : Type 0 where
  pub looked : HasLooked before after
  pub moved : after.moved ≡ before.moved
  pub tested : after.tested ≡ before.tested
  pub full : before.moved ≡ after.found + after.size

-- A push was refused: the ring was full, or the count of items has no next number.
abbrev pub WasRefused : EndCounts → EndCounts → Type 0
WasRefused before after = WasFull before after ⊎ ((before.moved ≡ COUNT_MOST) × (after ≡ before))

-- A pop: the look found that more was pushed than popped.
pub record HasPopped (before after : EndCounts) : Type 0 where
  pub looked : HasLooked before after
  pub moved : after.moved ≡ before.moved + 1
  pub tested : after.tested ≡ before.tested
  pub some : before.moved < after.found

-- A test that found an item: the look found that more was pushed than popped.
pub record HasTested (before after : EndCounts) : Type 0 where
  pub looked : HasLooked before after
  pub moved : after.moved ≡ before.moved
  pub tested : after.tested ≡ before.tested + 1
  pub some : before.moved < after.found

-- the look found that all that was pushed is popped
pub record WasEmpty (before after : EndCounts) : Type 0 where
  pub looked : HasLooked before after
  pub moved : after.moved ≡ before.moved
  pub tested : after.tested ≡ before.tested
  pub none : before.moved ≡ after.found

-- For no deed it has looked once, at the same ring, and found no less than before. What it moved, its tests and its looks for
-- deeds stay as they were.
pub record HasGlanced (before after : EndCounts) : Type 0 where
  pub size : after.size ≡ before.size
  pub looks : after.looks ≡ before.looks
  pub glances : after.glances ≡ before.glances + 1
  pub moved : after.moved ≡ before.moved
  pub tested : after.tested ≡ before.tested
  pub risen : before.found ≤ after.found

-- such a look found that more was pushed than popped, or that all that was pushed is popped
pub record ShowsItem (before after : EndCounts) : Type 0 where
  pub glanced : HasGlanced before after
  pub some : before.moved < after.found

pub record ShowsNone (before after : EndCounts) : Type 0 where
  pub glanced : HasGlanced before after
  pub none : before.moved ≡ after.found

-- the ends but this one show what they showed
abbrev pub AreOtherCounts : (before after : ℕ → Bool → EndCounts) → (queue : ℕ) → (is_producer : Bool) → Type 0
AreOtherCounts before after queue is_producer =
    (other : ℕ) (side : Bool) → (other ≢ queue) ⊎ (side ≢ is_producer) → after other side ≡ before other side
